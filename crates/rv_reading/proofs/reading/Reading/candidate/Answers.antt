use Rattle.rv_reading.specs.Read.{system_read}
use Rattle.rv_reading.proofs.Representing.{is_search}
use Rattle.rv_reading.proofs.reading.Reading.candidate.Goals as goal

pub candidate_or_none-requires : goal.candidate_or_none-requires
candidate_or_none-requires c =
    let r = c.args.self.now in
    (system_read r, is_search r c.len-columns.result c.requires.read c.len-columns.ensures, c.requires.sets)

pub returns-clause-shape : goal.returns-clause-shape
returns-clause-shape c =
    let r = c.args.self.now in
    c.candidate_or_none.ensures.shape (system_read r) (is_search r c.len-columns.result c.requires.read c.len-columns.ensures) c.requires.sets
