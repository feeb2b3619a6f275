use Rattle.rv_reading.proofs.Representing.{columns_none, none_columns}
use Rattle.rv_reading.proofs.reading.Reading.has_no_columns.Goals as goal

pub returns : goal.returns
returns c =
    let r = c.args.self.now in
    (λ yes. columns_none r c.requires (c.is_empty.ensures.0 yes), λ none. c.is_empty.ensures.1 (none_columns r c.requires none))
