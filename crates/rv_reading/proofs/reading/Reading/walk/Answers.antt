use Rattle.rv_reading.specs.Read.{system_read}
use Rattle.rv_reading.proofs.reading.Reading.walk.Goals as goal

pub returns-clause-good : goal.returns-clause-good
returns-clause-good c = λ d is. c.walk.ensures.good (system_read c.args.self.now) d c.requires.read.relation c.requires.control is
