use Rattle.rv_reading.specs.Read.{system_read}
use Rattle.rv_reading.proofs.Representing.{is_constant}
use Rattle.rv_reading.proofs.reading.Reading.falsifying_path.Goals as goal

pub open_path-requires : goal.open_path-requires
open_path-requires c = (system_read c.args.self.now, is_constant c.args.self.now c.requires.read c.requires.columns, c.requires.sets)

pub returns-clause-falsifies : goal.returns-clause-falsifies
returns-clause-falsifies c = λ words is.
    c.open_path.ensures.falsifies (system_read c.args.self.now) words (is_constant c.args.self.now c.requires.read c.requires.columns) c.requires.sets is

pub returns-clause-shortest : goal.returns-clause-shortest
returns-clause-shortest c = λ thresholds words bad is.
    c.open_path.ensures.shortest (system_read c.args.self.now) thresholds words (is_constant c.args.self.now c.requires.read c.requires.columns) bad is

pub returns-clause-found : goal.returns-clause-found
returns-clause-found c = λ thresholds bad.
    c.open_path.ensures.found (system_read c.args.self.now) thresholds (is_constant c.args.self.now c.requires.read c.requires.columns) bad
