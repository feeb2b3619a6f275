use Rattle.rv_open.proofs.{Open.opens, Carried.unsafe_layers, Carried.walked}
use Rattle.rv_open.proofs.laws.constant_tests.Goals as goal

pub returns-clause-opens : goal.returns-clause-opens
returns-clause-opens c s claim v none = opens s none claim v

pub returns-clause-unsafe_system : goal.returns-clause-unsafe_system
returns-clause-unsafe_system c s thresholds l none bad = unsafe_layers s none thresholds l bad

pub returns-clause-walked : goal.returns-clause-walked
returns-clause-walked c s thresholds l plain bad = walked s thresholds l plain bad
