use Rattle.rv_flat.specs.FlatInstants.{system_of}
use Rattle.rv_control.specs.Named.{named}
use Rattle.rv_control.proofs.Abstract.{initial_there, initial_told, memories_told, ticks_told}
use Rattle.rv_control.proofs.laws.initial_states.Goals as goal

pub returns-clause-ticks : goal.returns-clause-ticks
returns-clause-ticks c = λ f v k first. ticks_told (named f v) (system_of f).ticks (initial_told (system_of f) (named f v) first).0 k

pub returns-clause-codes : goal.returns-clause-codes
returns-clause-codes c = λ f v m first. memories_told (system_of f).labels (named f v) (system_of f).memories
    (initial_told (system_of f) (named f v) first).1 m

pub returns-clause-all : goal.returns-clause-all
returns-clause-all c = λ f v none coded. initial_there (system_of f) (named f v) none coded
