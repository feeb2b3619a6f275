use Rattle.std.proofs.Common.{◌≡◌, ◌++◌, drop}
use Rattle.rv_types.specs.Names.{texts}
use Rattle.rv_flatten.proofs.naming.texts_of.Given as goal

abbrev pub invariant-loop-label : goal.invariant-loop-label
invariant-loop-label l = l.made ++ texts (drop l.label-index l.labels) ≡ texts l.labels
