use Rattle.std.proofs.Common.{◌≡◌, drop}
use Rattle.rv_meaning.specs.Telling.{label_told}
use Rattle.rv_meaning.proofs.kinds.kind_of_label.Given as goal

abbrev pub invariant-loop-number : goal.invariant-loop-number
invariant-loop-number l = label_told l.number (drop l.number l.types) l.name ≡ label_told 0 l.types l.name
