use Rattle.std.proofs.Common.{◌≤◌, length}
use Rattle.std.specs.List.{AllWithin}
use Rattle.rv_seek.proofs.places.widest.Given as goal

abbrev pub invariant-loop-premise : goal.invariant-loop-premise
invariant-loop-premise l = record {
  least : l.least ≤ l.width;
  rows : AllWithin (λ r. length r.coefficients ≤ l.width) l.premises 0 l.premise-index;
}
