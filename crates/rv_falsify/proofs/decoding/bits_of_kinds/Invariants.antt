use Rattle.std.proofs.Common.{◌≡◌, length, map}
use Rattle.rv_falsify.specs.Decoding.{bits_before}
use Rattle.rv_falsify.proofs.decoding.bits_of_kinds.Given as goal

abbrev pub invariant-loop-kind : goal.invariant-loop-kind
invariant-loop-kind l = l.bits ≡ bits_before (map (λ ls. length ls) l.labels) l.kinds l.kind-index
