use Rattle.std.proofs.Common.{◌≡◌}
use Rattle.rv_agreement.specs.Valuations.{rank}
use Rattle.rv_forms.proofs.flows.count_integers.Given as goal

abbrev pub invariant-loop-kind : goal.invariant-loop-kind
invariant-loop-kind l = l.count ≡ rank l.kinds l.kind-index
