use Rattle.std.proofs.Common.{take, Some}
use Rattle.rv_diagram.specs.Growing.{Extends}
use Rattle.rv_ends.specs.Risen.{IsRisen}
use Rattle.rv_pairs.specs.Hints.{HintsHold}
use Rattle.rv_pairs.proofs.rising.least_shown.Given as goal

abbrev pub invariant-loop-place : goal.invariant-loop-place
invariant-loop-place l = record {
  extends : Extends l.fn.store l.store;
  risen : IsRisen (take l.place l.thresholds) (HintsHold l.fn.store.nodes l.inside l.hints l.constant) (Some l.limit) l.best;
}
