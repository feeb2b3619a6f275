use Rattle.std.proofs.Common.{All}
use Rattle.rv_diagram.specs.Growing.{Extends}
use Rattle.rv_proofs.specs.Systems.{System}
use Rattle.rv_cover.specs.Toward.{IsTarget}
use Rattle.rv_refine.specs.Plans.{IsPlan}
use Rattle.rv_refine.proofs.covering.targets_in.Given as goal

abbrev pub invariant-loop-place : goal.invariant-loop-place
invariant-loop-place l = record {
  extends : Extends l.initial.store l.store;
  targets : (s : System) → IsPlan s l.frame l.plan → All (IsTarget s l.store.nodes) l.targets;
}
