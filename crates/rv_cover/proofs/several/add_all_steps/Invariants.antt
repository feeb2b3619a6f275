use Rattle.std.proofs.Common.{length, ◌+◌}
use Rattle.rv_diagram.specs.Growing.{Extends}
use Rattle.rv_cover.specs.Covering.{IsCover}
use Rattle.rv_cover.proofs.several.add_all_steps.Given as goal

abbrev pub invariant-loop-place : goal.invariant-loop-place
invariant-loop-place l = record {
  extends : Extends l.initial.store l.store;
  cover : IsCover l.store.nodes l.frame (length l.given + length l.questions.rows) l.cover;
}
