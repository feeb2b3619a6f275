use Rattle.std.proofs.Common.{◌↔◌, ◌⊎◌, ℤ}
use Rattle.rv_diagram.specs.Nodes.{Valuation}
use Rattle.rv_seek.specs.Least.{bounded}
use Rattle.rv_pairs.specs.Hints.{AreHints, IsHinted}
use Rattle.rv_pairs.proofs.Placing.{ShowsListed}
use Rattle.rv_pairs.proofs.hints.with_earlier.Given as goal

abbrev pub invariant-loop-turn : goal.invariant-loop-turn
invariant-loop-turn l = record {
  hints : AreHints l.store.nodes l.all;
  exact : (v : Valuation) (z : ℤ) → IsHinted l.store.nodes l.all v z ↔ (IsHinted l.store.nodes l.initial.all v z
      ⊎ ShowsListed l.store.nodes v l.labels l.place l.label (bounded l.numbers z) l.others l.turn);
}
