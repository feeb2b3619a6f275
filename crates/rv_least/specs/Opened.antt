-- The valuations that a claim takes, with their boxes, in a store.
use Rattle.std.specs.Prelude.{◌↔◌, ℤ, List}
use Rattle.rv_diagram.specs.Nodes.{Valuation, Diagrams}
use Rattle.rv_proofs.specs.{Systems.System, Boxes.BoxClaim, Boxes.IsInBox, Boxes.IsTaken}
use Rattle.rv_ends.specs.{Intervals.IsWithin, Sides.box_at, Sides.AreEnds}
use Rattle.rv_taken.specs.declared.opening.Opening.{Opening}
use Rattle.rv_boxes.specs.Layering.{IsTakenAt}

-- The reference is true exactly where the claim takes the valuation, and the box is the narrowed one there.
pub record IsOpenedAt (s : System) (d : Diagrams) (c : BoxClaim) (o : Opening) : Type 0 where
  pub taken : IsTakenAt s d c o.taken
  pub ends : AreEnds d.nodes s.columns o.ends
  pub box : (v : Valuation) → IsTaken s c v → (point : List ℤ) → IsInBox s c v point ↔ IsWithin (box_at d.nodes o.ends v) point
