-- The left sides that the steps so far do not change, and where other steps are.
use Rattle.std.specs.Prelude.{ℕ, List}
use Rattle.rv_diagram.specs.{declared.Triple.Triple, Nodes.IsRef}
use Rattle.rv_refine.specs.{declared.hull.Hull.Hull, Sides.AreLeftSides}

-- Left sides over so many memories, and a reference of the list.
pub record IsHull (memories : ℕ) (nodes : List Triple) (h : Hull) : Type 0 where
  pub kept : AreLeftSides memories h.kept
  pub left : IsRef nodes h.left
