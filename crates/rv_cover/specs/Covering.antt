-- Entries in the making.
use Rattle.std.specs.Prelude.{ℕ, List}
use Rattle.rv_diagram.specs.{declared.Triple.Triple, Nodes.IsRef}
use Rattle.rv_cover.specs.{declared.frame.Frame.Frame, declared.covering.Cover.Cover, Entries.AreShortEntries}

-- Entries with multipliers on so many premises, and what they leave.
pub record IsCover (nodes : List Triple) (f : Frame) (n : ℕ) (c : Cover) : Type 0 where
  pub entries : AreShortEntries f n c.entries
  pub left : IsRef nodes c.left
  pub rest : IsRef nodes c.rest
