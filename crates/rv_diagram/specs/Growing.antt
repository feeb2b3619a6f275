-- What becomes of a store over calls that may have failed.
use Rattle.std.specs.Prelude.{◌≡◌, ◌≤◌, length}
use Rattle.rv_diagram.specs.Nodes.{Diagrams, BeginsWith, IsKept}

-- The nodes that there were come first, so each reference keeps its meaning.
pub record Extends (old new : Diagrams) : Type 0 where
  pub begins : BeginsWith new.nodes old.nodes
  pub longer : length old.nodes ≤ length new.nodes
  pub kept : IsKept old.nodes new.nodes (length old.nodes)
  pub variables : new.variables ≡ old.variables
  pub limit : new.limit ≡ old.limit
