-- How much a store may grow in several calls, and how much room these need.
use Rattle.std.specs.Prelude.{◌≤◌, ◌<◌, ◌+◌, ◌*◌, ◌^◌, ℕ, Bool, length}
use Rattle.rv_diagram.specs.Nodes.{Valuation, Diagrams}
use Rattle.rv_diagram.specs.Counting.{count}

-- The limit leaves no room for as many nodes as so many calls of the store may add.
pub record LacksRoom (calls : ℕ) (s : Diagrams) : Type 0 where
  pub nodes : s.limit < length s.nodes + calls * 2 ^ (s.variables + 1)

-- The list has grown by at most 2 m nodes for each valuation of the m variables at which this is true.
pub record GrownFor (f : Valuation → Bool) (old new : Diagrams) : Type 0 where
  pub nodes : length new.nodes ≤ length old.nodes + 2 * (old.variables * count old.variables f)

-- The limit leaves no room for 2 m nodes for each valuation at which this is true.
pub record LacksFor (f : Valuation → Bool) (s : Diagrams) : Type 0 where
  pub nodes : s.limit < length s.nodes + 2 * (s.variables * count s.variables f)
