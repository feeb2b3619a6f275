-- The states of an abstract value, what a case makes of its points, and which states are successors of its own by a case.
use Rattle.std.specs.Prelude.{◌≡◌, ℕ, ◌+◌, ◌≤◌, ◌||◌, Bool, ℤ, List, ◌++◌, length, All}
use Rattle.rv_diagram.specs.{Nodes.Valuation, Nodes.value_of, Nodes.IsOrderedOver, Several.UsesNeeded, declared.frozen.Frozen.Frozen}
use Rattle.rv_rows.specs.{declared.linear.Row.Row, Forms.values, Tight.Fits}
use Rattle.rv_poly.specs.{Points.HasPoint, Images.AreMoves, Images.IsNarrow, Images.StaysWithin}
use Rattle.rv_proofs.specs.{Systems.System, Systems.HasSameState, Systems.Agrees, Systems.updates_of, Scopes.IsIn, declared.report.Case.Case}
use Rattle.rv_state.specs.declared.value.Abstract.{Abstract}

-- A state of the value: its control set holds the valuation, and its rows have the point.
pub record HasState (a : Abstract) (v : Valuation) (point : List ℤ) : Type 0 where
  pub control : IsIn a.control v
  pub rows : HasPoint a.poly.rows point

-- The point is an updated one: a point of the rows, with one number for each update, that together with so many whole inputs meets the
-- rows of the case, becomes it.
pub record IsUpdated (rows : List Row) (c : Case) (inputs : ℕ) (new : List ℤ) : Type 0 where
  pub point : List ℤ
  pub further : List ℤ
  pub size : length point ≡ length c.updates
  pub count : length further ≡ inputs
  pub has : HasPoint rows point
  pub meets : HasPoint c.rows (point ++ further)
  pub updated : new ≡ values c.updates (point ++ further)

-- Each update of the case is its own column plus a constant, its rows have no input and are within the limits of kept rows, the given rows
-- and its own stay within them when they are moved by the constants, and they are at most 1,024.
pub record IsMove (rows : List Row) (c : Case) : Type 0 where
  pub moves : AreMoves c.updates
  pub narrow : All (IsNarrow (length c.updates)) c.rows
  pub fits : All Fits c.rows
  pub stays : All (StaysWithin c.updates) (rows ++ c.rows)
  pub few : length rows + length c.rows ≤ 1024

-- The state of valuation w and point `new` is a successor of one of the value's states by the case: a valuation of the case in the control
-- set leads to the control state, and a point of the rows, which together with some whole inputs agrees with that valuation, becomes `new`
-- by its updates.
pub record IsSuccessor (s : System) (a : Abstract) (c : Case) (w : Valuation) (new : List ℤ) : Type 0 where
  pub valuation : Valuation
  pub point : List ℤ
  pub inputs : List ℤ
  pub state : HasState a valuation point
  pub inside : IsIn c.condition valuation
  pub size : length point ≡ s.memories
  pub agrees : Agrees s valuation (point ++ inputs)
  pub next : HasSameState s (s.next valuation) w
  pub updated : new ≡ values (updates_of s valuation) (point ++ inputs)

-- what is in either of two sets
abbrev pub either : Frozen → Frozen → Valuation → Bool
either a b v = value_of a.nodes a.root v || value_of b.nodes b.root v

-- The set is the union of the two: ordered, exact, and without a variable that does not matter.
pub record IsUnion (variables : ℕ) (a b set : Frozen) : Type 0 where
  pub ordered : IsOrderedOver variables set
  pub exact : (v : Valuation) → value_of set.nodes set.root v ≡ either a b v
  pub needed : UsesNeeded set.nodes (either a b)
