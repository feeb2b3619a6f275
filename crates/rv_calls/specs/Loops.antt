-- Calls in a table by numbers that lead back to their own node, and the first of them.
use Rattle.std.specs.Prelude.{◌≡◌, ◌⊎◌, ℕ, ◌<◌, ◌≤◌, List, [], length, Option, Some, slice_index_or, None as Nothing}
use Rattle.std.specs.List.{Contains}
use Rattle.rv_calls.specs.declared.fault.CauseFault.TheVariants.{Recursive, Cycle, TooLarge, TooWide, Memory}
use Rattle.rv_calls.specs.Components.{Marks, mark_of}
use Rattle.rv_calls.specs.{declared.calls.Calling.Calling, declared.fault.CauseFault.CauseFault, Graphs.Graph, Callings.LeadsTo}

-- an offset is at least the least one, where that is known
abbrev pub AtMost : Option ℕ → ℕ → Type 0
AtMost Nothing at = ⊥
AtMost (Some b) at = b ≤ at

-- The least offset so far, lowered by those calls of a node whose callee has the mark of the node.
pub record IsLowered (parts : Marks) (k : ℕ) (calls : List Calling) (old new : Option ℕ) : Type 0 where
  pub lower : (at : ℕ) → AtMost old at → AtMost new at
  pub found : (new ≡ old) ⊎ ((c : Calling) × Contains calls c × (new ≡ Some c.at) × (mark_of parts k ≡ mark_of parts c.callee))
  pub least : (c : Calling) → Contains calls c → mark_of parts k ≡ mark_of parts c.callee → AtMost new c.at

-- the same over the nodes of a table from the first to one of them
pub record IsLoweredTo (parts : Marks) (table : List (List Calling)) (nodes : ℕ) (new : Option ℕ) : Type 0 where
  pub found : (new ≡ Nothing) ⊎ ((k : ℕ) × (c : Calling) × (k < nodes) × Contains (slice_index_or table k []) c × (new ≡ Some c.at)
      × (mark_of parts k ≡ mark_of parts c.callee))
  pub least : (k : ℕ) (c : Calling) → k < nodes → Contains (slice_index_or table k []) c → mark_of parts k ≡ mark_of parts c.callee → AtMost new c.at

-- No call leads back to its node.
abbrev pub HasNoLoop : Graph → List (List Calling) → Type 0
HasNoLoop g table = (k : ℕ) (c : Calling) → k < length table → Contains (slice_index_or table k []) c → LeadsTo g k c.callee → ⊥

-- the least offset of a call that does
pub record IsFirstLoop (g : Graph) (table : List (List Calling)) (at : ℕ) : Type 0 where
  pub here : (k : ℕ) × (c : Calling) × (k < length table) × Contains (slice_index_or table k []) c × LeadsTo g k c.callee × (c.at ≡ at)
  pub first : (k : ℕ) (c : Calling) → k < length table → Contains (slice_index_or table k []) c → LeadsTo g k c.callee → at ≤ c.at

-- the fault of a table with such a call; want of memory needs no cause
abbrev pub IsRecursion : Graph → List (List Calling) → CauseFault → Type 0
IsRecursion g table (Recursive at) = IsFirstLoop g table at
IsRecursion g table Memory = Unit {0}
IsRecursion g table (Cycle ps) = ⊥
IsRecursion g table (TooLarge q n) = ⊥
IsRecursion g table (TooWide at) = ⊥
