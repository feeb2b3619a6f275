-- Bounds of columns that depend on the valuation.
use Rattle.std.specs.Prelude.{◌≡◌, ◌↔◌, ℕ, ◌≤◌, ◌<◌, ◌^◌, ℤ, List, map, length, Bool, Option, Some, if◌then◌else◌, slice_get, None as Nothing}
use Rattle.std.specs.Int.RustNames.{unsigned_abs}
use Rattle.rv_diagram.specs.{declared.Triple.Triple, Nodes.Valuation, Nodes.IsRef, Nodes.value_of}
use Rattle.rv_proofs.specs.{Systems.System, Boxes.IsInBox}
use Rattle.rv_terms.specs.Parts.{form_at, IsTerm}
use Rattle.rv_ends.specs.{declared.sides.Side.Side, declared.ends.Ends.Ends, Claiming.claim_with, Intervals.Interval, Intervals.IsWithin}

-- the bound of a side at a valuation, where it has one there
abbrev pub side_at : List Triple → Side → Valuation → Option ℤ
side_at nodes s v = if value_of nodes s.there v then Some (form_at nodes s.end.parts v).constant else Nothing

-- A side's references are those of the list, its forms have no columns, and no constant has a magnitude above n.
pub record IsSide (nodes : List Triple) (n : ℕ) (s : Side) : Type 0 where
  pub there : IsRef nodes s.there
  pub term : IsTerm nodes 0 s.end.parts
  pub small : (v : Valuation) → unsigned_abs (form_at nodes s.end.parts v).constant ≤ n

-- the interval of a column at a valuation
abbrev pub interval_of : List Triple → Valuation → Ends → Interval
interval_of nodes v e = record { high = side_at nodes e.high v; low = side_at nodes e.low v }

-- the box of the columns at a valuation
abbrev pub box_at : List Triple → List Ends → Valuation → List Interval
box_at nodes ends v = map (interval_of nodes v) ends

-- the ends of so many columns
pub record AreEnds (nodes : List Triple) (columns : ℕ) (ends : List Ends) : Type 0 where
  pub size : length ends ≡ columns
  pub high : (k : ℕ) (e : Ends) → slice_get ends k ≡ Some e → IsSide nodes (2 ^ 60) e.high
  pub low : (k : ℕ) (e : Ends) → slice_get ends k ≡ Some e → IsSide nodes (2 ^ 60) e.low

-- The box at a valuation is the narrowed box there of each claim with these limits. A system without state bits has no main tick, and
-- no limit counts in it.
pub record AreEndsOf (s : System) (nodes : List Triple) (upper lower : List (Option ℤ)) (bounds : List Ends) : Type 0 where
  pub ends : AreEnds nodes s.columns bounds
  pub exact : (reached : Valuation → Bool) (v : Valuation) → 0 < s.states → (point : List ℤ)
      → IsInBox s (claim_with reached upper lower) v point ↔ IsWithin (box_at nodes bounds v) point
