-- Box claims: a set of control states, and bounds of the integer memories that are common to them.
use Rattle.std.specs.Prelude.{◌≡◌, ◌≢◌, ◌⊎◌, ℕ, ◌<◌, ℤ, pos, negsuc, ◌≤ℤ◌, List, length, Bool, true, Option, Some, IsTrue}
use Rattle.std.specs.List.{Contains}
use Rattle.rv_diagram.specs.Nodes.{Valuation}
use Rattle.rv_rows.specs.{declared.linear.Row.Row, Rows.Holds, Rows.coefficient, Forms.number, Forms.value}
use Rattle.rv_proofs.specs.Systems.{System, HasSameState}

-- A set of control states, and for each integer memory an optional lower and upper bound.
pub record BoxClaim : Type 0 where
  pub reached : Valuation → Bool
  pub lower : ℕ → Option ℤ
  pub upper : ℕ → Option ℤ

-- The set goes by the state bits, and the bounds are thresholds.
pub record IsBoxClaim (s : System) (thresholds : List ℤ) (c : BoxClaim) : Type 0 where
  pub reached : (v w : Valuation) → HasSameState s v w → c.reached v ≡ c.reached w
  pub lower : (k : ℕ) (b : ℤ) → k < s.memories → c.lower k ≡ Some b → Contains thresholds b
  pub upper : (k : ℕ) (b : ℤ) → k < s.memories → c.upper k ≡ Some b → Contains thresholds b

-- exactly one coefficient of the row is other than 0
abbrev pub HasOneColumn : Row → Type 0
HasOneColumn r = (k : ℕ) × (coefficient k r ≢ pos 0) × ((n : ℕ) → coefficient n r ≢ pos 0 → n ≡ k)

-- The row has the coefficient c at column k, and 0 at all others.
pub record IsUnitAt (r : Row) (k : ℕ) (c : ℤ) : Type 0 where
  pub here : coefficient k r ≡ c
  pub others : (n : ℕ) → n ≢ k → coefficient n r ≡ pos 0

-- A row with exactly one coefficient other than 0 has 1 or -1 there. Tightening leaves it so.
abbrev pub HasUnit : Row → Type 0
HasUnit r = HasOneColumn r → (k : ℕ) × (IsUnitAt r k (pos 1) ⊎ IsUnitAt r k (negsuc 0))

-- The point is in the narrowed box of a valuation: within the bounds where the main tick, variable 0, is true, and in
-- each row that has exactly one coefficient other than 0.
pub record IsInBox (s : System) (c : BoxClaim) (v : Valuation) (point : List ℤ) : Type 0 where
  pub size : length point ≡ s.columns
  pub lower : v 0 ≡ true → (k : ℕ) (b : ℤ) → k < s.memories → c.lower k ≡ Some b → b ≤ℤ number k point
  pub upper : v 0 ≡ true → (k : ℕ) (b : ℤ) → k < s.memories → c.upper k ≡ Some b → number k point ≤ℤ b
  pub narrow : (t : ℕ) (r : Row) → t < s.tests → s.row v t ≡ Some r → HasOneColumn r → Holds r point

-- The narrowed box is not empty, and the least value of each row's left side over it is not above the row's bound: some
-- point of the box meets the row.
pub record IsOpen (s : System) (c : BoxClaim) (v : Valuation) : Type 0 where
  pub some : (point : List ℤ) × IsInBox s c v point
  pub rows : (t : ℕ) (r : Row) → t < s.tests → s.row v t ≡ Some r → (point : List ℤ) × IsInBox s c v point × Holds r point

-- an allowed open valuation whose control state is in the set
pub record IsTaken (s : System) (c : BoxClaim) (v : Valuation) : Type 0 where
  pub allowed : IsTrue (s.allowed v)
  pub reached : IsTrue (c.reached v)
  pub is_open : IsOpen s c v

-- The claim is closed: it holds the initial control states, and from each such valuation the next control state and
-- the updates of all points of the narrowed box.
pub record IsClosed (s : System) (c : BoxClaim) : Type 0 where
  pub initial : (v : Valuation) → IsTrue (s.initial v) → IsTrue (c.reached v)
  pub next : (v : Valuation) → IsTaken s c v → IsTrue (c.reached (s.next v))
  pub lower : (v : Valuation) → IsTaken s c v → (k : ℕ) (b : ℤ) → k < s.memories → c.lower k ≡ Some b
      → (point : List ℤ) → IsInBox s c v point → b ≤ℤ value (s.update v k) point
  pub upper : (v : Valuation) → IsTaken s c v → (k : ℕ) (b : ℤ) → k < s.memories → c.upper k ≡ Some b
      → (point : List ℤ) → IsInBox s c v point → value (s.update v k) point ≤ℤ b

-- The claim is good: the observer is true at each such valuation.
abbrev pub IsGood : System → BoxClaim → Type 0
IsGood s c = (v : Valuation) → IsTaken s c v → IsTrue (s.observer v)

-- Some box claim is closed and good.
abbrev pub HasGoodBox : System → List ℤ → Type 0
HasGoodBox s thresholds = (c : BoxClaim) × IsBoxClaim s thresholds c × IsClosed s c × IsGood s c
