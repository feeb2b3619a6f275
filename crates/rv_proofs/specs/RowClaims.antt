-- Row claims: a set of control states, and rows over one or two integer memories that are common to them.
use Rattle.std.specs.Prelude.{◌≡◌, ◌⊎◌, ℕ, ◌<◌, ◌≤◌, ℤ, pos, negsuc, ◌≤ℤ◌, List, ◌++◌, length, Bool, Some, IsTrue, if◌then◌else◌, slice_get}
use Rattle.std.specs.List.{Contains}
use Rattle.rv_diagram.specs.Nodes.{Valuation}
use Rattle.rv_rows.specs.{declared.linear.Row.Row, Rows.coefficient, Forms.IsSubstituted, Multipliers.ShowsAtOnce, Multipliers.AreShutAtOnce}
use Rattle.rv_proofs.specs.Systems.{System, HasSameState, rows_of, updates_of}

abbrev pub IsUnit : ℤ → Type 0
IsUnit z = (z ≡ pos 1) ⊎ (z ≡ negsuc 0)

-- a row with 1 or -1 at one memory, 0 elsewhere
pub record HasOne (s : System) (r : Row) : Type 0 where
  pub column : ℕ
  pub there : column < s.memories
  pub one : IsUnit (coefficient column r)
  pub others : (n : ℕ) → (n ≡ column → ⊥) → coefficient n r ≡ pos 0

-- a row with 1 or -1 at two memories, 0 elsewhere, where there are at most 22 memories
pub record HasTwo (s : System) (r : Row) : Type 0 where
  pub few : s.memories ≤ 22
  pub first : ℕ
  pub second : ℕ
  pub different : first < second
  pub there : second < s.memories
  pub one : IsUnit (coefficient first r)
  pub other : IsUnit (coefficient second r)
  pub others : (n : ℕ) → (n ≡ first → ⊥) → (n ≡ second → ⊥) → coefficient n r ≡ pos 0

-- A candidate: such a row over the memories, with a threshold as bound.
pub record IsCandidate (s : System) (thresholds : List ℤ) (r : Row) : Type 0 where
  pub size : length r.coefficients ≡ s.memories
  pub bound : Contains thresholds r.bound
  pub shape : HasOne s r ⊎ HasTwo s r

-- A set of control states and a list of rows.
pub record RowClaim : Type 0 where
  pub reached : Valuation → Bool
  pub rows : List Row

-- The set goes by the state bits, and the rows are candidates, at most one for each left side.
pub record IsRowClaim (s : System) (thresholds : List ℤ) (c : RowClaim) : Type 0 where
  pub reached : (v w : Valuation) → HasSameState s v w → c.reached v ≡ c.reached w
  pub rows : (r : Row) → Contains c.rows r → IsCandidate s thresholds r
  pub different : (i j : ℕ) (q r : Row) → slice_get c.rows i ≡ Some q → slice_get c.rows j ≡ Some r → q.coefficients ≡ r.coefficients → i ≡ j

-- The premises at a valuation: its rows, and where the main tick, variable 0, is true, the rows of the claim.
abbrev pub premises_at : System → RowClaim → Valuation → List Row
premises_at s c v = if v 0 then rows_of s v ++ c.rows else rows_of s v

-- an allowed valuation whose control state is in the set and whose premises are not shut at once
pub record IsRowTaken (s : System) (c : RowClaim) (v : Valuation) : Type 0 where
  pub allowed : IsTrue (s.allowed v)
  pub reached : IsTrue (c.reached v)
  pub is_open : ¬ AreShutAtOnce (premises_at s c v)

-- The claim is closed: it holds the initial control states, and from each such valuation the next control state, and
-- the premises show each row, after the updates, at once.
pub record IsRowClosed (s : System) (c : RowClaim) : Type 0 where
  pub initial : (v : Valuation) → IsTrue (s.initial v) → IsTrue (c.reached v)
  pub next : (v : Valuation) → IsRowTaken s c v → IsTrue (c.reached (s.next v))
  pub rows : (v : Valuation) → IsRowTaken s c v → (r : Row) → Contains c.rows r
      → (new : Row) × IsSubstituted r (updates_of s v) new × ShowsAtOnce (premises_at s c v) new

-- The claim is good: the observer is true at each such valuation.
abbrev pub IsRowGood : System → RowClaim → Type 0
IsRowGood s c = (v : Valuation) → IsRowTaken s c v → IsTrue (s.observer v)

-- Some row claim is closed and good.
abbrev pub HasGoodRows : System → List ℤ → Type 0
HasGoodRows s thresholds = (c : RowClaim) × IsRowClaim s thresholds c × IsRowClosed s c × IsRowGood s c

-- The list has a row with this row's left side and at most its bound.
abbrev pub HasTighter : List Row → Row → Type 0
HasTighter rows r = (q : Row) × Contains rows q × (q.coefficients ≡ r.coefficients) × (q.bound ≤ℤ r.bound)

-- c claims no less than d: its control states are among those of d, and for each row of d it has one that is no looser.
pub record IsRowTighter (c d : RowClaim) : Type 0 where
  pub reached : (v : Valuation) → IsTrue (c.reached v) → IsTrue (d.reached v)
  pub rows : (r : Row) → Contains d.rows r → HasTighter c.rows r

-- The least closed claim: it is closed, and claims no less than any closed one.
pub record IsLeastRowClosed (s : System) (thresholds : List ℤ) (c : RowClaim) : Type 0 where
  pub claim : IsRowClaim s thresholds c
  pub closed : IsRowClosed s c
  pub least : (d : RowClaim) → IsRowClaim s thresholds d → IsRowClosed s d → IsRowTighter c d
