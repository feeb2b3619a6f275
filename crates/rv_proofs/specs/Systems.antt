-- What certificates speak of: the valuations of a program, and what the program is at each of them. A source gives
-- one and a flat system gives the same.
use Rattle.std.specs.Prelude.{◌≡◌, ℕ, zero, suc, ◌+◌, ◌*◌, ◌^◌, ◌<◌, ◌≤◌, ℤ, List, [], ◌∷◌, ◌++◌, length, Bool, true, false, Option, Some, IsTrue, All}
use Rattle.std.specs.Prelude.{None as Nothing}
use Rattle.std.specs.Int.RustNames.{unsigned_abs}
use Rattle.rv_base.specs.Limits.{heaviest}
use Rattle.rv_diagram.specs.Nodes.{Valuation}
use Rattle.rv_rows.specs.{declared.linear.Row.Row, declared.linear.Form.Form, Rows.Holds, Forms.FormWithin, Tight.IsTightened}

-- A system of valuations. A valuation gives a truth value to each diagram variable; state bit i is variable 2i, and
-- variable 2i + 1 is its next copy, which nothing reads. The columns are the integer memories and then the integer
-- inputs.
pub record System : Type 0 where
  -- how many state bits there are: the main tick, the other ticks, the bits of control memories
  pub states : ℕ
  -- how many diagram variables there are
  pub variables : ℕ
  pub memories : ℕ
  pub columns : ℕ
  -- how many order tests there are
  pub tests : ℕ
  -- whether the control state is initial: no tick bit is true, and each code names a label
  pub initial : Valuation → Bool
  -- whether each code names a label and each assertion is true or absent
  pub allowed : Valuation → Bool
  -- the row of a test, where its comparison is present
  pub row : Valuation → ℕ → Option Row
  -- what an integer memory becomes
  pub update : Valuation → ℕ → Form
  pub observer : Valuation → Bool
  -- the next control state, at the state bits
  pub next : Valuation → Valuation

-- a state bit
abbrev pub IsState : System → ℕ → Type 0
IsState s x = (i : ℕ) × (i < s.states) × (x ≡ 2 * i)

-- a diagram variable that is no next copy
abbrev pub IsRead : System → ℕ → Type 0
IsRead s x = (x < s.variables) × ((i : ℕ) → i < s.states → x ≡ 2 * i + 1 → ⊥)

-- The two valuations have one control state.
abbrev pub HasSameState : System → Valuation → Valuation → Type 0
HasSameState s v w = (x : ℕ) → IsState s x → v x ≡ w x

-- They differ at next copies alone, so they are one valuation.
abbrev pub IsSameValuation : System → Valuation → Valuation → Type 0
IsSameValuation s v w = (x : ℕ) → IsRead s x → v x ≡ w x

-- A row of a test: one coefficient for each column, divided by their greatest common divisor and of a magnitude of at
-- most 2^41, and a bound of at most 2^60.
pub record IsTestRow (s : System) (r : Row) : Type 0 where
  pub wide : length r.coefficients ≡ s.columns
  pub tight : IsTightened r r
  pub coefficients : All (λ c. unsigned_abs c ≤ 2 ^ 41) r.coefficients
  pub bound : unsigned_abs r.bound ≤ 2 ^ 60

-- An update: one coefficient for each column, and no number of a magnitude above `heaviest`.
pub record IsUpdate (s : System) (f : Form) : Type 0 where
  pub wide : length f.coefficients ≡ s.columns
  pub small : FormWithin heaviest f

-- How many variables, memories, columns and tests there may be.
pub record HasLimits (s : System) : Type 0 where
  pub variables : s.variables ≤ 4096
  pub memories : s.memories ≤ 64
  pub columns : s.columns ≤ 128
  pub tests : s.tests + 128 < 2 ^ 32

-- The parts of a system fit: the next copies are variables, the memories are columns, whether a control state is
-- initial goes by the state bits, all else by the variables that are no next copies, and all numbers are within the
-- limits.
pub record IsSystem (s : System) : Type 0 where
  pub bits : 2 * s.states ≤ s.variables
  pub few_memories : s.memories ≤ s.columns
  pub limits : HasLimits s
  pub initial : (v w : Valuation) → HasSameState s v w → s.initial v ≡ s.initial w
  -- variable 0 is the main tick: false at first and true ever after
  pub unticked : (v : Valuation) → IsTrue (s.initial v) → v 0 ≡ false
  pub ticks : (v : Valuation) → s.next v 0 ≡ true
  pub allowed : (v w : Valuation) → IsSameValuation s v w → s.allowed v ≡ s.allowed w
  pub row : (v w : Valuation) (t : ℕ) → IsSameValuation s v w → s.row v t ≡ s.row w t
  pub update : (v w : Valuation) (k : ℕ) → IsSameValuation s v w → s.update v k ≡ s.update w k
  pub observer : (v w : Valuation) → IsSameValuation s v w → s.observer v ≡ s.observer w
  pub next : (v w : Valuation) → IsSameValuation s v w → HasSameState s (s.next v) (s.next w)
  pub rows : (v : Valuation) (t : ℕ) (r : Row) → t < s.tests → s.row v t ≡ Some r → IsTestRow s r
  pub updates : (v : Valuation) (k : ℕ) → k < s.memories → IsUpdate s (s.update v k)

-- what an option holds, as a list
abbrev pub held_row : Option Row → List Row
held_row Nothing = []
held_row (Some r) = r ∷ []

-- the rows of the first n tests, of those that are present
abbrev pub rows_among : System → Valuation → ℕ → List Row
rows_among s v zero = []
rows_among s v (suc n) = rows_among s v n ++ held_row (s.row v n)

-- The rows of a valuation: one for each test whose comparison is present, in order.
abbrev pub rows_of : System → Valuation → List Row
rows_of s v = rows_among s v s.tests

-- the updates of the first n memories
abbrev pub updates_among : System → Valuation → ℕ → List Form
updates_among s v zero = []
updates_among s v (suc n) = updates_among s v n ++ s.update v n ∷ []

-- The updates of a valuation: one form for each integer memory, in order.
abbrev pub updates_of : System → Valuation → List Form
updates_of s v = updates_among s v s.memories

-- A point gives each column a whole number. It agrees with a valuation where it meets each row of it.
pub record Agrees (s : System) (v : Valuation) (point : List ℤ) : Type 0 where
  pub size : length point ≡ s.columns
  pub rows : (t : ℕ) (r : Row) → t < s.tests → s.row v t ≡ Some r → Holds r point
