-- The certificate that is built from a box claim: one location for the initial control states, and one for the rest,
-- with the bounds as rows.
use Rattle.std.specs.Prelude.{◌≡◌, ◌⊎◌, ℕ, ◌<◌, ◌≤◌, ◌^◌, ℤ, pos, negsuc, ◌-ℤ◌, List, [], ◌∷◌, ◌++◌, length, true, Some, IsTrue, slice_get, None as Nothing}
use Rattle.rv_diagram.specs.{Nodes.Valuation, declared.frozen.Frozen.Frozen}
use Rattle.rv_rows.specs.{declared.linear.Row.Row, declared.linear.Form.Form, declared.farkas.Multipliers.Multipliers, Rows.row_at, Forms.IsSubstituted}
use Rattle.rv_proofs.specs.{Systems.System, Scopes.IsIn, Ranges.AreKept, Ranges.IsCondition, Ranges.IsControlSet, Implied.form_at, Samples.by_one}
use Rattle.rv_proofs.specs.{Boxes.BoxClaim, Boxes.IsUnitAt, declared.certificate.Certificate.Certificate, declared.certificate.Location.Location}
use Rattle.rv_proofs.specs.{declared.certificate.Entry.Entry, declared.certificate.EntryKind.EntryKind, declared.certificate.EntryKind.TheVariants.Dead}
use Rattle.rv_proofs.specs.{declared.certificate.EntryKind.TheVariants.Go, declared.certificate.EntryKind.TheVariants.Loop}
use Rattle.rv_boxes.specs.{declared.peaks.Peak.Peak, Boxed.IsOpenBox, Boxed.IsGreatest, Boxed.IsRefutation}

-- the row of a test that is absent
abbrev pub nothing : Row
nothing = record { coefficients = []; bound = pos 0 }

-- One row for each test: its row throughout the condition, or `0 <= 0` for one that is absent throughout it.
pub record AreTold (s : System) (condition : Frozen) (rows : List Row) : Type 0 where
  pub size : length rows ≡ s.tests
  pub told : (t : ℕ) → t < s.tests
      → ((v : Valuation) → IsIn condition v → s.row v t ≡ Some (row_at rows t))
      ⊎ (((v : Valuation) → IsIn condition v → s.row v t ≡ Nothing) × (row_at rows t ≡ nothing))

-- the row of an upper bound, and that of a lower one
abbrev pub IsUpperRow : BoxClaim → ℕ → Row → Type 0
IsUpperRow c k r = IsUnitAt r k (pos 1) × (c.upper k ≡ Some r.bound)

abbrev pub IsLowerRow : BoxClaim → ℕ → Row → Type 0
IsLowerRow c k r = IsUnitAt r k (negsuc 0) × ((b : ℤ) × (c.lower k ≡ Some b) × (r.bound ≡ pos 0 -ℤ b))

-- Each row of the list is that of a bound of the claim.
abbrev pub AreBounds : System → BoxClaim → List Row → Type 0
AreBounds s c rows = (n : ℕ) (r : Row) → slice_get rows n ≡ Some r
    → (length r.coefficients ≡ s.memories) × ((k : ℕ) × (k < s.memories) × (IsUpperRow c k r ⊎ IsLowerRow c k r))

-- Each bound of the claim has a row in the list.
pub record HasBounds (s : System) (c : BoxClaim) (rows : List Row) : Type 0 where
  pub upper : (k : ℕ) (b : ℤ) → k < s.memories → c.upper k ≡ Some b → (p : ℕ) × (p < length rows) × IsUpperRow c k (row_at rows p)
  pub lower : (k : ℕ) (b : ℤ) → k < s.memories → c.lower k ≡ Some b → (p : ℕ) × (p < length rows) × IsLowerRow c k (row_at rows p)

-- The multipliers are those of the greatest value of the wanted row's left side, before the updates.
abbrev pub IsReached : ℕ → List Row → List Form → Row → Multipliers → Type 0
IsReached width premises forms r m = (new : Row) × (g : Peak) × (length new.coefficients ≤ 256) × IsSubstituted r forms new
    × IsGreatest width premises new.coefficients g × (m ≡ record { divisor = pos 1; weights = g.weights })

-- A case is dead by the refutation that its box gives, or a step into location 1 by the greatest values over its box.
abbrev pub IsBuiltKind : ℕ → List Row → List Form → List Row → EntryKind → Type 0
IsBuiltKind width premises forms wanted (Dead m) = IsRefutation premises m
IsBuiltKind width premises forms wanted (Go target reach) = (target ≡ 1) × IsOpenBox width premises × (length reach ≡ length wanted)
    × ((n : ℕ) (r : Row) (m : Multipliers) → slice_get wanted n ≡ Some r → slice_get reach n ≡ Some m → IsReached width premises forms r m)
IsBuiltKind width premises forms wanted (Loop first before around state) = ⊥

-- A case as an entry: its condition is not empty and has allowed valuations alone, throughout which the tests and the updates are the same.
pub record IsToldCase (s : System) (e : Entry) : Type 0 where
  pub condition : IsCondition s e.condition
  pub some : (v : Valuation) × IsIn e.condition v
  pub allowed : (v : Valuation) → IsIn e.condition v → IsTrue (s.allowed v)
  pub tests : List Row
  pub told : AreTold s e.condition tests
  pub forms : List Form
  pub size : length forms ≡ s.memories
  pub updates : (v : Valuation) (k : ℕ) → IsIn e.condition v → k < s.memories → s.update v k ≡ form_at forms k

-- an entry that is built from a case, of the location's valuations alone
pub record IsBuiltEntry (s : System) (l : Location) (wanted : List Row) (e : Entry) : Type 0 where
  pub here : IsToldCase s e
  pub control : (v : Valuation) → IsIn e.condition v → IsIn l.control v
  pub kind : IsBuiltKind s.columns (l.state ++ here.tests) here.forms wanted e.kind

-- The location's control states are in the claim, whose bounds have rows in its state where the main tick is true.
pub record IsClaimedAt (s : System) (c : BoxClaim) (l : Location) : Type 0 where
  pub reached : (v : Valuation) → IsIn l.control v → IsTrue (c.reached v)
  pub bounds : (v : Valuation) → IsIn l.control v → v 0 ≡ true → HasBounds s c l.state

-- A location: the rows of `entry` are those of `state`, its control states are in the claim, and the bounds of the claim
-- have rows where the main tick is true.
pub record IsBuiltLocation (s : System) (c : BoxClaim) (wanted : List Row) (l : Location) : Type 0 where
  pub control : IsControlSet s l.control
  pub kept : AreKept s l.entry
  pub few : length l.entries < 2 ^ 32
  pub state : l.state ≡ l.entry
  pub first : l.first ≡ []
  pub around : l.around ≡ []
  pub by_first : l.by_first ≡ []
  pub count : length l.by_entry ≡ length l.state
  pub by_entry : (n : ℕ) → n < length l.state → slice_get l.by_entry n ≡ Some (by_one n)
  pub claimed : IsClaimedAt s c l
  pub covered : (v : Valuation) → IsTrue (s.allowed v) → IsIn l.control v → (j : ℕ) × (e : Entry) × (slice_get l.entries j ≡ Some e) × IsIn e.condition v
  pub entries : (j : ℕ) (e : Entry) → slice_get l.entries j ≡ Some e → IsBuiltEntry s l wanted e

-- Each row of the state is that of a bound of the claim, and the main tick is true at the valuation.
abbrev pub AreBoundsAt : System → BoxClaim → Location → Valuation → Type 0
AreBoundsAt s c l v = (p : ℕ) → p < length l.state
    → (v 0 ≡ true) × ((k : ℕ) × (k < s.memories) × (IsUpperRow c k (row_at l.state p) ⊎ IsLowerRow c k (row_at l.state p)))

-- The certificate of a claim.
pub record IsBuilt (s : System) (c : BoxClaim) (certificate : Certificate) : Type 0 where
  pub initial : Location
  pub rest : Location
  pub locations : certificate.locations ≡ initial ∷ rest ∷ []
  pub starts : (v : Valuation) → IsTrue (s.initial v) → IsIn initial.control v
  pub no_rows : initial.entry ≡ []
  pub others : (v : Valuation) → IsTrue (c.reached v) → ¬ IsTrue (s.initial v) → IsIn rest.control v
  pub bounds : AreBounds s c rest.entry
  pub initial_is : IsBuiltLocation s c rest.entry initial
  pub rest_is : IsBuiltLocation s c rest.entry rest
