-- A walk through the layers, and what is left to reach.
use Rattle.std.specs.Prelude.{◌≡◌, ℕ, zero, suc, ◌+◌, ◌-◌, ◌*◌, ◌<◌, ◌↔◌, Bool, true, false, cond, List, [], ◌∷◌, map, length, IsTrue, slice_index_or}
use Rattle.rv_diagram.specs.{Nodes.Valuation, Nodes.put, declared.frozen.Frozen.Frozen}
use Rattle.rv_proofs.specs.Systems.{System, HasSameState}
use Rattle.rv_proofs.specs.{Ranges.IsControlSet, declared.certificate.Certificate.Certificate, declared.certificate.Location.Location}
use Rattle.rv_proofs.specs.{declared.certificate.Entry.Entry, declared.certificate.EntryKind.TheVariants.Go, declared.report.Case.Case}
use Rattle.rv_walk.specs.Ends.{has}

-- The control state is reached by this many steps: from an initial one, by allowed valuations.
abbrev pub IsReached : System → ℕ → Valuation → Type 0
IsReached s zero v = IsTrue (s.initial v)
IsReached s (suc t) v = (w : Valuation) × IsReached s t w × IsTrue (s.allowed w) × HasSameState s (s.next w) v

-- And by no fewer.
abbrev pub IsFirst : System → ℕ → Valuation → Type 0
IsFirst s t v = IsReached s t v × ((u : ℕ) → u < t → IsReached s u v → ⊥)

abbrev pub no_set : Frozen
no_set = record { nodes = []; root = 0 }

abbrev pub set_at : List Frozen → ℕ → Frozen
set_at sets t = slice_index_or sets t no_set

-- the layer that was reached last
abbrev pub last_of : List Frozen → Frozen
last_of sets = set_at sets (length sets - 1)

-- The set holds exactly the control states that are first reached by this many steps.
pub record IsStage (s : System) (t : ℕ) (f : Frozen) : Type 0 where
  pub control : IsControlSet s f
  pub exact : (v : Valuation) → (has f v ≡ true) ↔ IsFirst s t v

-- how many control states, of those with the state bits from n on as in v, are not in the set
unfoldable pub missing : ℕ → (Valuation → Bool) → Valuation → ℕ
missing zero set v = cond (set v) 0 1
missing (suc i) set v = missing i set (put v (2 * i) false) + missing i set (put v (2 * i) true)

-- The layers so far and their union, which is closed but for the last layer. Good says that the observer is true at all
-- allowed valuations of the layers before it.
pub record IsWalk (s : System) (sets : List Frozen) (reached : Valuation → Bool) (good : Bool) : Type 0 where
  pub some : 0 < length sets
  pub layers : (t : ℕ) → t < length sets → IsStage s t (set_at sets t)
  pub state : (v w : Valuation) → HasSameState s v w → reached v ≡ reached w
  pub held : (v : Valuation) → reached v ≡ true → (t : ℕ) × (t < length sets) × (has (set_at sets t) v ≡ true)
  pub all : (t : ℕ) → t < length sets → (v : Valuation) → IsReached s t v → reached v ≡ true
  pub inside : (v : Valuation) → s.allowed v ≡ true → reached v ≡ true → has (last_of sets) v ≡ false → reached (s.next v) ≡ true
  pub seen_good : good ≡ true → (v : Valuation) → s.allowed v ≡ true → reached v ≡ true → has (last_of sets) v ≡ false → s.observer v ≡ true
  pub seen_bad : good ≡ false → (v : Valuation) × (s.allowed v ≡ true) × (reached v ≡ true) × (s.observer v ≡ false)

-- The union of the layers is closed, and it is known whether it is good.
pub record IsDone (s : System) (sets : List Frozen) (reached : Valuation → Bool) (good : Bool) : Type 0 where
  pub some : 0 < length sets
  pub layers : (t : ℕ) → t < length sets → IsStage s t (set_at sets t)
  pub state : (v w : Valuation) → HasSameState s v w → reached v ≡ reached w
  pub held : (v : Valuation) → reached v ≡ true → (t : ℕ) × (t < length sets) × (has (set_at sets t) v ≡ true)
  pub initial : (v : Valuation) → s.initial v ≡ true → reached v ≡ true
  pub closed : (v : Valuation) → s.allowed v ≡ true → reached v ≡ true → reached (s.next v) ≡ true
  pub is_good : good ≡ true → (v : Valuation) → s.allowed v ≡ true → reached v ≡ true → s.observer v ≡ true
  pub is_bad : good ≡ false → (v : Valuation) × (s.allowed v ≡ true) × (reached v ≡ true) × (s.observer v ≡ false)

-- A walk goes on, or is done.
abbrev pub IsWalking : System → Bool → List Frozen → (Valuation → Bool) → Bool → Type 0
IsWalking s true sets reached good = IsWalk s sets reached good
IsWalking s false sets reached good = IsDone s sets reached good

-- The union of the layers of a walk that is done, by itself.
abbrev pub IsExplored : System → List Frozen → Frozen → Bool → Type 0
IsExplored s sets reached good = IsControlSet s reached × IsDone s sets (has reached) good

-- the entry of a case: a step into location 0
abbrev pub entry_of : Case → Entry
entry_of c = record { condition = c.condition; kind = Go 0 [] }

-- the location that has these control states and cases, without rows
abbrev pub location_of : Frozen → List Case → Location
location_of control cases = record {
  control = control;
  entry = [];
  first = [];
  around = [];
  state = [];
  by_entry = [];
  by_first = [];
  entries = map entry_of cases;
}

-- the certificate of one location
abbrev pub certificate_of : Frozen → List Case → Certificate
certificate_of control cases = record { locations = location_of control cases ∷ [] }
