-- How the entries and locations of a partition stand, where a location may use one of the two exceptions.
use Rattle.std.specs.Prelude.{◌≡◌, ◌⊎◌, ℕ, ◌<◌, true, false, Bool, List, [], ◌∷◌, ◌++◌, length, Option, Some, None, slice_get, All}
use Rattle.std.specs.List.{Contains}
use Rattle.rv_diagram.specs.Nodes.{Valuation, value_of}
use Rattle.rv_diagram.specs.declared.Triple.{Triple}
use Rattle.rv_proofs.specs.{Systems.System, Scopes.IsIn, Scopes.IsInScope, Scopes.IsSettled, Left.IsNeverObserved, Left.IsFailingStep, Left.IsUnrefuted}
use Rattle.rv_proofs.specs.Accepted.{IsPartition, IsIncluded, IsCovered, IsObserved, IsStepKind, IsDeadKind, IsEntry, Leads, AreImplied}
use Rattle.rv_proofs.specs.{declared.certificate.Certificate.Certificate, declared.certificate.Location.Location, declared.certificate.Entry.Entry}
use Rattle.rv_accept.specs.declared.judging.Seen.{Seen}
use Rattle.rv_accept.specs.declared.judging.Seen.TheVariants.{Nothing, Never, Somewhere}
use Rattle.rv_accept.specs.declared.judging.Standing.{Standing}
use Rattle.rv_accept.specs.declared.judging.Standing.TheVariants.{Sound, Using, Asking, Unfit}
use Rattle.rv_accept.specs.Passing.{Passes, AllPass}

-- What is asked of an entry in a left location: all but that the observer is true in a step, and that a dead entry is refuted where the
-- observer is false throughout its scope.
pub record IsLenient (s : System) (c : Certificate) (l : Location) (e : Entry) : Type 0 where
  pub settled : IsSettled s c l e
  pub leads : Leads s c l e e.kind
  pub steps : IsStepKind e.kind → AreImplied s c l e
  pub dead : IsDeadKind e.kind → AreImplied s c l e ⊎ IsNeverObserved s l e

-- The entry uses one of the exceptions at a valuation.
abbrev pub IsUsing : System → Certificate → Location → Entry → Type 0
IsUsing s c l e = IsFailingStep s l e ⊎ IsUnrefuted s c l e

-- The entry is dead and lacks its refutation, and its scope is empty: it may stand in a left location, but does not make one.
pub record IsAsking (s : System) (c : Certificate) (l : Location) (e : Entry) : Type 0 where
  pub dead : IsDeadKind e.kind
  pub lacks : ¬ AreImplied s c l e
  pub empty : (v : Valuation) → ¬ IsInScope s l e v

-- How an entry stands.
abbrev pub Stands : System → Certificate → Location → Entry → Standing → Type 0
Stands s c l e Sound = Passes s c l e
Stands s c l e Using = IsLenient s c l e × IsUsing s c l e
Stands s c l e Asking = IsLenient s c l e × IsAsking s c l e
Stands s c l e Unfit = ¬ IsLenient s c l e

-- A location of a left partition that is left, but that it is not empty.
pub record IsLeftAt (s : System) (c : Certificate) (l : Location) : Type 0 where
  pub included : IsIncluded l
  pub covered : IsCovered s l
  pub entries : (j : ℕ) (e : Entry) → slice_get l.entries j ≡ Some e → IsLenient s c l e
  pub used : (j : ℕ) × (e : Entry) × (slice_get l.entries j ≡ Some e) × IsUsing s c l e

-- The location is left, or it passes each test, or neither.
abbrev pub IsLocated : System → Certificate → Location → Option Bool → Type 0
IsLocated s c l None = (IsLeftAt s c l → ⊥) × (AllPass s c l → ⊥)
IsLocated s c l (Some true) = IsLeftAt s c l
IsLocated s c l (Some false) = AllPass s c l

-- Locations pairwise disjoint, none of them empty.
pub record AreApart (c : Certificate) : Type 0 where
  pub disjoint : (k n : ℕ) (l m : Location) (v : Valuation) → slice_get c.locations k ≡ Some l → slice_get c.locations n ≡ Some m
      → IsIn l.control v → IsIn m.control v → k ≡ n
  pub nonempty : (k : ℕ) (l : Location) → slice_get c.locations k ≡ Some l → (v : Valuation) × IsIn l.control v

-- All of a left partition but that some location is left. Where none is, it is an accepted certificate whose locations are disjoint and not
-- empty; where one is, it is a left partition.
pub record IsMarked (s : System) (c : Certificate) (left : List ℕ) : Type 0 where
  pub partition : IsPartition s c
  pub there : All (λ k. k < length c.locations) left
  pub rising : (i j k n : ℕ) → i < j → slice_get left i ≡ Some k → slice_get left j ≡ Some n → k < n
  pub apart : AreApart c
  pub observed : (k j : ℕ) (l : Location) (e : Entry) → IsEntry c k j l e → IsStepKind e.kind → IsObserved s l e ⊎ Contains left k
  pub dead : (k j : ℕ) (l : Location) (e : Entry) → IsEntry c k j l e → IsDeadKind e.kind → AreImplied s c l e ⊎ (Contains left k × IsNeverObserved s l e)
  pub used : (k : ℕ) → Contains left k → (j : ℕ) × (l : Location) × (e : Entry) × IsEntry c k j l e × (IsFailingStep s l e ⊎ IsUnrefuted s c l e)

-- what the observer is where the scope is true
abbrev pub IsSeen : List Triple → ℕ → ℕ → Seen → Type 0
IsSeen nodes scope observer Nothing = (v : Valuation) → value_of nodes scope v ≡ false
IsSeen nodes scope observer Never = ((v : Valuation) × (value_of nodes scope v ≡ true))
    × ((v : Valuation) → value_of nodes scope v ≡ true → value_of nodes observer v ≡ false)
IsSeen nodes scope observer Somewhere = (v : Valuation) × (value_of nodes scope v ≡ true) × (value_of nodes observer v ≡ true)

-- the worse of two: a failing entry makes its location fail, a using one makes it left, an asking one asks that it be left
abbrev pub worse_of : Standing → Standing → Standing
worse_of Unfit b = Unfit
worse_of Using Unfit = Unfit
worse_of Using Using = Using
worse_of Using Asking = Using
worse_of Using Sound = Using
worse_of Asking Unfit = Unfit
worse_of Asking Using = Using
worse_of Asking Asking = Asking
worse_of Asking Sound = Asking
worse_of Sound b = b

-- How the worst of the first n entries stands, and what the others are.
abbrev pub AreStanding : System → Certificate → Location → ℕ → Standing → Type 0
AreStanding s c l n Sound = (i : ℕ) (e : Entry) → i < n → slice_get l.entries i ≡ Some e → Passes s c l e
AreStanding s c l n Asking = ((i : ℕ) (e : Entry) → i < n → slice_get l.entries i ≡ Some e → Passes s c l e ⊎ (IsLenient s c l e × IsAsking s c l e))
    × ((i : ℕ) × (e : Entry) × (slice_get l.entries i ≡ Some e) × IsAsking s c l e)
AreStanding s c l n Using = ((i : ℕ) (e : Entry) → i < n → slice_get l.entries i ≡ Some e → IsLenient s c l e)
    × ((i : ℕ) × (e : Entry) × (slice_get l.entries i ≡ Some e) × IsUsing s c l e)
AreStanding s c l n Unfit = (i : ℕ) × (e : Entry) × (slice_get l.entries i ≡ Some e) × ¬ IsLenient s c l e

-- what the location is by the worst of all its entries
abbrev pub located_by : Standing → Option Bool
located_by Sound = Some false
located_by Asking = None
located_by Using = Some true
located_by Unfit = None

-- The locations before k that are left, and that all before k are left or pass.
pub record AreLocated (s : System) (c : Certificate) (k : ℕ) (left : List ℕ) : Type 0 where
  pub each : (i : ℕ) (l : Location) → i < k → slice_get c.locations i ≡ Some l
      → (Contains left i × IsLeftAt s c l) ⊎ ((Contains left i → ⊥) × AllPass s c l)
  pub below : All (λ n. n < k) left
  pub rising : (i j m n : ℕ) → i < j → slice_get left i ≡ Some m → slice_get left j ≡ Some n → m < n

-- the list with one more number, or as it was
abbrev pub added_if : Bool → List ℕ → ℕ → List ℕ
added_if true left k = left ++ k ∷ []
added_if false left k = left
