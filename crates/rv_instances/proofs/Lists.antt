-- Elements of lists, by where they stand.
use Rattle.std.proofs.Common.{◌≡◌, ℕ, ◌<◌, ◌≤◌, ◌⊎◌, inl, inr, List, [], ◌∷◌, ◌++◌, length, get_or, refl, sym, ◌∙◌, map, replicate, set, subst}
use Rattle.std.proofs.Common.{zero, suc, Result, Ok, Err, IfOk}
use Rattle.std.proofs.{lemmas.List.get_or_default, lemmas.List.get_or-set_other, lemmas.List.length-map}
use Rattle.std.proofs.lemmas.Bool.{cases_eq, cases_lt, cases_order}
use Rattle.std.specs.List.{Contains}
use Rattle.rv_types.specs.Needs.{IsBefore}
use Rattle.rv_types.proofs.PlaceOrders.{not_itself}

-- an element of a list stands at a number
pub contains_at : (xs : List ℕ) (x : ℕ) → Contains xs x → (k : ℕ) × (k < length xs) × (get_or xs k 0 ≡ x)
contains_at xs x w = (w.0, w.1, get_or_default xs w.0 0 x w.1 ∙ w.2)

pub at_contains : (xs : List ℕ) (x k : ℕ) → k < length xs → get_or xs k 0 ≡ x → Contains xs x
at_contains xs x k lt e = (k, lt, get_or_default xs k x 0 lt ∙ e)

-- a number is below another or not
pub nat_split : (a b : ℕ) → (a < b) ⊎ (b ≤ a)
nat_split = cases_lt

pub length_map : {X Y : Type 0} (f : X → Y) (xs : List X) → length (map f xs) ≡ length xs
length_map f xs = length-map xs f

-- a list of equal values, read with that value past its end
pub equal_at : {X : Type 0} (n k : ℕ) (x : X) → get_or (replicate n x) k x ≡ x
equal_at zero k x = refl
equal_at (suc n) zero x = refl
equal_at (suc n) (suc k) x = equal_at n k x

-- a list of which one element is put
pub put_cases : {X : Type 0} (xs : List X) (k : ℕ) (x : X) (j : ℕ) (d : X) → (k ≡ j) ⊎ (get_or (set xs k x) j d ≡ get_or xs j d)
put_cases xs k x j d = elim (cases_eq k j) [ inl same ↦ inl same | inr other ↦ inr (get_or-set_other xs k j x d (λ e. other (sym e))) ]

-- what is found of a result holds of it in other words
pub if_ok : {A E : Type 0} (r : Result A E) (P Q : A → Type 0) → ((x : A) → P x → Q x) → IfOk r P → IfOk r Q
if_ok (Ok x) P Q f h = f x h
if_ok (Err e) P Q f h = tt

pub beside : (path : List ℕ) (x y : ℕ) (more rest : List ℕ) → x < y → IsBefore (path ++ x ∷ more) (path ++ y ∷ rest)
beside [] x y more rest lt = inl lt
beside (z ∷ path) x y more rest lt = inr (refl, beside path x y more rest lt)

-- a place stands before those below it
pub before_longer : (path : List ℕ) (x : ℕ) (rest : List ℕ) → IsBefore path (path ++ x ∷ rest)
before_longer [] x rest = tt
before_longer (y ∷ path) x rest = inr (refl, before_longer path x rest)

-- where places rise, two numbers of one place are one
pub one_number : (place : ℕ → List ℕ) (size : ℕ) → ((j k : ℕ) → j < k → k < size → IsBefore (place j) (place k)) → (j k : ℕ) → j < size → k < size
    → place j ≡ place k → j ≡ k
one_number place size rising j k lt less e = elim (cases_order j k) [
  | inl same ↦ same
  | inr (inl before) ↦ absurd (not_itself (place k) (subst (λ q. IsBefore q (place k)) e (rising j k before less)))
  | inr (inr after) ↦ absurd (not_itself (place k) (subst (IsBefore (place k)) e (rising k j after lt)))
]
