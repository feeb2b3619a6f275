-- What stands in lists, and names among names.
use Rattle.std.proofs.Common.{◌≡◌, ℕ, zero, suc, ◌+◌, ◌<◌, ◌⊎◌, inl, inr, Bool, true, false, cond, ◌||◌, List, [], ◌∷◌, ◌++◌, map, flat_map, length, get_or}
use Rattle.std.proofs.Common.{refl, sym, ◌∙◌, ap, subst, arith, add-one}
use Rattle.std.proofs.lemmas.List.Elements.{Contains-append_left, Contains-append_right, Contains-append_cases}
use Rattle.std.proofs.{lemmas.Bool.or_left, lemmas.Bool.or_right, lemmas.Bool.or_parts, lemmas.Cmp.nat_list_eq_equiv, lemmas.List.get_or_default}
use Rattle.std.specs.{List.Contains, Cmp.Lexicographic.same_text}
use Rattle.rv_tree.specs.{declared.tree.Name.Name, Places.Identifier, Places.is_same, Places.is_among, Places.index_of}
use Rattle.rv_types.specs.{declared.fault.NameFault.NameFault, declared.fault.NameFault.TheVariants.DefinedTwice}
use Rattle.rv_types.specs.Names.{texts, is_declared, repeated}
use Rattle.rv_base.proofs.Truths.{clash}

pub nothing_in : {X G : Type 0} (y : X) → Contains [] y → G
nothing_in y w = absurd (let lt = w.1 in omega (arith, lt))

pub cons_cases : {X : Type 0} (x : X) (xs : List X) (y : X) → Contains (x ∷ xs) y → (x ≡ y) ⊎ Contains xs y
cons_cases x xs y w = at w.0 w.1 w.2
  where
    at : (k : ℕ) → k < length (x ∷ xs) → get_or (x ∷ xs) k y ≡ y → (x ≡ y) ⊎ Contains xs y
    at zero lt e = inl e
    at (suc k) lt e = inr (k, omega (arith, lt), e)

pub at_head : {X : Type 0} (x : X) (xs : List X) → Contains (x ∷ xs) x
at_head x xs = (0, omega arith, refl)

pub in_tail : {X : Type 0} (x : X) (xs : List X) (y : X) → Contains xs y → Contains (x ∷ xs) y
in_tail x xs y w = (suc w.0, (let lt = w.1 in omega (arith, lt)), w.2)

-- what stands at a number, whatever stands past the end
pub stands_at : {X : Type 0} (xs : List X) (x d : X) (w : Contains xs x) → get_or xs w.0 d ≡ x
stands_at xs x d w = get_or_default xs w.0 d x w.1 ∙ w.2

pub in_map : {X Y : Type 0} (f : X → Y) (xs : List X) (x : X) → Contains xs x → Contains (map f xs) (f x)
in_map f [] x w = nothing_in x w
in_map f (y ∷ ys) x w = elim (cons_cases y ys x w) [
  | inl same ↦ subst (λ z. Contains (map f (y ∷ ys)) (f z)) same (at_head (f y) (map f ys))
  | inr rest ↦ in_tail (f y) (map f ys) (f x) (in_map f ys x rest)
]

pub in_flat_map : {X Y : Type 0} (f : X → List Y) (xs : List X) (x : X) (y : Y) → Contains xs x → Contains (f x) y → Contains (flat_map f xs) y
in_flat_map f [] x y w v = nothing_in x w
in_flat_map f (z ∷ zs) x y w v = elim (cons_cases z zs x w) [
  | inl same ↦ Contains-append_left (f z) (flat_map f zs) y (subst (λ u. Contains (f u) y) (sym same) v)
  | inr rest ↦ Contains-append_right (f z) (flat_map f zs) y (in_flat_map f zs x y rest v)
]

pub of_flat_map : {X Y : Type 0} (f : X → List Y) (xs : List X) (y : Y) → Contains (flat_map f xs) y → (x : X) × Contains xs x × Contains (f x) y
of_flat_map f [] y w = nothing_in y w
of_flat_map f (z ∷ zs) y w = elim (Contains-append_cases (f z) (flat_map f zs) y w) [
  | inl here ↦ (z, at_head z zs, here)
  | inr rest ↦ let v = of_flat_map f zs y rest in (v.0, in_tail z zs v.0 v.1, v.2)
]

-- Lists that have a part for each element of another: what stands in all stands in one part, and the other way round.
module _ {X Y : Type 0} (part : X → List Y) (all : List X → List Y) (none : all [] ≡ []) (more : (x : X) (xs : List X) → all (x ∷ xs) ≡ part x ++ all xs) where
  as_flat_map : (xs : List X) → all xs ≡ flat_map part xs
  as_flat_map [] = none
  as_flat_map (x ∷ xs) = more x xs ∙ ap (λ l. part x ++ l) (as_flat_map xs)

  pub of_parts : (xs : List X) (y : Y) → Contains (all xs) y → (x : X) × Contains xs x × Contains (part x) y
  of_parts xs y w = of_flat_map part xs y (subst (λ l. Contains l y) (as_flat_map xs) w)

  pub in_parts : (xs : List X) (x : X) (y : Y) → Contains xs x → Contains (part x) y → Contains (all xs) y
  in_parts xs x y w v = subst (λ l. Contains l y) (sym (as_flat_map xs)) (in_flat_map part xs x y w v)

-- Names among names.

pub text_itself : (x : Identifier) → is_same x x ≡ true
text_itself x = nat_list_eq_equiv.refl x

pub among_from : (xs : List Identifier) (x : Identifier) → Contains xs x → is_among xs x ≡ true
among_from [] x w = nothing_in x w
among_from (y ∷ ys) x w = elim (cons_cases y ys x w) [
  | inl same ↦ or_left (is_same y x) (is_among ys x) (ap (is_same y) (sym same) ∙ text_itself y)
  | inr rest ↦ or_right (is_same y x) (is_among ys x) (among_from ys x rest)
]

pub index_there : (xs : List Identifier) (x : Identifier) → is_among xs x ≡ true → (index_of xs x < length xs) × (get_or xs (index_of xs x) [] ≡ x)
index_there [] x e = cc
index_there (y ∷ ys) x e = (elim (is_same y x) as (λ b. is_same y x ≡ b → (b || is_among ys x) ≡ true
    → (cond b 0 (index_of ys x + 1) < suc (length ys)) × (get_or (y ∷ ys) (cond b 0 (index_of ys x + 1)) [] ≡ x)) [
      | true ↦ (λ same e. (omega arith, same_text y x (sym same)))
      | false ↦ (λ other e.
          let r = index_there ys x e in
          let lt = r.0 in
          (omega (arith, lt), ap (λ k. get_or (y ∷ ys) k []) (add-one (index_of ys x)) ∙ r.1))
    ]) refl e

-- a name that is among some stands there
pub among_contains : (xs : List Identifier) (x : Identifier) → is_among xs x ≡ true → Contains xs x
among_contains xs x e = let w = index_there xs x e in (index_of xs x, w.0, get_or_default xs (index_of xs x) x [] w.0 ∙ w.1)

pub no_fault : (b : Bool) (at : ℕ) (fs : List NameFault) → cond b (DefinedTwice at ∷ []) [] ++ fs ≡ [] → (b ≡ false) × (fs ≡ [])
no_fault true at fs h = absurd (let x : ⊥ = cc in x)
no_fault false at fs h = (refl, h)

-- a name that stands where none stands twice is not among those before
pub not_before : (before xs : List Name) → repeated before xs ≡ [] → (x : Identifier) → Contains (texts xs) x → is_declared before x ≡ false
not_before before [] e x w = nothing_in x w
not_before before (y ∷ ys) e x w = elim (cons_cases y.text (texts ys) x w) [
  | inl same ↦ ap (is_declared before) (sym same) ∙ (no_fault _ _ _ e).0
  | inr rest ↦ (or_parts _ _ (not_before (y ∷ before) ys (no_fault _ _ _ e).1 x rest)).1
]

-- no two of different names are the same
pub names_apart : (before xs : List Name) → repeated before xs ≡ [] → (j k : ℕ) → j < k → k < length (texts xs)
    → get_or (texts xs) j [] ≡ get_or (texts xs) k [] → ⊥
names_apart before [] e j k less lt same = absurd (omega (arith, lt))
names_apart before (x ∷ xs) e j zero less lt same = absurd (omega (arith, less))
names_apart before (x ∷ xs) e (suc j) (suc k) less lt same =
    names_apart (x ∷ before) xs (no_fault _ _ _ e).1 j k (omega (arith, less)) (omega (arith, lt)) same
names_apart before (x ∷ xs) e zero (suc k) less lt same =
    let there : Contains (texts xs) x.text = (k, omega (arith, lt), get_or_default (texts xs) k x.text [] (omega (arith, lt)) ∙ sym same) in
    clash (is_same x.text x.text) (text_itself x.text) (or_parts _ _ (not_before (x ∷ before) xs (no_fault _ _ _ e).1 x.text there)).0

-- and so a name has one number
pub one_number : (before xs : List Name) → repeated before xs ≡ [] → (j k : ℕ) → j < length (texts xs) → k < length (texts xs)
    → get_or (texts xs) j [] ≡ get_or (texts xs) k [] → j ≡ k
one_number before [] e j k lj lk same = absurd (omega (arith, lj))
one_number before (x ∷ xs) e zero zero lj lk same = refl
one_number before (x ∷ xs) e zero (suc k) lj lk same = absurd (names_apart before (x ∷ xs) e zero (suc k) (omega arith) lk same)
one_number before (x ∷ xs) e (suc j) zero lj lk same = absurd (names_apart before (x ∷ xs) e zero (suc j) (omega arith) lj (sym same))
one_number before (x ∷ xs) e (suc j) (suc k) lj lk same =
    ap suc (one_number (x ∷ before) xs (no_fault _ _ _ e).1 j k (omega (arith, lj)) (omega (arith, lk)) same)
