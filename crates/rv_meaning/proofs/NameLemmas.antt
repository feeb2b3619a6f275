-- Names and sites in lists: what determines them.
use Rattle.std.proofs.Common.{◌≡◌, ℕ, ◌<◌, ◌↔◌, Bool, true, false, cond, List, [], ◌∷◌, ◌++◌, length, refl, sym, ◌∙◌, ap, arith, get_or, Some, IsSome}
use Rattle.std.proofs.Common.{length-append, None as Nothing}
use Rattle.std.proofs.lemmas.List.Elements.{Contains-append_left, Contains-append_right}
use Rattle.std.specs.{Cmp.Lexicographic.texts_ties, List.Contains}
use Rattle.rv_base.specs.declared.value.Value.{Value}
use Rattle.rv_tree.specs.{Tree.Tree, Tree.Trees, Places.Identifier, Places.is_same, Places.index_of}
use Rattle.rv_types.specs.Instances.{IsArgument, head, tail}
use Rattle.rv_meaning.proofs.Rows.{same_place, no_flag}
use Rattle.rv_types.proofs.Members.{among_from, index_there, nothing_in}

-- two lists with one more number at the end are equal only where both parts are
pub snoc : (xs ys : List ℕ) (a b : ℕ) → xs ++ a ∷ [] ≡ ys ++ b ∷ [] → (xs ≡ ys) × (a ≡ b)
snoc [] [] a b e = (refl, cc)
snoc [] (y ∷ ys) a b e = let long = ap length e in absurd (omega (arith, long, length-append ys (b ∷ [])))
snoc (x ∷ xs) [] a b e = let long = ap length e in absurd (omega (arith, long, length-append xs (a ∷ [])))
snoc (x ∷ xs) (y ∷ ys) a b e =
    let first : x ≡ y = cc in
    let later : xs ++ a ∷ [] ≡ ys ++ b ∷ [] = cc in
    let r = snoc xs ys a b later in (λ i. first i ∷ r.0 i, r.1)

-- nothing is in the empty list
pub none_in : {X : Type 0} (x : X) → Contains [] x → ⊥
none_in x w = nothing_in x w

-- what holds of all that is in a joined list holds of what is in its first part, and in its second
pub of_first : {X : Type 0} {P : X → Type 0} (xs ys : List X) → ((x : X) → Contains (xs ++ ys) x → P x) → (x : X) → Contains xs x → P x
of_first xs ys all x w = all x (Contains-append_left xs ys x w)

pub of_second : {X : Type 0} {P : X → Type 0} (xs ys : List X) → ((x : X) → Contains (xs ++ ys) x → P x) → (x : X) → Contains ys x → P x
of_second xs ys all x w = all x (Contains-append_right xs ys x w)

-- names with the same bytes are equal
pub same_text : (x y : Identifier) → is_same x y ≡ true → x ≡ y
same_text x y e = same_place x y (sym (texts_ties x y) ∙ e)

-- the number of a name that is there
pub index_at : (xs : List Identifier) (x : Identifier) → Contains xs x → (index_of xs x < length xs) × (get_or xs (index_of xs x) [] ≡ x)
index_at xs x w = index_there xs x (among_from xs x w)

-- one argument stands at a number
pub arg_same : (es : Trees) (j : ℕ) (e d : Tree) → IsArgument es j e → IsArgument es j d → e ≡ d
arg_same _ _ e d head head = refl
arg_same _ _ e d (tail p) (tail q) = arg_same _ _ e d p q

-- a value that is masked by a bit is there where the bit is true
pub masked : (b c : Bool) (v : Value) → b ≡ c → IsSome (cond b (Some v) Nothing) ↔ (c ≡ true)
masked true c v e = (λ _. sym e, λ _. refl)
masked false c v e = (λ h. absurd (no_flag h), λ h. absurd (no_flag (e ∙ h)))
