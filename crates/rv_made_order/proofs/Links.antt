-- The names of the flows that the calls of a made source give: all are different.
use Rattle.std.proofs.Common.{◌≡◌, ℕ, zero, suc, ◌^◌, ◌<◌, ◌≤◌, ◌⊎◌, inl, inr, Bool, true, false, ◌||◌, List, [], ◌∷◌, ◌++◌, length, refl, sym, ◌∙◌, ap, arith}
use Rattle.std.proofs.lemmas.Bool.{or_left, or_right, cases_lt}
use Rattle.std.proofs.{lemmas.Fmt.decimal_injective, lemmas.List.map_push, lemmas.List.length_push}
use Rattle.std.specs.{Fmt.decimal, Cmp.Lexicographic.same_text}
use Rattle.rv_tree.specs.{declared.tree.Decl.Decl, Places.Identifier, Places.names, Places.is_same, Places.is_among, Places.index_of}
use Rattle.rv_make.specs.{Made.link_name, Chains.boolean, Chains.link_flows}
use Rattle.rv_made_order.proofs.Lists.{among_push, index_in_front, index_at_end, are_apart, apart_push}
use Rattle.rv_types.proofs.Members.{text_itself}

-- the names that the first n calls give
abbrev pub links : ℕ → List Identifier
links zero = []
links (suc n) = links n ++ link_name (suc n) ∷ []

pub length_links : (n : ℕ) → length (links n) ≡ n
length_links zero = refl
length_links (suc n) =
    let e = length_push (links n) (link_name (suc n)) in
    let h = length_links n in
    omega (arith, e, h)

pub flow_links : (at : ℕ → ℕ) (n : ℕ) → names (link_flows at n) ≡ links n
flow_links at zero = refl
flow_links at (suc n) =
    map_push (λ (d : Decl). d.name.text) (link_flows at n) (boolean (at n) (link_name (suc n)))
    ∙ ap (λ xs. xs ++ link_name (suc n) ∷ []) (flow_links at n)

-- The decimal digits of a number tell it, and so does the name.
pub other_link : (i j : ℕ) → i < 2 ^ 64 → j < 2 ^ 64 → (i ≡ j → ⊥) → is_same (link_name i) (link_name j) ≡ false
other_link zero zero hi hj ne = absurd (ne refl)
other_link zero (suc j) hi hj ne = refl
other_link (suc i) zero hi hj ne = refl
other_link (suc i) (suc j) hi hj ne = tested (is_same (decimal (suc i)) (decimal (suc j))) refl
  where
    tested : (b : Bool) → is_same (decimal (suc i)) (decimal (suc j)) ≡ b → is_same (decimal (suc i)) (decimal (suc j)) ≡ false
    tested false e = e
    tested true e = absurd (ne (decimal_injective (suc i) (suc j) hi hj (same_text (decimal (suc i)) (decimal (suc j)) (sym e))))

-- what is no name of the first n calls
pub not_among : (x : Identifier) (n : ℕ) → ((i : ℕ) → i < n → is_same (link_name (suc i)) x ≡ false) → is_among (links n) x ≡ false
not_among x zero others = refl
not_among x (suc n) others =
    among_push (links n) (link_name (suc n)) x
    ∙ ap (λ b. b || is_same (link_name (suc n)) x) (not_among x n (λ i lt. others i (omega arith)))
    ∙ others n (omega arith)

-- a number below the next is below, or the last one
pub below_next : (i n : ℕ) → i < suc n → (i < n) ⊎ (n ≡ i)
below_next i n lt = elim (cases_lt i n) [ inl less ↦ inl less | inr more ↦ inr (omega (arith, lt, more)) ]

pub among_links : (n i : ℕ) → i < n → is_among (links n) (link_name (suc i)) ≡ true
among_links zero i lt = absurd (omega arith)
among_links (suc n) i lt =
    among_push (links n) (link_name (suc n)) (link_name (suc i))
    ∙ elim (below_next i n lt) [
      | inl less ↦ or_left (is_among (links n) (link_name (suc i))) (is_same (link_name (suc n)) (link_name (suc i))) (among_links n i less)
      | inr same ↦ or_right (is_among (links n) (link_name (suc i))) (is_same (link_name (suc n)) (link_name (suc i)))
          (ap (λ k. is_same (link_name (suc k)) (link_name (suc i))) same ∙ text_itself (link_name (suc i)))
    ]

-- a later name is none of the first
pub later_link : (n k : ℕ) → n ≤ k → suc k < 2 ^ 64 → is_among (links n) (link_name (suc k)) ≡ false
later_link n k le hk = not_among (link_name (suc k)) n
    (λ i lt. other_link (suc i) (suc k) (omega (arith, lt, le, hk)) hk (λ e. omega (arith, e, lt, le)))

pub index_links : (n i : ℕ) → n < 2 ^ 64 → i < n → index_of (links n) (link_name (suc i)) ≡ i
index_links zero i few lt = absurd (omega arith)
index_links (suc n) i few lt = elim (below_next i n lt) [
  | inl less ↦ index_in_front (links n) (link_name (suc n)) (link_name (suc i)) (among_links n i less) ∙ index_links n i (omega (arith, few)) less
  | inr same ↦
      ap (λ k. index_of (links n ++ link_name (suc n) ∷ []) (link_name (suc k))) (sym same)
      ∙ index_at_end (links n) (link_name (suc n)) (later_link n n (omega arith) few) ∙ length_links n ∙ same
]

pub links_apart : (before : List Identifier) (n : ℕ) → n < 2 ^ 64 → ((i : ℕ) → i < n → is_among before (link_name (suc i)) ≡ false)
    → are_apart before (links n) ≡ true
links_apart before zero few others = refl
links_apart before (suc n) few others = apart_push before (links n) (link_name (suc n))
    (links_apart before n (omega (arith, few)) (λ i lt. others i (omega arith))) (others n (omega arith)) (later_link n n (omega arith) few)
