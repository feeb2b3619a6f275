-- Lists of references that grow.
use Rattle.std.proofs.Common.{◌≡◌, ℕ, ◌+◌, ◌<◌, Bool, ◌&&◌, nat_lt, List, [], ◌∷◌, ◌++◌, length, map, drop, refl, sym, ◌∙◌, ap, subst, arith, inl, inr}
use Rattle.std.proofs.Common.{length-append, Option, Some, None as Nothing}
use Rattle.std.proofs.lemmas.List.{get_or_append_left, get_or-map, append-nil, append_assoc}
use Rattle.std.proofs.{lemmas.Bool.cases_lt, lemmas.Bool.lt-ltb, Math.Seq.get_or-append_seam}
use Rattle.std.specs.Prelude.{slice_index_or}
use Rattle.rv_tree.specs.Places.{Sites}
use Rattle.rv_types.specs.{declared.typed.Kind.Kind, Lists.Variable}
use Rattle.rv_diagram.specs.{Nodes.Valuation, Nodes.Diagrams, Nodes.value_of, Several.ref_at}
use Rattle.rv_diagram.specs.Growing.{Extends}
use Rattle.rv_diagram.proofs.Growing.{extends_refl, extends_trans}
use Rattle.rv_agreement.specs.Agreement.{bit_count}
use Rattle.rv_flat.specs.{declared.parts.Bit.Bit, Lists.tick_places}
use Rattle.rv_flat.specs.declared.parts.Bit.TheVariants as variant
use Rattle.rv_control.specs.Named.{truth_at, tick_variable}
use Rattle.rv_symbolic.specs.Growing.{Makes}
use Rattle.rv_symbolic.proofs.Extending.{refs_after}
use Rattle.rv_bits.specs.{Bits.Spells, Shown.refs_at, Tables.AreTickRefs, Tables.AreBits, Tables.AreBitLists, Tables.ticks_in}
use Rattle.rv_bits.proofs.Making.{any_ref, refs_more, ref_before, ref_last, bits_kept}

pub element_before : {A : Type 0} (xs : List A) (y d : A) (k : ℕ) → k < length xs → slice_index_or (xs ++ y ∷ []) k d ≡ slice_index_or xs k d
element_before xs y d k lt = get_or_append_left xs (y ∷ []) d k lt

pub element_last : {A : Type 0} (xs : List A) (y d : A) (k : ℕ) → length xs ≡ k → slice_index_or (xs ++ y ∷ []) k d ≡ y
element_last xs y d k e = subst (λ n. slice_index_or (xs ++ y ∷ []) n d ≡ y) e (get_or-append_seam xs y [] d)

pub tick_pushed : (names : List Variable) (a b c : Diagrams) (ticks : List (Option Sites)) (t : Option Sites) (refs : List ℕ) (r : ℕ)
    → AreTickRefs names a b ticks refs
    → Makes b c (λ v. truth_at names v (tick_variable t)) r → AreTickRefs names a c (ticks ++ t ∷ []) (refs ++ r ∷ [])
tick_pushed names a b c ticks t refs r are made = record {
  extends = extends_trans a b c are.extends made.extends;
  size = length-append refs (r ∷ []) ∙ ap (λ n. n + 1) are.size ∙ sym (length-append ticks (t ∷ []));
  found = refs_more c.nodes refs r (refs_after b c refs made.extends are.found) made.found;
  means = λ k v lt. elim (cases_lt k (length ticks)) [
    | inl below ↦ ap (λ x. value_of c.nodes x v) (ref_before refs r k (omega (arith, are.size)))
        ∙ made.extends.kept (ref_at refs k) (any_ref b.nodes refs are.found k) v ∙ are.means k v below
        ∙ ap (λ (x : Option Sites). truth_at names v (tick_variable x)) (sym (element_before ticks t Nothing k below))
    | inr le ↦
        let same : length ticks ≡ k = omega (arith, length-append ticks (t ∷ [])) in
        ap (λ x. value_of c.nodes x v) (ref_last refs r k (are.size ∙ same)) ∙ made.means v
        ∙ ap (λ (x : Option Sites). truth_at names v (tick_variable x)) (sym (element_last ticks t Nothing k same))
  ];
}

pub tick_first : (names : List Variable) (a b : Diagrams) (t : Option Sites) (r : ℕ) (refs : List ℕ) → refs ≡ r ∷ []
    → Makes a b (λ v. truth_at names v (tick_variable t)) r → AreTickRefs names a b (t ∷ []) refs
tick_first names a b t r refs e made = subst (AreTickRefs names a b (t ∷ [])) (sym e)
    (tick_pushed names a a b [] t [] r (record {
      extends = extends_refl a;
      size = refl;
      found = λ k lt. absurd (omega arith);
      means = λ k v lt. absurd
          (omega arith);
    }) made)

-- the ticks of one variable more
pub ticks_more : (vs : List Bit) (k : ℕ) (x : Bit) → drop k vs ≡ x ∷ drop (k + 1) vs → (before : List (Option Sites))
    → before ++ map (λ p. Some p) (tick_places (drop k vs)) ≡ (before ++ ticks_in x) ++ map (λ p. Some p) (tick_places (drop (k + 1) vs))
ticks_more vs k x e before = ap (λ l. before ++ map (λ p. Some p) (tick_places l)) e ∙ by x
  where
    rest : List (Option Sites)
    rest = map (λ p. Some p) (tick_places (drop (k + 1) vs))

    none : before ++ rest ≡ (before ++ []) ++ rest
    none = ap (λ l. l ++ rest) (sym (append-nil before))

    by : (y : Bit) → before ++ map (λ p. Some p) (tick_places (y ∷ drop (k + 1) vs)) ≡ (before ++ ticks_in y) ++ rest
    by (variant.Tick p) = sym (append_assoc before (Some p.sites ∷ []) rest)
    by _ = none

bits_of_spelled : (a b : Diagrams) (names : List Variable) (owned : ℕ → Variable) (count : ℕ) (refs : List ℕ) → length refs ≡ count
    → Spells a b (λ n v. nat_lt n count && truth_at names v (owned n)) refs
    → AreBits b.nodes names owned count refs
bits_of_spelled a b names owned count refs size s = record {
  size = size;
  found = s.found;
  means = λ n v lt. s.means n v ∙ ap (λ t. t && truth_at names v (owned n)) (lt-ltb n count lt);
}

pub are_bits_kept : (a b : Diagrams) (names : List Variable) (owned : ℕ → Variable) (count : ℕ) (refs : List ℕ) → Extends a b
    → AreBits a.nodes names owned count refs → AreBits b.nodes names owned count refs
are_bits_kept a b names owned count refs e are = record {
  size = are.size;
  found = refs_after a b refs e are.found;
  means = λ n v lt. bits_kept a b refs e are.found v n ∙ are.means n v lt;
}

-- one memory or input more
pub list_pushed : (labels : List ℕ) (names : List Variable) (owned : ℕ → ℕ → Variable) (kinds : ℕ → Kind) (a b c : Diagrams) (n : ℕ) (lists : List (List ℕ))
    (refs : List ℕ)
    → AreBitLists labels names owned kinds a b n lists → length refs ≡ bit_count labels (kinds n)
    → Spells b c (λ k v. nat_lt k (bit_count labels (kinds n)) && truth_at names v (owned n k)) refs
    → AreBitLists labels names owned kinds a c (n + 1) (lists ++ refs ∷ [])
list_pushed labels names owned kinds a b c n lists refs are size s = record {
  extends = extends_trans a b c are.extends s.extends;
  size = length-append lists (refs ∷ []) ∙ ap (λ k. k + 1) are.size;
  each = λ m lt. elim (cases_lt m n) [
    | inl below ↦ subst (AreBits c.nodes names (owned m) (bit_count labels (kinds m))) (sym (element_before lists refs [] m (omega (arith, are.size))))
        (are_bits_kept b c names (owned m) (bit_count labels (kinds m)) (refs_at lists m) s.extends (are.each m below))
    | inr le ↦
        let same : n ≡ m = omega arith in
        subst (λ k. AreBits c.nodes names (owned k) (bit_count labels (kinds k)) (refs_at (lists ++ refs ∷ []) k)) same
        (subst (AreBits c.nodes names (owned n) (bit_count labels (kinds n))) (sym (element_last lists refs [] n are.size))
        (bits_of_spelled b c names (owned n) (bit_count labels (kinds n)) refs size s))
  ];
}

-- what a list says of the item of a loop over it
pub item_in : {A B : Type 0} (g : A → B) (list items : List A) (k : ℕ) (item : A) (d : B) → items ≡ list → k < length items → item ≡ slice_index_or items k item
    → slice_index_or (map g list) k d ≡ g item
item_in g list items k item d e lt is = ap (λ xs. slice_index_or (map g xs) k d) (sym e) ∙ get_or-map g items k item d lt ∙ ap g (sym is)

pub spells_to : (a b : Diagrams) (m n : ℕ → Valuation → Bool) (refs : List ℕ) → ((k : ℕ) (v : Valuation) → m k v ≡ n k v) → Spells a b m refs
    → Spells a b n refs
spells_to a b m n refs same s = record { extends = s.extends; found = s.found; means = λ k v. s.means k v ∙ same k v }
