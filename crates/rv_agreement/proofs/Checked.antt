-- A flat system that passes the tests and is inlined is well formed.
use Rattle.std.proofs.Common.{◌≡◌, ℕ, zero, suc, ◌+◌, ◌<◌, Bool, true, false, not, ◌&&◌, cond, nat_eq, nat_lt, List, [], ◌∷◌, map, length, get_or, slice_get}
use Rattle.std.proofs.Common.{refl, sym, ◌∙◌, ap, subst, arith, Option, Some, inl, inr, None as Nothing}
use Rattle.std.proofs.lemmas.Bool.{and_parts, ltb-true, eqb-true, not-true, or_cases, or_parts}
use Rattle.std.proofs.{lemmas.List.length-map, lemmas.Option.get_or_from_slice_get, lemmas.Option.slice_get_within}
use Rattle.std.specs.{Prelude.slice_index_or, List.Contains}
use Rattle.rv_base.specs.declared.value.Value.{Value}
use Rattle.rv_base.specs.declared.value.Value.TheVariants as value
use Rattle.rv_tree.specs.{declared.tree.Op.Op, Places.Sites}
use Rattle.rv_tree.specs.declared.tree.Op.TheVariants as op
use Rattle.rv_types.specs.{declared.typed.Kind.Kind, Lists.sides_of, Variables.is_integer}
use Rattle.rv_types.specs.declared.typed.Kind.TheVariants as kind
use Rattle.rv_agreement.specs.Trees.{FlatTree, Node, TreeForm, FlatTrees, Constant, Flow, Memory, Ticked, Input, Not, Binary, Scale, If, AtMostOne, When}
use Rattle.rv_agreement.specs.Trees.{Current, None, More, Item, nth_item, Kept, System, memory_kinds, memory_places, kind_at}
use Rattle.rv_agreement.specs.Valuations.{is_placed}
use Rattle.rv_agreement.specs.Agreement.{HasKind, IsRule, IsPlaced, IsNamed, Fits, FormFits, AllFit, ItemFits, IsWell}
use Rattle.rv_agreement.specs.Checks.{same_sites, same_flow, same_clock, is_among, are_distinct, any_of, is_of, constant_fits, gives, operands, is_placed_for}
use Rattle.rv_agreement.specs.Checks.{clock_fits, fits, form_fits, all_fit, IsShared, FormIsShared, AreShared, item_fits, flows_fit, memories_fit}
use Rattle.rv_agreement.specs.Checks.{assertions_fit, clocks_fit, IsChecked, IsInlined}
use Rattle.rv_agreement.proofs.{Matching.only_one, Chosen.sites_itself, Chosen.flow_itself}
use Rattle.rv_types.proofs.{Verdicts.kind_same, Members.in_tail, ChainLaws.no_flag}

clock_told : (k j : Option ℕ) → same_clock k j ≡ true → k ≡ j
clock_told Nothing Nothing e = refl
clock_told (Some k) (Some n) e = ap Some (eqb-true k n e)
clock_told _ _ e = no_flag e

-- a number with a type is within, and has it
of_told : (j : Kind) (ks : List Kind) (n : ℕ) → is_of j (slice_get ks n) ≡ true → (n < length ks) × (kind_at ks n ≡ j)
of_told j ks n e = by (slice_get ks n) refl e
  where
    by : (o : Option Kind) → slice_get ks n ≡ o → is_of j o ≡ true → (n < length ks) × (kind_at ks n ≡ j)
    by Nothing is e = no_flag e
    by (Some k) is e = (slice_get_within ks n k is, get_or_from_slice_get ks n k kind.Bool is ∙ kind_same k j e)

constant_told : (labels : List ℕ) (j : Kind) (c : Value) → constant_fits labels j c ≡ true → HasKind labels j c
constant_told labels kind.Bool (value.Flag b) e = tt
constant_told labels kind.Int (value.Whole z) e = tt
constant_told labels (kind.Labels i) (value.Label l) e = ltb-true l (slice_index_or labels i 0) e
constant_told labels _ _ e = no_flag e

-- one of them passes the test
any_told : (test : Kind → Bool) (ks : List Kind) → any_of test ks ≡ true → (i : Kind) × Contains ks i × (test i ≡ true)
any_told test [] e = no_flag e
any_told test (k ∷ ks) e = elim (or_cases (test k) (any_of test ks) e) [
  | inl here ↦ (k, (0, omega arith, refl), here)
  | inr rest ↦ let r = any_told test ks rest in (r.0, in_tail k ks r.0 r.1, r.2)
]

rule_told : (labels : List ℕ) (o : Op) (i j : Kind) → gives o j ≡ true → Contains (operands labels o) i → IsRule o i j
rule_told labels op.Equal i j e w = kind_same j kind.Bool e
rule_told labels op.Differs i j e w = kind_same j kind.Bool e
rule_told labels op.Plus i j e w = (sym (only_one kind.Int i w), kind_same j kind.Int e)
rule_told labels op.Minus i j e w = (sym (only_one kind.Int i w), kind_same j kind.Int e)
rule_told labels op.Arrow i j e w = no_flag e
rule_told labels op.Times i j e w = no_flag e
rule_told labels op.Slash i j e w = no_flag e
rule_told labels op.Div i j e w = no_flag e
rule_told labels op.Mod i j e w = no_flag e
rule_told labels _ i j e w = (sym (only_one _ i w), kind_same j kind.Bool e)

same_flag : (a b : Bool) → cond a b (not b) ≡ true → a ≡ b
same_flag true true e = refl
same_flag false false e = refl
same_flag _ _ e = no_flag e

placed_told : (at : Sites) (o : Op) (i : Kind) → is_placed_for at o i ≡ true → IsPlaced at o i
placed_told at o i e some = elim (or_cases (nat_eq (length (sides_of o)) 0) (cond (is_placed at) (is_integer i) (not (is_integer i))) e) [
  | inl none ↦ let is : length (sides_of o) ≡ 0 = eqb-true (length (sides_of o)) 0 none in absurd (omega (arith, is, some))
  | inr same ↦ same_flag (is_placed at) (is_integer i) same
]

module _ (s : System) where
  named_told : (n : ℕ) (k : Option ℕ) → clock_fits s n k ≡ true → IsNamed n k
  named_told n Nothing e = tt
  named_told n (Some k) e = ltb-true k n (and_parts (nat_lt k n) (is_of kind.Bool (slice_get s.kinds k)) e).0

  memory_told : (j : Kind) (m : ℕ) → is_of j (slice_get (memory_kinds s) m) ≡ true → (m < length s.memories) × (kind_at (memory_kinds s) m ≡ j)
  memory_told j m e = let t = of_told j (memory_kinds s) m e in ((let lt : m < length (memory_kinds s) = t.0 in simp length-map at lt), t.1)

  mutual
    fits_told : (n : ℕ) (k : Option ℕ) (j : Kind) (e : FlatTree) → fits s n k j e ≡ true → IsShared s e → Fits s n k j e
    fits_told n k j (Node at form) e shared = form_told n k j at form e shared

    form_told : (n : ℕ) (k : Option ℕ) (j : Kind) (at : Sites) (form : TreeForm) → form_fits s n k j at form ≡ true → FormIsShared s form
        → FormFits s n k j at form
    form_told n k j at (Constant c) e shared = constant_told s.labels j c e
    form_told n k j at (Flow c) e shared =
        let p = and_parts _ _ e in
        let q = and_parts _ _ p.1 in (ltb-true c n p.0, (of_told j s.kinds c q.0).1, sym (clock_told k (nth_item s.flows c).clock q.1))
    form_told n k j at (Memory m) e shared = memory_told j m e
    form_told n k j at (Ticked t) e shared = let p = and_parts _ _ e in (ltb-true t (length s.ticks) p.1, kind_same j kind.Bool p.0)
    form_told n k j at (Input i) e shared = of_told j s.inputs i e
    form_told n k j at (Not x) e shared = let p = and_parts _ _ e in (kind_same j kind.Bool p.0, fits_told n k kind.Bool x p.1 shared)
    form_told n k j at (Binary o a b) e shared =
        let test : Kind → Bool = λ i. is_placed_for at o i && (fits s n k i a && fits s n k i b) in
        let p = and_parts _ _ e in
        let one = any_told test (operands s.labels o) p.1 in
        let q = and_parts _ _ one.2 in
        let r = and_parts _ _ q.1 in
        (one.0, rule_told s.labels o one.0 j p.0 one.1, placed_told at o one.0 q.0, fits_told n k one.0 a r.0 shared.0, fits_told n k one.0 b r.1 shared.1)
    form_told n k j at (Scale z x) e shared = let p = and_parts _ _ e in (kind_same j kind.Int p.0, fits_told n k kind.Int x p.1 shared)
    form_told n k j at (If c a b) e shared =
        let p = and_parts _ _ e in
        let q = and_parts _ _ p.1 in
        (fits_told n k kind.Bool c p.0 shared.0, fits_told n k j a q.0 shared.1, fits_told n k j b q.1 shared.2)
    form_told n k j at (AtMostOne es) e shared = let p = and_parts _ _ e in (kind_same j kind.Bool p.0, all_told n k es p.1 shared)
    form_told n k j at (When c x) e shared =
        let p = and_parts _ _ e in
        let q = and_parts _ _ p.1 in
        (clock_told k (Some c) p.0, named_told n (Some c) q.0, fits_told n (nth_item s.flows c).clock j x q.1 shared)
    form_told n k j at (Current m i x) e shared =
        let p = and_parts _ _ e in
        let q = and_parts _ _ p.1 in let t = memory_told j m p.0 in (t.0, t.1, shared.0, named_told n i q.0, fits_told n i j x q.1 shared.1)

    all_told : (n : ℕ) (k : Option ℕ) (es : FlatTrees) → all_fit s n k es ≡ true → AreShared s es → AllFit s n k es
    all_told n k None e shared = tt
    all_told n k (More x es) e shared = let p = and_parts _ _ e in (fits_told n k kind.Bool x p.0 shared.0, all_told n k es p.1 shared.1)

  item_told : (n : ℕ) (j : Kind) (x : Item) → item_fits s n j x ≡ true → IsShared s x.body → ItemFits s n j x
  item_told n j x e shared = let p = and_parts _ _ e in (named_told n x.clock p.0, fits_told n x.clock j x.body p.1 shared)

  flow_told : (n : ℕ) (xs : List Item) (k : ℕ) → flows_fit s n xs ≡ true → k < length xs → IsShared s (nth_item xs k).body
      → ItemFits s (n + k) (kind_at s.kinds (n + k)) (nth_item xs k)
  flow_told n [] k e lt shared = absurd (omega arith)
  flow_told n (x ∷ xs) zero e lt shared =
      subst (λ m. ItemFits s m (kind_at s.kinds m) x) (let d : n ≡ n + 0 = omega arith in d)
      (item_told n (kind_at s.kinds n) x (and_parts _ _ e).0 shared)
  flow_told n (x ∷ xs) (suc k) e lt shared =
      subst (λ m. ItemFits s m (kind_at s.kinds m) (nth_item xs k)) (let d : (n + 1) + k ≡ n + suc k = omega arith in d)
      (flow_told (n + 1) xs k (and_parts _ _ e).1 (omega arith) shared)

  memories_told : (ms : List Kept) (k : ℕ) → memories_fit s ms ≡ true → k < length ms → IsShared s (nth_item (map (λ m. m.item) ms) k).body
      → ItemFits s (length s.flows) (kind_at (map (λ m. m.kind) ms) k) (nth_item (map (λ m. m.item) ms) k)
  memories_told [] k e lt shared = absurd (omega arith)
  memories_told (m ∷ ms) zero e lt shared = item_told (length s.flows) m.kind m.item (and_parts _ _ e).0 shared
  memories_told (m ∷ ms) (suc k) e lt shared = memories_told ms k (and_parts _ _ e).1 (omega arith) shared

  assertions_told : (xs : List Item) (k : ℕ) → assertions_fit s xs ≡ true → k < length xs → IsShared s (nth_item xs k).body
      → ItemFits s (length s.flows) kind.Bool (nth_item xs k)
  assertions_told [] k e lt shared = absurd (omega arith)
  assertions_told (x ∷ xs) zero e lt shared = item_told (length s.flows) kind.Bool x (and_parts _ _ e).0 shared
  assertions_told (x ∷ xs) (suc k) e lt shared = assertions_told xs k (and_parts _ _ e).1 (omega arith) shared

  clocks_told : (ks : List (Option ℕ)) (k : ℕ) → clocks_fit s ks ≡ true → k < length ks → IsNamed (length s.flows) (slice_index_or ks k Nothing)
  clocks_told [] k e lt = absurd (omega arith)
  clocks_told (j ∷ ks) zero e lt = named_told (length s.flows) j (and_parts _ _ e).0
  clocks_told (j ∷ ks) (suc k) e lt = clocks_told ks k (and_parts _ _ e).1 (omega arith)

module _ (K : Type 0) (same : K → K → Bool) (itself : (p : K) → same p p ≡ true) where
  not_among : (k : K) (ks : List K) (j : ℕ) (d : K) → is_among K same k ks ≡ false → j < length ks → k ≡ get_or ks j d → ⊥
  not_among k [] j d e lt is = absurd (omega arith)
  not_among k (x ∷ ks) zero d e lt is = no_flag (sym (or_parts (same x k) (is_among K same k ks) e).0 ∙ ap (same x) is ∙ itself x)
  not_among k (x ∷ ks) (suc j) d e lt is = not_among k ks j d (or_parts (same x k) (is_among K same k ks) e).1 (omega arith) is

  distinct_told : (ks : List K) → are_distinct K same ks ≡ true → (i j : ℕ) (d : K) → i < length ks → j < length ks → get_or ks i d ≡ get_or ks j d → i ≡ j
  distinct_told [] e i j d less lt is = absurd (omega arith)
  distinct_told (k ∷ ks) e zero zero d less lt is = refl
  distinct_told (k ∷ ks) e zero (suc j) d less lt is = absurd (not_among k ks j d (not-true _ (and_parts _ _ e).0) (omega arith) is)
  distinct_told (k ∷ ks) e (suc i) zero d less lt is = absurd (not_among k ks i d (not-true _ (and_parts _ _ e).0) (omega arith) (sym is))
  distinct_told (k ∷ ks) e (suc i) (suc j) d less lt is = ap suc (distinct_told ks (and_parts _ _ e).1 i j d (omega arith) (omega arith) is)

pub is_well : (s : System) → IsChecked s → IsInlined s → IsWell s
is_well s checked inlined = record {
  kinds = checked.kinds;
  flows = λ k lt. subst (λ m. ItemFits s m (kind_at s.kinds m) (nth_item s.flows k)) (let d : 0 + k ≡ k = omega arith in d)
      (flow_told s 0 s.flows k checked.flows lt (inlined.flows k lt));
  memories = λ m lt. memories_told s s.memories m checked.memories lt (inlined.memories m lt);
  assertions = λ k lt. assertions_told s s.assertions k checked.assertions lt (inlined.assertions k lt);
  observer = let o = of_told kind.Bool s.kinds s.observer checked.observer in omega (arith, o.0, checked.kinds);
  ticks = checked.ticks;
  tick_clocks = λ k lt. clocks_told s s.tick_clocks k checked.tick_clocks lt;
  ticks_apart = λ j k less lt is. distinct_told (Option Sites) same_flow flow_itself s.ticks checked.tick_places j k Nothing less lt is;
  memories_apart = λ j k less lt is. distinct_told Sites same_sites sites_itself (memory_places s) checked.memory_places j k [] (rw length-map less)
      (rw length-map lt) is;
  apart = checked.comparisons;
}
