-- What a comparison of a flat system compares.
use Rattle.std.proofs.Common.{◌≡◌, ◌≢◌, inl, inr, ℕ, zero, suc, ◌<◌, Bool, true, false, ◌&&◌, cond, nat_eq, List, [], ◌∷◌, ◌++◌, length, map, refl, sym, ◌∙◌}
use Rattle.std.proofs.Common.{ap, subst, arith, get_or, Option}
use Rattle.std.proofs.{lemmas.Bool.and_parts, lemmas.Bool.false≢true, lemmas.List.length-map, lemmas.List.get_or-map, lemmas.Option.get_or_from_slice_get}
use Rattle.std.proofs.{lemmas.Option.slice_get_within, lemmas.List.Elements.Contains-append_cases, lemmas.List.Elements.Contains-get_or}
use Rattle.std.specs.{Prelude.nat_abs, Prelude.nat_le, List.Contains}
use Rattle.rv_tree.specs.{declared.tree.Op.Op, Places.Sites}
use Rattle.rv_base.specs.Limits.{heaviest}
use Rattle.rv_types.specs.{declared.typed.Kind.Kind, Lists.sides_of, Variables.is_integer}
use Rattle.rv_types.specs.declared.typed.Kind.TheVariants as kind
use Rattle.rv_agreement.specs.Trees.{FlatTree, Node, TreeForm, FlatTrees, Not, Binary, Scale, If, AtMostOne, When, None, More, Item, nth_item, System}
use Rattle.rv_agreement.specs.Trees.{memory_items, memory_kinds, kind_at}
use Rattle.rv_agreement.specs.Valuations.{Comparison, is_placed, own, comparisons, form_comparisons, comparisons_of, item_comparisons, all_items}
use Rattle.rv_agreement.specs.Valuations.{all_comparisons}
use Rattle.rv_agreement.specs.Agreement.{IsNamed, IsPlaced, Fits, FormFits, AllFit, ItemFits, IsWell}
use Rattle.rv_agreement.proofs.Matching.{in_own, read_in, wider_item}
use Rattle.rv_flat.specs.Facts.{form_flat_weight, is_light, form_is_light, all_light}
use Rattle.rv_flat.specs.{declared.flat.Flat.Flat, FlatInstants.system_of, Systems.kept_of, Systems.memory_item}
use Rattle.rv_flat.proofs.{FlowWeights.item_light, Inlining.items_kept}
use Rattle.rv_forms.specs.Terms.{weights_of}
use Rattle.rv_tested.specs.{declared.compared.Compared.Compared, Compared.comparison_in, Compared.AreInside, Compared.IsInside}
use Rattle.rv_types.proofs.Members.{nothing_in, of_flat_map}

pub integer_kind : (i : Kind) → is_integer i ≡ true → i ≡ kind.Int
integer_kind kind.Int e = refl
integer_kind _ e = absurd (false≢true e)

-- what stands alone is placed and has a test
own_placed : {X : Type 0} (p : Bool) (n : ℕ) (y c : X) → Contains (cond p (cond (nat_eq n 0) [] (y ∷ [])) []) c → (p ≡ true) × (0 < n)
own_placed true zero y c w = nothing_in c w
own_placed true (suc n) y c w = (refl, omega arith)
own_placed false n y c w = nothing_in c w

module _ (s : System) (n : ℕ) (ws : List ℕ) (clocks : (j : ℕ) → j < n → IsNamed n (nth_item s.flows j).clock) where
  -- the operands are integers on the clock of the comparison, over these flows, and light
  pub record Holds (c : Comparison) : Type 0 where
    pub named : IsNamed n c.clock
    pub left : Fits s n c.clock kind.Int c.left
    pub right : Fits s n c.clock kind.Int c.right
    pub left_light : is_light ws c.left ≡ true
    pub right_light : is_light ws c.right ≡ true
    pub some : 0 < length (sides_of c.operator)

  light_form : (at : Sites) (form : TreeForm) → is_light ws (Node at form) ≡ true → form_is_light ws form ≡ true
  light_form at form light = (and_parts (nat_le (form_flat_weight ws form) heaviest) (form_is_light ws form) light).1

  own_holds : (k : Option ℕ) (at : Sites) (o : Op) (i : Kind) (a b : FlatTree) → IsNamed n k → IsPlaced at o i → Fits s n k i a → Fits s n k i b
      → is_light ws a ≡ true → is_light ws b ≡ true → is_placed at ≡ true → 0 < length (sides_of o)
      → Holds (record { at = at; clock = k; operator = o; left = a; right = b })
  own_holds k at o i a b named placed first second one two is some =
      let whole : i ≡ kind.Int = integer_kind i (sym (placed some) ∙ is) in
      record {
        named = named;
        left = subst (λ j. Fits s n k j a) whole first;
        right = subst (λ j. Fits s n k j b) whole second;
        left_light = one;
        right_light = two;
        some = some;
      }

  mutual
    inside : (k : Option ℕ) (j : Kind) (e : FlatTree) → IsNamed n k → Fits s n k j e → is_light ws e ≡ true → (c : Comparison)
        → Contains (comparisons s.flows k e) c → Holds c
    inside k j (Node at form) named fit light c w = inside_form k j at form named fit (light_form at form light) c w

    inside_form : (k : Option ℕ) (j : Kind) (at : Sites) (form : TreeForm) → IsNamed n k → FormFits s n k j at form → form_is_light ws form ≡ true
        → (c : Comparison) → Contains (form_comparisons s.flows k at form) c → Holds c
    inside_form k j at (Not e) named fit light c w = inside k kind.Bool e named fit.1 light c w
    inside_form k j at (Binary o a b) named fit light c w =
        let y : Comparison = record { at = at; clock = k; operator = o; left = a; right = b } in
        let lefts = comparisons s.flows k a in
        let rights = comparisons s.flows k b in
        let both = and_parts (is_light ws a) (is_light ws b) light in
        elim (Contains-append_cases (own o y) (lefts ++ rights) c w) [
          | inl here ↦
              let is = own_placed (is_placed at) (length (sides_of o)) y c here in
              subst Holds (in_own (is_placed at) (nat_eq (length (sides_of o)) 0) y c here)
              (own_holds k at o fit.0 a b named fit.2 fit.3 fit.4 both.0 both.1 is.0 is.1)
          | inr rest ↦ elim (Contains-append_cases lefts rights c rest) [
            | inl u ↦ inside k fit.0 a named fit.3 both.0 c u
            | inr u ↦ inside k fit.0 b named fit.4 both.1 c u
          ]
        ]
    inside_form k j at (Scale z e) named fit light c w = inside k kind.Int e named fit.1 (and_parts (nat_le (nat_abs z) heaviest) (is_light ws e) light).1 c w
    inside_form k j at (If t a b) named fit light c w =
        let first = and_parts (is_light ws t) (is_light ws a && is_light ws b) light in
        let both = and_parts (is_light ws a) (is_light ws b) first.1 in
        elim (Contains-append_cases (comparisons s.flows k t) (comparisons s.flows k a ++ comparisons s.flows k b) c w) [
          | inl here ↦ inside k kind.Bool t named fit.0 first.0 c here
          | inr rest ↦ elim (Contains-append_cases (comparisons s.flows k a) (comparisons s.flows k b) c rest)
              [ inl u ↦ inside k j a named fit.1 both.0 c u | inr u ↦ inside k j b named fit.2 both.1 c u ]
        ]
    inside_form k j at (AtMostOne es) named fit light c w = inside_all k es named fit.1 light c w
    inside_form k j at (When x e) named fit light c w = inside (nth_item s.flows x).clock j e (clocks x fit.1) fit.2 light c w
    inside_form k j at _ named fit light c w = nothing_in c w

    inside_all : (k : Option ℕ) (es : FlatTrees) → IsNamed n k → AllFit s n k es → all_light ws es ≡ true → (c : Comparison)
        → Contains (comparisons_of s.flows k es) c → Holds c
    inside_all k None named fit light c w = nothing_in c w
    inside_all k (More e es) named fit light c w =
        let both = and_parts (is_light ws e) (all_light ws es) light in
        elim (Contains-append_cases (comparisons s.flows k e) (comparisons_of s.flows k es) c w) [
          | inl here ↦ inside k kind.Bool e named fit.0 both.0 c here
          | inr rest ↦ inside_all k es named fit.1 both.1 c rest
        ]

  pub inside_item : (j : Kind) (x : Item) → ItemFits s n j x → is_light ws x.body ≡ true → (c : Comparison) → Contains (item_comparisons s.flows x) c
      → Holds c
  inside_item j x fit light c w = inside x.clock j x.body fit.0 fit.1 light c w

module _ (f : Flat) (well : IsWell (system_of f)) where
  abbrev s : System
  s = system_of f

  abbrev total : ℕ
  total = length s.flows

  abbrev ws : List ℕ
  ws = weights_of f

  flow_fits : (k : ℕ) → k < total → ItemFits s total (kind_at s.kinds k) (nth_item s.flows k)
  flow_fits k lt = wider_item s k total (omega arith) (kind_at s.kinds k) (nth_item s.flows k) (well.flows k lt)

  memory_light : (m : ℕ) → m < length s.memories → is_light ws (nth_item (memory_items s) m).body ≡ true
  memory_light m lt =
      let same = items_kept f.memories f.memories in
      let many = length-map f.memories (kept_of f.memories) in
      let count = length-map f.memories (memory_item f.memories) in
      subst (λ xs. is_light ws (nth_item xs m).body ≡ true) (sym same)
      (item_light ws (map (memory_item f.memories) f.memories) m f.memories_light (omega (arith, lt, many, count)))

  item_there : (x : Item) → Contains (all_items s) x → (j : Kind) × ItemFits s total j x × (is_light ws x.body ≡ true)
  item_there x there = elim (Contains-append_cases s.flows (memory_items s ++ s.assertions) x there) [
    | inl u ↦ (
      kind_at s.kinds u.0,
      subst (ItemFits s total (kind_at s.kinds u.0)) (read_in s.flows x u) (flow_fits u.0 u.1),
      subst (λ (y : Item). is_light ws y.body ≡ true) (read_in s.flows x u) (item_light ws s.flows u.0 f.flows_light u.1),
    )
    | inr rest ↦ elim (Contains-append_cases (memory_items s) s.assertions x rest) [
      | inl u ↦
          let lt : u.0 < length s.memories = (let less = u.1 in let many = length-map s.memories (λ m. m.item) in omega (arith, less, many)) in (
            kind_at (memory_kinds s) u.0,
            subst (ItemFits s total (kind_at (memory_kinds s) u.0)) (read_in (memory_items s) x u) (well.memories u.0 lt),
            subst (λ (y : Item). is_light ws y.body ≡ true) (read_in (memory_items s) x u) (memory_light u.0 lt),
          )
      | inr u ↦ (
        kind.Bool,
        subst (ItemFits s total kind.Bool) (read_in s.assertions x u) (well.assertions u.0 u.1),
        subst (λ (y : Item). is_light ws y.body ≡ true) (read_in s.assertions x u) (item_light ws s.assertions u.0 f.assertions_light u.1),
      )
    ]
  ]

  pub comparison_inside : (c : Comparison) → Contains (all_comparisons s) c → IsInside f c
  comparison_inside c there =
      let x = of_flat_map (item_comparisons s.flows) (all_items s) c there in
      let fit = item_there x.0 x.1 in
      let h = inside_item s total ws (λ j lt. (flow_fits j lt).0) fit.0 x.0 fit.1 fit.2 c x.2 in
      record { named = h.named; left = h.left; right = h.right; left_light = h.left_light; right_light = h.right_light; some = h.some }

-- all that are found are inside
pub all_inside : (f : Flat) → IsWell (system_of f) → (cs : List Compared) → map (comparison_in f.memories) cs ≡ all_comparisons (system_of f) → AreInside f cs
all_inside f well cs all i c got =
    let lt : i < length cs = slice_get_within cs i c got in
    let many : length (map (comparison_in f.memories) cs) ≡ length cs = length-map cs (comparison_in f.memories) in
    let d : Comparison = comparison_in f.memories c in
    let at : get_or (map (comparison_in f.memories) cs) i d ≡ d = get_or-map (comparison_in f.memories) cs i c d lt
    ∙ ap (comparison_in f.memories) (get_or_from_slice_get cs i c c got) in
    let there : Contains (map (comparison_in f.memories) cs) d =
    subst (Contains (map (comparison_in f.memories) cs)) at (Contains-get_or (map (comparison_in f.memories) cs) i d (omega (arith, lt, many))) in
    comparison_inside f well d (subst (λ (l : List Comparison). Contains l d) all there)
