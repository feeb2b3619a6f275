-- A program has as many diagram variables as are counted, and no fewer.
use Rattle.std.proofs.Common.{◌≡◌, inl, inr, ℕ, zero, suc, ◌+◌, ◌≤◌, Bool, true, false, ◌&&◌, cond, nat_eq, List, [], ◌∷◌, ◌++◌, map, flat_map, length, refl}
use Rattle.std.proofs.Common.{sym, ◌∙◌, ap, subst, arith, unwrap_or, append_assoc, length-append, Option, Some, None as Nothing}
use Rattle.std.proofs.{lemmas.Bool.Decides.nat_tests, lemmas.Bool.eqb-true, lemmas.List.append-nil, lemmas.List.Elements.Contains-append_cases}
use Rattle.std.proofs.{lemmas.Bool.or_parts}
use Rattle.std.specs.List.{Contains}
use Rattle.rv_tree.specs.{declared.tree.Op.Op, Delays.Delay, Delays.node_delays, Delays.IsNumbered, Places.Identifier, Places.Sites, Sites.is_comparison}
use Rattle.rv_tree.specs.{SitedParts.part, Tree.Tree, Tree.Node, Tree.Binary, Tree.NodeTree, Tree.ProgramTree}
use Rattle.rv_types.specs.declared.typed.Kind.TheVariants as kind
use Rattle.rv_types.specs.Instances.{CallTree, calls, Instance, callee, unrolled, main_instance, IsInstance, is_main, is_callee, all_instances, clock_in}
use Rattle.rv_types.specs.Lists.{AreTicks, AreMemories, AreComparisons, AreVariables, IsAny, MemoryAt, ComparisonAt, sides_of, memory_at}
use Rattle.rv_types.specs.Variables.{total, is_integer, is_in, memories, memories_beside, node_parts, kind_bits, memory_bits, tests_of, own_tests, order_tests}
use Rattle.rv_types.specs.Variables.{is_arrow, arrow_clocks, same_place, is_place_in, different, over_instances, ticks, variable_count}
use Rattle.rv_types.specs.{declared.typed.Clock.TheVariants.Base, Scopes.node_scope, Types.kind_of, Values.operand_kind, WellFormed.AreSited}
use Rattle.rv_agreement.specs.Programs.{is_test}
use Rattle.rv_flatten.specs.Compared as compared
use Rattle.rv_flatten.specs.{declared.comparisons.Tested.Tested, Compared.tests_in}
use Rattle.rv_flat.specs.{declared.parts.Bit.Bit, Lists.variable_of}
use Rattle.rv_flatten.proofs.ComparedParts.{found_test, own_of, node_is, sited_count, own_count, counted_among, is_site, one_at, has_site, sides_told}
use Rattle.rv_flatten.proofs.CountedVariables.{total_less, around, still_there, length_variables, ones, own_clocks, sides_counted, site, tests, ticks_few}
use Rattle.rv_flatten.proofs.CountedVariables.{memories_few, tests_few}
use Rattle.rv_flatten.proofs.{Apart.IsApart, Apart.apart_told, Apart.apart_by, Apart.apart_map, Apart.apart_flat, ComparedPlaces.has_sides}
use Rattle.rv_instances.proofs.FlowPlaces.{snoc_parts}
use Rattle.rv_types.proofs.Members.{at_head, cons_cases, in_tail, nothing_in, of_flat_map}
use Rattle.rv_types.proofs.DifferentPlaces.{of_different, total_append, total_map, total_same, total_flat_map, same_self}
use Rattle.rv_types.proofs.{ChainLaws.no_flag}
use Rattle.rv_base.proofs.{Lists.from_map, Lists.same_next, Truths.of_not_false}

-- A sum over elements that are told apart, all of which are in a list, is no more than that over the list.
sum_once : {X K : Type 0} (f : X → ℕ) (key : X → K) (xs ys : List X) → IsApart key xs → ((x : X) → Contains xs x → Contains ys x) → total f xs ≤ total f ys
sum_once f key [] ys apart all = omega arith
sum_once f key (x ∷ xs) ys apart all =
    let s = around ys x (all x (at_head x xs)) in
    let fewer = sum_once f key xs (s.0 ++ s.1) apart.1
    (λ y v. still_there s.0 s.1 x y (subst (λ l. Contains l y) s.2 (all y (in_tail x xs y v))) (λ e. apart.0 y v (ap key e))) in
    omega (arith, fewer, ap (total f) s.2, total_append f s.0 (x ∷ s.1), total_append f s.0 s.1)

-- Instances.
module _ (p : ProgramTree) (main : Identifier) (sited_calls : AreSited p) (node_in : (i : Instance) → IsInstance p main i → Contains p.nodes i.node) where
  -- the instances below one have paths that go on after its own
  below_path : (levels : ℕ) (i a : Instance) → Contains (unrolled p levels i) a → (q : Sites) × (a.path ≡ i.path ++ q)
  below_path zero i a w = nothing_in a w
  below_path (suc levels) i a w = elim (cons_cases i (flat_map (λ (c : CallTree). unrolled p levels (callee p i c)) (calls i.node)) a w) [
    | inl same ↦ ([], ap (λ (x : Instance). x.path) (sym same) ∙ sym (append-nil i.path))
    | inr rest ↦
        let r = of_flat_map (λ (c : CallTree). unrolled p levels (callee p i c)) (calls i.node) a rest in
        let s = below_path levels (callee p i r.0) a r.2 in
        (r.0.site ∷ s.0, s.1 ∙ append_assoc i.path (r.0.site ∷ []) s.0)
  ]

  unrolled_apart : (levels : ℕ) (i : Instance) → IsInstance p main i → IsApart (λ (x : Instance). x.path) (unrolled p levels i)
  unrolled_apart zero i is = tt
  unrolled_apart (suc levels) i is = (
    above,
    apart_flat (λ (c : CallTree). c.site) (λ (x : Instance). x.path) (λ (c : CallTree). unrolled p levels (callee p i c)) (calls i.node)
        (apart_told (λ (c : CallTree). c.site) (calls i.node) (sited_calls i.node (node_in i is)).apart)
        (λ c w. unrolled_apart levels (callee p i c) (is_callee c is w)) beside,
  )
    where
      beside : (c d : CallTree) (a b : Instance) → Contains (calls i.node) c → Contains (calls i.node) d → Contains (unrolled p levels (callee p i c)) a
          → Contains (unrolled p levels (callee p i d)) b → a.path ≡ b.path → c.site ≡ d.site
      beside c d a b v w in_a in_b e =
          let s = below_path levels (callee p i c) a in_a in
          let t = below_path levels (callee p i d) b in_b in
          same_next i.path c.site d.site s.0 t.0 (sym (append_assoc i.path (c.site ∷ []) s.0) ∙ sym s.1 ∙ e ∙ t.1 ∙ append_assoc i.path (d.site ∷ []) t.0)

      above : (y : Instance) → Contains (flat_map (λ (c : CallTree). unrolled p levels (callee p i c)) (calls i.node)) y → i.path ≡ y.path → ⊥
      above y w e =
          let r = of_flat_map (λ (c : CallTree). unrolled p levels (callee p i c)) (calls i.node) y w in
          let s = below_path levels (callee p i r.0) y r.2 in
          omega (arith, ap length (e ∙ s.1), length-append (i.path ++ r.0.site ∷ []) s.0, length-append i.path (r.0.site ∷ []))

  instances_apart : IsApart (λ (x : Instance). x.path) (all_instances p main)
  instances_apart = unrolled_apart (length p.nodes) (main_instance p main) is_main

-- Memories.
fresh : (n : NodeTree) (seen : List ℕ) (ds : List Delay) (d : Delay) → Contains (memories_beside n seen ds) d → is_in seen (site n d) ≡ false
fresh n seen [] d w = nothing_in d w
fresh n seen (x ∷ ds) d w = by (is_in seen (site n x)) refl (λ s v. fresh n s ds d v) w
  where
    by : (b : Bool) → is_in seen (site n x) ≡ b → ((s : List ℕ) → Contains (memories_beside n s ds) d → is_in s (site n d) ≡ false)
        → Contains (cond b (memories_beside n seen ds) (x ∷ memories_beside n (site n x ∷ seen) ds)) d → is_in seen (site n d) ≡ false
    by true e again w = again seen w
    by false e again w = elim (cons_cases x (memories_beside n (site n x ∷ seen) ds) d w) [
      | inl same ↦ subst (λ (y : Delay). is_in seen (site n y) ≡ false) same e
      | inr rest ↦ (or_parts (nat_eq (site n x) (site n d)) (is_in seen (site n d)) (again (site n x ∷ seen) rest)).1
    ]

among : (n : NodeTree) (seen : List ℕ) (ds : List Delay) (d : Delay) → Contains (memories_beside n seen ds) d → Contains ds d
among n seen [] d w = nothing_in d w
among n seen (x ∷ ds) d w = by (is_in seen (site n x)) (λ s v. among n s ds d v) w
  where
    by : (b : Bool) → ((s : List ℕ) → Contains (memories_beside n s ds) d → Contains ds d)
        → Contains (cond b (memories_beside n seen ds) (x ∷ memories_beside n (site n x ∷ seen) ds)) d → Contains (x ∷ ds) d
    by true again w = in_tail x ds d (again seen w)
    by false again w = elim (cons_cases x (memories_beside n (site n x ∷ seen) ds) d w) [
      | inl same ↦ subst (λ (y : Delay). Contains (y ∷ ds) d) (sym same) (at_head d ds)
      | inr rest ↦ in_tail x ds d (again (site n x ∷ seen) rest)
    ]

memories_apart : (n : NodeTree) (seen : List ℕ) (ds : List Delay) → IsApart (site n) (memories_beside n seen ds)
memories_apart n seen [] = tt
memories_apart n seen (x ∷ ds) = by (is_in seen (site n x)) (λ s. memories_apart n s ds)
  where
    other : (y : Delay) → Contains (memories_beside n (site n x ∷ seen) ds) y → site n x ≡ site n y → ⊥
    other y w e =
        let not : nat_eq (site n x) (site n y) ≡ false = (or_parts (nat_eq (site n x) (site n y)) (is_in seen (site n y))
        (fresh n (site n x ∷ seen) ds y w)).0 in
        absurd (grind (arith, nat_tests, not, e))

    by : (b : Bool) → ((s : List ℕ) → IsApart (site n) (memories_beside n s ds))
        → IsApart (site n) (cond b (memories_beside n seen ds) (x ∷ memories_beside n (site n x ∷ seen) ds))
    by true again = again seen
    by false again = (other, again (site n x ∷ seen))

-- Ticks.
out_of_places : (qs : List Sites) (q : Sites) → is_place_in qs q ≡ false → Contains qs q → ⊥
out_of_places [] q e w = nothing_in q w
out_of_places (r ∷ qs) q e w =
    let no = or_parts (same_place r q) (is_place_in qs q) e in
    elim (cons_cases r qs q w) [
      | inl same ↦ no_flag (sym (subst (λ (x : Sites). same_place x q ≡ false) same no.0) ∙ same_self q)
      | inr rest ↦ out_of_places qs q no.1 rest
    ]

different_apart : (qs : List Sites) → IsApart (λ (q : Sites). q) (different qs)
different_apart [] = tt
different_apart (r ∷ qs) = by (is_place_in qs r) refl (different_apart qs)
  where
    by : (b : Bool) → is_place_in qs r ≡ b → IsApart (λ (q : Sites). q) (different qs) → IsApart (λ (q : Sites). q) (cond b (different qs) (r ∷ different qs))
    by true e again = again
    by false e again = (λ y w same. out_of_places qs r e (subst (λ (x : Sites). Contains qs x) (sym same) (of_different qs y w)), again)

-- what is among the clocks of arrows
from_arrow : (i : Instance) (es : List Tree) (q : Sites) → Contains (arrow_clocks i es) q
    → (e : Tree) × Contains es e × (is_arrow e ≡ true) × (clock_in i Base e ≡ Some q)
from_arrow i [] q w = nothing_in q w
from_arrow i (e ∷ es) q w = elim (Contains-append_cases (own_clocks i e) (arrow_clocks i es) q w) [
  | inl here ↦ let r = own (is_arrow e) refl (clock_in i Base e) refl here in (e, at_head e es, r.0, r.1)
  | inr rest ↦ let r = from_arrow i es q rest in (r.0, in_tail e es r.0 r.1, r.2, r.3)
]
  where
    own : (b : Bool) → is_arrow e ≡ b → (o : Option Sites) → clock_in i Base e ≡ o
        → Contains (cond b (elim o as (λ _. List Sites) [ Nothing ↦ [] | Some p ↦ p ∷ [] ]) []) q → (is_arrow e ≡ true) × (clock_in i Base e ≡ Some q)
    own true arrow Nothing at w = nothing_in q w
    own true arrow (Some p) at w = elim (cons_cases p [] q w) [
      | inl same ↦ (arrow, at ∙ ap Some same)
      | inr none ↦ nothing_in q none
    ]
    own false arrow o at w = nothing_in q w

-- Comparisons.

-- elements are told apart, where one at most has each key
apart_once : {X : Type 0} (key : X → ℕ) (xs : List X) → ((k : ℕ) → total (λ x. cond (nat_eq (key x) k) 1 0) xs ≤ 1) → IsApart key xs
apart_once key [] once = tt
apart_once {X = X} key (x ∷ xs) once = (other, apart_once key xs (λ k. omega (arith, once k)))
  where
    other : (y : X) → Contains xs y → key x ≡ key y → ⊥
    other y w e =
        let count : X → ℕ = λ z. cond (nat_eq (key z) (key x)) 1 0 in
        let here : nat_eq (key x) (key x) ≡ true = grind (arith, nat_tests) in
        let first : count x ≡ 1 = ap (λ (b : Bool). cond b 1 0) here in
        let second : count y ≡ 1 = ap (λ k. cond (nat_eq k (key x)) 1 0) (sym e) ∙ first in
        let among = counted_among count xs y w in
        let all : count x + total count xs ≤ 1 = once (key x) in
        absurd (omega (arith, first, second, among, all))

-- A node's comparisons of integers have sites of their own, and there are as many order tests of them as are counted.
module _ (p : ProgramTree) (n : NodeTree) (numbered : IsNumbered n) where
  own_once : (k : ℕ) (e : Tree) → total (λ (t : Tested). cond (nat_eq t.site k) 1 0) (own_of n (is_test (node_scope p n)) e) ≤ own_count (is_site k) e
  own_once k (Node at Nothing (Binary o a b)) = omega arith
  own_once k (Node at (Some m) (Binary o a b)) = by (is_comparison o) (is_integer (unwrap_or (kind_of (node_scope p n) a) kind.Bool))
    where
      by : (c i : Bool) → total (λ (t : Tested). cond (nat_eq t.site k) 1 0) (cond (c && i) (record { site = m; operator = o } ∷ []) [] ++ [])
          ≤ total (sited_count (is_site k)) (cond c (part at (Some m) ∷ []) [])
      by true true = omega arith
      by true false = omega arith
      by false i = omega arith
  own_once k (Node at site _) = omega arith

  node_tests_apart : IsApart (λ (t : Tested). t.site) (tests_in p n)
  node_tests_apart = apart_once (λ (t : Tested). t.site) (tests_in p n) once
    where
      once : (k : ℕ) → total (λ (t : Tested). cond (nat_eq t.site k) 1 0) (tests_in p n) ≤ 1
      once k =
          let count : Tested → ℕ = λ t. cond (nat_eq t.site k) 1 0 in
          let own = own_of n (is_test (node_scope p n)) in
          let less = total_less (λ (e : Tree). total count (own e)) (own_count (is_site k)) (node_parts n) (λ e w. own_once k e) in
          omega (arith, ap (total count) (node_is n (is_test (node_scope p n))), total_flat_map count own (node_parts n), less, one_at n numbered k)

  abbrev test_count : Tested → ℕ
  test_count t = length (sides_of t.operator)

  no_tests : (o : Op) → is_comparison o ≡ false → tests_of o ≡ 0
  no_tests o e =
      let none : nat_eq (length (sides_of o)) 0 ≡ true = of_not_false (nat_eq (length (sides_of o)) 0) (sym (sides_told o) ∙ e) in
      sym (sides_counted o) ∙ eqb-true (length (sides_of o)) 0 none

  own_counted : (e : Tree) → Contains (node_parts n) e → total test_count (own_of n (is_test (node_scope p n)) e) ≡ own_tests p n e
  own_counted (Node at (Some k) (Binary o a b)) w = by (is_comparison o) refl (is_integer (operand_kind p n a))
    where
      by : (c : Bool) → is_comparison o ≡ c → (i : Bool)
          → total test_count (cond (c && i) (record { site = k; operator = o } ∷ []) [] ++ []) ≡ cond i (tests_of o) 0
      by true e true = omega (arith, sides_counted o)
      by true e false = refl
      by false e true = sym (no_tests o e)
      by false e false = refl
  own_counted (Node at Nothing (Binary o a b)) w = by (is_comparison o) refl (is_integer (operand_kind p n a))
    where
      by : (c : Bool) → is_comparison o ≡ c → (i : Bool) → 0 ≡ cond i (tests_of o) 0
      by true e i = let r = has_site n numbered at Nothing o a b w e in let no : Nothing ≡ Some r.0 = r.1 in cc
      by false e true = sym (no_tests o e)
      by false e false = refl
  own_counted (Node at k _) w = refl

  order_tests_are : order_tests p n ≡ total test_count (tests_in p n)
  order_tests_are =
      let own = own_of n (is_test (node_scope p n)) in
      sym (total_same (λ (e : Tree). total test_count (own e)) (own_tests p n) (node_parts n) own_counted)
      ∙ sym (total_flat_map test_count own (node_parts n)) ∙ ap (total test_count) (sym (node_is n (is_test (node_scope p n))))

-- All together.
module _ (p : ProgramTree) (main : Identifier) (sited_calls : AreSited p) (numbered : (n : NodeTree) → Contains p.nodes n → IsNumbered n)
    (node_in : (i : Instance) → IsInstance p main i → Contains p.nodes i.node)
    (all : (i : Instance) → IsInstance p main i → Contains (all_instances p main) i)
    (only : (i : Instance) → Contains (all_instances p main) i → IsInstance p main i)
  where
    abbrev instances : List Instance
    instances = all_instances p main

    apart : IsApart (λ (x : Instance). x.path) instances
    apart = instances_apart p main sited_calls node_in

    ticks_many : (qs : List Sites) → AreTicks p main qs → length (ticks p main) ≤ length qs
    ticks_many qs are =
        let clocks : Instance → List Sites = λ i. arrow_clocks i (node_parts i.node) in
        let few = sum_once (λ (q : Sites). 1) (λ (q : Sites). q) (ticks p main) qs (different_apart (flat_map clocks instances))
        (λ q w. let r = of_flat_map clocks instances q (of_different (flat_map clocks instances) q w) in
        let s = from_arrow r.0 (node_parts r.0.node) q r.2 in
        are.all r.0 s.0 q (only r.0 r.1) s.1 s.2 s.3) in
        omega (arith, few, ones qs, ones (ticks p main))

    abbrev memories_of : Instance → List MemoryAt
    memories_of i = map (memory_at p i) (memories i.node)

    memories_many : (ms : List MemoryAt) → AreMemories p main IsAny ms → over_instances p main (memory_bits p) ≤ total (λ (m : MemoryAt). kind_bits p m.kind) ms
    memories_many ms are =
        let f : MemoryAt → ℕ = λ m. kind_bits p m.kind in
        let each : IsApart (λ (m : MemoryAt). m.place) (flat_map memories_of instances) =
        apart_flat (λ (x : Instance). x.path) (λ (m : MemoryAt). m.place) memories_of instances apart
        (λ i w. apart_map (λ (m : MemoryAt). m.place) (memory_at p i) (memories i.node)
        (apart_by (site i.node) (λ (d : Delay). (memory_at p i d).place) (memories i.node)
        (λ d e v u same. (snoc_parts i.path i.path (site i.node d) (site i.node e) same).1) (memories_apart i.node [] (node_delays i.node))))
        (λ i j a b v w in_a in_b same.
        let x = from_map (memory_at p i) (memories i.node) a in_a in
        let y = from_map (memory_at p j) (memories j.node) b in_b in
        (snoc_parts i.path j.path (site i.node x.0) (site j.node y.0) (ap (λ (m : MemoryAt). m.place) x.2 ∙ same
        ∙ sym (ap (λ (m : MemoryAt). m.place) y.2))).0) in
        let few = sum_once f (λ (m : MemoryAt). m.place) (flat_map memories_of instances) ms each (λ m w. let r = of_flat_map memories_of instances m w in
        let x = from_map (memory_at p r.0) (memories r.0.node) m r.2 in
        subst (λ (m : MemoryAt). Contains ms m) x.2 (are.all r.0 x.0 (only r.0 r.1) tt (among r.0.node [] (node_delays r.0.node) x.0 x.1))) in
        let b = total_same (λ (i : Instance). total f (memories_of i)) (λ (i : Instance). memory_bits p i.node) instances
        (λ i w. total_map f (memory_at p i) (memories i.node)) in
        omega (arith, few, total_flat_map f memories_of instances, b)

    abbrev tests_at : Instance → List ComparisonAt
    tests_at i = map (compared.compared_at i.path) (tests_in p i.node)

    tests_many : (cs : List ComparisonAt) → AreComparisons p main cs → over_instances p main (order_tests p) ≤ total tests cs
    tests_many cs are =
        let each : IsApart (λ (c : ComparisonAt). c.place) (flat_map tests_at instances) =
        apart_flat (λ (x : Instance). x.path) (λ (c : ComparisonAt). c.place) tests_at instances apart
        (λ i w. apart_map (λ (c : ComparisonAt). c.place) (compared.compared_at i.path) (tests_in p i.node)
        (apart_by (λ (t : Tested). t.site) (λ (t : Tested). i.path ++ t.site ∷ []) (tests_in p i.node)
        (λ t u v w same. (snoc_parts i.path i.path t.site u.site same).1) (node_tests_apart p i.node (numbered i.node (node_in i (only i w))))))
        (λ i j a b v w in_a in_b same.
        let x = from_map (compared.compared_at i.path) (tests_in p i.node) a in_a in
        let y = from_map (compared.compared_at j.path) (tests_in p j.node) b in_b in
        (snoc_parts i.path j.path x.0.site y.0.site (ap (λ (c : ComparisonAt). c.place) x.2 ∙ same ∙ sym (ap (λ (c : ComparisonAt). c.place) y.2))).0) in
        let few = sum_once tests (λ (c : ComparisonAt). c.place) (flat_map tests_at instances) cs each (λ c w. let r = of_flat_map tests_at instances c w in
        let x = from_map (compared.compared_at r.0.path) (tests_in p r.0.node) c r.2 in
        let t = found_test p r.0.node x.0 x.1 in let v = t.2 in
        subst (λ (c : ComparisonAt). Contains cs c) x.2 (are.all r.0 t.0 (compared.compared_at r.0.path x.0) (only r.0 r.1) t.1
        (v.at, x.0.site, v.left, v.right, v.is, v.integer, has_sides x.0.operator v.compares, refl {a = r.0.path ++ x.0.site ∷ []}))) in
        let b = total_same (λ (i : Instance). order_tests p i.node) (λ (i : Instance). total tests (tests_at i)) instances
        (λ i w. order_tests_are p i.node (numbered i.node (node_in i (only i w))) ∙ sym (total_map tests (compared.compared_at i.path) (tests_in p i.node))) in
        omega (arith, few, total_flat_map tests tests_at instances, b)

    pub counted_variables : (bs : List Bit) → AreVariables p main (map variable_of bs) → length bs ≡ variable_count p main
    counted_variables bs are =
        let few_ticks = ticks_few p main all are.ticks are.are_ticks in let few_kept = memories_few p main all are.memories are.are_memories in
        let few_tests = tests_few p main all are.comparisons are.are_comparisons in let many_tests = tests_many are.comparisons are.are_comparisons in
        let many_kept = memories_many are.memories are.are_memories in
        omega (arith, length_variables p main all bs are, few_ticks, few_kept, few_tests, ticks_many are.ticks are.are_ticks, many_kept, many_tests)
