-- The comparisons of all instances, sorted by places, are those of the program.
use Rattle.std.proofs.Common.{◌≡◌, ℕ, ◌<◌, true, false, not, nat_eq, List, [], ◌∷◌, ◌++◌, map, length, get_or, refl, sym, ◌∙◌, ap, subst, arith, Some}
use Rattle.std.proofs.lemmas.Bool.Decides.{nat_tests}
use Rattle.std.specs.List.{Contains}
use Rattle.rv_tree.specs.{declared.tree.Op.Op, Sites.is_comparison, Tree.Tree, Tree.Node, Tree.Binary, Tree.ProgramTree, Places.Identifier}
use Rattle.rv_types.specs.Lists.{AreRising, ComparisonAt, Compares, AreComparisons, sides_of}
use Rattle.rv_types.specs.{Instances.Instance, Instances.no_node, Instances.IsInstance, Variables.node_parts}
use Rattle.rv_instances.specs.{declared.answer.Instance.Instance as Numbered, AllInstances.numbered, Expanded.IsExpanded, Expanded.no_instance}
use Rattle.rv_flatten.specs.{declared.comparisons.Tested.Tested, declared.kept.Comparison.Comparison, Kept.found_comparison, NodeReaders.lists_to}
use Rattle.rv_flatten.specs.{NodeReaders.AreSortedBy, Compared.tests_in, Compared.compared_at, Compared.compared_in}
use Rattle.rv_flatten.proofs.InstanceNumbers.{in_lists, from_lists, made_of}
use Rattle.rv_flatten.proofs.ComparedParts.{test_found, found_test, one_operator, sides_told}
use Rattle.rv_instances.proofs.FlowPlaces.{snoc_parts}
use Rattle.rv_instances.proofs.ExpandedLaws.{node_in, instance_at, number_at, path_is, node_is, same as same_instance}
use Rattle.rv_types.proofs.Members.{in_map}
use Rattle.rv_base.proofs.{Lists.from_map, Truths.of_not_true}

-- the comparisons are the operators with order tests
pub has_sides : (o : Op) → is_comparison o ≡ true → 0 < length (sides_of o)
has_sides o e = some (length (sides_of o)) (of_not_true (nat_eq (length (sides_of o)) 0) (sym (sides_told o) ∙ e))
  where
    some : (n : ℕ) → nat_eq n 0 ≡ false → 0 < n
    some n e = grind (arith, nat_tests, e)

of_sides : (o : Op) → 0 < length (sides_of o) → is_comparison o ≡ true
of_sides o lt = sides_told o ∙ ap not (some (length (sides_of o)) lt)
  where
    some : (n : ℕ) → 0 < n → nat_eq n 0 ≡ false
    some n lt = grind (arith, nat_tests, lt)

-- the places of comparisons, as they are found
found_places : (cs : List Comparison) → map (λ (c : ComparisonAt). c.place) (map found_comparison cs) ≡ map (λ (c : Comparison). c.place.sites) cs
found_places [] = refl
found_places (c ∷ cs) = ap (λ l. c.place.sites ∷ l) (found_places cs)

-- A comparison of an instance.
record IsCompared (p : ProgramTree) (main : Identifier) (c : ComparisonAt) : Type 0 where
  i : Instance
  e : Tree
  is : IsInstance p main i
  there : Contains (node_parts i.node) e
  compares : Compares p i e c

module _ (p : ProgramTree) (main : Identifier) (instances : List Numbered) (known : IsExpanded p main instances) where
  -- comparisons with one place are one
  one_comparison : (c d : ComparisonAt) → IsCompared p main c → IsCompared p main d → c.place ≡ d.place → c ≡ d
  one_comparison c d x y same =
      let v = x.compares in let w = y.compares in let s = v.1 in
      let r = snoc_parts x.i.path y.i.path s w.1 (sym v.7 ∙ same ∙ w.7) in
      let one = same_instance p main instances known x.i y.i x.is y.is r.0 in
      let there : Contains (node_parts y.i.node) (Node v.0 (Some w.1) (Binary c.operator v.2 v.3)) =
      subst (λ k. Contains (node_parts y.i.node) (Node v.0 (Some k) (Binary c.operator v.2 v.3))) r.1
      (subst (λ (e : Tree). Contains (node_parts y.i.node) e) v.4 (subst (λ (i : Instance). Contains (node_parts i.node) x.e) one x.there)) in
      let other : Contains (node_parts y.i.node) (Node w.0 (Some w.1) (Binary d.operator w.2 w.3)) = subst (λ (e : Tree). Contains (node_parts y.i.node) e) w.4
      y.there in
      let operator = one_operator y.i.node (known.well.numbered y.i.node (node_in p main instances known y.i y.is)) v.0 w.0 w.1 c.operator d.operator v.2 v.3
      w.2 w.3 there other (of_sides c.operator v.6) (of_sides d.operator w.6) in
      λ k. record { place = same k; operator = operator k }

  abbrev own : ℕ → List ComparisonAt
  own = compared_in (map (tests_in p) p.nodes) instances

  own_is : (m : ℕ) (i : Instance) → IsInstance p main i → get_or instances m no_instance ≡ numbered p i → own m ≡ map (compared_at i.path) (tests_in p i.node)
  own_is m i is e =
      let node = made_of (tests_in p) p.nodes (get_or instances m no_instance).node no_node ∙ ap (tests_in p) (node_is p main instances known m i is e) in
      let path = path_is p main instances known m i e in
      λ t. map (compared_at (path t)) (node t)

  -- what is found of an instance
  test_there : (i : Instance) → IsInstance p main i → (t : Tested) → Contains (tests_in p i.node) t → IsCompared p main (compared_at i.path t)
  test_there i inst t w =
      let r = found_test p i.node t w in let v = r.2 in
      record {
        i = i;
        e = r.0;
        is = inst;
        there = r.1;
        compares = (v.at, t.site, v.left, v.right, v.is, v.integer, has_sides t.operator v.compares, refl {a = i.path ++ t.site ∷ []});
      }

  compared_there : (i : Instance) → IsInstance p main i → (c : ComparisonAt) → Contains (map (compared_at i.path) (tests_in p i.node)) c → IsCompared p main c
  compared_there i inst c w =
      let t = from_map (compared_at i.path) (tests_in p i.node) c w in
      subst (λ (x : ComparisonAt). IsCompared p main x) t.2 (test_there i inst t.0 t.1)

  module _ (found : List Comparison) (is : map found_comparison found ≡ lists_to own (length instances)) where
    only_compared : (c : Comparison) → Contains found c → IsCompared p main (found_comparison c)
    only_compared c w =
        let all = subst (λ (l : List ComparisonAt). Contains l (found_comparison c)) is (in_map found_comparison found c w) in
        let a = from_lists own (length instances) (found_comparison c) all in
        let b = instance_at p main instances known a.0 a.1 in
        compared_there b.0 b.1 (found_comparison c) (subst (λ (l : List ComparisonAt). Contains l (found_comparison c)) (own_is a.0 b.0 b.1 b.2) a.2)

    all_compared : (i : Instance) (e : Tree) (c : ComparisonAt) → IsInstance p main i → Contains (node_parts i.node) e → Compares p i e c
        → (x : Comparison) × Contains found x × (found_comparison x ≡ c)
    all_compared i e c inst w v =
        let n = number_at p main instances known i inst in
        let t : Tested = record { site = v.1; operator = c.operator } in
        let at : Contains (node_parts i.node) (Node v.0 (Some v.1) (Binary c.operator v.2 v.3)) = subst (λ (e : Tree). Contains (node_parts i.node) e) v.4 w in
        let test = test_found p i.node v.0 v.1 c.operator v.2 v.3 at (of_sides c.operator v.6) v.5 in
        let here = in_map (compared_at i.path) (tests_in p i.node) t test in
        let x : ComparisonAt = compared_at i.path t in
        let own_here = subst (λ (l : List ComparisonAt). Contains l x) (sym (own_is n.0 i inst n.2)) here in
        let all = in_lists own (length instances) n.0 x n.1 own_here in
        let k = from_map found_comparison found x (subst (λ (l : List ComparisonAt). Contains l x) (sym is) all) in
        (k.0, k.1, k.2 ∙ (λ j. record { place = sym v.7 j; operator = c.operator }))

    module _ (cs : List Comparison) (up : AreSortedBy (λ (c : Comparison). c.place.sites) found cs) where
      pub are_comparisons : AreComparisons p main (map found_comparison cs)
      are_comparisons = record {
        rising = subst AreRising (sym (found_places cs)) up.rising;
        all = λ i e c inst w v.
            let a = all_compared i e c inst w v in let y = up.all a.0 a.1 in let own = only_compared y.0 (up.only y.0 y.1) in
            let other = only_compared a.0 a.1 in
            let one = one_comparison (found_comparison y.0) (found_comparison a.0) own other y.2 in
            subst (λ (c : ComparisonAt). Contains (map found_comparison cs) c) (one ∙ a.2) (in_map found_comparison cs y.0 y.1);
        only = λ c w.
            let y = from_map found_comparison cs c w in
            let x = subst (λ (c : ComparisonAt). IsCompared p main c) y.2 (only_compared y.0 (up.only y.0 y.1)) in
            (x.i, x.e, x.is, x.there, x.compares);
      }
