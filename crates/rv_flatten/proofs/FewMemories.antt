-- A program that is accepted has few memories: no more than expressions in all its instances.
use Rattle.std.proofs.Common.{◌≡◌, ℕ, ◌+◌, ◌≤◌, List, [], ◌∷◌, ◌++◌, map, flat_map, length, get_or, refl, sym, ◌∙◌, ap, subst, arith, Option, length-append}
use Rattle.std.proofs.lemmas.List.{get_or_default, length-map}
use Rattle.std.proofs.lemmas.Map.Made.{length-le_from_is_member, is_member-Decides, IsDistinct-from_AllPairs}
use Rattle.std.proofs.{lemmas.Bool.Decides.Decides-eqb, lemmas.Cmp.nat_list_eq_equiv, lemmas.Slice.Eq.slice_eq-Decides}
use Rattle.std.specs.{Bool.Decides, List.AllPairs, List.Contains}
use Rattle.rv_tree.specs.Tree.{Tree, Node, Form, Not, Minus, Pre, Current, When, Binary, If, AtMostOne, Call, Trees, None, More, EquationTree, AssertionTree}
use Rattle.rv_tree.specs.Tree.{NodeTree, ProgramTree}
use Rattle.rv_tree.specs.Places.{Identifier, Sites, is_same}
use Rattle.rv_tree.specs.Delays.{delays, form_delays, delays_of_all, delays_in_equations, delays_in_assertions, node_delays}
use Rattle.rv_types.specs.Lists.{AreRising, AreMemories, IsAny, MemoryAt, memory_places, delay_place}
use Rattle.rv_types.specs.{Instances.Instance, Instances.IsInstance, Instances.all_instances, Needs.IsBefore, Variables.total}
use Rattle.rv_instances.specs.Counts.{size, form_size, size_of_all, node_size, expanded}
use Rattle.rv_types.proofs.{Members.in_flat_map, Members.in_map, PlaceOrders.not_itself}
use Rattle.rv_base.proofs.Lists.{from_map}

-- places that rise are no more than those of a list that has them all
no_more : (xs ys : List Sites) → AreRising xs → ((x : Sites) → Contains xs x → Contains ys x) → length xs ≤ length ys
no_more xs ys up all = length-le_from_is_member nat_list_eq_equiv xs ys (IsDistinct-from_AllPairs same xs apart)
    (λ q w. (is_member-Decides same ys q).1 (all q ((is_member-Decides same xs q).0 w)))
  where
    same : (a b : Sites) → Decides (is_same a b) (a ≡ b)
    same a b = slice_eq-Decides Decides-eqb a b (is_same a b) refl

    apart : AllPairs (λ (a b : Sites). a ≡ b → ⊥) xs
    apart i j d lt within e =
        let there : get_or xs i [] ≡ get_or xs j [] = get_or_default xs i [] d (omega (arith, lt, within)) ∙ e ∙ sym (get_or_default xs j [] d within) in
        not_itself (get_or xs j []) (subst (λ (q : Sites). IsBefore q (get_or xs j [])) there (up i j lt within))

-- There are no more `pre` and `current` than expressions.

mutual
  delays_few : (e : Tree) → length (delays e) ≤ size e
  delays_few (Node at site form) = form_few site form

  form_few : (site : Option ℕ) (form : Form) → length (form_delays site form) ≤ 1 + form_size form
  form_few site (Not e) = omega (arith, delays_few e)
  form_few site (Minus e) = omega (arith, delays_few e)
  form_few site (Pre e) = omega (arith, delays_few e)
  form_few site (Current e) = omega (arith, delays_few e)
  form_few site (When e c) = omega (arith, delays_few e)
  form_few site (Binary o a b) = omega (arith, delays_few a, delays_few b, length-append (delays a) (delays b))
  form_few site (If a b c) =
      omega (arith, delays_few a, delays_few b, delays_few c, length-append (delays a) (delays b ++ delays c), length-append (delays b) (delays c))
  form_few site (AtMostOne es) = omega (arith, all_few es)
  form_few site (Call f es) = omega (arith, all_few es)
  form_few site _ = omega arith

  all_few : (es : Trees) → length (delays_of_all es) ≤ size_of_all es
  all_few None = omega arith
  all_few (More e es) = omega (arith, delays_few e, all_few es, length-append (delays e) (delays_of_all es))

equations_few : (qs : List EquationTree) → length (delays_in_equations qs) ≤ total (λ (q : EquationTree). size q.right) qs
equations_few [] = omega arith
equations_few (q ∷ qs) = omega (arith, delays_few q.right, equations_few qs, length-append (delays q.right) (delays_in_equations qs))

assertions_few : (rest : List AssertionTree) → length (delays_in_assertions rest) ≤ total (λ (a : AssertionTree). size a.body) rest
assertions_few [] = omega arith
assertions_few (a ∷ rest) = omega (arith, delays_few a.body, assertions_few rest, length-append (delays a.body) (delays_in_assertions rest))

node_few : (n : NodeTree) → length (node_delays n) ≤ node_size n
node_few n =
    omega (arith, equations_few n.equations, assertions_few n.assertions, length-append (delays_in_equations n.equations) (delays_in_assertions n.assertions))

-- the places of the memories of some instances
places_in : Instance → List Sites
places_in i = map (delay_place i) (node_delays i.node)

places_few : (is : List Instance) → length (flat_map places_in is) ≤ total (λ (i : Instance). node_size i.node) is
unfolding places_in
places_few [] = omega arith
places_few (i ∷ is) =
    let own = map (delay_place i) (node_delays i.node) in
    omega (arith, node_few i.node, length-map (node_delays i.node) (delay_place i), places_few is, length-append own (flat_map places_in is))

pub few_memories : (p : ProgramTree) (main : Identifier) (ms : List MemoryAt) → ((i : Instance) → IsInstance p main i → Contains (all_instances p main) i)
    → AreMemories p main IsAny ms → expanded p main ≤ 200000 → length ms ≤ 200000
unfolding places_in
few_memories p main ms counted are within =
    let few = no_more (memory_places ms) (flat_map places_in (all_instances p main)) are.rising (λ q w. there q w) in
    omega (arith, few, places_few (all_instances p main), length-map ms (λ (m : MemoryAt). m.place), within)
  where
    there : (q : Sites) → Contains (memory_places ms) q → Contains (flat_map places_in (all_instances p main)) q
    there q w =
        let m = from_map (λ (m : MemoryAt). m.place) ms q w in
        let r = are.only m.0 m.1 in
        let is : delay_place r.0 r.1 ≡ q = ap (λ (m : MemoryAt). m.place) (sym r.5) ∙ m.2 in
        subst (λ (q : Sites). Contains (flat_map places_in (all_instances p main)) q) is
        (in_flat_map places_in (all_instances p main) r.0 (delay_place r.0 r.1) (counted r.0 r.2) (in_map (delay_place r.0) (node_delays r.0.node) r.1 r.4))
