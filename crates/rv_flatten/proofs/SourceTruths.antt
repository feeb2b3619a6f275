-- That the parts of a source fit, which it keeps only as a truth, is had again.
use Rattle.std.proofs.Common.{◌≡◌, ℕ, ◌+◌, ◌<◌, ◌≤◌, zero, suc, inl, inr, List, [], ◌∷◌, length, map, get_or, sym, ◌∙◌, ap, subst}
use Rattle.std.proofs.{Math.Logic.∥∥₁_elim, Math.Logic.∥∥₁_map, Props.props}
use Rattle.std.proofs.lemmas.List.Elements.{All-contains, All-contains_itself, All-weaker}
use Rattle.std.specs.List.{Contains, flat_map}
use Rattle.rv_tree.specs.Tree.{ConstantTree, NodeTree, ProgramTree}
use Rattle.rv_tree.specs.Places.{Identifier, Sites, flows, is_among, is_same}
use Rattle.rv_tree.specs.{Delays.Delay, Delays.IsNumbered, SitedParts.node_parts, SourceTrees.IsSourceTree}
use Rattle.rv_types.specs.Instances.{CallTree, calls, callee, Instance, place, IsInstance, is_callee, is_main, IsNode, all_instances, main_instance, name_at}
use Rattle.rv_types.specs.Instances.{unrolled}
use Rattle.rv_types.specs.{declared.typed.Typed.Typed, Lists.sites_of, Needs.IsAmongFirst, Needs.IsSequence, Needs.needs_of}
use Rattle.rv_types.specs.{Settled.IsAnswer, Settled.IsSettled, WellFormed.AreSited, WellFormed.AreWell}
use Rattle.rv_instances.specs.{declared.answer.Instance.Instance as Numbered, declared.answer.Order.Order, AllInstances.AreCounted, AllInstances.AreInstances}
use Rattle.rv_instances.specs.{AllInstances.numbered, Expanded.IsExpanded, Fitting.Fits}
use Rattle.rv_types.proofs.Members.{among_contains, among_from, at_head, cons_cases, in_map, in_tail, nothing_in, of_flat_map, text_itself}
use Rattle.rv_meaning.proofs.{Defined.same_instance, NameLemmas.same_text}
use Rattle.rv_flatten.proofs.{Assembled.is_named, GivenParts.main_name, Searches.among_again, Searches.before_again, Searches.found, Searches.refuted}
use Rattle.rv_flatten.proofs.{Searches.site_again, TreeTruths.same_tree, WeightTruths.light_again}

-- what is unrolled from an instance are instances
only_instances : (p : ProgramTree) (main : Identifier) (levels : ℕ) (a i : Instance) → IsInstance p main a → Contains (unrolled p levels a) i
    → IsInstance p main i
only_instances p main zero a i is w = nothing_in i w
only_instances p main (suc levels) a i is w = elim (cons_cases a (flat_map (λ (c : CallTree). unrolled p levels (callee p a c)) (calls a.node)) i w) [
  | inl same ↦ subst (IsInstance p main) same is
  | inr rest ↦
      let v = of_flat_map (λ (c : CallTree). unrolled p levels (callee p a c)) (calls a.node) i rest in
      only_instances p main levels (callee p a v.0) i (is_callee v.0 is v.1) v.2
]

-- what a list is mapped to stands for one of it
of_map : {X Y : Type 0} (f : X → Y) (xs : List X) (y : Y) → Contains (map f xs) y → (x : X) × Contains xs x × (f x ≡ y)
of_map f [] y w = nothing_in y w
of_map f (x ∷ xs) y w = elim (cons_cases (f x) (map f xs) y w) [
  | inl same ↦ (x, at_head x xs, same)
  | inr rest ↦ let v = of_map f xs y rest in (v.0, in_tail x xs v.0 v.1, v.2)
]

-- how the sites of a node are numbered
numbered_again : (n : NodeTree) → ∥ IsNumbered n ∥₁ → IsNumbered n
numbered_again n t = record {
  few = ∥∥₁_elim t (hlevel props) (λ is. is.few);
  beyond = λ d w.
      let s = site_again (λ s. length (flows n) ≤ s) (λ s. hlevel props) d.site
      (∥∥₁_map t (λ is. let b = is.beyond d w in (b.0, (b.1, b.2)))) in
      (s.0, s.1.0, s.1.1);
  own = λ d e v w same.
      let operands = same_tree d.operand e.operand (∥∥₁_map t (λ is. ap (λ (x : Delay). x.operand) (is.own d e v w same))) in
      λ i. record { site = same i; operand = operands i };
  next = λ q w.
      let s = site_again (λ s. (length (flows n) ≤ s) × (s < length (flows n) + length (node_parts n))) (λ s. hlevel props) q.site
      (∥∥₁_map t (λ is. let b = is.next q w in (b.0, (b.1, (b.2, b.3))))) in
      (s.0, s.1.0, s.1.1.0, s.1.1.1);
  in_order = λ q r s u v w lt e f. ∥∥₁_elim t (hlevel props) (λ is. is.in_order q r s u v w lt e f);
  apart = λ i j q lt within e. refuted t (λ is. is.apart i j q lt within e);
}

-- what is so of the tree of every source
tree_again : (p : ProgramTree) → ∥ IsSourceTree p ∥₁ → IsSourceTree p
tree_again p t = record {
  bounded = record {
    types = ∥∥₁_elim t (hlevel props) (λ is. is.bounded.types);
    constants = ∥∥₁_elim t (hlevel props) (λ is. is.bounded.constants);
    nodes = ∥∥₁_elim t (hlevel props) (λ is. is.bounded.nodes);
    labels = λ d xs w e. ∥∥₁_elim t (hlevel props) (λ is. is.bounded.labels d xs w e);
    node_flows = λ n w. ∥∥₁_elim t (hlevel props) (λ is. is.bounded.node_flows n w);
  };
  numbered = λ n w. numbered_again n (∥∥₁_map t (λ is. is.numbered n w));
  in_order = λ front back c e.
      All-weaker (Contains front) (λ d. d.name.at < c.name.at)
      (λ d w. ∥∥₁_elim t (hlevel props) (λ is. All-contains (λ (x : ConstantTree). x.name.at < c.name.at) front d (is.in_order front back c e) w)) front
      (All-contains_itself front);
}

-- the types, clocks and constants of a program, with the name of its main node
settled_again : (p : ProgramTree) (t : Typed) → ∥ IsAnswer p t ∥₁ → IsSettled p (name_at p t.main) t
settled_again p t truth =
    let settled : ∥ IsSettled p (name_at p t.main) t ∥₁ = ∥∥₁_map truth (λ a. subst (λ m. IsSettled p m t) (sym (main_name p a.0 t a.1)) a.1) in
    record {
      has_main = ∥∥₁_elim settled (hlevel props) (λ s. s.has_main);
      names = ∥∥₁_elim settled (hlevel props) (λ s. s.names);
      types = ∥∥₁_elim settled (hlevel props) (λ s. s.types);
      clocks = ∥∥₁_elim settled (hlevel props) (λ s. s.clocks);
      observer = ∥∥₁_elim settled (hlevel props) (λ s. s.observer);
      main_number = ∥∥₁_elim settled (hlevel props) (λ s. s.main_number);
      flow_types = ∥∥₁_elim settled (hlevel props) (λ s. s.flow_types);
      flow_times = ∥∥₁_elim settled (hlevel props) (λ s. s.flow_times);
      values = ∥∥₁_elim settled (hlevel props) (λ s. s.values);
    }

module _ (p : ProgramTree) (main : Identifier) (well : AreWell p) (named : IsNode p main) where
  only : (i : Instance) → Contains (all_instances p main) i → IsInstance p main i
  only i w = only_instances p main (length p.nodes) (main_instance p main) i is_main w

  -- the instances over which quantities are counted
  counted_again : ∥ AreCounted p main ∥₁ → AreCounted p main
  counted_again t = record {
    all = λ i is.
        let j = found (λ (x : Instance). is_same x.path i.path) (all_instances p main) (∥∥₁_map t (λ c. (i, c.all i is, text_itself i.path))) in
        subst (Contains (all_instances p main)) (same_instance p main well named j.0 i (only j.0 j.1) is (same_text j.0.path i.path j.2)) j.1;
    only = only;
  }

  -- the instances by their paths
  instances_again : AreCounted p main → (list : List Numbered) → ∥ AreInstances p main list ∥₁ → AreInstances p main list
  instances_again counted list t = record {
    rising = λ j k x lt within. before_again (get_or list j x).path (get_or list k x).path (∥∥₁_map t (λ are. are.rising j k x lt within));
    all = λ i is.
        let x = found (λ (x : Numbered). is_same x.path i.path) list (∥∥₁_map t (λ are. (numbered p i, are.all i is, text_itself i.path))) in
        let same : x.0 ≡ numbered p i = ∥∥₁_elim t (hlevel props) (λ are.
        let v = are.only x.0 x.1 in
        let paths : v.0.path ≡ i.path = ap (λ (y : Numbered). y.path) (sym v.2) ∙ same_text x.0.path i.path x.2 in
        v.2 ∙ ap (numbered p) (same_instance p main well named v.0 i v.1 is paths)) in
        subst (Contains list) same x.1;
    only = λ x w.
        let i = found (λ (j : Instance). is_same j.path x.path) (all_instances p main) (∥∥₁_map t (λ are.
        let v = are.only x w in
        (v.0, counted.all v.0 v.1, ap (λ q. is_same v.0.path q) (ap (λ (y : Numbered). y.path) v.2) ∙ text_itself v.0.path))) in
        let is : IsInstance p main i.0 = only i.0 i.1 in
        let same : x ≡ numbered p i.0 = ∥∥₁_elim t (hlevel props) (λ are.
        let v = are.only x w in
        let paths : v.0.path ≡ i.0.path = ap (λ (y : Numbered). y.path) (sym v.2) ∙ sym (same_text i.0.path x.path i.2) in
        v.2 ∙ ap (numbered p) (same_instance p main well named v.0 i.0 v.1 is paths)) in
        (i.0, is, same);
  }

  -- the sequence of the flows
  sequence_again : AreCounted p main → (sequence : List Sites) → ∥ IsSequence p main sequence ∥₁ → IsSequence p main sequence
  sequence_again counted sequence t = record {
    once = λ j k lt within e. refuted t (λ is. is.once j k lt within e);
    flows = λ q flow. among_contains sequence q (∥∥₁_elim t (hlevel props) (λ is. among_from sequence q (is.flows q flow)));
    only = λ k within.
        let q : Sites = get_or sequence k [] in
        let i = found (λ (j : Instance). is_among (map (place j) (flows j.node)) q) (all_instances p main) (∥∥₁_map t (λ is.
        let f = is.only k within in (
          f.0,
          counted.all f.0 f.2,
          among_from (map (place f.0) (flows f.0.node)) q
              (subst (Contains (map (place f.0) (flows f.0.node))) (sym f.4) (in_map (place f.0) (flows f.0.node) f.1 f.3)),
        ))) in
        let x = of_map (place i.0) (flows i.0.node) q (among_contains (map (place i.0) (flows i.0.node)) q i.2) in
        (i.0, x.0, only i.0 i.1, x.1, sym x.2);
    after = λ k g within gives.
        All-weaker (Contains (needs_of p g)) (IsAmongFirst p main sequence k)
        (λ q w. among_again sequence k q (∥∥₁_map t (λ is. All-contains (IsAmongFirst p main sequence k) (needs_of p g) q (is.after k g within gives) w)))
        (needs_of p g) (All-contains_itself (needs_of p g));
  }

-- All of it, by what the rules give for the tree.
pub fits_again : ((p : ProgramTree) (main : Identifier) (t : Typed) → IsSourceTree p → IsSettled p main t → AreWell p)
    → ((p : ProgramTree) → IsSourceTree p → AreSited p) → (p : ProgramTree) (t : Typed) (o : Order) → ∥ Fits p t o ∥₁ → Fits p t o
fits_again well_formed sited p t o truth =
    let main : Identifier = name_at p t.main in
    let tree : IsSourceTree p = tree_again p (∥∥₁_map truth (λ f. f.tree)) in
    let settled : IsSettled p main t = settled_again p t (∥∥₁_map truth (λ f. f.settled)) in
    let well : AreWell p = well_formed p main t tree settled in
    let named : IsNode p main = ∥∥₁_elim truth (hlevel props) (λ f. is_named p main o.instances f.instances) in
    let counted : AreCounted p main = counted_again p main well named (∥∥₁_map truth (λ f. f.counted)) in
    let instances : IsExpanded p main o.instances = record {
      bounded = tree.bounded;
      named = settled.names;
      sited = sited p tree;
      well = well;
      declared = ∥∥₁_elim truth (hlevel props) (λ f. f.instances.declared);
      all = instances_again p main well named counted o.instances (∥∥₁_map truth (λ f. f.instances.all));
      few = ∥∥₁_elim truth (hlevel props) (λ f. f.instances.few);
    } in
    let sequence : IsSequence p main (sites_of o.sequence) = sequence_again p main well named counted (sites_of o.sequence) (∥∥₁_map truth (λ f. f.sequence)) in
    record {
      tree = tree;
      settled = (main, settled);
      instances = instances;
      counted = counted;
      sequence = sequence;
      light = light_again p main well named o.instances instances (sites_of o.sequence) sequence (∥∥₁_map truth (λ f. f.light));
      few = record {
        instances = ∥∥₁_elim truth (hlevel props) (λ f. f.few.instances);
        expressions = ∥∥₁_elim truth (hlevel props) (λ f. f.few.expressions);
        memories = ∥∥₁_elim truth (hlevel props) (λ f. f.few.memories);
        inputs = ∥∥₁_elim truth (hlevel props) (λ f. f.few.inputs);
        labels = λ d w. ∥∥₁_elim truth (hlevel props) (λ f. f.few.labels d w);
        variables = ∥∥₁_elim truth (hlevel props) (λ f. f.few.variables);
      };
      nodes = ∥∥₁_elim truth (hlevel props) (λ f. f.nodes);
    }
