-- One node more in a walk over the nodes of a program in their order.
use Rattle.std.proofs.Common.{◌≡◌, ℕ, zero, suc, ◌+◌, ◌<◌, ◌≤◌, inl, inr, Bool, false, List, [], map, length, get_or, set, replicate, refl, sym, ◌∙◌, ap, subst}
use Rattle.std.proofs.Common.{arith, slice_get, Some}
use Rattle.std.proofs.lemmas.List.{length-set, length-replicate, get_or-set_same, get_or-set_other}
use Rattle.std.proofs.{lemmas.Bool.cases_eq, lemmas.Option.get_or_from_slice_get, lemmas.Grind.same_number_lists}
use Rattle.std.specs.List.{Contains}
use Rattle.rv_tree.specs.declared.tree.Node as declared
use Rattle.rv_tree.specs.{Places.Identifier, Tree.NodeTree, Tree.ProgramTree, Tree.node_tree}
use Rattle.rv_types.specs.{declared.typed.Clock.Clock, Names.name_faults, Instances.calls, Instances.no_node}
use Rattle.rv_sizes.specs.Ticks.{has_base, sites_of_clocks, ticking, ticking_where, own_ticks}
use Rattle.rv_sizes.specs.{Capped.capped, TickWalk.ticks_on_base, TickWalk.AreTicked}
use Rattle.rv_calls.specs.{Callings.callings_of, Callings.call_graph, Graphs.IsOrdered}
use Rattle.rv_instances.specs.AllInstances.{names_of}
use Rattle.rv_instances.proofs.{Lists.contains_at, Lists.length_map, Known.map_at}
use Rattle.rv_calls.proofs.Recursions.{graph_size}
use Rattle.rv_sizes.proofs.TickLevels.{at_is, among, number_within, enough, earlier, steady}
use Rattle.rv_sizes.proofs.TickWalks.{ticks_known}

one_less : (n j : ℕ) → j < n → (m : ℕ) × (n ≡ suc m)
one_less zero j lt = absurd (omega (arith, lt))
one_less (suc n) j lt = (n, refl)

module _ (p : ProgramTree) (named : name_faults p ≡ []) (order : List ℕ) (ordered : IsOrdered (call_graph (callings_of p)) order) where
  pub ticked_start : (n : ℕ) → n ≡ length p.nodes → AreTicked p order 0 (replicate n false) (replicate n 0)
  ticked_start n is = record {
    bases_size = length-replicate {A = Bool} n false ∙ is;
    own_size = length-replicate {A = ℕ} n 0 ∙ is;
    base = λ j less. absurd (omega (arith, less));
    count = λ j less. absurd (omega (arith, less));
  }

  -- what is found in the next node is what ticks in it
  found_is : (j : ℕ) (bases : List Bool) (own : List ℕ) → AreTicked p order j bases own → j < length order
      → ticking_where (get_or p.nodes (get_or order j 0) no_node) (ticks_on_base (names_of p) bases)
      ≡ ticking p (length p.nodes) (get_or p.nodes (get_or order j 0) no_node)
  found_is j bases own t lt =
      let m = one_less (length p.nodes) j (enough p named order ordered j lt) in
      ticks_known (get_or p.nodes (get_or order j 0) no_node) (ticks_on_base (names_of p) bases) p m.0
      (λ c w.
      let e = earlier p named order ordered j lt c (subst (λ (n : NodeTree). Contains (calls n) c) (sym (at_is p named order ordered j)) w) in
      let within = enough p named order ordered j lt in
      ap (λ k. get_or bases k false) (sym e.2) ∙ t.base e.0 e.1 (omega (arith, e.1, lt))
      ∙ ap (λ (n : NodeTree). has_base (ticking p (length p.nodes) n)) (sym (at_is p named order ordered e.0))
      ∙ ap has_base (steady p named order ordered (length p.nodes) m.0 e.0 (omega (arith, e.1, lt)) (omega (arith, e.1, within))
      (omega (arith, e.1, within, m.1)))
      ∙ ap (λ (n : NodeTree). has_base (ticking p m.0 n)) (sym e.3))
      ∙ ap (λ levels. ticking p levels (get_or p.nodes (get_or order j 0) no_node)) (sym m.1)

  -- what is set for the next node, and what has been set for those before it
  one_set : {X : Type 0} (none : X) (of : NodeTree → X) (old new : List X) (j : ℕ) → length old ≡ length p.nodes → j < length order
      → ((i : ℕ) → i < j → i < length order → get_or old (get_or order i 0) none ≡ of (get_or p.nodes (get_or order i 0) no_node))
      → new ≡ set old (get_or order j 0) (of (get_or p.nodes (get_or order j 0) no_node)) → (i : ℕ) → i < j + 1 → i < length order
      → get_or new (get_or order i 0) none ≡ of (get_or p.nodes (get_or order i 0) no_node)
  one_set {X} none of old new j size lt earlier_set is i less inside = ap (λ (l : List X). get_or l (get_or order i 0) none) is ∙ elim (cases_eq i j) [
    | inl same ↦ subst (λ i. get_or (set old (get_or order j 0) here) (get_or order i 0) none ≡ of (get_or p.nodes (get_or order i 0) no_node)) (sym same)
        (get_or-set_same old (get_or order j 0) here none (subst (λ n. get_or order j 0 < n) (sym size) (number_within p named order ordered j lt)))
    | inr other ↦
        let before : i < j = omega (arith, less, other) in
        get_or-set_other old (get_or order j 0) (get_or order i 0) here none (ordered.once i j before lt) ∙ earlier_set i before inside
  ]
    where
      here : X
      here = of (get_or p.nodes (get_or order j 0) no_node)

  pub ticked_step : (j : ℕ) (bases new_bases : List Bool) (own new_own : List ℕ) → AreTicked p order j bases own → j < length order
      → new_bases ≡ set bases (get_or order j 0) (has_base (ticking p (length p.nodes) (get_or p.nodes (get_or order j 0) no_node)))
      → new_own ≡ set own (get_or order j 0) (capped (own_ticks p (get_or p.nodes (get_or order j 0) no_node)))
      → AreTicked p order (j + 1) new_bases new_own
  ticked_step j bases new_bases own new_own t lt bases_are own_are = record {
    bases_size = ap length bases_are ∙ length-set bases (get_or order j 0) _ ∙ t.bases_size;
    own_size = ap length own_are ∙ length-set own (get_or order j 0) _ ∙ t.own_size;
    base = one_set false (λ n. has_base (ticking p (length p.nodes) n)) bases new_bases j t.bases_size lt t.base bases_are;
    count = one_set 0 (λ n. capped (own_ticks p n)) own new_own j t.own_size lt t.count own_are;
  }

  -- at the end all nodes have been walked over
  pub ticked_end : (j : ℕ) (bases : List Bool) (own : List ℕ) → AreTicked p order j bases own → length order ≤ j
      → own ≡ map (λ (n : NodeTree). capped (own_ticks p n)) p.nodes
  ticked_end j bases own t all =
      same_number_lists own (map (λ (n : NodeTree). capped (own_ticks p n)) p.nodes)
      (t.own_size ∙ sym (length_map (λ (n : NodeTree). capped (own_ticks p n)) p.nodes))
      (λ k lt.
      let within : k < length p.nodes = omega (arith, lt, t.own_size) in
      let place = contains_at order k (ordered.all k (omega (arith, within, graph_size p named))) in
      subst (λ u. get_or own u 0 ≡ capped (own_ticks p (get_or p.nodes u no_node))) place.2 (t.count place.0 (omega (arith, place.1, all)) place.1)
      ∙ sym (map_at (λ (n : NodeTree). capped (own_ticks p n)) p.nodes k 0 no_node within))

  -- The same with what the code reads.
  module _ (ns : List declared.Node) (are : p.nodes ≡ map node_tree ns) (items : List ℕ) (same : items ≡ order) (j : ℕ) (lt : j < length items)
      (n : declared.Node) (read : slice_get ns (get_or items j 0) ≡ Some n) where
    in_order : j < length order
    in_order = subst (λ (l : List ℕ). j < length l) same lt

    node_read : get_or p.nodes (get_or order j 0) no_node ≡ node_tree n
    node_read =
        let there : slice_get ns (get_or order j 0) ≡ Some n = subst (λ (l : List ℕ). slice_get ns (get_or l j 0) ≡ Some n) same read in
        let within : get_or order j 0 < length ns = subst (λ k. get_or order j 0 < k) (ap length are ∙ length_map node_tree ns)
        (number_within p named order ordered j in_order) in
        ap (λ l. get_or l (get_or order j 0) no_node) are ∙ map_at node_tree ns (get_or order j 0) no_node n within
        ∙ ap node_tree (get_or_from_slice_get ns (get_or order j 0) n n there)

    pub read_among : Contains p.nodes (node_tree n)
    read_among = subst (Contains p.nodes) (at_is p named order ordered j ∙ node_read) (among p named order ordered j in_order)

    pub read_within : {X : Type 0} (l : List X) → length l ≡ length p.nodes → get_or items j 0 < length l
    read_within l size = subst (λ k. get_or k j 0 < length l) (sym same)
        (subst (λ k. get_or order j 0 < k) (sym size) (number_within p named order ordered j in_order))

    pub read_step : (names : List Identifier) (bases new_bases : List Bool) (own new_own : List ℕ) → names ≡ names_of p → AreTicked p order j bases own
        → new_bases ≡ set bases (get_or items j 0) (has_base (ticking_where (node_tree n) (ticks_on_base names bases)))
        → new_own ≡ set own (get_or items j 0) (capped (length (sites_of_clocks [] (ticking_where (node_tree n) (ticks_on_base names bases)))))
        → AreTicked p order (j + 1) new_bases new_own
    read_step names bases new_bases own new_own names_are t bases_are own_are =
        ticked_step j bases new_bases own new_own t in_order
        (bases_are ∙ (λ i. set bases (get_or (same i) j 0) (has_base (ticking_where (sym node_read i) (ticks_on_base (names_are i) bases))))
        ∙ ap (λ (ks : List Clock). set bases (get_or order j 0) (has_base ks)) (found_is j bases own t in_order))
        (own_are ∙ (λ i. set own (get_or (same i) j 0) (capped (length
        (sites_of_clocks [] (ticking_where (sym node_read i) (ticks_on_base (names_are i) bases))))))
        ∙ ap (λ (ks : List Clock). set own (get_or order j 0) (capped (length (sites_of_clocks [] ks)))) (found_is j bases own t in_order))
