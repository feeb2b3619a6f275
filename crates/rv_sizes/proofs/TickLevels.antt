-- Where no node reaches itself, the ticks of a node are the same at every number of levels that is enough for it.
use Rattle.std.proofs.Common.{◌≡◌, ℕ, zero, suc, ◌+◌, ◌<◌, true, cond, List, [], ◌∷◌, ◌++◌, length, get_or, refl, sym, ◌∙◌, ap, subst, arith}
use Rattle.std.proofs.lemmas.List.Elements.{Contains-get_or}
use Rattle.std.specs.List.{Contains}
use Rattle.rv_tree.specs.{Tree.NodeTree, Tree.ProgramTree, Places.Identifier, Places.is_among, Places.index_of}
use Rattle.rv_types.specs.Instances.{CallTree, calls, Instance, taken, no_node, node_of, callee, unrolled, main_instance}
use Rattle.rv_types.specs.Variables.{total, node_parts, over_instances, ticks}
use Rattle.rv_types.specs.{declared.typed.Clock.Clock, declared.typed.Clock.TheVariants.Base, Clocks.pace_of_all, Names.name_faults, WellFormed.AreSited}
use Rattle.rv_calls.specs.{Graphs.IsOrdered, Callings.calling, Callings.callings_of, Callings.call_graph}
use Rattle.rv_instances.specs.AllInstances.{names_of}
use Rattle.rv_sizes.specs.Ticks.{arrows, has_base, sites_of_clocks, ticking, tick_total, own_ticks}
use Rattle.rv_instances.proofs.{Lists.contains_at, Known.called, Known.calls_declared}
use Rattle.rv_calls.proofs.{Recursions.tabled, Recursions.graph_size, Lowering.edge_of}
use Rattle.rv_sizes.proofs.TickPlaces.{ticks_counted}
use Rattle.rv_base.proofs.Lists.{flat_map_same}
use Rattle.rv_types.proofs.DifferentPlaces.{total_same, total_flat_map}

module _ (p : ProgramTree) (named : name_faults p ≡ []) (order : List ℕ) (ordered : IsOrdered (call_graph (callings_of p)) order) where
  -- the node at a place in the order
  pub at : ℕ → NodeTree
  at j = get_or p.nodes (get_or order j 0) no_node

  pub at_is : (j : ℕ) → at j ≡ get_or p.nodes (get_or order j 0) no_node
  unfolding at
  at_is j = refl

  pub number_within : (j : ℕ) → j < length order → get_or order j 0 < length p.nodes
  number_within j lt = omega (arith, graph_size p named, ordered.only j lt)

  pub among : (j : ℕ) → j < length order → Contains p.nodes (at j)
  unfolding at
  among j lt = Contains-get_or p.nodes (get_or order j 0) no_node (number_within j lt)

  -- there are enough levels for all nodes
  pub enough : (j : ℕ) → j < length order → j < length p.nodes
  enough j lt = omega (arith, graph_size p named, ordered.size, lt)

  -- a node that is called stands before
  pub earlier : (j : ℕ) → j < length order → (c : CallTree) → Contains (calls (at j)) c
      → (i : ℕ) × (i < j) × (get_or order i 0 ≡ index_of (names_of p) c.name) × (node_of p c.name ≡ at i)
  unfolding at
  earlier j lt c w =
      let e = edge_of (callings_of p) (get_or order j 0) (calling (names_of p) c) (tabled p named (get_or order j 0) c (number_within j lt) w) in
      let b = ordered.after j e.0 lt e.1 in
      let to = called p named c.name (calls_declared p named (at j) c (among j lt) w) in
      (b.0, b.1, b.2 ∙ e.2, to.1 ∙ ap (λ k. get_or p.nodes k no_node) (sym (b.2 ∙ e.2)))

  -- what ticks in a node
  pub steady : (a b j : ℕ) → j < length order → j < a → j < b → ticking p a (at j) ≡ ticking p b (at j)
  steady zero b j lt below_a below_b = absurd (omega (arith, below_a))
  steady (suc a) zero j lt below_a below_b = absurd (omega (arith, below_b))
  steady (suc a) (suc b) j lt below_a below_b =
      ap (λ (ks : List Clock). arrows (at j) (node_parts (at j)) ++ ks)
      (flat_map_same (λ (c : CallTree). cond (has_base (ticking p a (node_of p c.name))) (taken Base (pace_of_all (at j) c.args) ∷ []) [])
      (λ (c : CallTree). cond (has_base (ticking p b (node_of p c.name))) (taken Base (pace_of_all (at j) c.args) ∷ []) []) (calls (at j))
      (λ c w.
      let e = earlier j lt c w in
      let again = steady a b e.0 (omega (arith, e.1, lt)) (omega (arith, e.1, below_a)) (omega (arith, e.1, below_b)) in
      ap (λ (ks : List Clock). cond (has_base ks) (taken Base (pace_of_all (at j) c.args) ∷ []) [])
      (ap (ticking p a) e.3 ∙ again ∙ sym (ap (ticking p b) e.3))))

  -- the ticks of a node and of all below it are the sum of what each has of its own
  summed : (levels j : ℕ) (i : Instance) → j < length order → j < levels → i.node ≡ at j
      → tick_total p levels i.node ≡ total (λ (a : Instance). own_ticks p a.node) (unrolled p levels i)
  summed zero j i lt below is = absurd (omega (arith, below))
  summed (suc levels) j i lt below is =
      let own : length (sites_of_clocks [] (ticking p (suc levels) i.node)) ≡ own_ticks p i.node =
      ap (λ (ks : List Clock). length (sites_of_clocks [] ks)) (ap (ticking p (suc levels)) is ∙ steady (suc levels) (length p.nodes) j lt below (enough j lt)
      ∙ ap (ticking p (length p.nodes)) (sym is)) in
      let more = total_same (λ (c : CallTree). tick_total p levels (node_of p c.name))
      (λ (c : CallTree). total (λ (a : Instance). own_ticks p a.node) (unrolled p levels (callee p i c))) (calls i.node)
      (λ c w.
      let e = earlier j lt c (subst (λ (n : NodeTree). Contains (calls n) c) is w) in
      summed levels e.0 (callee p i c) (omega (arith, e.1, lt)) (omega (arith, e.1, below)) e.3) in
      let flat = total_flat_map (λ (a : Instance). own_ticks p a.node) (λ (c : CallTree). unrolled p levels (callee p i c)) (calls i.node) in
      λ t. own t + (more ∙ sym flat) t

  -- the ticks of a program are those that each instance has of its own
  pub ticks_summed : AreSited p → (main : Identifier) → is_among (names_of p) main ≡ true → length (ticks p main) ≡ over_instances p main (own_ticks p)
  unfolding at
  ticks_summed sited main there =
      let to = called p named main there in
      let place = contains_at order (index_of (names_of p) main) (ordered.all (index_of (names_of p) main) (omega (arith, graph_size p named, to.0))) in
      ticks_counted p sited main
      ∙ summed (length p.nodes) place.0 (main_instance p main) place.1 (enough place.0 place.1) (to.1 ∙ ap (λ k. get_or p.nodes k no_node) (sym place.2))
