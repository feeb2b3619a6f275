-- Recursion of nodes by names, and by numbers in the table of calls.
use Rattle.std.proofs.Common.{◌≡◌, ℕ, ◌<◌, Bool, true, false, List, [], length, get_or, refl, sym, ◌∙◌, ap, subst, arith, unwrap_or}
use Rattle.std.proofs.{lemmas.List.get_or_default, lemmas.List.Elements.Contains-get_or}
use Rattle.std.specs.List.{Contains}
use Rattle.rv_tree.specs.{Tree.NodeTree, Tree.ProgramTree, Places.Identifier, Places.is_among, Places.index_of}
use Rattle.rv_types.specs.{Names.name_faults, Instances.CallTree, Instances.calls, Instances.no_node}
use Rattle.rv_calls.specs.Reach.{Reaches, itself, by_call, IsRecursive, HasNoRecursion, IsFirstRecursion}
use Rattle.rv_calls.specs.Callings.{calling, callings, callings_of, callees, call_graph, LeadsTo, there, over}
use Rattle.rv_calls.specs.Loops.{HasNoLoop, IsFirstLoop, IsRecursion}
use Rattle.rv_calls.specs.{declared.fault.CauseFault.TheVariants.Recursive, declared.fault.CauseFault.TheVariants.Memory, declared.calls.Calling.Calling}
use Rattle.rv_calls.specs.{Graphs.edges, Graphs.IsGraph, declared.fault.CauseFault.CauseFault, Nodes.IsRecursionOf}
use Rattle.rv_instances.specs.AllInstances.{names_of}
use Rattle.rv_instances.proofs.Known.{map_at, number_of_node, node_of_number, called, calls_declared, node_missing}
use Rattle.rv_instances.proofs.Lists.{length_map}
use Rattle.rv_calls.proofs.Lowering.{edge_of, call_of}
use Rattle.rv_types.proofs.Members.{in_map, nothing_in}
use Rattle.rv_base.proofs.Lists.{from_map}

module _ (p : ProgramTree) (named : name_faults p ≡ []) where
  -- the calls of the node with a number, in the table
  pub table_at : (k : ℕ) → k < length p.nodes → get_or (callings_of p) k [] ≡ callings (names_of p) (calls (get_or p.nodes k no_node))
  table_at k lt = map_at (λ (n : NodeTree). callings (names_of p) (calls n)) p.nodes k [] no_node lt

  pub table_size : length (callings_of p) ≡ length p.nodes
  table_size = length_map (λ (n : NodeTree). callings (names_of p) (calls n)) p.nodes

  pub graph_size : length (call_graph (callings_of p)) ≡ length p.nodes
  graph_size = length_map callees (callings_of p) ∙ table_size

  -- a call of a node, in the table
  pub tabled : (k : ℕ) (c : CallTree) → k < length p.nodes → Contains (calls (get_or p.nodes k no_node)) c
      → Contains (get_or (callings_of p) k []) (calling (names_of p) c)
  tabled k c lt w = subst (λ (cs : List Calling). Contains cs (calling (names_of p) c)) (sym (table_at k lt))
      (in_map (calling (names_of p)) (calls (get_or p.nodes k no_node)) c w)

  -- and back
  pub untabled : (k : ℕ) (c : Calling) → k < length p.nodes → Contains (get_or (callings_of p) k []) c
      → (d : CallTree) × Contains (calls (get_or p.nodes k no_node)) d × (calling (names_of p) d ≡ c)
  untabled k c lt w = from_map (calling (names_of p)) (calls (get_or p.nodes k no_node)) c (subst (λ (cs : List Calling). Contains cs c) (table_at k lt) w)

  node_in : (k : ℕ) → k < length p.nodes → Contains p.nodes (get_or p.nodes k no_node)
  node_in k lt = Contains-get_or p.nodes k no_node lt

  -- each call leads to a node
  pub is_graph : IsGraph (call_graph (callings_of p))
  is_graph k j lt inside =
      let n = graph_size in
      let within : k < length p.nodes = omega (arith, n, lt) in
      let c = call_of (callings_of p) k j inside in
      let d = untabled k c.0 within c.1 in
      let there = (called p named d.0.name (calls_declared p named (get_or p.nodes k no_node) d.0 (node_in k within) d.1)).0 in
      let is : index_of (names_of p) d.0.name ≡ get_or (edges (call_graph (callings_of p)) k) j 0 = ap (λ (x : Calling). x.callee) d.2 ∙ c.2 in
      omega (arith, n, there, is)

  -- what is led to is reached
  pub leads_reaches : (b a : ℕ) → a < length p.nodes → LeadsTo (call_graph (callings_of p)) b a
      → Reaches p (get_or p.nodes b no_node).name.text (get_or p.nodes a no_node).name.text
  leads_reaches b _ lt there = itself
  leads_reaches b _ lt (over a j inside rest) =
      let c = call_of (callings_of p) a j inside in
      let d = untabled a c.0 lt c.1 in
      let to = called p named d.0.name (calls_declared p named (get_or p.nodes a no_node) d.0 (node_in a lt) d.1) in
      let is : index_of (names_of p) d.0.name ≡ get_or (edges (call_graph (callings_of p)) a) j 0 = ap (λ (x : Calling). x.callee) d.2 ∙ c.2 in
      let within : get_or (edges (call_graph (callings_of p)) a) j 0 < length p.nodes = omega (arith, to.0, is) in
      by_call (get_or p.nodes a no_node).name.text d.0 (subst (λ (n : NodeTree). Contains (calls n) d.0) (sym (node_of_number p named a lt)) d.1)
      (subst (λ f. Reaches p (get_or p.nodes b no_node).name.text f) (ap (λ k. (get_or p.nodes k no_node).name.text) (sym is) ∙ to.2)
      (leads_reaches b (get_or (edges (call_graph (callings_of p)) a) j 0) within rest))

  -- what is reached is led to
  pub reaches_leads : (g f : Identifier) → Reaches p g f → LeadsTo (call_graph (callings_of p)) (index_of (names_of p) g) (index_of (names_of p) f)
  reaches_leads g _ itself = there
  reaches_leads g _ (by_call f c w rest) = decided (is_among (names_of p) f) refl (reaches_leads g c.name rest)
    where
      decided : (b : Bool) → is_among (names_of p) f ≡ b → LeadsTo (call_graph (callings_of p)) (index_of (names_of p) g) (index_of (names_of p) c.name)
          → LeadsTo (call_graph (callings_of p)) (index_of (names_of p) g) (index_of (names_of p) f)
      decided false e more = nothing_in c (subst (λ (n : NodeTree). Contains (calls n) c) (ap (λ o. unwrap_or o no_node) (node_missing p.nodes f e)) w)
      decided true e more =
          let to = called p named f e in
          let edge = edge_of (callings_of p) (index_of (names_of p) f) (calling (names_of p) c)
          (tabled (index_of (names_of p) f) c to.0 (subst (λ (n : NodeTree). Contains (calls n) c) to.1 w)) in
          over (index_of (names_of p) f) edge.0 edge.1 (subst (λ u. LeadsTo (call_graph (callings_of p)) (index_of (names_of p) g) u) (sym edge.2) more)

  -- a recursive call leads back in the table
  pub recursive_loops : (n : NodeTree) (c : CallTree) → IsRecursive p n c
      → (k : ℕ) × (k < length (callings_of p)) × Contains (get_or (callings_of p) k []) (calling (names_of p) c) × LeadsTo (call_graph (callings_of p)) k
      (index_of (names_of p) c.name)
  recursive_loops n c r =
      let k = r.node.0 in
      let lt = r.node.1 in
      let same : get_or p.nodes k no_node ≡ n = get_or_default p.nodes k no_node n lt ∙ r.node.2 in
      let number : index_of (names_of p) n.name.text ≡ k = ap (λ (m : NodeTree). index_of (names_of p) m.name.text) (sym same)
      ∙ number_of_node p named k lt in (
        k,
        omega (arith, table_size, lt),
        tabled k c lt (subst (λ (m : NodeTree). Contains (calls m) c) (sym same) r.call),
        subst (λ u. LeadsTo (call_graph (callings_of p)) u (index_of (names_of p) c.name)) number (reaches_leads n.name.text c.name r.back),
      )

  -- and back
  pub loops_recursive : (k : ℕ) (c : Calling) → k < length (callings_of p) → Contains (get_or (callings_of p) k []) c
      → LeadsTo (call_graph (callings_of p)) k c.callee → (n : NodeTree) × (d : CallTree) × IsRecursive p n d × (d.at ≡ c.at)
  loops_recursive k c lt w lead =
      let within : k < length p.nodes = omega (arith, table_size, lt) in
      let d = untabled k c within w in
      let to = called p named d.0.name (calls_declared p named (get_or p.nodes k no_node) d.0 (node_in k within) d.1) in
      let is : index_of (names_of p) d.0.name ≡ c.callee = ap (λ (x : Calling). x.callee) d.2 in (
        get_or p.nodes k no_node,
        d.0,
        record {
          node = node_in k within;
          call = d.1;
          back = subst (λ f. Reaches p (get_or p.nodes k no_node).name.text f) to.2
              (leads_reaches k (index_of (names_of p) d.0.name) to.0 (subst (λ u. LeadsTo (call_graph (callings_of p)) k u) (sym is) lead));
        },
        ap (λ (x : Calling). x.at) d.2,
      )

  pub no_recursion : HasNoLoop (call_graph (callings_of p)) (callings_of p) → HasNoRecursion p
  no_recursion none n c r = let w = recursive_loops n c r in none w.0 (calling (names_of p) c) w.1 w.2 w.3

  pub first_recursion : (at : ℕ) → IsFirstLoop (call_graph (callings_of p)) (callings_of p) at → IsFirstRecursion p at
  first_recursion at f = record {
    here = let h = f.here in let w = loops_recursive h.0 h.1 h.2 h.3 h.4 in (w.0, w.1, w.2, w.3 ∙ h.5);
    first = λ n c r. let w = recursive_loops n c r in f.first w.0 (calling (names_of p) c) w.1 w.2 w.3;
  }

  -- a fault of the table is one of the program
  pub recursion_of : (f : CauseFault) → IsRecursion (call_graph (callings_of p)) (callings_of p) f → IsRecursionOf p f
  recursion_of (Recursive at) is = first_recursion at is
  recursion_of Memory is = tt
  recursion_of _ is = is
