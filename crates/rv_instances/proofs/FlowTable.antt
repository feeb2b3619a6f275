-- The flows of all instances, by numbers.
use Rattle.std.proofs.Common.{◌≡◌, ℕ, zero, suc, ◌+◌, ◌<◌, ◌≤◌, ◌⊎◌, inl, inr, List, ◌++◌, length, get_or, sym, ◌∙◌, ap, subst, arith, add-one}
use Rattle.std.proofs.Common.{Some, slice_get}
use Rattle.std.proofs.lemmas.List.Elements.{Contains-append_cases, Contains-push_cases}
use Rattle.std.proofs.lemmas.Option.{get_or_from_slice_get}
use Rattle.std.specs.List.{Contains}
use Rattle.rv_tree.specs.declared.tree.Node as declared
use Rattle.rv_tree.specs.{declared.tree.Program.Program, Bounded.IsBounded, Bounded.most, Places.flows, Tree.NodeTree, Tree.node_tree, Tree.program_tree}
use Rattle.rv_instances.specs.Flowing.{flows_below, flows_to, flow_count, AreOfNodes}
use Rattle.rv_instances.specs.{declared.answer.Instance.Instance as Numbered, declared.flows.Flow.Flow, Expanded.no_instance}
use Rattle.rv_types.specs.Instances.{no_node}
use Rattle.rv_instances.proofs.{Lists.length_map, Known.map_at, LaidFlows.below_size, LaidFlows.below_is}
use Rattle.rv_instances.proofs.Ordered.{AreInOrder, in_order_append, in_order_at, in_order_from}
use Rattle.rv_types.proofs.Members.{in_map, nothing_in}

pub to_more : (count : ℕ → ℕ) (now new : List Flow) (k c : ℕ) → now ≡ flows_to count k → new ≡ now ++ flows_below k c → c ≡ count k
    → new ≡ flows_to count (k + 1)
to_more count now new k c inv is many = is ∙ (λ i. inv i ++ flows_below k (many i)) ∙ ap (flows_to count) (sym (add-one k))

of_below : (i n : ℕ) (f : Flow) → Contains (flows_below i n) f → (f.instance ≡ i) × (f.site < n)
of_below i zero f w = nothing_in f w
of_below i (suc n) f w = elim (Contains-push_cases (flows_below i n) (record { instance = i; site = n }) f w) [
  | inl before ↦ let h = of_below i n f before in let lt = h.1 in (h.0, omega (arith, lt))
  | inr same ↦ let e = ap (λ (g : Flow). g.site) same in (ap (λ (g : Flow). g.instance) (sym same), omega (arith, e))
]

pub of_flows : (count : ℕ → ℕ) (n : ℕ) (f : Flow) → Contains (flows_to count n) f → (f.instance < n) × (f.site < count f.instance)
of_flows count zero f w = nothing_in f w
of_flows count (suc n) f w = elim (Contains-append_cases (flows_to count n) (flows_below n (count n)) f w) [
  | inl before ↦ let h = of_flows count n f before in let lt = h.0 in (omega (arith, lt), h.1)
  | inr last ↦ let h = of_below n (count n) f last in let e = h.0 in (omega (arith, e), subst (λ k. f.site < count k) (sym e) h.1)
]

-- Flows in order: by their instances, and then by their sites.

abbrev pub IsEarlier : Flow → Flow → Type 0
IsEarlier f g = (f.instance < g.instance) ⊎ ((f.instance ≡ g.instance) × (f.site < g.site))

below_in_order : (i n : ℕ) → AreInOrder IsEarlier (flows_below i n)
below_in_order i n = in_order_from IsEarlier (flows_below i n) (λ j k x less lt.
    let size = below_size i n in
    let at_j = below_is i n j x (omega (arith, less, lt, size)) in
    let at_k = below_is i n k x (omega (arith, lt, size)) in
    let first = ap (λ (f : Flow). f.site) at_j in
    let second = ap (λ (f : Flow). f.site) at_k in
    inr (ap (λ (f : Flow). f.instance) at_j ∙ sym (ap (λ (f : Flow). f.instance) at_k), omega (arith, first, second, less)))

flows_in_order : (count : ℕ → ℕ) (n : ℕ) → AreInOrder IsEarlier (flows_to count n)
flows_in_order count zero = tt
flows_in_order count (suc n) =
    in_order_append IsEarlier (flows_to count n) (flows_below n (count n)) (flows_in_order count n) (below_in_order n (count n))
    (λ x y w v. let a = (of_flows count n x w).0 in let b = (of_below n (count n) y v).0 in inl (omega (arith, a, b)))

pub flows_rise : (count : ℕ → ℕ) (n j k : ℕ) (x : Flow) → j < k → k < length (flows_to count n)
    → IsEarlier (get_or (flows_to count n) j x) (get_or (flows_to count n) k x)
flows_rise count n = in_order_at IsEarlier (flows_to count n) (flows_in_order count n)

-- the node of an instance in the tree of a program
module _ (p : Program) (instances : List Numbered) (of : AreOfNodes (program_tree p) instances) (k : ℕ) (x : Numbered) (lt : k < length instances)
    (is : slice_get instances k ≡ Some x) where
  pub node_within : x.node < length p.nodes
  node_within = omega (arith, length_map node_tree p.nodes, of x (k, lt, get_or_from_slice_get instances k x x is))

  pub node_flows_few : (n : declared.Node) → IsBounded (program_tree p) → slice_get p.nodes x.node ≡ Some n → length (flows (node_tree n)) ≤ most
  node_flows_few n bounded at = bounded.node_flows (node_tree n) (in_map node_tree p.nodes n (x.node, node_within, get_or_from_slice_get p.nodes x.node n n at))

  pub count_is : (n : declared.Node) → slice_get p.nodes x.node ≡ Some n → length (flows (node_tree n)) ≡ flow_count (program_tree p) instances k
  count_is n at =
      sym (ap (λ (i : Numbered). length (flows (get_or (program_tree p).nodes i.node no_node))) (get_or_from_slice_get instances k x no_instance is)
      ∙ ap (λ (m : NodeTree). length (flows m))
      (map_at node_tree p.nodes x.node no_node n node_within ∙ ap node_tree (get_or_from_slice_get p.nodes x.node n n at)))
