-- What the parts of an expanded program are, by the numbers of instances.
use Rattle.std.proofs.Common.{◌≡◌, ℕ, ◌<◌, List, [], map, length, get_or, sym, ◌∙◌, ap, arith, slice_get, Some, refl, ◌∷◌}
use Rattle.std.proofs.lemmas.Option.{get_or_from_slice_get}
use Rattle.rv_tree.specs.declared.tree.Node as declared
use Rattle.rv_tree.specs.Tree.{node_tree}
use Rattle.rv_types.specs.{declared.reading_clocks.NodeClocks.NodeClocks, Instances.no_node}
use Rattle.rv_instances.specs.Expanded.{program_of, main_of}
use Rattle.rv_instances.specs.{declared.answer.Instance.Instance as Numbered, declared.timed.ClockedCall.ClockedCall, declared.expanded.Expanded.Expanded}
use Rattle.rv_instances.specs.{Expanded.IsKnown, Expanded.ToldCall, Expanded.told, Expanded.calls_told, Expanded.no_instance, Layouts.node_at}
use Rattle.rv_instances.proofs.{Lists.length_map, Known.map_at, ExpandedLaws.of_nodes}

module _ (x : Expanded) (known : IsKnown x) (m : ℕ) (v : Numbered) (lt : m < length x.instances.now) (is : slice_get x.instances.now m ≡ Some v) where
  in_tree : v.node < length (program_of x).nodes
  in_tree = of_nodes (program_of x) (main_of x) x.instances.now known.expanded v
      (m, lt, get_or_from_slice_get x.instances.now m v v is)

  pub node_within : v.node < length x.program.now.nodes
  node_within = omega (arith, length_map node_tree x.program.now.nodes, in_tree)

  at_node : get_or (program_of x).nodes v.node no_node ≡ node_at (program_of x) x.instances.now m
  at_node = sym (ap (λ (i : Numbered). get_or (program_of x).nodes i.node no_node) (get_or_from_slice_get x.instances.now m v no_instance is))

  pub node_read : (n : declared.Node) → slice_get x.program.now.nodes v.node ≡ Some n → node_tree n ≡ node_at (program_of x) x.instances.now m
  node_read n at =
      sym (map_at node_tree x.program.now.nodes v.node no_node n node_within ∙ ap node_tree (get_or_from_slice_get x.program.now.nodes v.node n n at)) ∙ at_node

  pub clocks_within : v.node < length x.clocks
  clocks_within =
      let size = length_map (λ (c : NodeClocks). c.node.now) x.clocks in
      omega (arith, size, ap length known.clocks, node_within)

  pub clocks_read : (c : NodeClocks) → slice_get x.clocks v.node ≡ Some c → node_tree c.node.now ≡ node_at (program_of x) x.instances.now m
  clocks_read c at =
      ap node_tree
      (sym (ap (λ (d : NodeClocks). d.node.now) (get_or_from_slice_get x.clocks v.node c c at))
      ∙ sym (map_at (λ (d : NodeClocks). d.node.now) x.clocks v.node c.node.now c clocks_within)
      ∙ ap (λ (ns : List declared.Node). get_or ns v.node c.node.now) known.clocks)
      ∙ sym (map_at node_tree x.program.now.nodes v.node no_node c.node.now node_within) ∙ at_node

  pub calls_within : v.node < length x.calls
  calls_within =
      let size = length_map (λ (cs : List ClockedCall). map told cs) x.calls in
      omega (arith, size, length_map calls_told (program_of x).nodes, ap length known.calls, in_tree)

  pub calls_read : (cs : List ClockedCall) → slice_get x.calls v.node ≡ Some cs → map told cs ≡ calls_told (node_at (program_of x) x.instances.now m)
  calls_read cs at =
      sym (map_at (λ (ds : List ClockedCall). map told ds) x.calls v.node [] cs calls_within
      ∙ ap (λ (ds : List ClockedCall). map told ds) (get_or_from_slice_get x.calls v.node cs cs at))
      ∙ ap (λ (l : List (List ToldCall)). get_or l v.node []) known.calls ∙ map_at calls_told (program_of x).nodes v.node [] no_node in_tree
      ∙ ap calls_told at_node

-- the nodes of some clocks
pub clocked_nodes : (cs : List NodeClocks) → map (λ (c : NodeClocks). node_tree c.node.now) cs ≡ map node_tree (map (λ (c : NodeClocks). c.node.now) cs)
clocked_nodes [] = refl
clocked_nodes (c ∷ cs) = ap (λ l. node_tree c.node.now ∷ l) (clocked_nodes cs)
