-- The main node of a program, and the types of its flows.
use Rattle.std.proofs.Common.{◌≡◌, ℕ, ◌<◌, ◌≤◌, List, [], ◌++◌, map, length, get_or, slice_get, Some, sym, ◌∙◌, ap, subst, length-append, arith}
use Rattle.std.proofs.lemmas.Option.{get_or_from_slice_get}
use Rattle.rv_tree.specs.declared.tree.Node as declared
use Rattle.rv_tree.specs.{declared.tree.Decl.Decl, Tree.NodeTree, Tree.ProgramTree, Tree.node_tree}
use Rattle.rv_types.specs.Instances.{no_node, node_of, name_at}
use Rattle.rv_types.specs.{declared.typed.Kind.Kind, Kinds.flow_kinds, Kinds.kind_in_program, Names.name_faults, Names.decls}
use Rattle.rv_instances.proofs.{Known.map_at, Known.node_of_number, Lists.length_map}

module _ (p : ProgramTree) (ns : List declared.Node) (k : ℕ) (n : declared.Node) (are : p.nodes ≡ map node_tree ns) (within : k < length p.nodes)
    (read : slice_get ns k ≡ Some n) where
  -- the node with a number
  node_here : get_or p.nodes k no_node ≡ node_tree n
  node_here =
      ap (λ l. get_or l k no_node) are
      ∙ map_at node_tree ns k no_node n (subst (λ l. k < l) (ap length are ∙ length_map node_tree ns) within)
      ∙ ap node_tree (get_or_from_slice_get ns k n n read)

  -- is the node of its name
  pub main_node : name_faults p ≡ [] → node_of p (name_at p k) ≡ node_tree n
  main_node named = node_of_number p named k within ∙ node_here

  -- and has its types
  pub main_kinds : (all : List (List Kind)) (own : List Kind) → all ≡ map (flow_kinds p) p.nodes → slice_get all k ≡ Some own → own ≡ flow_kinds p (node_tree n)
  main_kinds all own each is = sym (get_or_from_slice_get all k own own is) ∙ ap (λ l. get_or l k own) each
      ∙ map_at (flow_kinds p) p.nodes k own no_node within ∙ ap (flow_kinds p) node_here

-- no fewer than there are inputs
pub inputs_few : (p : ProgramTree) (n : NodeTree) (own : List Kind) → own ≡ flow_kinds p n → length n.inputs ≤ length own
inputs_few p n own is =
    let first = length-append (n.inputs ++ n.outputs) n.locals in
    omega (arith, ap length is, length_map (λ (d : Decl). kind_in_program p d.kind) (decls n), first, length-append n.inputs n.outputs)
