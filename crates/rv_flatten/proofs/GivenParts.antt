-- What fits is known under other names.
use Rattle.std.proofs.Common.{◌≡◌, [], get_or, sym, ◌∙◌, ap}
use Rattle.rv_tree.specs.{declared.tree.Name.Name, Tree.NodeTree, Tree.ProgramTree, Places.Identifier}
use Rattle.rv_types.specs.{declared.typed.Typed.Typed, Instances.no_node, Instances.name_at, Names.texts, Names.node_names, Settled.IsSettled}
use Rattle.rv_flatten.proofs.InstanceNumbers.{made_of}
use Rattle.rv_types.proofs.Members.{index_there}

-- the name of the main node is the one that it was settled with
pub main_name : (p : ProgramTree) (main : Identifier) (t : Typed) → IsSettled p main t → name_at p t.main ≡ main
main_name p main t s =
    ap (λ (x : Name). x.text) (sym (made_of (λ (n : NodeTree). n.name) p.nodes t.main no_node))
    ∙ sym (made_of (λ (x : Name). x.text) (node_names p) t.main no_node.name) ∙ ap (λ k. get_or (texts (node_names p)) k []) s.main_number
    ∙ (index_there (texts (node_names p)) main s.has_main).1
