-- The main node of a program that keeps every rule.
use Rattle.std.proofs.Common.{◌≡◌, List, sym, ◌∙◌, ap, subst, arith, IsTrue}
use Rattle.std.proofs.lemmas.List.{length-map}
use Rattle.rv_tree.specs.{declared.tree.Name.Name, Tree.NodeTree, Tree.ProgramTree, Places.Identifier, Places.is_among}
use Rattle.rv_types.specs.Instances.{name_at, IsNode}
use Rattle.rv_types.specs.{declared.typed.Typed.Typed, Names.texts, Names.node_names, Settled.IsSettled, Settled.node_number}
use Rattle.rv_flatten.proofs.InstanceNumbers.{name_texts}
use Rattle.rv_instances.proofs.Known.{text_at}
use Rattle.rv_types.proofs.Members.{index_there}

module _ (p : ProgramTree) (main : Identifier) (t : Typed) (settled : IsSettled p main t) where
  -- it has the name that it is asked for by
  pub main_named : name_at p t.main ≡ main
  main_named =
      let here = index_there (texts (node_names p)) main settled.has_main in
      let a = length-map (node_names p) (λ (x : Name). x.text) in
      let b = length-map p.nodes (λ (n : NodeTree). n.name) in
      let lt = here.0 in
      ap (name_at p) settled.main_number ∙ sym (text_at p.nodes (node_number p main) (omega (arith, lt, a, b))) ∙ here.1

  pub main_is_node : IsNode p main
  main_is_node = subst (λ (l : List Identifier). IsTrue (is_among l main)) (name_texts p.nodes) settled.has_main
