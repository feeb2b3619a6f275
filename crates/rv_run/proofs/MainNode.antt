-- The main node of a program that keeps every rule.
use Rattle.std.proofs.Common.{◌≡◌, ◌<◌, Bool, true, false, cond, List, [], ◌∷◌, length, refl, sym, ◌∙◌, ap, subst, arith, Option, Some, IsTrue, IsSome}
use Rattle.std.proofs.Common.{unwrap_or, None as Nothing}
use Rattle.std.proofs.lemmas.List.{length-map}
use Rattle.rv_tree.specs.{declared.tree.Decl.Decl, declared.tree.Name.Name, Tree.NodeTree, Tree.ProgramTree, Places.Identifier, Places.is_among}
use Rattle.rv_types.specs.Instances.{no_node, node_of, name_at, IsNode}
use Rattle.rv_types.specs.{declared.fault.NameFault.NameFault, declared.fault.NameFault.TheVariants.NotObserver, declared.typed.Typed.Typed, Names.texts}
use Rattle.rv_types.specs.{Names.node_names, Kinds.decl_kinds, Kinds.node_named, Scopes.is_observer, Settled.IsSettled, Settled.node_number}
use Rattle.rv_run.proofs.Found.{named_some}
use Rattle.rv_flatten.proofs.InstanceNumbers.{name_texts}
use Rattle.rv_instances.proofs.Known.{text_at}
use Rattle.rv_types.proofs.Members.{index_there}

-- an observer is an output
some_output : (ds : List Decl) (p : ProgramTree) → is_observer (decl_kinds p ds) ≡ true → 0 < length ds
some_output [] p h = cc
some_output (d ∷ ds) p h = omega arith

observed : (p : ProgramTree) (o : Option NodeTree) → elim o as (λ _. List NameFault)
    [ Nothing ↦ [] | Some m ↦ cond (is_observer (decl_kinds p m.outputs)) [] (NotObserver m.name.at ∷ []) ] ≡ [] → IsSome o
    → 0 < length (unwrap_or o no_node).outputs
observed p Nothing h some = absurd (let different : ⊥ = cc in different)
observed p (Some m) h some = by (is_observer (decl_kinds p m.outputs)) refl h
  where
    by : (b : Bool) → is_observer (decl_kinds p m.outputs) ≡ b → cond b [] (NotObserver m.name.at ∷ []) ≡ [] → 0 < length m.outputs
    by true e h = some_output m.outputs p e
    by false e h = cc

module _ (p : ProgramTree) (main : Identifier) (t : Typed) (settled : IsSettled p main t) where
  -- it has the name that it is asked for by
  pub main_named : name_at p t.main ≡ main
  main_named =
      let here = index_there (texts (node_names p)) main settled.has_main in
      let a = length-map (node_names p) (λ (x : Name). x.text) in
      let b = length-map p.nodes (λ (n : NodeTree). n.name) in
      let lt = here.0 in
      ap (name_at p) settled.main_number ∙ sym (text_at p.nodes (node_number p main) (omega (arith, lt, a, b))) ∙ here.1

  pub main_is_node : IsNode p main
  main_is_node = subst (λ (l : List Identifier). IsTrue (is_among l main)) (name_texts p.nodes) settled.has_main

  -- and an output
  pub main_output : 0 < length (node_of p main).outputs
  main_output = observed p (node_named p main) settled.observer (named_some p main main_is_node)
