use Rattle.std.proofs.{Common.ap, Common.sym, Common.◌∙◌, Common.slice_get, Common.List, lemmas.Option.slice_get-map}
use Rattle.std.specs.Option.{option_map}
use Rattle.rv_tree.specs.Tree.{node_tree, program_tree}
use Rattle.rv_types.specs.{declared.typed.Kind.Kind, Earliest.first, Kinds.flow_kinds}
use Rattle.rv_types.proofs.MainNode.{main_faults}
use Rattle.rv_base.proofs.Options.{some_same}
use Rattle.rv_types.proofs.observer.observer_fault.Goals as goal

pub returns-in-Some : goal.returns-in-Some
returns-in-Some c x e k =
    let p = program_tree c.args.p.now in
    let n = node_tree c.at-node.result.now in
    let there = slice_get-map node_tree c.args.p.now.nodes c.args.main ∙ ap (option_map node_tree) c.at-node.ensures.value in
    let is = c.in-Some.ensures.value ∙ ap (λ (ks : List (List Kind)). slice_get ks c.args.main) k ∙ slice_get-map (flow_kinds p) p.nodes c.args.main
    ∙ ap (option_map (flow_kinds p)) there in
    let own = some_same c.in-Some.own.now (flow_kinds p n) is in
    c.node_fault.ensures p (c.as_slice.ensures ∙ own) ∙ ap first (sym (main_faults p x c.args.main n e there))
