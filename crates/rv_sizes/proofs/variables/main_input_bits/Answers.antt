use Rattle.std.proofs.Common.{◌≡◌, ◌<◌, ◌≤◌, List, length, take, refl, sym, ◌∙◌, ap, subst, arith}
use Rattle.rv_tree.specs.{declared.tree.TypeDecl.TypeDecl, Tree.NodeTree, Tree.program_tree, Tree.node_tree, Bounded.most}
use Rattle.rv_types.specs.{declared.typed.Kind.Kind, Kinds.decl_kinds, Kinds.flow_kinds, Variables.input_bits, Values.labels_at}
use Rattle.rv_instances.specs.Bits.{bits_of_all}
use Rattle.rv_sizes.specs.Capped.{capped}
use Rattle.rv_instances.proofs.{LabelCodes.few_labels, Lists.length_map}
use Rattle.rv_sizes.proofs.{Main.main_node, Main.main_kinds, Main.inputs_few, Inputs.input_kinds, Varied.bits_each, Varied.take_length}
use Rattle.rv_sizes.proofs.variables.main_input_bits.Goals as goal

pub at-requires : goal.at-requires
at-requires c = subst (λ n. c.args.t.now.main < n) (length_map node_tree c.args.p.now.nodes) c.requires.main

pub at-requires-2 : goal.at-requires-2
at-requires-2 c =
    let p = program_tree c.args.p.now in
    subst (λ n. c.args.t.now.main < n) (sym (ap length c.requires.kinds ∙ length_map (flow_kinds p) p.nodes)) c.requires.main

pub bits_of_kinds-requires : goal.bits_of_kinds-requires
bits_of_kinds-requires c = record {
  few = λ k. subst (λ (ds : List TypeDecl). labels_at ds k ≤ most) (sym c.as_slice.ensures)
      (few_labels (program_tree c.args.p.now) c.requires.bounded k);
}

pub slice_bounds-bits_of_kinds-end : goal.slice_bounds-bits_of_kinds-end
slice_bounds-bits_of_kinds-end c =
    let p = program_tree c.args.p.now in
    let n = c.at.result.now in
    let kinds : c.as_slice-kinds.result.now ≡ flow_kinds p (node_tree n) =
    c.as_slice-kinds.ensures ∙ main_kinds p c.args.p.now.nodes c.args.t.now.main n refl c.requires.main c.at.ensures.value c.args.t.now.kinds c.at-2.result.now
    c.requires.kinds c.at-2.ensures.value in
    let few = inputs_few p (node_tree n) c.as_slice-kinds.result.now kinds in
    omega (arith, few, c.len-count.ensures, take_length c.len-count.result c.as_slice-kinds.result.now (omega (arith, few, c.len-count.ensures)))

pub returns : goal.returns
returns c =
    let p = program_tree c.args.p.now in
    let n = c.at.result.now in
    let kinds : c.as_slice-kinds.result.now ≡ flow_kinds p (node_tree n) =
    c.as_slice-kinds.ensures ∙ main_kinds p c.args.p.now.nodes c.args.t.now.main n refl c.requires.main c.at.ensures.value c.args.t.now.kinds c.at-2.result.now
    c.requires.kinds c.at-2.ensures.value in
    let named = main_node p c.args.p.now.nodes c.args.t.now.main n refl c.requires.main c.at.ensures.value c.requires.named in
    c.bits_of_kinds.ensures
    ∙ (λ i. capped (bits_of_all (c.as_slice.ensures i) (take (c.len-count.ensures i) c.as_slice-kinds.result.now)))
    ∙ ap (λ (ks : List Kind). capped (bits_of_all p.types ks)) (input_kinds p (node_tree n) c.as_slice-kinds.result.now kinds)
    ∙ ap capped (bits_each p (decl_kinds p n.inputs))
    ∙ ap (λ (m : NodeTree). capped (input_bits p m)) (sym named)
