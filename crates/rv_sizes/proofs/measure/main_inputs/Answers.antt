use Rattle.std.proofs.Common.{◌≡◌, ◌<◌, length, refl, sym, ◌∙◌, ap, subst, arith}
use Rattle.rv_tree.specs.Tree.{program_tree, node_tree}
use Rattle.rv_types.specs.{Kinds.flow_kinds, Instances.name_at, Instances.node_of}
use Rattle.rv_instances.specs.Counts.{integer_inputs}
use Rattle.rv_instances.proofs.Lists.{length_map}
use Rattle.rv_sizes.proofs.Main.{main_node, main_kinds, inputs_few}
use Rattle.rv_sizes.proofs.measure.main_inputs.Goals as goal

pub at-requires : goal.at-requires
at-requires c = subst (λ n. c.args.t.now.main < n) (length_map node_tree c.args.p.now.nodes) c.requires.main

pub at-requires-2 : goal.at-requires-2
at-requires-2 c =
    let p = program_tree c.args.p.now in
    subst (λ n. c.args.t.now.main < n) (sym (ap length c.requires.kinds ∙ length_map (flow_kinds p) p.nodes)) c.requires.main

pub integer_inputs_of-requires : goal.integer_inputs_of-requires
integer_inputs_of-requires c =
    let p = program_tree c.args.p.now in
    let n = c.at.result.now in
    let kinds : c.as_slice.result.now ≡ flow_kinds p (node_tree n) =
    c.as_slice.ensures ∙ main_kinds p c.args.p.now.nodes c.args.t.now.main n refl c.requires.main c.at.ensures.value c.args.t.now.kinds c.at-2.result.now
    c.requires.kinds c.at-2.ensures.value in
    inputs_few p (node_tree n) c.as_slice.result.now kinds

pub returns : goal.returns
returns c =
    let p = program_tree c.args.p.now in
    let n = c.at.result.now in
    let kinds : c.as_slice.result.now ≡ flow_kinds p (node_tree n) =
    c.as_slice.ensures ∙ main_kinds p c.args.p.now.nodes c.args.t.now.main n refl c.requires.main c.at.ensures.value c.args.t.now.kinds c.at-2.result.now
    c.requires.kinds c.at-2.ensures.value in
    let count : c.integer_inputs_of.result ≡ integer_inputs p (node_of p (name_at p c.args.t.now.main)) =
    c.integer_inputs_of.ensures p kinds ∙ ap (integer_inputs p) (sym (main_node p c.args.p.now.nodes c.args.t.now.main n refl c.requires.main c.at.ensures.value
    c.requires.named)) in
    grind (arith, count)
