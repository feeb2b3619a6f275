use Rattle.std.proofs.Common.{length, ap, sym, ◌∙◌, arith}
use Rattle.rv_calls.specs.{Numbering.with_names, Callings.node_texts}
use Rattle.rv_calls.proofs.Collected.{collected}
use Rattle.rv_tree.specs.Tree.{program_tree}
use Rattle.rv_types.proofs.{Fitting.none_left, RightNames.all_different}
use Rattle.rv_calls.proofs.calls.names_of_nodes.Goals as goal

pub returns : goal.returns
returns c =
    collected c.args.p.now.nodes c.loop-node.names (all_different (program_tree c.args.p.now) c.requires).nodes
    (ap (λ l. with_names c.loop-node.names (node_texts l)) (sym (none_left c.args.p.now.nodes c.loop-node.node-index
    (omega (arith, ap length c.as_slice-node-items.ensures)))) ∙ c.loop-node.invariant)
