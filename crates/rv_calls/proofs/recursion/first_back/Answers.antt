use Rattle.std.proofs.Common.{List, [], sym, ◌∙◌, subst, arith}
use Rattle.std.proofs.lemmas.Option.{get_or_from_slice_get}
use Rattle.std.specs.List.{Contains}
use Rattle.rv_calls.specs.{declared.calls.Calling.Calling, Loops.IsLowered}
use Rattle.rv_calls.proofs.Lowering.{lowered_to_more}
use Rattle.rv_calls.proofs.recursion.first_back.Goals as goal

pub lower_in_node-least-requires-clause-callees : goal.lower_in_node-least-requires-clause-callees
lower_in_node-least-requires-clause-callees c d w =
    let calls = c.as_slice.ensures ∙ sym (get_or_from_slice_get c.args.table.now c.loop-node.node c.at.result.now [] c.at.ensures.value) in
    c.requires.callees c.loop-node.node d (omega arith) (subst (λ (l : List Calling). Contains l d) calls w)

pub loop-node-preserved : goal.loop-node-preserved
loop-node-preserved c =
    let calls = c.as_slice.ensures ∙ sym (get_or_from_slice_get c.args.table.now c.loop-node.node c.at.result.now [] c.at.ensures.value) in
    lowered_to_more c.args.parts.now c.args.table.now c.loop-node.node c.loop-node.least c.lower_in_node-least.result c.loop-node.invariant
    (subst (λ (l : List Calling). IsLowered c.args.parts.now c.loop-node.node l c.loop-node.least c.lower_in_node-least.result) calls
    c.lower_in_node-least.ensures)
