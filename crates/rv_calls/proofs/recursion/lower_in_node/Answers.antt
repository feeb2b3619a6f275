use Rattle.std.proofs.Common.{List, [], ◌∷◌, get_or, take, sym, subst, arith}
use Rattle.std.proofs.{lemmas.List.take_more, lemmas.List.take_all, lemmas.List.Elements.Contains-get_or}
use Rattle.rv_calls.specs.{declared.calls.Calling.Calling, Loops.IsLowered}
use Rattle.rv_calls.proofs.Lowering.{lowered_none, lowered_more}
use Rattle.rv_calls.proofs.recursion.lower_in_node.Goals as goal

pub loop-call-init : goal.loop-call-init
loop-call-init c = lowered_none c.args.parts.now c.args.node c.args.old

pub lower-least-requires-clause-callee : goal.lower-least-requires-clause-callee
lower-least-requires-clause-callee c =
    c.requires.callees (get_or c.args.calls.now c.loop-call.call-index (record { at = 0; site = 0; callee = 0 }))
    (Contains-get_or c.args.calls.now c.loop-call.call-index (record { at = 0; site = 0; callee = 0 }) (omega arith))

pub loop-call-preserved : goal.loop-call-preserved
loop-call-preserved c =
    subst (λ (cs : List Calling). IsLowered c.args.parts.now c.args.node cs c.args.old c.lower-least.result)
    (sym (take_more c.args.calls.now c.loop-call.call-index (record { at = 0; site = 0; callee = 0 }) (omega arith)))
    (lowered_more c.args.parts.now c.args.node (take c.loop-call.call-index c.args.calls.now)
    (get_or c.args.calls.now c.loop-call.call-index (record { at = 0; site = 0; callee = 0 }) ∷ [])
    c.args.old c.loop-call.least c.lower-least.result c.loop-call.invariant c.lower-least.ensures)

pub returns : goal.returns
returns c =
    subst (λ (cs : List Calling). IsLowered c.args.parts.now c.args.node cs c.args.old c.loop-call.least)
    (take_all c.loop-call.call-index c.args.calls.now (omega arith)) c.loop-call.invariant
