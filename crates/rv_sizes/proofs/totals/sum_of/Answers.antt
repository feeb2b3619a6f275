use Rattle.std.proofs.Common.{◌≤◌, get_or, sym, subst, arith}
use Rattle.std.proofs.{lemmas.List.Elements.Contains-get_or, lemmas.Option.get_or_from_slice_get}
use Rattle.rv_base.specs.Limits.{heaviest}
use Rattle.rv_sizes.proofs.Summing.{called_more}
use Rattle.rv_sizes.proofs.totals.sum_of.Goals as goal

pub at-requires : goal.at-requires
at-requires c =
    c.requires.callees (get_or c.args.calls.now c.loop-call.call-index (record { at = 0; site = 0; callee = 0 }))
    (Contains-get_or c.args.calls.now c.loop-call.call-index (record { at = 0; site = 0; callee = 0 }) (omega arith))

pub capped_sum-sum-requires-clause-b : goal.capped_sum-sum-requires-clause-b
capped_sum-sum-requires-clause-b c =
    let callee = (get_or c.args.calls.now c.loop-call.call-index (record { at = 0; site = 0; callee = 0 })).callee in
    subst (λ u. u ≤ heaviest) (get_or_from_slice_get c.args.totals.now callee c.at.result.now 0 c.at.ensures.value)
    (c.requires.totals callee
    (c.requires.callees (get_or c.args.calls.now c.loop-call.call-index (record { at = 0; site = 0; callee = 0 }))
    (Contains-get_or c.args.calls.now c.loop-call.call-index (record { at = 0; site = 0; callee = 0 }) (omega arith))))

pub loop-call-preserved : goal.loop-call-preserved
loop-call-preserved c =
    let callee = (get_or c.args.calls.now c.loop-call.call-index (record { at = 0; site = 0; callee = 0 })).callee in
    called_more c.args.totals.now c.args.own c.args.calls.now c.loop-call.call-index c.loop-call.sum c.capped_sum-sum.result c.at.result.now
    (omega arith) c.loop-call.invariant
    (sym (get_or_from_slice_get c.args.totals.now callee c.at.result.now 0 c.at.ensures.value)) c.capped_sum-sum.ensures
