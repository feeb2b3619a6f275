use Rattle.std.proofs.Common.{◌<◌, ◌^◌, ap, sym, ◌∙◌, reverse, take, drop, length, arith, rules}
use Rattle.rv_types.specs.TypeTables.{declared_kinds}
use Rattle.rv_types.proofs.{TypeMeanings.one_kind, TypeMeanings.kinds-length, Turned.one_turned, Turned.all_turned, Turned.turned-length}
use Rattle.rv_types.proofs.kinds.type_kinds.Goals as goal

pub overflow_cast-len : goal.overflow_cast-len
overflow_cast-len c =
    let e = ap length c.loop-d.invariant ∙ kinds-length (reverse (take c.loop-d.d-index c.args.types.now))
    ∙ turned-length c.args.types.now c.loop-d.d-index c.loop-d.auto.d-index-end in
    let h : c.len.result < 2 ^ 32 = omega (arith, e) in
    search rules

pub loop-d-preserved : goal.loop-d-preserved
loop-d-preserved c =
    let before = reverse (take c.loop-d.d-index c.args.types.now) in
    let t = one_turned c.args.types.now c.loop-d.d-index c.d-item.result c.loop-d-test.true c.d-item.is in
    let s = one_kind c.args.types.now before (drop c.loop-d.d-index c.args.types.now) c.args.names.now c.loop-d.kinds _ c.d-item.result _ c.declared-kind.result
    c.requires.names (all_turned c.args.types.now c.loop-d.d-index) c.requires.different c.loop-d.invariant c.as_slice.ensures c.len.ensures
    c.declared-kind.ensures in
    c.in_ok-push.ensures.ok ∙ s ∙ ap declared_kinds (sym t)
