use Rattle.std.proofs.Common.{◌≡◌, ◌<◌, length, get_or, ◌∙◌, ap, sym, arith}
use Rattle.rv_types.specs.{declared.typed.Kind.TheVariants.Bool, Variables.is_integer}
use Rattle.rv_agreement.specs.Valuations.{rank}
use Rattle.rv_forms.proofs.Ranks.{rank_zero, rank_next, rank_all, rank_most}
use Rattle.rv_base.proofs.Truths.{bit_most}
use Rattle.rv_forms.proofs.flows.count_integers.Goals as goal

pub loop-kind-init : goal.loop-kind-init
loop-kind-init c = sym (rank_zero c.args.kinds.now)

pub overflow_add-count : goal.overflow_add-count
overflow_add-count c =
    let most = rank_most c.args.kinds.now c.loop-kind.kind-index in
    let one = bit_most (is_integer (get_or c.args.kinds.now c.loop-kind.kind-index Bool)) in
    omega (arith, most, one, c.one_of-count.ensures, c.loop-kind.invariant)

pub loop-kind-preserved : goal.loop-kind-preserved
loop-kind-preserved c =
    let low : c.loop-kind.kind-index < length c.args.kinds.now = omega arith in
    let next = rank_next c.args.kinds.now c.loop-kind.kind-index low in
    let one = c.one_of-count.ensures in
    omega (arith, next, one, c.loop-kind.invariant)

pub returns : goal.returns
returns c = c.loop-kind.invariant ∙ ap (rank c.args.kinds.now) (let e : c.loop-kind.kind-index ≡ length c.args.kinds.now = omega arith in e)
    ∙ rank_all c.args.kinds.now
