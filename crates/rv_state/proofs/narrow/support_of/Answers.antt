use Rattle.std.proofs.Common.{◌+◌, take, sym, ap, ◌∙◌, rules}
use Rattle.rv_state.specs.Narrow.{support}
use Rattle.rv_state.proofs.NarrowLemmas.{support-none, support-more, support-few}
use Rattle.rv_state.proofs.narrow.support_of.Goals as goal

pub loop-place-init : goal.loop-place-init
loop-place-init c = sym support-none

pub overflow_add-count : goal.overflow_add-count
overflow_add-count c =
    let few = support-few c.args.numbers.now c.loop-place.place c.loop-place-test.true in
    let is = c.present_at-count.ensures in
    search rules

pub loop-place-preserved : goal.loop-place-preserved
loop-place-preserved c =
    ap (λ n. n + c.present_at-count.result) c.loop-place.invariant
    ∙ ap (λ n. support (take c.loop-place.place c.args.numbers.now) + n) c.present_at-count.ensures
    ∙ sym (support-more c.args.numbers.now c.loop-place.place c.loop-place-test.true)
