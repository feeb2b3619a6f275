use Rattle.std.proofs.Common.{◌≡◌}
use Rattle.rv_rows.specs.declared.farkas.Weight.{Weight}
use Rattle.rv_cover.proofs.Marking.{none_yet, one_more}
use Rattle.rv_cover.proofs.marks.mark_named.Goals as goal

pub loop-place-init : goal.loop-place-init
loop-place-init c = none_yet Weight c.args.flags.now c.args.first c.args.by.now.weights (λ w p. w.premise ≡ p)

pub loop-place-preserved : goal.loop-place-preserved
loop-place-preserved c =
    one_more Weight c.args.flags.now c.loop-place.flags c.mark_premise-new.new.flags c.args.first c.loop-place.place c.args.by.now.weights (λ w p. w.premise ≡ p) c.at.result.now c.at.ensures.value
    c.loop-place.invariant c.mark_premise-new.ensures
