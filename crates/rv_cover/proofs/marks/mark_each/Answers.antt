use Rattle.rv_rows.specs.declared.farkas.Multipliers.{Multipliers}
use Rattle.rv_cover.specs.Marks.{Names}
use Rattle.rv_cover.proofs.Marking.{none_yet, one_more}
use Rattle.rv_cover.proofs.marks.mark_each.Goals as goal

pub loop-place-init : goal.loop-place-init
loop-place-init c = none_yet Multipliers c.args.flags.now c.args.first c.args.reach.now Names

pub loop-place-preserved : goal.loop-place-preserved
loop-place-preserved c =
    one_more Multipliers c.args.flags.now c.loop-place.flags c.mark_named-new.new.flags c.args.first c.loop-place.place c.args.reach.now Names c.at.result.now c.at.ensures.value
    c.loop-place.invariant c.mark_named-new.ensures
