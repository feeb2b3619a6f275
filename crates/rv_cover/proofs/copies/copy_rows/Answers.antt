use Rattle.std.proofs.Common.{◌∙◌, Some, ap, sym}
use Rattle.rv_base.proofs.Lists.{take_push}
use Rattle.rv_cover.proofs.copies.copy_rows.Goals as goal

pub loop-place-preserved : goal.loop-place-preserved
loop-place-preserved c =
    c.in_ok-push.ensures.ok
    ∙ take_push c.args.rows.now c.loop-place.copies c.loop-place.place c.in_ok-copy.copy c.loop-place.invariant
    (c.at.ensures.value ∙ ap Some (sym c.in_ok-copy.ensures))
