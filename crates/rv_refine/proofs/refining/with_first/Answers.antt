use Rattle.std.proofs.Common.{All, sym, subst}
use Rattle.std.proofs.lemmas.List.Elements.{All-push}
use Rattle.rv_diagram.specs.Nodes.{IsOrderedOver}
use Rattle.rv_refine.proofs.Framing.{at_place}
use Rattle.rv_refine.proofs.refining.with_first.Goals as goal

pub loop-place-preserved : goal.loop-place-preserved
loop-place-preserved c n first parts = subst (All (IsOrderedOver n)) (sym c.in_ok-push-2.ensures.ok)
    (All-push (IsOrderedOver n) c.loop-place.sets c.in_ok-part.part (c.loop-place.invariant n first parts)
    (subst (IsOrderedOver n) (sym c.in_ok-part.ensures) (at_place (IsOrderedOver n) c.args.parts.now c.loop-place.place c.at.result.now parts
    c.at.ensures.value)))
