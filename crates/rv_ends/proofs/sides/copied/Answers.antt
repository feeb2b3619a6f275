use Rattle.std.proofs.Common.{◌∙◌, ◌++◌, ◌∷◌, [], ap}
use Rattle.rv_terms.specs.declared.parted.Part.{Part}
use Rattle.rv_base.proofs.Lists.{take_push}
use Rattle.rv_ends.proofs.sides.copied.Goals as goal

pub loop-place-preserved : goal.loop-place-preserved
loop-place-preserved c =
    c.in_ok-push.ensures.ok
    ∙ ap (λ (p : Part). c.loop-place.parts ++ p ∷ []) c.in_ok-part.ensures
    ∙ take_push c.args.side.now.end.parts c.loop-place.parts c.loop-place.place c.at.result.now c.loop-place.invariant c.at.ensures.value
