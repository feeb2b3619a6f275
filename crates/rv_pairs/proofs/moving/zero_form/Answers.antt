use Rattle.std.proofs.Common.{pos, [], ◌∷◌, ◌++◌, ◌∙◌, ap}
use Rattle.rv_pairs.proofs.Following.{zeros_more}
use Rattle.rv_pairs.proofs.moving.zero_form.Goals as goal

pub loop-preserved : goal.loop-preserved
loop-preserved c = c.in_ok-push.ensures.ok ∙ ap (λ l. l ++ pos 0 ∷ []) c.loop.invariant ∙ zeros_more c.loop.counter
