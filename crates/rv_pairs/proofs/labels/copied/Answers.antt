use Rattle.std.proofs.Common.{◌≡◌, ◌∙◌, ◌++◌, ◌∷◌, [], List, take, length, arith, ap, refl}
use Rattle.std.proofs.lemmas.List.{take_all}
use Rattle.rv_base.proofs.Lists.{take_push}
use Rattle.rv_pairs.specs.declared.labels.Labelled.{Labelled}
use Rattle.rv_pairs.proofs.labels.copied.Goals as goal

pub loop-place-preserved : goal.loop-place-preserved
loop-place-preserved c =
    c.in_ok-push.ensures.ok ∙ ap (λ (ls : List Labelled). ls ++ c.in_ok-copy.copy ∷ []) c.loop-place.invariant
    ∙ ap (λ (l : Labelled). take c.loop-place.place c.args.labels.now ++ l ∷ []) c.in_ok-copy.ensures
    ∙ take_push c.args.labels.now (take c.loop-place.place c.args.labels.now) c.loop-place.place c.at.result.now refl c.at.ensures.value

pub returns : goal.returns
returns c =
    let e : c.loop-place.place ≡ length c.args.labels.now = omega (arith, c.loop-place-test.false, c.loop-place.auto, c.len-place-end.ensures) in
    c.loop-place.invariant ∙ take_all c.loop-place.place c.args.labels.now (omega (arith, e))
