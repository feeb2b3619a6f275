use Rattle.std.proofs.Common.{◌≡◌, List, take, length, arith, sym, subst}
use Rattle.std.proofs.lemmas.List.{take_all}
use Rattle.std.proofs.lemmas.List.Elements.{All-nil}
use Rattle.rv_pairs.specs.{declared.labels.Labelled.Labelled, Labels.active, Labels.IsLabel, Labels.AreLabels, Telling.Tells}
use Rattle.rv_pairs.proofs.{Counting.label_at, Silent.tells_none, Silent.told_more, Silent.labels_told}
use Rattle.rv_pairs.proofs.labels.telling.Goals as goal

pub loop-place-init : goal.loop-place-init
loop-place-init c = record {
  labels = λ nodes are. subst (AreLabels nodes) (sym c.new-told.ensures) (All-nil (IsLabel nodes));
  told = λ nodes v. subst (λ (ls : List Labelled). Tells (active nodes (take 0 c.args.labels.now) v) (active nodes ls v)) (sym c.new-told.ensures) tells_none;
}

pub loop-place-preserved : goal.loop-place-preserved
loop-place-preserved c = record {
  labels = λ nodes are. labels_told nodes c.loop-place.told c.tell_row.new.told c.at.result.now (c.loop-place.invariant.labels nodes are)
      (label_at nodes c.args.labels.now c.loop-place.place c.at.result.now c.at.ensures.value are) c.in_ok-tell_row.ensures;
  told = λ nodes v. told_more nodes c.args.labels.now c.loop-place.place c.at.result.now c.loop-place.told c.tell_row.new.told v c.at.ensures.value
      (c.loop-place.invariant.told nodes v) c.in_ok-tell_row.ensures;
}

pub returns-clause-told : goal.returns-clause-told
returns-clause-told c nodes v =
    let e : c.loop-place.place ≡ length c.args.labels.now = omega (arith, c.loop-place-test.false, c.loop-place.auto, c.len-place-end.ensures) in
    subst (λ (ls : List Labelled). Tells (active nodes ls v) (active nodes c.loop-place.told v))
    (take_all c.loop-place.place c.args.labels.now (omega (arith, e)))
    (c.loop-place.invariant.told nodes v)
