use Rattle.std.proofs.Common.{◌≡◌, ◌∙◌, ◌+◌, ◌-◌, ◌∷◌, [], Bool, List, Option, Some, None, length, length-append, get_or, ap, subst, sym, arith}
use Rattle.std.proofs.lemmas.Option.{get_or_from_slice_get}
use Rattle.rv_diagram.specs.{Nodes.Diagrams, Nodes.Valuation, declared.frozen.Frozen.Frozen}
use Rattle.rv_proofs.specs.{Systems.System, Ranges.IsControlSet}
use Rattle.rv_symbolic.specs.{Represented.IsRelationOf, Words.IsLeastOf, Words.IsLeastWord, Words.LeadsTo}
use Rattle.rv_walk.specs.Trails.{IsTrail}
use Rattle.rv_walk.proofs.Trailing.{layer_control, trail_more, trail_broken}
use Rattle.rv_walk.proofs.path.trail.Goals as goal

pub leading-requires : goal.leading-requires
leading-requires c =
    let s : System = c.requires.0 in
    let t : IsTrail s c.args.first.now c.args.layers.now.sets c.args.failing.layer c.loop-back.words =
    c.loop-back.invariant.trail s c.requires.1 c.requires.2 c.requires.3 in
    let word : c.as_slice.result.now ≡ get_or c.loop-back.words c.loop-back.back [] = c.as_slice.ensures
    ∙ sym (get_or_from_slice_get c.loop-back.words c.loop-back.back c.at.result.now [] c.at.ensures.value) in (
      s,
      subst (λ (d : Diagrams). IsRelationOf s d c.args.relation.now) (sym c.loop-back.invariant.same) c.requires.1,
      subst (IsControlSet s) (sym c.layer_at-before.ensures)
          (layer_control s c.args.first.now c.args.layers.now.sets (c.args.failing.layer - 1 - c.loop-back.back) c.requires.2
          (omega (arith, c.requires.3.low, c.loop-back-test.true))),
      ap length word ∙ t.sizes c.loop-back.back (omega (arith, c.loop-back.invariant.count)),
    )

pub returns-in_default-clause-trailed : goal.returns-in_default-clause-trailed
returns-in_default-clause-trailed c s is are f =
    let t : IsTrail s c.args.first.now c.args.layers.now.sets c.args.failing.layer c.loop-back.words = c.loop-back.invariant.trail s is are f in
    let word : c.as_slice.result.now ≡ get_or c.loop-back.words c.loop-back.back [] = c.as_slice.ensures
    ∙ sym (get_or_from_slice_get c.loop-back.words c.loop-back.back c.at.result.now [] c.at.ensures.value) in
    let control : IsControlSet s c.layer_at-before.result.now = subst (IsControlSet s) (sym c.layer_at-before.ensures)
    (layer_control s c.args.first.now c.args.layers.now.sets (c.args.failing.layer - 1 - c.loop-back.back) are
    (omega (arith, f.low, c.loop-back-test.true))) in
    let none : IsLeastOf s (LeadsTo s c.layer_at-before.result.now c.as_slice.result.now) None =
    subst (λ (o : Option (List Bool)). IsLeastOf s (LeadsTo s c.layer_at-before.result.now c.as_slice.result.now) o) c.in_default.is
    (c.in_ok-found.ensures.exact s (subst (λ (d : Diagrams). IsRelationOf s d c.args.relation.now) (sym c.loop-back.invariant.same) is) control) in
    trail_broken s c.args.first.now c.args.layers.now.sets c.args.failing.layer c.loop-back.back c.loop-back.words c.loop-back.invariant.count
    c.loop-back-test.true t f.low
    (subst (λ (set : Frozen). (v : Valuation) → ¬ LeadsTo s set (get_or c.loop-back.words c.loop-back.back []) v) c.layer_at-before.ensures
    (subst (λ (to : List Bool). (v : Valuation) → ¬ LeadsTo s c.layer_at-before.result.now to v) word none))

pub loop-back-preserved : goal.loop-back-preserved
loop-back-preserved c = record {
  same = c.leading.ensures.same ∙ c.loop-back.invariant.same;
  count = ap length c.in_ok-push-2.ensures.ok ∙ length-append c.loop-back.words (c.in-Some.word ∷ []) ∙ ap (λ n. n + 1) c.loop-back.invariant.count;
  trail = λ s is are f.
      let t : IsTrail s c.args.first.now c.args.layers.now.sets c.args.failing.layer c.loop-back.words = c.loop-back.invariant.trail s is are f in
      let word : c.as_slice.result.now ≡ get_or c.loop-back.words c.loop-back.back [] = c.as_slice.ensures
      ∙ sym (get_or_from_slice_get c.loop-back.words c.loop-back.back c.at.result.now [] c.at.ensures.value) in
      let control : IsControlSet s c.layer_at-before.result.now = subst (IsControlSet s) (sym c.layer_at-before.ensures)
      (layer_control s c.args.first.now c.args.layers.now.sets (c.args.failing.layer - 1 - c.loop-back.back) are
      (omega (arith, f.low, c.loop-back-test.true))) in
      let least : IsLeastOf s (LeadsTo s c.layer_at-before.result.now c.as_slice.result.now) (Some c.in-Some.word) =
      subst (λ (o : Option (List Bool)). IsLeastOf s (LeadsTo s c.layer_at-before.result.now c.as_slice.result.now) o) c.in-Some.is
      (c.in_ok-found.ensures.exact s (subst (λ (d : Diagrams). IsRelationOf s d c.args.relation.now) (sym c.loop-back.invariant.same) is) control) in
      subst (IsTrail s c.args.first.now c.args.layers.now.sets c.args.failing.layer) (sym c.in_ok-push-2.ensures.ok)
      (trail_more s c.args.first.now c.args.layers.now.sets c.args.failing.layer c.loop-back.back c.loop-back.words c.loop-back.invariant.count
      c.loop-back-test.true t c.in-Some.word
      (subst (λ (set : Frozen). IsLeastWord s (LeadsTo s set (get_or c.loop-back.words c.loop-back.back [])) c.in-Some.word) c.layer_at-before.ensures
      (subst (λ (to : List Bool). IsLeastWord s (LeadsTo s c.layer_at-before.result.now to) c.in-Some.word) word least)));
}
