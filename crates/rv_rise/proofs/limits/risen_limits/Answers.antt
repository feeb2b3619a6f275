use Rattle.std.proofs.Common.{◌≡◌, ◌≢◌, ◌<◌, ◌||◌, ◌+◌, ◌++◌, ◌∷◌, [], Bool, true, List, ℤ, take, subst, sym, refl, ◌∙◌, Option, None, ◌⊎◌, arith, length}
use Rattle.std.proofs.lemmas.Option.{get_or_from_slice_get}
use Rattle.rv_diagram.specs.Nodes.{Diagrams, Valuation, IsRef, value_of}
use Rattle.rv_cases.specs.Questions.{AreQuestions}
use Rattle.rv_rows.specs.{Rows.row_at}
use Rattle.rv_pairs.specs.{Labels.AreLabels, Moves.HoldsWhere}
use Rattle.rv_ends.specs.Risen.{IsRisen}
use Rattle.rv_rise.specs.{Limits.AreRisen, Limits.HasChanged, Limits.room_of, Sides.IsSide}
use Rattle.rv_rise.proofs.Loosening.{risen_more, risen_room, changed_more, match_true, match_false}
use Rattle.rv_rise.proofs.Fitting.{side_small, some_memories, limit_small}
use Rattle.rv_base.proofs.Lists.{take_push}
use Rattle.rv_rise.proofs.limits.risen_limits.Goals as goal

pub columns_of-columns-requires : goal.columns_of-columns-requires
columns_of-columns-requires c = let (s, is, are, sides) = c.requires.asked in (s, is, are)

pub risen_limit-requires-clause-asked : goal.risen_limit-requires-clause-asked
risen_limit-requires-clause-asked c =
    let (s, is, are, sides) = c.requires.asked in
    let here : row_at c.args.frame.now.sides c.loop-place.place ≡ c.at-side.result.now = get_or_from_slice_get c.args.frame.now.sides c.loop-place.place
    c.at-side.result.now _ c.at-side.ensures.value in
    let side : IsSide s c.at-side.result.now = subst (IsSide s) here (sides.each c.loop-place.place (omega (
      arith,
      c.requires.sizes,
      c.loop-place-test.true,
      c.loop-place.auto,
      c.len-place-end.ensures,
    ))) in (
      s,
      is,
      subst (λ (d : Diagrams). AreQuestions s d c.args.questions.now) (sym c.loop-place.invariant.same) are,
      side.size,
      c.columns_of-columns.ensures s is are (some_memories s c.at-side.result.now side),
    )

pub risen_limit-requires-clause-taken : goal.risen_limit-requires-clause-taken
risen_limit-requires-clause-taken c = subst (λ (d : Diagrams). IsRef d.nodes c.args.taken) (sym c.loop-place.invariant.same) c.requires.taken

pub risen_limit-requires-clause-sure : goal.risen_limit-requires-clause-sure
risen_limit-requires-clause-sure c = subst (λ (d : Diagrams). IsRef d.nodes c.args.sure) (sym c.loop-place.invariant.same) c.requires.sure

pub risen_limit-requires-clause-within : goal.risen_limit-requires-clause-within
risen_limit-requires-clause-within c = subst (λ (d : Diagrams). (v : Valuation) → value_of d.nodes c.args.taken v ≡ true
    → value_of d.nodes c.args.sure v ≡ true)
    (sym c.loop-place.invariant.same) c.requires.within

pub risen_limit-requires-clause-labels : goal.risen_limit-requires-clause-labels
risen_limit-requires-clause-labels c = subst (λ (d : Diagrams). AreLabels d.nodes c.args.labels.now) (sym c.loop-place.invariant.same) c.requires.labels

pub risen_limit-requires-clause-side : goal.risen_limit-requires-clause-side
risen_limit-requires-clause-side c =
    let (s, is, are, sides) = c.requires.asked in
    let here : row_at c.args.frame.now.sides c.loop-place.place ≡ c.at-side.result.now = get_or_from_slice_get c.args.frame.now.sides c.loop-place.place
    c.at-side.result.now _ c.at-side.ensures.value in
    side_small s c.at-side.result.now (subst (IsSide s) here (sides.each c.loop-place.place (omega (
      arith,
      c.requires.sizes,
      c.loop-place-test.true,
      c.loop-place.auto,
      c.len-place-end.ensures,
    ))))

pub risen_limit-requires-clause-limit : goal.risen_limit-requires-clause-limit
risen_limit-requires-clause-limit c = limit_small c.args.limits.now c.requires.small c.loop-place.place c.at-limit.result.now
    (get_or_from_slice_get c.args.limits.now c.loop-place.place c.at-limit.result.now None c.at-limit.ensures.value)

pub loop-place-preserved : goal.loop-place-preserved
loop-place-preserved c =
    let (s, is, are, sides) = c.requires.asked in
    let limits = c.args.limits.now in
    let m = c.loop-place.place in
    let old = c.at-limit.result.now in
    let new = c.in_ok-next.next in
    let here : row_at c.args.frame.now.sides m ≡ c.at-side.result.now = get_or_from_slice_get c.args.frame.now.sides m c.at-side.result.now _
    c.at-side.ensures.value in
    let low : m < length c.args.frame.now.sides = omega (arith, c.requires.sizes, c.loop-place-test.true, c.loop-place.auto, c.len-place-end.ensures) in
    let side : IsSide s c.at-side.result.now = subst (IsSide s) here (sides.each m low) in
    let risen = c.in_ok-next.ensures.risen s is (subst (λ (d : Diagrams). AreQuestions s d c.args.questions.now) (sym c.loop-place.invariant.same) are)
    side.size
    (c.columns_of-columns.ensures s is are (some_memories s c.at-side.result.now side)) (some_memories s c.at-side.result.now side) in
    let room_is : (new ≡ old) ⊎ (room_of new < room_of old) = risen_room c.args.frame.now.thresholds
    (HoldsWhere s c.loop-place.store.nodes c.args.labels.now c.args.taken c.at-side.result.now.coefficients) old new c.requires.thresholds risen in
    let grown : HasChanged (c.loop-place.changed || c.is_changed.result) (take m limits ++ old ∷ []) (c.loop-place.list ++ new ∷ []) =
    changed_more c.loop-place.changed c.is_changed.result (take m limits) c.loop-place.list old new c.loop-place.invariant.changed room_is
    (λ e n. match_true c.is_changed.result (old ≢ new) (new ≡ old) c.is_changed.ensures e (sym n))
    (match_false c.is_changed.result (old ≢ new) (new ≡ old) c.is_changed.ensures) in
    record {
      same = c.risen_limit.ensures.same ∙ c.loop-place.invariant.same;
      risen = λ t it these all.
          let one : IsSide t c.at-side.result.now = subst (IsSide t) here (all.each m low) in
          subst (λ (l : List (Option ℤ)). AreRisen c.args.frame.now.thresholds (HoldsWhere t c.args.store.now.nodes c.args.labels.now c.args.taken)
          c.args.frame.now.sides (m + 1) limits l)
          (sym c.in_ok-push.ensures.ok)
          (risen_more c.args.frame.now.thresholds (HoldsWhere t c.args.store.now.nodes c.args.labels.now c.args.taken) c.args.frame.now.sides m limits
          c.loop-place.list old new c.at-side.result.now (c.loop-place.invariant.risen t it these all)
          (get_or_from_slice_get limits m old None c.at-limit.ensures.value) here
          (subst (λ (d : Diagrams). IsRisen c.args.frame.now.thresholds (HoldsWhere t d.nodes c.args.labels.now c.args.taken
          c.at-side.result.now.coefficients) old new) c.loop-place.invariant.same
          (c.in_ok-next.ensures.risen t it (subst (λ (d : Diagrams). AreQuestions t d c.args.questions.now) (sym c.loop-place.invariant.same) these) one.size
          (c.columns_of-columns.ensures t it these (some_memories t c.at-side.result.now one)) (some_memories t c.at-side.result.now one))));
      changed = subst (λ (b : Bool). HasChanged b (take (m + 1) limits) c.push.new.self) (sym c.either-changed.ensures)
          (subst (λ (l : List (Option ℤ)). HasChanged (c.loop-place.changed || c.is_changed.result) (take (m + 1) limits) l) (sym c.in_ok-push.ensures.ok)
          (subst (λ (l : List (Option ℤ)). HasChanged (c.loop-place.changed || c.is_changed.result) l (c.loop-place.list ++ new ∷ []))
          (take_push limits (take m limits) m old refl c.at-limit.ensures.value) grown));
    }
