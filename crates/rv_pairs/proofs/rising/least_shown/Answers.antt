use Rattle.std.proofs.Common.{◌≡◌, ◌≤◌, ◌^◌, ℤ, List, Some, take, length, arith, refl, subst, rules, FitsSigned}
use Rattle.std.proofs.{lemmas.Int.to_z-of_z, lemmas.List.take_all, lemmas.List.Elements.All-contains}
use Rattle.std.specs.{Int.w128, Int.RustNames.unsigned_abs}
use Rattle.rv_diagram.proofs.Growing.{extends_refl, extends_trans}
use Rattle.rv_base.proofs.Lists.{take_push, contains_got}
use Rattle.rv_ends.specs.Risen.{IsRisen}
use Rattle.rv_ends.proofs.Risen.{risen_as}
use Rattle.rv_pairs.specs.Hints.{HintsHold}
use Rattle.rv_pairs.proofs.{Raising.risen_first, Pairing.hints_stay, Hinting.hold_moves, Hinting.hold_later}
use Rattle.rv_pairs.proofs.rising.least_shown.Goals as goal

pub loop-place-init : goal.loop-place-init
loop-place-init c =
    let limit_fits : FitsSigned w128 c.args.limit = search rules in
    let constant_fits : FitsSigned w128 c.args.constant = search rules in
    record {
      extends = extends_refl c.args.store.now;
      risen = simp to_z-of_z (risen_first (HintsHold c.args.store.now.nodes c.args.inside c.args.hints.now c.args.constant) c.args.limit
          (take 0 c.args.thresholds.now) refl c.requires.limit);
    }

pub with_threshold-requires-clause-hints : goal.with_threshold-requires-clause-hints
with_threshold-requires-clause-hints c = hints_stay c.args.store.now c.loop-place.store c.args.hints.now c.loop-place.invariant.extends c.requires.hints

pub with_threshold-requires-clause-inside : goal.with_threshold-requires-clause-inside
with_threshold-requires-clause-inside c = omega (arith, c.requires.inside, c.loop-place.invariant.extends.longer)

pub with_threshold-requires-clause-threshold : goal.with_threshold-requires-clause-threshold
with_threshold-requires-clause-threshold c =
    let threshold_fits : FitsSigned w128 c.at-threshold.result.now = search rules in
    simp to_z-of_z (All-contains (λ (t : ℤ). unsigned_abs t ≤ 2 ^ 41) c.args.thresholds.now c.at-threshold.result.now c.requires.thresholds
    (contains_got c.args.thresholds.now c.loop-place.place c.at-threshold.result.now c.at-threshold.ensures.value))

pub loop-place-preserved : goal.loop-place-preserved
loop-place-preserved c =
    let constant_fits : FitsSigned w128 c.args.constant = search rules in
    let limit_fits : FitsSigned w128 c.args.limit = search rules in
    let threshold_fits : FitsSigned w128 c.at-threshold.result.now = search rules in
    let step = simp to_z-of_z at c.in_ok-best.ensures.risen in
    let before = simp to_z-of_z at c.loop-place.invariant.risen in
    let old = HintsHold c.args.store.now.nodes c.args.inside c.args.hints.now c.args.constant in
    let here = HintsHold c.loop-place.store.nodes c.args.inside c.args.hints.now c.args.constant in
    record {
      extends = extends_trans c.args.store.now c.loop-place.store c.with_threshold.new.store c.loop-place.invariant.extends c.in_ok-best.ensures.extends;
      risen = simp to_z-of_z (subst (λ (ts : List ℤ). IsRisen ts old (Some c.args.limit) c.in_ok-best.best)
          (take_push c.args.thresholds.now (take c.loop-place.place c.args.thresholds.now) c.loop-place.place c.at-threshold.result.now refl
          c.at-threshold.ensures.value)
          (risen_as _ here old (Some c.args.limit) c.in_ok-best.best
          (λ b k. hold_moves c.args.store.now c.loop-place.store c.args.inside c.args.hints.now c.args.constant b c.loop-place.invariant.extends
          c.requires.hints c.requires.inside k)
          (λ b k. hold_later c.args.store.now c.loop-place.store c.args.inside c.args.hints.now c.args.constant b c.loop-place.invariant.extends
          c.requires.hints c.requires.inside k)
          (step (take c.loop-place.place c.args.thresholds.now)
          (risen_as (take c.loop-place.place c.args.thresholds.now) old here (Some c.args.limit) c.loop-place.best
          (λ b k. hold_later c.args.store.now c.loop-place.store c.args.inside c.args.hints.now c.args.constant b c.loop-place.invariant.extends
          c.requires.hints c.requires.inside k)
          (λ b k. hold_moves c.args.store.now c.loop-place.store c.args.inside c.args.hints.now c.args.constant b c.loop-place.invariant.extends
          c.requires.hints c.requires.inside k) before))));
    }

pub returns-clause-risen : goal.returns-clause-risen
returns-clause-risen c =
    let e : c.loop-place.place ≡ length c.args.thresholds.now = omega (arith, c.loop-place-test.false, c.loop-place.auto, c.len-place-end.ensures) in
    let limit_fits : FitsSigned w128 c.args.limit = search rules in
    let constant_fits : FitsSigned w128 c.args.constant = search rules in
    let risen = simp to_z-of_z at c.loop-place.invariant.risen in
    subst (λ (ts : List ℤ). IsRisen ts (HintsHold c.args.store.now.nodes c.args.inside c.args.hints.now c.args.constant) (Some c.args.limit) c.loop-place.best)
    (take_all c.loop-place.place c.args.thresholds.now (omega (arith, e))) risen

pub returns-in_err-best-clause-extends : goal.returns-in_err-best-clause-extends
returns-in_err-best-clause-extends c =
    extends_trans c.args.store.now c.loop-place.store c.with_threshold.new.store c.loop-place.invariant.extends c.with_threshold.ensures.extends
