use Rattle.std.proofs.Common.{◌<◌, List, ℕ, length, get_or, sym, ◌∙◌, ap, subst, arith}
use Rattle.rv_instances.specs.{Expanded.program_of, Expanded.main_of, Layouts.all_places}
use Rattle.rv_sequence.specs.WeightTables.{told_weight, counted_weight}
use Rattle.rv_sequence.proofs.TableWeights.{given_within, weights_more, all_weights}
use Rattle.rv_sequence.proofs.flow_weights.flow_weights.Goals as goal

pub giver_weight-weight-requires-clause-within : goal.giver_weight-weight-requires-clause-within
giver_weight-weight-requires-clause-within c =
    let x = c.args.expanded.now in
    let k = c.loop-number.number-index in
    let items = c.as_slice-number-items.ensures in
    let lt = subst (λ (l : List ℕ). k < length l) items c.loop-number-test.true in
    let number = subst (λ (l : List ℕ). get_or l k 0 < length (all_places (program_of x) x.instances.now)) (sym items) (c.requires.sequence.within k lt) in
    given_within (program_of x) (main_of x) x.instances.now c.requires.known.expanded c.args.givers.now c.requires.givers
    (get_or c.as_slice-number-items.result.now k 0) c.at-giver.result.now number c.at-giver.ensures.value

pub loop-number-preserved : goal.loop-number-preserved
loop-number-preserved c =
    let x = c.args.expanded.now in
    let k = c.loop-number.number-index in
    let items = c.as_slice-number-items.ensures in
    let lt = subst (λ (l : List ℕ). k < length l) items c.loop-number-test.true in
    weights_more (program_of x) (main_of x) x.instances.now c.requires.known.expanded c.args.sequence.now c.requires.sequence c.args.layout.now
    c.requires.layout c.args.values.now c.requires.values c.args.givers.now c.requires.givers
    c.loop-number.weights c.set.new.self k c.giver_weight-weight.result (get_or c.as_slice-number-items.result.now k 0) c.at-giver.result.now lt
    (ap (λ (l : List ℕ). get_or l k 0) items) c.at-giver.ensures.value
    c.loop-number.invariant
    (c.giver_weight-weight.ensures ∙ ap (λ (ws : List ℕ). counted_weight
    (told_weight (program_of x) x.instances.now c.args.values.now c.args.layout.now ws c.at-giver.result.now)) c.as_slice.ensures)
    c.set.ensures

pub returns : goal.returns
returns c =
    let x = c.args.expanded.now in
    let k = c.loop-number.number-index in
    let size = ap length c.as_slice-number-items.ensures in
    let ge = c.loop-number-test.false in
    let le = c.loop-number.auto.number-index-end in
    all_weights (program_of x) (main_of x) x.instances.now c.requires.known.expanded c.args.sequence.now c.requires.sequence c.loop-number.weights k
    (omega (arith, size, ge)) (omega (arith, size, le)) c.loop-number.invariant
