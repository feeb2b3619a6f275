use Rattle.std.proofs.Common.{ℕ, List, map, length, sym, ◌∙◌, ap}
use Rattle.rv_types.specs.WideConstants.{lesser}
use Rattle.rv_instances.specs.{Expanded.program_of, Expanded.main_of, Flowing.place_at, Layouts.all_places}
use Rattle.rv_sequence.specs.WideNodes.{wide_in_first}
use Rattle.rv_sequence.proofs.WideLeast.{none_wide, first_wide_is}
use Rattle.rv_sequence.proofs.weight_check.check_weights.Goals as goal

pub returns-in-None-clause-light : goal.returns-in-None-clause-light
returns-in-None-clause-light c =
    let x = c.args.expanded.now in
    let p = program_of x in
    let all = λ (ws : List ℕ). wide_in_first p x.instances.now c.named_values-values.result c.args.layout.now ws (length x.instances.now) in
    none_wide p (main_of x) x.instances.now c.requires.known.expanded c.requires.sided c.args.layout.now c.requires.layout c.named_values-values.result
    c.named_values-values.ensures c.in_ok-weights.weights c.in_ok-weights.ensures
    (map (place_at (all_places p x.instances.now)) c.args.sequence.now) c.requires.sequence.ordered
    (sym ((λ i. lesser (c.wide_constant-constant.ensures i) ((c.wide_in_instances-instance.ensures ∙ ap all c.as_slice.ensures) i))) ∙ sym c.in-None.ensures)

pub returns-clause-wide : goal.returns-clause-wide
returns-clause-wide c =
    let x = c.args.expanded.now in
    let p = program_of x in
    let all = λ (ws : List ℕ). wide_in_first p x.instances.now c.named_values-values.result c.args.layout.now ws (length x.instances.now) in
    first_wide_is p (main_of x) x.instances.now c.requires.known.expanded c.requires.sided c.args.layout.now c.requires.layout c.named_values-values.result
    c.named_values-values.ensures c.in_ok-weights.weights c.in_ok-weights.ensures
    (map (place_at (all_places p x.instances.now)) c.args.sequence.now) c.requires.sequence.ordered c.in-Some.at
    (sym ((λ i. lesser (c.wide_constant-constant.ensures i) ((c.wide_in_instances-instance.ensures ∙ ap all c.as_slice.ensures) i))) ∙ sym c.in-Some.ensures)
