use Rattle.std.proofs.Common.{◌≡◌, ◌||◌, Bool, false, length, get_or, sym, ◌∙◌, ap, Some}
use Rattle.rv_flat.specs.FlatInstants.{is_on_at}
use Rattle.rv_step.proofs.{TickSteps.one_tick, ticking.push_ticks.Goals.then-had_ticked, ticking.push_ticks.Goals.else-had_ticked}
use Rattle.rv_step.proofs.ticking.push_ticks.Goals as goal

pub loop-flow-preserved : goal.loop-flow-preserved
loop-flow-preserved c =
    let row = c.args.row.now in
    let had = c.args.now.now.ticked in
    let old = c.loop-flow.ticked in
    let i = c.loop-flow.flow-index in
    let flows = c.args.flows.now in
    let here = c.had_ticked.ensures ∙ ap (λ n. get_or had n false) c.len.ensures in
    let tick : c.if-had_ticked.tick ≡ (get_or had (length old) false || is_on_at row (Some (get_or flows i 0))) =
    elim c.if-had_ticked.branch [
      | then-had_ticked w ↦ w.tick-is ∙ w.if-had_ticked.true ∙ ap (λ (b : Bool). b || is_on_at row (Some (get_or flows i 0))) (sym w.if-had_ticked.true ∙ here)
      | else-had_ticked w ↦ w.tick-is ∙ w.is_flow_on-tick.ensures ∙ ap (λ (b : Bool). b || is_on_at row (Some (get_or flows i 0)))
          (sym w.if-had_ticked.false ∙ here)
    ] in
    one_tick row had flows i c.if-had_ticked.tick old c.push.new.self _ c.loop-flow-test.true tick c.in_ok-push.ensures.ok c.loop-flow.invariant
