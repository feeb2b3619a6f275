use Rattle.std.proofs.Common.{◌≡◌, ◌++◌, drop, length, map, Some}
use Rattle.rv_flat.specs.Filling.{ticks_from}
use Rattle.rv_step.proofs.ticking.push_ticks.Given as goal

abbrev pub invariant-loop-flow : goal.invariant-loop-flow
invariant-loop-flow l =
    l.ticked ++ ticks_from l.row l.now.ticked (length l.ticked) (map (λ k. Some k) (drop l.flow-index l.flows))
    ≡ l.initial.ticked ++ ticks_from l.row l.now.ticked (length l.initial.ticked) (map (λ k. Some k) l.flows)
