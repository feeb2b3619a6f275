use Rattle.std.proofs.Common.{ℕ, ◌<◌, List, [], ◌∷◌, get_or, take, refl, sym, subst, arith}
use Rattle.std.proofs.lemmas.List.{take_more}
use Rattle.rv_calls.specs.Components.{IsSpread}
use Rattle.rv_instances.proofs.Lists.{at_contains}
use Rattle.rv_calls.proofs.Searches.{spread_not, spread_more}
use Rattle.rv_types.proofs.Members.{nothing_in}
use Rattle.rv_calls.proofs.reach.spread.Goals as goal

pub loop-target-init : goal.loop-target-init
loop-target-init c = spread_not c.args.allowed.now c.args.wanted c.args.from [] c.args.marks.now c.args.waiting.now (λ k w. nothing_in k w)

pub mark-requires-clause-allowed : goal.mark-requires-clause-allowed
mark-requires-clause-allowed c =
    c.requires.allowed (get_or c.args.targets.now c.loop-target.target-index 0)
    (at_contains c.args.targets.now (get_or c.args.targets.now c.loop-target.target-index 0) c.loop-target.target-index (omega arith) refl)

pub mark-requires-clause-marks : goal.mark-requires-clause-marks
mark-requires-clause-marks c =
    subst (λ n. get_or c.args.targets.now c.loop-target.target-index 0 < n) (sym c.loop-target.invariant.size)
    (c.requires.marks (get_or c.args.targets.now c.loop-target.target-index 0)
    (at_contains c.args.targets.now (get_or c.args.targets.now c.loop-target.target-index 0) c.loop-target.target-index (omega arith) refl))

pub loop-target-preserved : goal.loop-target-preserved
loop-target-preserved c =
    subst (λ (ts : List ℕ). IsSpread c.args.allowed.now c.args.wanted c.args.from ts c.args.marks.now c.args.waiting.now c.mark.new.marks c.mark.new.waiting)
    (sym (take_more c.args.targets.now c.loop-target.target-index 0 (omega arith)))
    (spread_more c.args.allowed.now c.args.wanted c.args.from (take c.loop-target.target-index c.args.targets.now)
    (get_or c.args.targets.now c.loop-target.target-index 0 ∷ [])
    c.args.marks.now c.loop-target.marks c.mark.new.marks c.args.waiting.now c.loop-target.waiting c.mark.new.waiting c.loop-target.invariant
    c.in_ok-mark.ensures)
