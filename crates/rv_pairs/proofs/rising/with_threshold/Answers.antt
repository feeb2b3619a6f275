use Rattle.std.proofs.Common.{rules, FitsSigned}
use Rattle.std.proofs.{lemmas.Int.to_z-of_z}
use Rattle.std.specs.Int.{w128}
use Rattle.rv_pairs.specs.Hints.{HintsHold}
use Rattle.rv_pairs.proofs.Raising.{threshold_worse, threshold_next}
use Rattle.rv_pairs.proofs.rising.with_threshold.Goals as goal

pub returns-then-is_better-clause-risen : goal.returns-then-is_better-clause-risen
returns-then-is_better-clause-risen c before so_far =
    let threshold_fits : FitsSigned w128 c.args.threshold = search rules in
    let constant_fits : FitsSigned w128 c.args.constant = search rules in
    let limit_fits : FitsSigned w128 c.args.limit = search rules in
    let better = simp to_z-of_z at c.if-is_better.ensures in
    let exact = simp to_z-of_z at c.in_ok-shown.ensures.exact in
    let yes = simp to_z-of_z at c.if_shown.ensures.shown in
    threshold_next before (HintsHold c.args.store.now.nodes c.args.inside c.args.hints.now c.args.constant) c.args.limit c.args.threshold c.args.best so_far
    c.in_ok-shown.shown c.if_shown.result exact yes c.if_shown.ensures.not_shown better.0 better.1

pub returns-clause-risen : goal.returns-clause-risen
returns-clause-risen c before so_far =
    let threshold_fits : FitsSigned w128 c.args.threshold = search rules in
    let constant_fits : FitsSigned w128 c.args.constant = search rules in
    let limit_fits : FitsSigned w128 c.args.limit = search rules in
    let worse = simp to_z-of_z at c.if-is_better.ensures in
    threshold_worse before (HintsHold c.args.store.now.nodes c.args.inside c.args.hints.now c.args.constant) c.args.limit c.args.threshold c.args.best so_far
    worse
