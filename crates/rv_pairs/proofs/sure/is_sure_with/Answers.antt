use Rattle.std.proofs.{lemmas.Int.to_z-of_z}
use Rattle.std.proofs.Common.{rules, FitsSigned}
use Rattle.std.specs.Int.{w128}
use Rattle.rv_seek.specs.Least.{bounded}
use Rattle.rv_pairs.proofs.Placing.{before_shows}
use Rattle.rv_pairs.proofs.sure.is_sure_with.Goals as goal

pub returns-then-is_sure_pair : goal.returns-then-is_sure_pair
returns-then-is_sure_pair c e nodes v on always =
    let bound_fits : FitsSigned w128 c.args.bound = search rules in
    let here = c.is_one_of.ensures c.if-not-is_one_of.false nodes v on always in
    let shows = simp to_z-of_z at c.is_sure_pair.ensures in
    before_shows nodes v c.args.labels.now c.at-earlier.result.now c.args.place c.at-label.result.now (bounded c.args.numbers.now c.args.bound)
    c.at-label.ensures.value here (shows c.if-is_sure_pair.true nodes v on always here)
