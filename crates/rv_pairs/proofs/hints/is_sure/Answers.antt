use Rattle.std.proofs.Common.{rules, FitsSigned}
use Rattle.std.proofs.{lemmas.Int.to_z-of_z}
use Rattle.std.specs.Int.{w128}
use Rattle.rv_base.proofs.Lists.{contains_got}
use Rattle.rv_pairs.proofs.hints.is_sure.Goals as goal

pub returns-then-is_sure_hint : goal.returns-then-is_sure_hint
returns-then-is_sure_hint c e nodes v on always =
    let bound_fits : FitsSigned w128 c.args.bound = search rules in
    let shows = simp to_z-of_z at c.is_sure_hint.ensures in (
      c.at.result.now,
      contains_got c.args.hints.now c.loop-place.place c.at.result.now c.at.ensures.value,
      shows c.if-is_sure_hint.true nodes v on always,
    )
