use Rattle.std.proofs.{lemmas.Int.to_z-of_z}
use Rattle.std.proofs.Common.{rules, FitsSigned}
use Rattle.std.specs.Int.{w128}
use Rattle.rv_pairs.proofs.sure.is_sure_together.Goals as goal

pub returns-then-is_sure_with : goal.returns-then-is_sure_with
returns-then-is_sure_with c e nodes v on always =
    let bound_fits : FitsSigned w128 c.args.bound = search rules in
    let shows = simp to_z-of_z at c.is_sure_with.ensures in
    shows c.if-is_sure_with.true nodes v on always
