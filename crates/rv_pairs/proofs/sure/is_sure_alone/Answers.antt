use Rattle.std.proofs.Common.{rules, FitsSigned}
use Rattle.std.proofs.{lemmas.Int.to_z-of_z}
use Rattle.std.specs.Int.{w128}
use Rattle.rv_pairs.proofs.sure.is_sure_alone.Goals as goal

pub returns-then-is_sure_at : goal.returns-then-is_sure_at
returns-then-is_sure_at c e v on =
    let bound_fits : FitsSigned w128 c.args.bound = search rules in
    let shows = simp to_z-of_z at c.is_sure_at.ensures in
    shows c.if-is_sure_at.true c.args.store.now.nodes v on
