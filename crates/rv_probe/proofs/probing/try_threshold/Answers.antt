use Rattle.std.proofs.{Common.subst, lemmas.Int.to_z-of_z}
use Rattle.std.specs.Int.{w128}
use Rattle.rv_tree.specs.Tree.{program_tree}
use Rattle.rv_types.specs.Instances.{name_at}
use Rattle.rv_probe.specs.Probes.{NeverFalsifies}
use Rattle.rv_probe.proofs.probing.try_threshold.Goals as goal

pub returns-then-is_within-clause-never : goal.returns-then-is_within-clause-never
returns-then-is_within-clause-never c = λ b e within.
    let s = c.args.source.now in
    let p = program_tree s.program in
    subst (NeverFalsifies p (name_at p s.typed.main) c.args.flat.now b) (to_z-of_z w128 c.args.number c.ranges.number) (c.try_number.ensures.never b e)
