use Rattle.std.proofs.{Common.true, Common.false, Common.subst, lemmas.Int.to_z-of_z}
use Rattle.std.specs.Int.{w128}
use Rattle.rv_tree.specs.Tree.{program_tree}
use Rattle.rv_types.specs.Instances.{name_at}
use Rattle.rv_probe.specs.Probes.{IsCutProbe, NeverFalsifies}
use Rattle.rv_probe.proofs.probing.try_number.Goals as goal

pub returns-in-Some-clause-found : goal.returns-in-Some-clause-found
returns-in-Some-clause-found c = λ t e.
    let s = c.args.source.now in
    let p = program_tree s.program in (
      false,
      subst (λ z. IsCutProbe p (name_at p s.typed.main) c.args.flat.now false z t) (to_z-of_z w128 c.args.number c.ranges.number)
          (c.in_ok-trace.ensures.found t (cc)),
    )

pub returns-in-None-clause-found : goal.returns-in-None-clause-found
returns-in-None-clause-found c = λ t e.
    let s = c.args.source.now in
    let p = program_tree s.program in (
      true,
      subst (λ z. IsCutProbe p (name_at p s.typed.main) c.args.flat.now true z t) (to_z-of_z w128 c.args.number c.ranges.number)
          (c.try_probe-in-None.ensures.found t e),
    )

pub returns-in-None-clause-never : goal.returns-in-None-clause-never
returns-in-None-clause-never c = λ b e.
    let s = c.args.source.now in
    let p = program_tree s.program in
    let same = to_z-of_z w128 c.args.number c.ranges.number in
    elim b as (λ x. NeverFalsifies p (name_at p s.typed.main) c.args.flat.now x c.args.number) [
      | true ↦ subst (λ z. NeverFalsifies p (name_at p s.typed.main) c.args.flat.now true z) same (c.try_probe-in-None.ensures.never e)
      | false ↦ subst (λ z. NeverFalsifies p (name_at p s.typed.main) c.args.flat.now false z) same (c.in_ok-trace.ensures.never (cc))
    ]
