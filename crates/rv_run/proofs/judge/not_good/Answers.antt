use Rattle.std.proofs.Common.{Ok, true≢false, ap, sym, ◌∙◌, subst}
use Rattle.rv_tree.specs.Tree.{program_tree}
use Rattle.rv_types.specs.Instances.{name_at}
use Rattle.rv_flat.specs.{FlatOf.IsFlatOf}
use Rattle.rv_reading.specs.Read.{flat_of}
use Rattle.rv_probe.specs.Probes.{HasFalsifyingProbe}
use Rattle.rv_run.specs.{Judged.IsControlSystem, Judged.IsKnown}
use Rattle.rv_run.proofs.{Integers.system_control, NoIntegers.no_columns}
use Rattle.rv_run.proofs.judge.not_good.Goals as goal

pub violated-requires-clause-program_control : goal.violated-requires-clause-program_control
violated-requires-clause-program_control c =
    let p = program_tree c.args.source.now.program in
    let main = name_at p c.args.source.now.typed.main in
    let known = c.requires.known in
    system_control p main (flat_of c.args.reading.now) known.flat known.well known.named
    (subst IsControlSystem c.flat-flat.ensures (c.is_control.ensures.0 c.if-is_control.true))

pub violated-requires-clause-columns : goal.violated-requires-clause-columns
violated-requires-clause-columns c =
    no_columns (flat_of c.args.reading.now) (subst IsControlSystem c.flat-flat.ensures (c.is_control.ensures.0 c.if-is_control.true))

pub early-requires : goal.early-requires
early-requires c =
    let p = program_tree c.args.source.now.program in
    record { flat = subst (IsFlatOf p (name_at p c.args.source.now.typed.main)) (sym c.flat-flat.ensures) c.requires.known.flat }

pub hunted-requires-clause-known : goal.hunted-requires-clause-known
hunted-requires-clause-known c =
    let p = program_tree c.args.source.now.program in
    subst (IsKnown p (name_at p c.args.source.now.typed.main)) (sym c.flat-flat.ensures) c.requires.known

pub hunted-requires-clause-integers : goal.hunted-requires-clause-integers
hunted-requires-clause-integers c = λ control. true≢false (sym (c.is_control.ensures.1 control) ∙ c.if-is_control.false)

pub hunted-requires-clause-unprobed : goal.hunted-requires-clause-unprobed
hunted-requires-clause-unprobed c = λ has.
    let p = program_tree c.args.source.now.program in
    let here = subst (HasFalsifyingProbe p (name_at p c.args.source.now.typed.main)) c.flat-flat.ensures has in
    true≢false (sym (c.is_control.ensures.1 (subst IsControlSystem (sym c.flat-flat.ensures) (c.requires.unprobed here))) ∙ c.if-is_control.false)

pub hunted-requires-clause-falsifying : goal.hunted-requires-clause-falsifying
hunted-requires-clause-falsifying c = c.in_ok-trace.ensures.falsifies c.in-Some.trace (ap Ok c.in-Some.is)

pub analysed-requires-clause-integers : goal.analysed-requires-clause-integers
analysed-requires-clause-integers c = λ control.
    true≢false (sym (c.is_control.ensures.1 (subst IsControlSystem (sym c.flat-flat.ensures) control)) ∙ c.if-is_control.false)

pub analysed-requires-clause-unprobed : goal.analysed-requires-clause-unprobed
analysed-requires-clause-unprobed c = λ has.
    true≢false (sym (c.is_control.ensures.1 (subst IsControlSystem (sym c.flat-flat.ensures) (c.requires.unprobed has))) ∙ c.if-is_control.false)

pub returns-in-Some-clause-judged : goal.returns-in-Some-clause-judged
returns-in-Some-clause-judged c = λ nodes. c.hunted.ensures.judged nodes c.args.locations

pub returns-in-Some-clause-wide : goal.returns-in-Some-clause-wide
returns-in-Some-clause-wide c = λ nodes. absurd (c.hunted.ensures.memory nodes)
