use Rattle.std.proofs.Common.{Ok, inr, ap, sym, ◌∙◌, subst}
use Rattle.rv_tree.specs.Tree.{program_tree}
use Rattle.rv_types.specs.Instances.{name_at}
use Rattle.rv_flat.specs.declared.flat.Flat.{Flat}
use Rattle.rv_control.specs.Control.{control_of}
use Rattle.rv_proofs.specs.Left.{IsLeftPartition, IsLeftReport}
use Rattle.rv_reading.specs.{declared.reading.Reading.Reading, Read.flat_of}
use Rattle.rv_probe.specs.Probes.{HasFalsifyingProbe}
use Rattle.rv_run.specs.Judged.{IsControlSystem, IsKnown}
use Rattle.rv_run.proofs.{Integers.control_system, Judged.traced-verdict}
use Rattle.rv_run.proofs.judge.searched.Goals as goal

pub with_trace-requires-clause-known : goal.with_trace-requires-clause-known
with_trace-requires-clause-known c =
    let p = program_tree c.args.source.now.program in
    subst (IsKnown p (name_at p c.args.source.now.typed.main)) (sym (c.flat-flat.ensures ∙ ap (λ (r : Reading). flat_of r) c.in_ok-found.ensures.same))
    c.requires.known

pub with_trace-requires-clause-trace : goal.with_trace-requires-clause-trace
with_trace-requires-clause-trace c = (c.in_ok-found.ensures.falsifies c.in-Some.trace (ap Ok c.in-Some.is)).trace

pub late-requires-clause-known : goal.late-requires-clause-known
late-requires-clause-known c =
    let p = program_tree c.args.source.now.program in
    subst (IsKnown p (name_at p c.args.source.now.typed.main)) (sym (c.flat-flat.ensures ∙ ap (λ (r : Reading). flat_of r) c.in_ok-found.ensures.same))
    c.requires.known

pub late-requires-clause-undecided : goal.late-requires-clause-undecided
late-requires-clause-undecided c =
    let p = program_tree c.args.source.now.program in
    let main = name_at p c.args.source.now.typed.main in
    let known = c.requires.known in
    let f = flat_of c.args.reading.now in (
      λ control. c.requires.integers (control_system p main f known.flat known.well known.named control),
      (f, known.flat, c.requires.lacks),
      (f, known.flat, c.requires.unprobed),
    )

pub late-requires-clause-left : goal.late-requires-clause-left
late-requires-clause-left c =
    subst (λ (f : Flat). IsLeftPartition (control_of f) c.args.left.partition c.args.left.left)
    (sym (c.flat-flat.ensures ∙ ap (λ (r : Reading). flat_of r) c.in_ok-found.ensures.same)) c.requires.left

pub returns-in-None-clause-judged : goal.returns-in-None-clause-judged
returns-in-None-clause-judged c = λ nodes limit left.
    c.late.ensures.judged nodes limit
    (subst (λ (f : Flat). IsLeftReport (control_of f) limit c.args.left)
    (sym (c.flat-flat.ensures ∙ ap (λ (r : Reading). flat_of r) c.in_ok-found.ensures.same)) left)

pub returns-in-None-clause-wide : goal.returns-in-None-clause-wide
returns-in-None-clause-wide c = λ nodes. absurd (c.late.ensures.memory nodes)

pub returns-in-Some-clause-judged : goal.returns-in-Some-clause-judged
returns-in-Some-clause-judged c = λ nodes limit left.
    let p = program_tree c.args.source.now.program in
    let main = name_at p c.args.source.now.typed.main in
    let t = c.in-Some.trace in
    let f = flat_of c.args.reading.now in
    let known = c.requires.known in
    traced-verdict nodes limit p main t
    (record {
      falsifying = c.in_ok-found.ensures.falsifies t (ap Ok c.in-Some.is);
      origin = inr (inr (
        λ control. c.requires.integers (control_system p main f known.flat known.well known.named control),
        (f, known.flat, c.requires.unprobed),
      ));
    })
    (f, known.flat, c.requires.lacks) c.with_trace.result c.with_trace.ensures.traced

pub returns-in-Some-clause-wide : goal.returns-in-Some-clause-wide
returns-in-Some-clause-wide c = λ nodes. absurd (c.with_trace.ensures.memory nodes)

pub late-requires-clause-integers : goal.late-requires-clause-integers
late-requires-clause-integers c =
    subst (λ (f : Flat). IsControlSystem f → ⊥) (sym (c.flat-flat.ensures ∙ ap (λ (r : Reading). flat_of r) c.in_ok-found.ensures.same)) c.requires.integers

pub late-requires-clause-unprobed : goal.late-requires-clause-unprobed
late-requires-clause-unprobed c =
    let p = program_tree c.args.source.now.program in
    subst (λ (f : Flat). HasFalsifyingProbe p (name_at p c.args.source.now.typed.main) f → ⊥)
    (sym (c.flat-flat.ensures ∙ ap (λ (r : Reading). flat_of r) c.in_ok-found.ensures.same)) c.requires.unprobed
