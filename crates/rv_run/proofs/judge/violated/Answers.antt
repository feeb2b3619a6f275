use Rattle.std.proofs.Common.{◌≡◌, Ok, Option, Some, None, inl, ap, refl, sym, ◌∙◌, subst}
use Rattle.rv_base.specs.declared.value.Trace.{Trace}
use Rattle.rv_tree.specs.Tree.{program_tree}
use Rattle.rv_types.specs.Instances.{name_at}
use Rattle.rv_reading.specs.{declared.reading.Reading.Reading, Read.flat_of}
use Rattle.rv_run.specs.{Judged.IsKnown, Programs.HasGood}
use Rattle.rv_control.specs.Control.{control_of}
use Rattle.rv_run.proofs.{Claimed.safe_claims, Judged.falsifying-unsafe, Judged.traced-verdict}
use Rattle.rv_run.proofs.judge.violated.Goals as goal

none_of : (o : Option Trace) → ((t : Trace) → o ≡ Some t → ⊥) → o ≡ None
none_of None h = refl
none_of (Some t) h = absurd (h t refl)

pub find-requires : goal.find-requires
find-requires c = record {
  read = c.requires.read;
  flat = c.requires.known.flat;
  sets = λ t set is. (c.requires.bad.layers.each t set is).control;
}

pub with_trace-requires-clause-known : goal.with_trace-requires-clause-known
with_trace-requires-clause-known c =
    let p = program_tree c.args.source.now.program in
    subst (IsKnown p (name_at p c.args.source.now.typed.main)) (sym (c.flat-flat.ensures ∙ ap (λ (r : Reading). flat_of r) c.in_ok-found.ensures.same))
    c.requires.known

pub with_trace-requires-clause-trace : goal.with_trace-requires-clause-trace
with_trace-requires-clause-trace c = (c.in_ok-found.ensures.falsifies c.in-Some.trace (ap Ok c.in-Some.is)).trace

pub unreachable-requires : goal.unreachable-requires
unreachable-requires c =
    c.in_ok-found.ensures.found (flat_of c.args.reading.now).thresholds c.requires.columns c.requires.bad
    (none_of c.in_ok-found.found c.in_default.not-Some)

pub returns-clause-judged : goal.returns-clause-judged
returns-clause-judged c = λ nodes limit.
    let p = program_tree c.args.source.now.program in
    let main = name_at p c.args.source.now.typed.main in
    let t = c.in-Some.trace in
    let f = flat_of c.args.reading.now in
    let known = c.requires.known in
    let system = c.control_is_a_system.ensures p main f known.well known.named known.flat in
    let falsifies = c.in_ok-found.ensures.falsifies t (ap Ok c.in-Some.is) in
    let lacks : HasGood (control_of f) f.thresholds → ⊥ = λ good.
    falsifying-unsafe nodes limit p main t falsifies
    (known.safe (safe_claims (control_of f) f.thresholds (c.claims_are_safe.ensures.box_claim (control_of f) f.thresholds system)
    (c.claims_are_safe.ensures.row_claim (control_of f) f.thresholds system) good)) in
    traced-verdict nodes limit p main t
    (record {
      falsifying = falsifies;
      origin = inl (
        c.requires.program_control,
        c.in_ok-found.ensures.shortest t f.thresholds c.requires.columns c.requires.bad (ap Ok c.in-Some.is),
      );
    })
    (f, known.flat, lacks) c.with_trace.result c.with_trace.ensures.traced

pub returns-clause-wide : goal.returns-clause-wide
returns-clause-wide c = λ nodes. absurd (c.with_trace.ensures.memory nodes)
