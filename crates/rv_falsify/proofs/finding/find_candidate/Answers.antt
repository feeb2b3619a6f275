use Rattle.std.proofs.Common.{ap, sym, ◌∙◌, subst}
use Rattle.rv_tree.specs.Tree.{program_tree}
use Rattle.rv_types.specs.Instances.{name_at}
use Rattle.rv_flat.specs.FlatOf.{IsFlatOf}
use Rattle.rv_reading.specs.{declared.reading.Reading.Reading, Read.flat_of}
use Rattle.rv_falsify.proofs.finding.find_candidate.Goals as goal

pub trace_with-requires-clause-program : goal.trace_with-requires-clause-program
trace_with-requires-clause-program c =
    let p = program_tree c.args.source.now.program in (
      p,
      name_at p c.args.source.now.typed.main,
      subst (IsFlatOf p (name_at p c.args.source.now.typed.main))
          (sym (c.flat-flat.ensures ∙ ap (λ (r : Reading). flat_of r) c.candidate.ensures.same)) c.requires.flat,
    )

pub trace_with-requires-clause-some : goal.trace_with-requires-clause-some
trace_with-requires-clause-some c =
    let shape = rw c.in-Some.is at c.in_ok-candidate.ensures.shape in
    shape.some

pub confirmed-requires : goal.confirmed-requires
confirmed-requires c =
    let p = program_tree c.args.source.now.program in record {
      flat = subst (IsFlatOf p (name_at p c.args.source.now.typed.main))
          (sym (c.flat-flat.ensures ∙ ap (λ (r : Reading). flat_of r) c.candidate.ensures.same)) c.requires.flat;
    }

pub returns-in_ok-found-in-Some-clause-falsifies : goal.returns-in_ok-found-in-Some-clause-falsifies
returns-in_ok-found-in-Some-clause-falsifies c = λ t e. c.in_ok-found-in-Some.ensures.falsifies t (cc)
