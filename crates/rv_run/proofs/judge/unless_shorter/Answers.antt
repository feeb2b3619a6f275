use Rattle.std.proofs.Common.{ℕ, ◌<◌, ◌^◌, ◌∙◌, ap, inl, inr, subst}
use Rattle.std.specs.Prelude.{Err, Result}
use Rattle.rv_diagram.specs.declared.store.StoreFault.{StoreFault}
use Rattle.rv_tree.specs.Tree.{program_tree}
use Rattle.rv_types.specs.Instances.{name_at}
use Rattle.rv_run.specs.declared.verdict.Verdict.{Verdict}
use Rattle.rv_run.proofs.Judged.{traced-verdict}
use Rattle.rv_run.proofs.judge.unless_shorter.Goals as goal

pub returns-in-Err-Nodes-clause-judged : goal.returns-in-Err-Nodes-clause-judged
returns-in-Err-Nodes-clause-judged c =
    let s = c.args.source.now in
    let p = program_tree s.program in
    let main = name_at p s.typed.main in
    let known = c.requires.known in
    traced-verdict c.args.nodes c.args.locations p main c.args.trace
    (record {
      falsifying = c.requires.falsifying;
      origin = inr (inl (
        c.requires.probe,
        inr (subst (λ (n : ℕ). c.args.nodes < 2 ^ (2 ^ n)) known.flat.counted
            (c.decided.ensures.wide (c.in-Err-Nodes.is ∙ ap (λ (e : StoreFault). (let r : Result Verdict StoreFault = Err e in r)) c.in-Err-Nodes.field-0-is))),
      ));
    })
    (c.args.flat.now, known.flat, c.requires.lacks) c.with_trace.result c.with_trace.ensures.traced
