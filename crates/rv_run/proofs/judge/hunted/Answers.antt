use Rattle.std.proofs.Common.{inr}
use Rattle.rv_tree.specs.Tree.{program_tree}
use Rattle.rv_types.specs.Instances.{name_at}
use Rattle.rv_control.specs.Control.{control_of}
use Rattle.rv_run.specs.Programs.{HasGood}
use Rattle.rv_run.proofs.{Integers.control_system, Claimed.safe_claims, Judged.falsifying-unsafe, Judged.traced-verdict}
use Rattle.rv_run.proofs.judge.hunted.Goals as goal

pub returns-clause-judged : goal.returns-clause-judged
returns-clause-judged c = λ nodes limit.
    let s = c.args.source.now in
    let p = program_tree s.program in
    let main = name_at p s.typed.main in
    let f = c.args.flat.now in
    let known = c.requires.known in
    let system = c.control_is_a_system.ensures p main f known.well known.named known.flat in
    let lacks : HasGood (control_of f) f.thresholds → ⊥ = λ good.
    falsifying-unsafe nodes limit p main c.args.trace c.requires.falsifying
    (known.safe (safe_claims (control_of f) f.thresholds (c.claims_are_safe.ensures.box_claim (control_of f) f.thresholds system)
    (c.claims_are_safe.ensures.row_claim (control_of f) f.thresholds system) good)) in
    traced-verdict nodes limit p main c.args.trace
    (record {
      falsifying = c.requires.falsifying;
      origin = inr (inr (
        λ control. c.requires.integers (control_system p main f known.flat known.well known.named control),
        (f, known.flat, c.requires.unprobed),
      ));
    })
    (f, known.flat, lacks) c.with_trace.result c.with_trace.ensures.traced
