use Rattle.std.proofs.Common.{rules, ◌≡◌, ℕ, List, codes, inr, sym, subst}
use Rattle.rv_meaning.specs.Runs.{IsSafe}
use Rattle.rv_make.specs.Made.{made_text}
use Rattle.rv_proofs.specs.declared.certificate.Certificate.{Certificate}
use Rattle.rv_run.specs.Programs.{OnProgram, WithRuns, HasManyVariables, IsCertified, IsSafeControl, LacksProbe}
use Rattle.rv_run.specs.{Answers.IsOnSource, declared.report.Report.TheVariants.Toured}
use Rattle.rv_run.proofs.Toured.{below, left_over, made_is_safe, same_certificate}
use Rattle.rv_run.proofs.made.report_on_tour.Goals as goal

pub returns-in-Safe-clause-safe : goal.returns-in-Safe-clause-safe
returns-in-Safe-clause-safe c = λ count size d h.
    let bytes_are : c.as_bytes.result.now ≡ made_text c.args.n = search rules in
    subst (λ (bytes : List ℕ). OnProgram (WithRuns IsSafe) bytes (codes "main")) bytes_are
    (c.report_on_source-report.ensures.safe c.in-Safe.certificate c.in-Safe.is)

pub returns-in-Safe-clause-certified : goal.returns-in-Safe-clause-certified
returns-in-Safe-clause-certified c = λ count size d h.
    let bytes_are : c.as_bytes.result.now ≡ made_text c.args.n = search rules in
    subst (λ (e : Certificate). OnProgram (IsCertified e) (made_text c.args.n) (codes "main")) (same_certificate _ _ _ _ _ _ h)
    (subst (λ (bytes : List ℕ). OnProgram (IsCertified c.in-Safe.certificate) bytes (codes "main")) bytes_are
    (c.report_on_source-report.ensures.certified c.in-Safe.certificate c.in-Safe.is))

pub returns : goal.returns
returns c =
    let n = c.args.n in
    let r = c.report_on_source-report.result.report in
    let answer = c.report_on_source-report.ensures in
    let bytes_are : c.as_bytes.result.now ≡ made_text n = search rules in
    let made = c.made_trees.ensures n in
    let source : OnProgram IsSafeControl (made_text n) (codes "main") = made_is_safe n made
    (c.made_programs_are_accepted.ensures.settled made.0 n (below n c.requires.within))
    (c.made_programs_are_accepted.ensures.accepted made.0 n c.requires.within)
    (c.made_programs_are_safe.ensures.safe made.0 n) (c.made_programs_are_safe.ensures.control made.0 n) in
    record {
      toured = λ count size d h. absurd (let bad : IsOnSource (Toured count size d) = subst IsOnSource h answer.only in bad);
      safe = λ count size d h. absurd (let bad : IsOnSource (Toured count size d) = subst IsOnSource h answer.only in bad);
      certified = λ count size d h. absurd (let bad : IsOnSource (Toured count size d) = subst IsOnSource h answer.only in bad);
      nodes = λ k h. let two = answer.nodes k h in (
        two.0,
        subst (λ (bytes : List ℕ). OnProgram (HasManyVariables k) bytes (codes "main")) bytes_are
            (subst (λ (m : ℕ). OnProgram (HasManyVariables m) c.as_bytes.result.now (codes "main")) (sym two.0) two.1),
      );
      unprobed = λ k h. subst (λ (bytes : List ℕ). OnProgram LacksProbe bytes (codes "main")) bytes_are (answer.unprobed k h);
      only = inr (left_over r answer.only (answer.only_safe (subst (λ (bytes : List ℕ). OnProgram IsSafeControl bytes (codes "main")) (sym bytes_are) source))
          c.in_default-report.not-Safe);
    }
