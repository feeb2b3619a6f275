use Rattle.std.proofs.Common.{◌≡◌, ◌↔◌}
use Rattle.rv_proofs.specs.{Systems.System, Accepted.IsAccepted, Runs.IsSafeSystem, Verdicts.IsVerdict, declared.verdict.Verdict.TheVariants.Accepted}
use Rattle.rv_symbolic.proofs.Extending.{map_ok}
use Rattle.rv_accept.specs.Passing.{IsGiven}
use Rattle.rv_accept.proofs.Concluding.{verdict_exact, verdict_safe}
use Rattle.rv_accept.proofs.checker.accept.Goals as goal

pub returns-clause-accepted : goal.returns-clause-accepted
returns-clause-accepted c = map_ok c.verdict_of.result
    (λ v. (s : System) → IsGiven s c.args.store.now c.args.parts.now c.args.questions.now c.args.certificate.now → IsVerdict s c.args.certificate.now v)
    (λ v. (s : System) → IsGiven s c.args.store.now c.args.parts.now c.args.questions.now c.args.certificate.now
    → (v ≡ Accepted) ↔ IsAccepted s c.args.certificate.now)
    (λ v h s g. verdict_exact s c.args.certificate.now v (h s g)) c.verdict_of.ensures.exact

pub returns-clause-safe : goal.returns-clause-safe
returns-clause-safe c = map_ok c.verdict_of.result
    (λ v. (s : System) → IsGiven s c.args.store.now c.args.parts.now c.args.questions.now c.args.certificate.now → IsVerdict s c.args.certificate.now v)
    (λ v. (s : System) → IsGiven s c.args.store.now c.args.parts.now c.args.questions.now c.args.certificate.now → v ≡ Accepted → IsSafeSystem s)
    (λ v h s g. verdict_safe s c.args.certificate.now v (h s g)) c.verdict_of.ensures.exact
