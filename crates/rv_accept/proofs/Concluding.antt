-- What a right verdict says.
use Rattle.std.proofs.Common.{◌≡◌, ◌↔◌, refl}
use Rattle.rv_proofs.specs.{Systems.System, Accepted.IsAccepted, Runs.IsSafeSystem, Verdicts.IsVerdict, declared.certificate.Certificate.Certificate}
use Rattle.rv_proofs.specs.{declared.verdict.Verdict.Verdict, declared.verdict.Verdict.TheVariants.Accepted, declared.verdict.Verdict.TheVariants.Rejected}
use Rattle.rv_proofs.proofs.{Judging.nothing_fails, Safe.is_safe}

pub verdict_exact : (s : System) (c : Certificate) (v : Verdict) → IsVerdict s c v → (v ≡ Accepted) ↔ IsAccepted s c
verdict_exact s c Accepted h = (λ e. h, λ a. refl)
verdict_exact s c (Rejected r) h = (λ e. cc, λ a. absurd (nothing_fails s c r a h.fails))

pub verdict_safe : (s : System) (c : Certificate) (v : Verdict) → IsVerdict s c v → v ≡ Accepted → IsSafeSystem s
verdict_safe s c v h e = is_safe s c ((verdict_exact s c v h).0 e)
