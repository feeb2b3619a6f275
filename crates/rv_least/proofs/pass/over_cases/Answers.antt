use Rattle.rv_base.proofs.Truths.{clash}
use Rattle.rv_least.proofs.pass.over_cases.Goals as goal

pub certificate_of-requires : goal.certificate_of-requires
certificate_of-requires c = let (s, given, least, good) = c.requires in (s, given, least)

pub unreachable-requires : goal.unreachable-requires
unreachable-requires c =
    let (s, given, least, good) = c.requires in
    let bad = rw c.in-None.is at c.in_ok-certificate.ensures.none s given least in
    clash (s.observer bad.0) (good bad.0 bad.1) bad.2

pub returns-clause-proof : goal.returns-clause-proof
returns-clause-proof c s given least = rw c.in-Some.is at c.in_ok-certificate.ensures.some s given least
