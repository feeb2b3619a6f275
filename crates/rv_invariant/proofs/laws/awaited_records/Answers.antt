use Rattle.rv_invariant.proofs.Awaiting.{certificate-awaited, certificate-written}
use Rattle.rv_invariant.proofs.laws.awaited_records.Goals as goal

pub returns : goal.returns
returns c = record { documents = certificate-awaited; written = certificate-written }
