use Rattle.rv_proofs.proofs.SampleSystems.{counting_system}
use Rattle.rv_cases.proofs.Sampling.{asked, distinct, allowed}
use Rattle.rv_cases.proofs.laws.counting_is_asked.Goals as goal

pub returns : goal.returns
returns c = record { system = counting_system; questions = asked; distinct = distinct; allowed = allowed }
