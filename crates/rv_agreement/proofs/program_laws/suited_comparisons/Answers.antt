use Rattle.rv_agreement.proofs.Suited.{suited}
use Rattle.rv_agreement.proofs.program_laws.suited_comparisons.Goals as goal

pub returns : goal.returns
returns c = suited
