use Rattle.rv_agreement.proofs.Meanings.{meant_same}
use Rattle.rv_agreement.proofs.program_laws.one_meaning.Goals as goal

pub returns : goal.returns
returns c = meant_same
