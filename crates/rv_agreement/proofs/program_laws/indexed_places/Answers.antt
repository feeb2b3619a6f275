use Rattle.rv_agreement.proofs.Indexed.{indexed}
use Rattle.rv_agreement.proofs.program_laws.indexed_places.Goals as goal

pub returns : goal.returns
returns c = indexed
