use Rattle.std.proofs.Common.{[]}
use Rattle.rv_boxes.proofs.Building.{closed_bounded}
use Rattle.rv_boxes.proofs.laws.closed_claims_reach.Goals as goal

pub returns : goal.returns
returns c = λ s d l e is closed here control claimed o k r new known side sub.
    closed_bounded s is d closed l [] e here control claimed o r k known side new sub
