use Rattle.rv_boxes.proofs.Building.{accepted}
use Rattle.rv_boxes.proofs.laws.boxes_are_accepted.Goals as goal

pub returns : goal.returns
returns c = λ s d certificate is closed good built. accepted s is d closed good certificate built
