use Rattle.rv_boxes.proofs.Building.{in_box, taken, boxed_back, open_back}
use Rattle.rv_boxes.proofs.laws.boxes_agree.Goals as goal

pub returns-clause-points : goal.returns-clause-points
returns-clause-points c = λ s d l e here claimed v i inside at point.
    (boxed_back s d l e here claimed v i at point, in_box s d l e here claimed v i inside point)

pub returns-clause-opened : goal.returns-clause-opened
returns-clause-opened c = λ s d l e here claimed v i inside at.
    (open_back s d l e here claimed v i at, λ o. (taken s d l e here claimed o v i inside).is_open)
