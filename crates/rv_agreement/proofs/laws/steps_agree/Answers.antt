use Rattle.rv_agreement.proofs.Stepped.{updates_are, leads_to}
use Rattle.rv_agreement.proofs.laws.steps_agree.Goals as goal

pub returns-clause-updates : goal.returns-clause-updates
returns-clause-updates c = updates_are

pub returns-clause-leads : goal.returns-clause-leads
returns-clause-leads c = λ s now next inputs later row v w symbolic after well typed rows is_next agreed other.
    leads_to s now next inputs row v symbolic well typed rows is_next agreed w after later other
