use Rattle.rv_seek.proofs.prepared.Premises.row.Goals as goal

pub returns-clause-at_once : goal.returns-clause-at_once
returns-clause-at_once c = rw c.self.view_is at c.row_by.ensures.at_once
