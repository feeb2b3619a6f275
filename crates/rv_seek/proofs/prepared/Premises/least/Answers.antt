use Rattle.rv_seek.proofs.prepared.Premises.least.Goals as goal

pub returns : goal.returns
returns c = rw c.self.view_is at c.least_in.ensures
