use Rattle.rv_seek.proofs.prepared.Premises.shut.Goals as goal

pub returns-clause-found : goal.returns-clause-found
returns-clause-found c = rw c.new.ensures at c.in_ok-shown.ensures.found

pub returns-clause-missing : goal.returns-clause-missing
returns-clause-missing c = rw c.new.ensures at c.in_ok-shown.ensures.missing
