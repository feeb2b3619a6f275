use Rattle.rv_seek.proofs.seek.shut_pair.Goals as goal

pub returns-clause-found : goal.returns-clause-found
returns-clause-found c = rw c.in_ok-prepared.ensures at c.shut.ensures.found

pub returns-clause-missing : goal.returns-clause-missing
returns-clause-missing c = rw c.in_ok-prepared.ensures at c.shut.ensures.missing
