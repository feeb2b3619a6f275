use Rattle.rv_paths.proofs.planning.united.Goals as goal

pub returns-in-Some-clause-control : goal.returns-in-Some-clause-control
returns-in-Some-clause-control c s variables reached set =
    let both = c.in_ok-extended.ensures.control s variables reached set c.in-Some.extended c.in-Some.is in
    both.1
