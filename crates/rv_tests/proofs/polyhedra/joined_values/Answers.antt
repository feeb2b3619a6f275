use Rattle.rv_tests.proofs.polyhedra.joined_values.Goals as goal

pub join-requires-clause-control : goal.join-requires-clause-control
join-requires-clause-control c =
    let ordered = rw c.in-Some-Some.is-0 at c.in_ok-value.ensures.control in
    ordered c.in_ok-store.store.variables

pub join-requires-clause-other_control : goal.join-requires-clause-other_control
join-requires-clause-other_control c =
    let ordered = rw c.in-Some-Some.is-1 at c.in_ok-other.ensures.control in
    ordered c.in_ok-store.store.variables
