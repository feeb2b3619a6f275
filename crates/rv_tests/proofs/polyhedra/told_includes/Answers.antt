use Rattle.rv_tests.proofs.polyhedra.told_includes.Goals as goal

pub includes-requires-clause-control : goal.includes-requires-clause-control
includes-requires-clause-control c =
    let ordered = rw c.in-Some-Some.is-0 at c.in_ok-value.ensures.control in
    ordered c.in_ok-store.store.variables

pub includes-requires-clause-other_control : goal.includes-requires-clause-other_control
includes-requires-clause-other_control c =
    let ordered = rw c.in-Some-Some.is-1 at c.in_ok-other.ensures.control in
    ordered c.in_ok-store.store.variables
