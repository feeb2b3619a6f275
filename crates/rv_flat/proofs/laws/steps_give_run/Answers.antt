use Rattle.rv_flat.proofs.Running.{rows_of_run, states_brought, observer_of_run, broken_of_run, least_of_run, allowed_of_run}
use Rattle.rv_flat.proofs.laws.steps_give_run.Goals as goal

pub returns-clause-rows : goal.returns-clause-rows
returns-clause-rows c = rows_of_run
    (record { instant = c.run_is_instants.ensures.instant; assertions = c.run_is_instants.ensures.assertions })
    (record { some = c.states_of_run.ensures.some; start = c.states_of_run.ensures.start; next = c.states_of_run.ensures.next })

pub returns-clause-states : goal.returns-clause-states
returns-clause-states c = states_brought
    (record { instant = c.run_is_instants.ensures.instant; assertions = c.run_is_instants.ensures.assertions })
    (record { some = c.states_of_run.ensures.some; start = c.states_of_run.ensures.start; next = c.states_of_run.ensures.next })

pub returns-clause-observer : goal.returns-clause-observer
returns-clause-observer c = observer_of_run
    (record { instant = c.run_is_instants.ensures.instant; assertions = c.run_is_instants.ensures.assertions })
    (record { some = c.states_of_run.ensures.some; start = c.states_of_run.ensures.start; next = c.states_of_run.ensures.next })

pub returns-clause-broken : goal.returns-clause-broken
returns-clause-broken c = broken_of_run
    (record { instant = c.run_is_instants.ensures.instant; assertions = c.run_is_instants.ensures.assertions })
    (record { some = c.states_of_run.ensures.some; start = c.states_of_run.ensures.start; next = c.states_of_run.ensures.next })

pub returns-clause-least : goal.returns-clause-least
returns-clause-least c = least_of_run
    (record { instant = c.run_is_instants.ensures.instant; assertions = c.run_is_instants.ensures.assertions })
    (record { some = c.states_of_run.ensures.some; start = c.states_of_run.ensures.start; next = c.states_of_run.ensures.next })

pub returns-clause-allowed : goal.returns-clause-allowed
returns-clause-allowed c = allowed_of_run
    (record { instant = c.run_is_instants.ensures.instant; assertions = c.run_is_instants.ensures.assertions })
    (record { some = c.states_of_run.ensures.some; start = c.states_of_run.ensures.start; next = c.states_of_run.ensures.next })
