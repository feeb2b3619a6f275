use Rattle.rv_flat.proofs.SystemRuns.{inductive_safe}
use Rattle.rv_flat.proofs.laws.inductive_is_safe.Goals as goal

pub returns : goal.returns
returns c = λ program main f holds well named flat inductive. inductive_safe
    (record { instant = c.run_is_instants.ensures.instant; assertions = c.run_is_instants.ensures.assertions })
    (record { some = c.states_of_run.ensures.some; start = c.states_of_run.ensures.start; next = c.states_of_run.ensures.next })
    c.typed_instants.ensures.memories c.inductive_is_safe.ensures program main f holds well named flat inductive
