use Rattle.rv_flat.proofs.{BackRuns.has_run, SystemRuns.run_of}
use Rattle.rv_flat.proofs.laws.runs_are_one.Goals as goal

pub returns-clause-flat : goal.returns-clause-flat
returns-clause-flat c = λ program main f starts inputs n h well named flat run. (
  _,
  _,
  run_of
      (record { instant = c.run_is_instants.ensures.instant; assertions = c.run_is_instants.ensures.assertions })
      (record { some = c.states_of_run.ensures.some; start = c.states_of_run.ensures.start; next = c.states_of_run.ensures.next })
      c.typed_instants.ensures.memories program main f well named flat starts inputs n h run,
)

pub returns-clause-back : goal.returns-clause-back
returns-clause-back c = λ program main f n states inputs rows well named flat run some. has_run c.steps_are_run.ensures c.some_next.ensures program main f well
    named flat n states inputs rows run some
