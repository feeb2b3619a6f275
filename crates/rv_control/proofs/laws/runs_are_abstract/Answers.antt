use Rattle.rv_control.proofs.Program.{runs_abstract, safe}
use Rattle.rv_control.proofs.laws.runs_are_abstract.Goals as goal

pub returns-clause-runs : goal.returns-clause-runs
returns-clause-runs c = λ program main f starts inputs n h well named flat run. runs_abstract (record {
  controls = c.typed_readings.ensures.controls;
  one = c.one_symbolic_instant.ensures;
  some = c.instants_agree.ensures.some;
  gives = c.instants_agree.ensures.gives;
  updates = c.steps_agree.ensures.updates;
  leads = c.steps_agree.ensures.leads;
}) c.runs_are_one.ensures.flat program main f well named flat starts inputs n h run

pub returns-clause-safe : goal.returns-clause-safe
returns-clause-safe c = λ program main f well named flat. safe (record {
  controls = c.typed_readings.ensures.controls;
  one = c.one_symbolic_instant.ensures;
  some = c.instants_agree.ensures.some;
  gives = c.instants_agree.ensures.gives;
  updates = c.steps_agree.ensures.updates;
  leads = c.steps_agree.ensures.leads;
}) c.runs_are_one.ensures.flat program main f well named flat
