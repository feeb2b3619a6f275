use Rattle.rv_control.proofs.Back.{concrete, safe_back}
use Rattle.rv_control.proofs.laws.abstract_runs_are_runs.Goals as goal

pub returns-clause-runs : goal.returns-clause-runs
returns-clause-runs c = λ program main f n vs points well named flat run some allowed.
    let is = concrete
    (record {
      laws = record {
        controls = c.typed_readings.ensures.controls;
        one = c.one_symbolic_instant.ensures;
        some = c.instants_agree.ensures.some;
        gives = c.instants_agree.ensures.gives;
        updates = c.steps_agree.ensures.updates;
        leads = c.steps_agree.ensures.leads;
      };
      memories = c.typed_readings.ensures.memories;
      one = c.tightened_rows.ensures.one;
    })
    c.runs_are_one.ensures.flat c.runs_are_one.ensures.back c.one_flat_instant.ensures program main f well named flat n vs points run some allowed in
    (is.starts, is.given, is.history, is.run, is.meets)

pub returns-clause-safe : goal.returns-clause-safe
returns-clause-safe c = λ program main f well named flat. safe_back
    (record {
      laws = record {
        controls = c.typed_readings.ensures.controls;
        one = c.one_symbolic_instant.ensures;
        some = c.instants_agree.ensures.some;
        gives = c.instants_agree.ensures.gives;
        updates = c.steps_agree.ensures.updates;
        leads = c.steps_agree.ensures.leads;
      };
      memories = c.typed_readings.ensures.memories;
      one = c.tightened_rows.ensures.one;
    })
    c.runs_are_one.ensures.flat c.runs_are_one.ensures.back c.one_flat_instant.ensures program main f well named flat
