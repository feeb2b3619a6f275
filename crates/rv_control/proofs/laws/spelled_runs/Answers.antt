use Rattle.rv_control.proofs.Back.{concrete}
use Rattle.rv_control.proofs.laws.spelled_runs.Goals as goal

pub returns : goal.returns
returns c = λ program main f n vs points well named flat run some allowed.
    let is = concrete
    (record {
      laws = record {
        controls = c.typed_readings.ensures.controls;
        one = c.one_symbolic_instant.ensures;
        some = c.instants_agree.ensures.some;
        gives = c.instants_agree.ensures.gives;
        updates = c.steps_agree.ensures.updates;
        leads = c.steps_agree.ensures.leads;
      };
      memories = c.typed_readings.ensures.memories;
      one = c.tightened_rows.ensures.one;
    })
    c.runs_are_one.ensures.flat c.runs_are_one.ensures.back c.one_flat_instant.ensures program main f well named flat n vs points run some allowed in
    record { starts = is.starts; inputs = is.given; history = is.history; run = is.run; meets = is.meets; started = is.started; fed = is.fed }
