use Rattle.std.proofs.Common.{◌-ℤ◌}
use Rattle.rv_seek.proofs.LeastLemmas.{least_at_once, kept_order}
use Rattle.rv_seek.proofs.seek.bounded_by_pair.Goals as goal

pub returns-in_ok-bounded-in-Some-clause-at_once : goal.returns-in_ok-bounded-in-Some-clause-at_once
returns-in_ok-bounded-in-Some-clause-at_once c bound s =
    let h = least_at_once c.args.premises.now c.args.form.now.coefficients c.in_ok-least.least (rw c.requires.same at c.in_ok-least.ensures)
    (bound -ℤ c.args.form.now.constant) s in
    let g = rw c.in-Some.is at h in
    kept_order c.in-Some.best.bound c.args.form.now.constant bound c.in_ok-bounded-in-Some.bounded.bound c.in_ok-bounded-in-Some.ensures.bound g

pub returns-in-None-clause-at_once : goal.returns-in-None-clause-at_once
returns-in-None-clause-at_once c bound s =
    let h = least_at_once c.args.premises.now c.args.form.now.coefficients c.in_ok-least.least (rw c.requires.same at c.in_ok-least.ensures)
    (bound -ℤ c.args.form.now.constant) s in
    let g = rw c.in-None.is at h in
    g
