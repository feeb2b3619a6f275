use Rattle.rv_rows.specs.Multipliers.{Proves}
use Rattle.rv_seek.specs.{declared.seek.Bounded.Bounded, Least.at_most}
use Rattle.rv_seek.proofs.BoundLemmas.{lower_bound, one_of, all_hold}
use Rattle.rv_seek.proofs.search.bounded_by.Goals as goal

pub returns-clause-at_once : goal.returns-clause-at_once
returns-clause-at_once c bound s = lower_bound c.in_ok-pair.pair c.lesser_bound.result bound c.lesser_bound.ensures.least (c.in_ok-pair.ensures.at_once bound s)

pub returns-clause-holds : goal.returns-clause-holds
returns-clause-holds c =
    all_hold c.args.premises.now c.args.form.now c.lesser_bound.result
    (one_of (λ (b : Bounded). Proves c.args.premises.now (at_most c.args.form.now b.bound) b.by) c.in_ok-pair.pair c.in_ok-other.other c.lesser_bound.result
    c.lesser_bound.ensures.one c.in_ok-pair.ensures.proof c.in_ok-other.ensures.proof)
