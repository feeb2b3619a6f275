use Rattle.rv_accel.proofs.NothingLemmas.{nothing-promised, along-promised, course-is}
use Rattle.rv_accel.proofs.loops.sets_along.Goals as goal

pub returns-then-not-are_small : goal.returns-then-not-are_small
returns-then-not-are_small c = nothing-promised c.args.entry.now.rows c.args.case.now c.args.steps.now c.nothing.result c.requires.turning c.requires.direction
    (λ h. c.if-not-are_small.ensures h.small) c.nothing.ensures

pub returns-then-not-is_short : goal.returns-then-not-is_short
returns-then-not-is_short c = nothing-promised c.args.entry.now.rows c.args.case.now c.args.steps.now c.nothing-then-not-is_short.result
    c.requires.turning c.requires.direction
    (λ h. c.if-not-is_short.ensures h.total) c.nothing-then-not-is_short.ensures

pub along-requires-clause-course : goal.along-requires-clause-course
along-requires-clause-course c = course-is c.args.case.now.updates c.args.steps.now c.requires.turning.updates c.requires.direction c.requires.updates
    (record { small = c.if-not-are_small.ensures; total = c.if-not-is_short.ensures })

pub returns : goal.returns
returns c = along-promised c.args.entry.now.rows c.args.case.now c.args.steps.now c.in_ok-sets.sets c.requires.turning
    (course-is c.args.case.now.updates c.args.steps.now c.requires.turning.updates c.requires.direction c.requires.updates
    (record { small = c.if-not-are_small.ensures; total = c.if-not-is_short.ensures }))
    c.requires.width c.in_ok-sets.ensures
