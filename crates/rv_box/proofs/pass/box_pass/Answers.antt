use Rattle.std.proofs.Common.{◌∙◌, sym, true≢false}
use Rattle.rv_proofs.specs.Reached.{unbounded}
use Rattle.rv_reading.specs.Read.{flat_of, system_read}
use Rattle.rv_box.proofs.Ending.{least_layers, decided}
use Rattle.rv_box.proofs.pass.box_pass.Goals as goal

pub returns-then-has_no_integers-clause-good : goal.returns-then-has_no_integers-clause-good
returns-then-has_no_integers-clause-good c x is = (c.walk.ensures.good x is).accepted

pub returns-then-has_no_integers-clause-bad : goal.returns-then-has_no_integers-clause-bad
returns-then-has_no_integers-clause-bad c l is =
    let bad = c.walk.ensures.bad l is in
    let least = bad.least in (
      unbounded bad.reached,
      c.control_claims.ensures.least (system_read c.args.r.now) (flat_of c.args.r.now).thresholds bad.reached
          (c.has_no_integers.ensures.0 c.if-has_no_integers.true) least.closed least.least,
      bad.layers,
    )

pub returns-then-has_no_integers-clause-exactly : goal.returns-then-has_no_integers-clause-exactly
returns-then-has_no_integers-clause-exactly c = c.walk.ensures.exactly (flat_of c.args.r.now).thresholds

pub returns-then-has_no_integers-clause-control_good : goal.returns-then-has_no_integers-clause-control_good
returns-then-has_no_integers-clause-control_good c x none is = c.walk.ensures.good x is

pub returns-then-has_no_integers-clause-control_bad : goal.returns-then-has_no_integers-clause-control_bad
returns-then-has_no_integers-clause-control_bad c l none is = c.walk.ensures.bad l is

pub returns-clause-control_good : goal.returns-clause-control_good
returns-clause-control_good c x none is = absurd (true≢false (sym (c.has_no_integers.ensures.1 none) ∙ c.if-has_no_integers.false))

pub returns-clause-control_bad : goal.returns-clause-control_bad
returns-clause-control_bad c l none is = absurd (true≢false (sym (c.has_no_integers.ensures.1 none) ∙ c.if-has_no_integers.false))

pub returns-then-has_no_integers-clause-least_bad : goal.returns-then-has_no_integers-clause-least_bad
returns-then-has_no_integers-clause-least_bad c l is =
    c.constant_tests.ensures.walked (system_read c.args.r.now) (flat_of c.args.r.now).thresholds l
    (c.has_no_integers.ensures.0 c.if-has_no_integers.true) (c.walk.ensures.bad l is)

pub returns-then-has_no_integers-clause-decides : goal.returns-then-has_no_integers-clause-decides
returns-then-has_no_integers-clause-decides c none = c.walk.ensures.decides

pub returns-clause-least_bad : goal.returns-clause-least_bad
returns-clause-least_bad c l is =
    least_layers (system_read c.args.r.now) (flat_of c.args.r.now).thresholds c.box_pass.result l is (c.box_pass.ensures.bad l is) c.box_pass.ensures.exactly

pub returns-clause-decides : goal.returns-clause-decides
returns-clause-decides c none =
    decided (system_read c.args.r.now) (flat_of c.args.r.now).thresholds c.box_pass.result
    (λ x is. c.certificates_are_safe.ensures.safe (system_read c.args.r.now) x (c.box_pass.ensures.good x is))
    (λ l is. c.constant_tests.ensures.unsafe_system (system_read c.args.r.now) (flat_of c.args.r.now).thresholds l none
    (least_layers (system_read c.args.r.now) (flat_of c.args.r.now).thresholds c.box_pass.result l is (c.box_pass.ensures.bad l is)
    c.box_pass.ensures.exactly))
