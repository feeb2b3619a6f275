use Rattle.std.proofs.Common.{ap, ◌∙◌, true≢false}
use Rattle.std.specs.Prelude.{is_some}
use Rattle.rv_poly.proofs.{WholeLemmas.none-left, GuideLemmas.whole-has, GuideLemmas.whole-replay, GuideLemmas.whole-size}
use Rattle.rv_poly.proofs.poly.Poly.whole_point.Goals as goal

pub candidate-requires-clause-fits : goal.candidate-requires-clause-fits
candidate-requires-clause-fits c = c.requires.fits

pub candidate-requires-clause-widths : goal.candidate-requires-clause-widths
candidate-requires-clause-widths c = rw c.width_of-width.ensures c.requires.widths

pub meets_all-requires-clause-fits : goal.meets_all-requires-clause-fits
meets_all-requires-clause-fits c = c.requires.fits

pub meets_all-requires-clause-point : goal.meets_all-requires-clause-point
meets_all-requires-clause-point c = c.in_ok-point.ensures.replay

pub returns-then-meets_all-clause-point : goal.returns-then-meets_all-clause-point
returns-then-meets_all-clause-point c = c.meets_all.ensures.holds c.if-meets_all.true

pub returns-then-meets_all-clause-replay : goal.returns-then-meets_all-clause-replay
returns-then-meets_all-clause-replay c = c.in_ok-point.ensures.replay

pub returns-then-meets_all-clause-width : goal.returns-then-meets_all-clause-width
returns-then-meets_all-clause-width c = c.in_ok-point.ensures.size ∙ c.width_of-width.ensures

pub returns-then-meets_all-clause-none : goal.returns-then-meets_all-clause-none
returns-then-meets_all-clause-none c single e = absurd (true≢false (ap is_some e))

pub guided-requires : goal.guided-requires
guided-requires c = record { rows = c.requires.fits; widths = rw c.width_of-width.ensures c.requires.widths }

pub returns-clause-point : goal.returns-clause-point
returns-clause-point c = whole-has c.args.self.now.rows c.width_of-width.result c.in_ok-found.found c.in_ok-found.ensures

pub returns-clause-replay : goal.returns-clause-replay
returns-clause-replay c = whole-replay c.args.self.now.rows c.width_of-width.result c.in_ok-found.found c.in_ok-found.ensures

pub returns-clause-width : goal.returns-clause-width
returns-clause-width c = whole-size c.args.self.now.rows c.width_of-width.result _ c.width_of-width.ensures c.in_ok-found.found c.in_ok-found.ensures

pub returns-clause-none : goal.returns-clause-none
returns-clause-none c single e other ro h =
    none-left c.args.self.now.rows c.width_of-width.result c.in_ok-point.point c.meets_all.result (rw c.width_of-width.ensures c.requires.widths)
    c.in_ok-point.ensures c.meets_all.ensures.found c.if-meets_all.false single other ro h
