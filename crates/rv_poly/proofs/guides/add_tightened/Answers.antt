use Rattle.std.proofs.Common.{◌∙◌}
use Rattle.rv_rows.specs.Tight.{Fits}
use Rattle.rv_poly.proofs.GuideLemmas.{guided-same, guided-more, tightened-width}
use Rattle.rv_poly.proofs.guides.add_tightened.Goals as goal

pub returns-then-len-ge-MOST_ROWS : goal.returns-then-len-ge-MOST_ROWS
returns-then-len-ge-MOST_ROWS c = guided-same c.args.width c.args.guide.now.rows

pub returns-then-not-fits : goal.returns-then-not-fits
returns-then-not-fits c = guided-same c.args.width c.args.guide.now.rows

pub returns-then-is_zero : goal.returns-then-is_zero
returns-then-is_zero c = guided-same c.args.width c.args.guide.now.rows

pub returns-then-is_known : goal.returns-then-is_known
returns-then-is_known c = guided-same c.args.width c.args.guide.now.rows

pub returns : goal.returns
returns c =
    let fits : Fits c.tighten.new.self = rw c.if-not-fits.false at c.fits.ensures in
    rw c.in_ok-push.ensures.ok (guided-more c.args.width c.args.guide.now.rows c.tighten.new.self fits
    (tightened-width c.args.row c.tighten.new.self c.tighten.ensures.exact ∙ c.requires))
