use Rattle.std.proofs.Common.{length}
use Rattle.rv_poly.specs.Images.{IsImage, ShowsAfter}
use Rattle.rv_poly.proofs.{ClosingLemmas.made-poly, ClosingLemmas.made-few, ClosingLemmas.made-width, ClosingLemmas.made-contains, ImageLemmas.moved-image}
use Rattle.rv_poly.proofs.image.updated_rows.Goals as goal

pub image_rows-requires-clause-widths : goal.image_rows-requires-clause-widths
image_rows-requires-clause-widths c = rw c.len.ensures at c.in_ok-sides.ensures.widths

pub returns-clause-poly : goal.returns-clause-poly
returns-clause-poly c =
    made-poly (IsImage c.args.premises.now c.args.updates.now) (ShowsAfter c.args.premises.now c.args.updates.now) (length c.args.updates.now)
    c.in_ok-found.found.rows c.in_ok-found.ensures.grown

pub returns-clause-few : goal.returns-clause-few
returns-clause-few c =
    made-few (IsImage c.args.premises.now c.args.updates.now) (ShowsAfter c.args.premises.now c.args.updates.now) (length c.args.updates.now)
    c.in_ok-found.found.rows c.in_ok-found.ensures.grown

pub returns-clause-width : goal.returns-clause-width
returns-clause-width c =
    made-width (IsImage c.args.premises.now c.args.updates.now) (ShowsAfter c.args.premises.now c.args.updates.now) (length c.args.updates.now)
    c.in_ok-found.found.rows c.in_ok-found.ensures.grown

pub returns-clause-contains : goal.returns-clause-contains
returns-clause-contains c =
    made-contains (IsImage c.args.premises.now c.args.updates.now) (ShowsAfter c.args.premises.now c.args.updates.now) (length c.args.updates.now)
    c.in_ok-found.found.rows c.in_ok-found.ensures.grown

pub returns-clause-exact : goal.returns-clause-exact
returns-clause-exact c moves narrow stay point size h =
    moved-image c.args.premises.now c.args.updates.now c.in_ok-sides.sides c.in_ok-found.found.rows (rw c.len.ensures at c.in_ok-sides.ensures)
    c.in_ok-found.ensures c.requires.few moves narrow stay point size h
