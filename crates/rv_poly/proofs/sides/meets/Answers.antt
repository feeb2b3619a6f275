use Rattle.rv_poly.proofs.sides.meets.Goals as goal

pub left_side-requires-clause-coefficients : goal.left_side-requires-clause-coefficients
left_side-requires-clause-coefficients c = c.requires.fits.coefficients

pub left_side-requires-clause-point : goal.left_side-requires-clause-point
left_side-requires-clause-point c = c.requires.point

pub returns-in-None-clause-found : goal.returns-in-None-clause-found
returns-in-None-clause-found c single h = rw c.in-None.is at (c.left_side.ensures.found single)
