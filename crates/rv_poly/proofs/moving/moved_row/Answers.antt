use Rattle.std.proofs.{Common.FitsSigned, Common.rules, lemmas.Int.to_z-of_z}
use Rattle.std.specs.Int.{w128}
use Rattle.rv_poly.proofs.MovedLemmas.{cut-moved, cut-fits-moved}
use Rattle.rv_poly.proofs.moving.moved_row.Goals as goal

pub returns-in_ok-narrowed-in-Some-clause-moved : goal.returns-in_ok-narrowed-in-Some-clause-moved
returns-in_ok-narrowed-in-Some-clause-moved c =
    let b_fits : FitsSigned w128 c.in-Some.bound = search rules in
    simp to_z-of_z (cut-moved c.args.updates.now c.args.row.now c.in_ok-narrowed-in-Some.narrowed c.in-Some.bound
    (rw c.len-width.ensures at c.in_ok-narrowed-in-Some.ensures.cut) c.in-Some.ensures)

pub returns-in_ok-narrowed-in-Some-clause-fits : goal.returns-in_ok-narrowed-in-Some-clause-fits
returns-in_ok-narrowed-in-Some-clause-fits c =
    let b_fits : FitsSigned w128 c.in-Some.bound = search rules in
    simp to_z-of_z (cut-fits-moved c.args.updates.now c.args.row.now c.in_ok-narrowed-in-Some.narrowed c.in-Some.bound c.in_ok-narrowed-in-Some.ensures.fits
    c.in-Some.ensures)
