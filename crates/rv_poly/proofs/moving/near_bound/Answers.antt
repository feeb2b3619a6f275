use Rattle.std.proofs.Common.{◌+ℤ◌, map}
use Rattle.rv_rows.specs.Rows.{dot}
use Rattle.rv_poly.specs.Moves.{whole_of}
use Rattle.rv_poly.proofs.MovedLemmas.{stays-from}
use Rattle.rv_poly.proofs.moving.near_bound.Goals as goal

pub returns : goal.returns
returns c =
    stays-from c.within.result (whole_of c.wide_bound-sum.result)
    (c.args.row.now.bound +ℤ dot c.args.row.now.coefficients (map (λ f. f.constant) c.args.updates.now)) c.wide_bound-sum.ensures.value c.within.ensures
