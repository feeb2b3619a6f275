use Rattle.rv_poly.proofs.MovedLemmas.{can-from, cannot}
use Rattle.rv_poly.proofs.moving.moved_bound.Goals as goal

pub returns-then-is_narrow : goal.returns-then-is_narrow
returns-then-is_narrow c =
    can-from c.args.updates.now c.args.row.now c.near_bound.result (rw c.len-width.ensures at c.if-is_narrow.ensures) c.near_bound.ensures

pub returns : goal.returns
returns c = cannot c.args.updates.now c.args.row.now (rw c.len-width.ensures at c.if-is_narrow.ensures)
