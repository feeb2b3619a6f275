use Rattle.std.proofs.Common.{◌≡◌, ◌<◌, ap, ◌∙◌, arith, length, get_or, subst}
use Rattle.rv_rows.specs.declared.linear.Row.{Row}
use Rattle.rv_poly.specs.Elimination.{IsFreeTaken}
use Rattle.rv_poly.proofs.EliminateLemmas.{free-none, free-more, free-few}
use Rattle.rv_poly.proofs.eliminate.add_free_rows.Goals as goal

pub loop-row-init : goal.loop-row-init
loop-row-init c = free-none c.args.column c.args.rows.now c.args.step.now

pub add_free-requires : goal.add_free-requires
add_free-requires c =
    let inside : c.loop-row.row-index < length c.args.rows.now = omega (arith, ap length c.as_slice-row-items.ensures) in
    free-few c.args.column c.args.rows.now c.loop-row.row-index c.args.step.now c.loop-row.step c.loop-row.invariant inside c.requires.few c.requires.fresh

pub loop-row-preserved : goal.loop-row-preserved
loop-row-preserved c =
    let here : c.row-item.result ≡ get_or c.args.rows.now c.loop-row.row-index c.row-item.result =
    c.row-item.is ∙ ap (λ l. get_or l c.loop-row.row-index c.row-item.result) c.as_slice-row-items.ensures in
    let inside : c.loop-row.row-index < length c.args.rows.now = omega (arith, ap length c.as_slice-row-items.ensures) in
    let P : Row → Type 0 = λ r. IsFreeTaken c.args.column r c.loop-row.step c.add_free.new.step in
    free-more c.args.column c.args.rows.now c.loop-row.row-index c.row-item.result c.args.step.now c.loop-row.step c.add_free.new.step
    c.loop-row.invariant inside (subst P here c.in_ok-add_free.ensures)
