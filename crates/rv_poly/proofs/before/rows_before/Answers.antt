use Rattle.std.proofs.Common.{◌≡◌, ℕ, ◌<◌, ap, ◌∙◌, arith, length, get_or, subst}
use Rattle.rv_rows.specs.declared.linear.Row.{Row}
use Rattle.rv_poly.specs.Befores.{CanGoBack, IsEarlier}
use Rattle.rv_poly.specs.Carried.{IsCarriedAdded, AreCarried}
use Rattle.rv_poly.proofs.CarriedLemmas.{carried-none, carried-more}
use Rattle.rv_poly.proofs.before.rows_before.Goals as goal

pub loop-row-init : goal.loop-row-init
loop-row-init c = rw c.new-new.ensures (carried-none (CanGoBack c.args.updates.now) (IsEarlier c.args.updates.now) c.args.rows.now)

pub loop-row-preserved : goal.loop-row-preserved
loop-row-preserved c =
    let here : c.row-item.result ≡ get_or c.args.rows.now c.loop-row.row-index c.row-item.result =
    c.row-item.is ∙ ap (λ l. get_or l c.loop-row.row-index c.row-item.result) c.as_slice-row-items.ensures in
    let inside : c.loop-row.row-index < length c.args.rows.now = omega (arith, ap length c.as_slice-row-items.ensures) in
    let P : Row → Type 0 = λ r. IsCarriedAdded (CanGoBack c.args.updates.now) (IsEarlier c.args.updates.now) r c.loop-row.new c.add_before.new.rows in
    carried-more (CanGoBack c.args.updates.now) (IsEarlier c.args.updates.now) c.args.rows.now c.loop-row.row-index c.row-item.result c.loop-row.new
    c.add_before.new.rows inside c.loop-row.invariant (subst P here c.in_ok-add_before.ensures)

pub returns : goal.returns
returns c =
    let past = c.loop-row-test.false in
    let size = ap length c.as_slice-row-items.ensures in
    let all : c.loop-row.row-index ≡ length c.args.rows.now = omega arith in
    subst (λ (n : ℕ). AreCarried (CanGoBack c.args.updates.now) (IsEarlier c.args.updates.now) c.args.rows.now n c.loop-row.new) all c.loop-row.invariant
