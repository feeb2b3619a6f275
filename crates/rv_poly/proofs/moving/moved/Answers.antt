use Rattle.std.proofs.Common.{◌≡◌, ℕ, ◌<◌, ap, ◌∙◌, arith, length, get_or, subst}
use Rattle.rv_rows.specs.declared.linear.Row.{Row}
use Rattle.rv_poly.specs.Moves.{CanMove, IsMoved, IsMovedAdded, AreMoved}
use Rattle.rv_poly.proofs.{MovedLemmas.moved-contains, MovedLemmas.moved-exact, CarriedLemmas.carried-none, CarriedLemmas.carried-more}
use Rattle.rv_poly.proofs.moving.moved.Goals as goal

pub loop-row-init : goal.loop-row-init
loop-row-init c = rw c.new-new.ensures (carried-none (CanMove c.args.updates.now) (IsMoved c.args.updates.now) c.args.rows.now)

pub loop-row-preserved : goal.loop-row-preserved
loop-row-preserved c =
    let here : c.row-item.result ≡ get_or c.args.rows.now c.loop-row.row-index c.row-item.result =
    c.row-item.is ∙ ap (λ l. get_or l c.loop-row.row-index c.row-item.result) c.as_slice-row-items.ensures in
    let inside : c.loop-row.row-index < length c.args.rows.now = omega (arith, ap length c.as_slice-row-items.ensures) in
    let P : Row → Type 0 = λ r. IsMovedAdded c.args.updates.now r c.loop-row.new c.add_moved.new.rows in
    carried-more (CanMove c.args.updates.now) (IsMoved c.args.updates.now) c.args.rows.now c.loop-row.row-index c.row-item.result c.loop-row.new
    c.add_moved.new.rows inside c.loop-row.invariant (subst P here c.in_ok-add_moved.ensures)

pub returns-clause-rows : goal.returns-clause-rows
returns-clause-rows c =
    let past = c.loop-row-test.false in
    let size = ap length c.as_slice-row-items.ensures in
    let all : c.loop-row.row-index ≡ length c.args.rows.now = omega arith in
    subst (λ (n : ℕ). AreMoved c.args.updates.now c.args.rows.now n c.loop-row.new) all c.loop-row.invariant

pub returns-clause-contains : goal.returns-clause-contains
returns-clause-contains c moves = moved-contains c.args.updates.now c.args.rows.now c.loop-row.new (returns-clause-rows c) moves

pub returns-clause-exact : goal.returns-clause-exact
returns-clause-exact c moves = moved-exact c.args.updates.now c.args.rows.now c.loop-row.new (returns-clause-rows c) moves
