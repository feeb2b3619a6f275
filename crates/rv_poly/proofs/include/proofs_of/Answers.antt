use Rattle.std.proofs.Common.{◌≡◌, ◌<◌, ◌++◌, ◌∷◌, [], ap, ◌∙◌, sym, arith, length, get_or, subst}
use Rattle.rv_rows.specs.{declared.linear.Row.Row, Multipliers.ShowsAtOnce}
use Rattle.rv_poly.proofs.IncludeLemmas.{proofs-more, proofs-points}
use Rattle.rv_poly.proofs.include.proofs_of.Goals as goal

pub returns-in-None-clause-at_once : goal.returns-in-None-clause-at_once
returns-in-None-clause-at_once c all =
    let here : c.row-item.result ≡ get_or c.args.rows.now c.loop-row.row-index c.row-item.result =
    c.row-item.is ∙ ap (λ l. get_or l c.loop-row.row-index c.row-item.result) c.as_slice-row-items.ensures in
    let inside : c.loop-row.row-index < length c.args.rows.now = omega (arith, ap length c.as_slice-row-items.ensures) in
    let P : Row → Type 0 = ShowsAtOnce c.args.premises.now in
    let missing = rw c.in-None.is at c.in_ok-proof.ensures.at_once in
    missing (subst P (sym here) (all c.loop-row.row-index c.row-item.result inside))

pub loop-row-preserved : goal.loop-row-preserved
loop-row-preserved c =
    let here : c.row-item.result ≡ get_or c.args.rows.now c.loop-row.row-index c.row-item.result =
    c.row-item.is ∙ ap (λ l. get_or l c.loop-row.row-index c.row-item.result) c.as_slice-row-items.ensures in
    let inside : c.loop-row.row-index < length c.args.rows.now = omega (arith, ap length c.as_slice-row-items.ensures) in
    let new_is : c.push.new.self ≡ c.loop-row.proofs ++ c.in-Some.proof ∷ [] = c.in_ok-push-in-Some.ensures.ok in
    rw new_is (proofs-more c.args.premises.now c.args.rows.now c.loop-row.proofs c.loop-row.row-index c.row-item.result c.in-Some.proof c.loop-row.invariant
    inside here
    (rw c.in-Some.is at c.in_ok-proof.ensures.proof) (rw c.in-Some.is at c.in_ok-proof.ensures.ranges))

pub returns-clause-points : goal.returns-clause-points
returns-clause-points c =
    let all : length c.args.rows.now ≡ c.loop-row.row-index = omega (arith, ap length c.as_slice-row-items.ensures) in
    proofs-points c.args.premises.now c.args.rows.now c.loop-row.proofs (rw all c.loop-row.invariant)

pub returns-clause-proofs : goal.returns-clause-proofs
returns-clause-proofs c =
    let all : length c.args.rows.now ≡ c.loop-row.row-index = omega (arith, ap length c.as_slice-row-items.ensures) in
    rw all c.loop-row.invariant
