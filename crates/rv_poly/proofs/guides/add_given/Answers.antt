use Rattle.std.proofs.Common.{◌≡◌, ◌<◌, ap, ◌∙◌, sym, arith, length, get_or, subst}
use Rattle.rv_rows.specs.declared.linear.Row.{Row}
use Rattle.rv_poly.proofs.GuideLemmas.{guided-same, guided-trans}
use Rattle.rv_poly.proofs.guides.add_given.Goals as goal

pub loop-row-init : goal.loop-row-init
loop-row-init c = guided-same c.args.width c.args.guide.now.rows

pub add_tightened-requires : goal.add_tightened-requires
add_tightened-requires c =
    let here : c.row-item.result ≡ get_or c.args.rows.now c.loop-row.row-index c.row-item.result =
    c.row-item.is ∙ ap (λ l. get_or l c.loop-row.row-index c.row-item.result) c.as_slice-row-items.ensures in
    let inside : c.loop-row.row-index < length c.args.rows.now = omega (arith, ap length c.as_slice-row-items.ensures) in
    let P : Row → Type 0 = λ r. length r.coefficients ≡ c.args.width in
    subst P (sym (c.in_ok-copy.ensures ∙ here)) (c.requires c.loop-row.row-index c.row-item.result inside)

pub loop-row-preserved : goal.loop-row-preserved
loop-row-preserved c =
    guided-trans c.args.width c.args.guide.now.rows c.loop-row.guide.rows c.add_tightened.new.guide.rows c.loop-row.invariant c.in_ok-add_tightened.ensures

pub returns : goal.returns
returns c = c.loop-row.invariant
