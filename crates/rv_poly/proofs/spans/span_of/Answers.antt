use Rattle.std.proofs.Common.{◌≡◌, ◌<◌, ap, ◌∙◌, sym, arith, length, get_or, subst}
use Rattle.rv_rows.specs.{declared.linear.Row.Row, Tight.Fits}
use Rattle.rv_poly.specs.Whole.{IsNarrowed}
use Rattle.rv_poly.proofs.WholeLemmas.{span-none, span-more}
use Rattle.rv_poly.proofs.spans.span_of.Goals as goal

pub loop-row-init : goal.loop-row-init
loop-row-init c = span-none c.args.column c.args.rows.now

pub narrow-span-requires : goal.narrow-span-requires
narrow-span-requires c =
    let here : c.row-item.result ≡ get_or c.args.rows.now c.loop-row.row-index c.row-item.result =
    c.row-item.is ∙ ap (λ l. get_or l c.loop-row.row-index c.row-item.result) c.as_slice-row-items.ensures in
    let inside : c.loop-row.row-index < length c.args.rows.now = omega (arith, ap length c.as_slice-row-items.ensures) in
    let P : Row → Type 0 = λ r. c.args.column < length r.coefficients in
    record {
      fits = subst Fits (sym here) (c.requires.fits c.loop-row.row-index c.row-item.result inside);
      size = c.requires.size;
      column = subst P (sym here) (c.requires.widths c.loop-row.row-index c.row-item.result inside);
      point = c.requires.point;
    }

pub loop-row-preserved : goal.loop-row-preserved
loop-row-preserved c =
    let here : c.row-item.result ≡ get_or c.args.rows.now c.loop-row.row-index c.row-item.result =
    c.row-item.is ∙ ap (λ l. get_or l c.loop-row.row-index c.row-item.result) c.as_slice-row-items.ensures in
    let inside : c.loop-row.row-index < length c.args.rows.now = omega (arith, ap length c.as_slice-row-items.ensures) in
    let P : Row → Type 0 = λ r. IsNarrowed c.args.column r c.loop-row.span c.narrow-span.result in
    span-more c.args.column c.args.rows.now c.loop-row.row-index c.row-item.result c.loop-row.span c.narrow-span.result c.loop-row.invariant inside
    (subst P here c.narrow-span.ensures)

pub returns : goal.returns
returns c =
    let past = c.loop-row-test.false in
    let all : length c.args.rows.now ≡ c.loop-row.row-index = omega (arith, ap length c.as_slice-row-items.ensures) in
    rw all c.loop-row.invariant
