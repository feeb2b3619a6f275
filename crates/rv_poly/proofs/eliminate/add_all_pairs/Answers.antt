use Rattle.std.proofs.Common.{◌≡◌, ◌<◌, ap, ◌∙◌, sym, arith, length, get_or, subst, All}
use Rattle.rv_rows.specs.{declared.linear.Row.Row, Tight.Fits}
use Rattle.rv_poly.specs.Elimination.{IsRowPaired}
use Rattle.rv_poly.proofs.EliminateLemmas.{paired-none, paired-more, paired-few}
use Rattle.rv_poly.proofs.eliminate.add_all_pairs.Goals as goal

pub loop-row-init : goal.loop-row-init
loop-row-init c = paired-none c.args.column c.args.rows.now c.args.step.now

pub add_pairs_of-requires : goal.add_pairs_of-requires
add_pairs_of-requires c =
    let here : c.row-item.result ≡ get_or c.args.rows.now c.loop-row.row-index c.row-item.result =
    c.row-item.is ∙ ap (λ l. get_or l c.loop-row.row-index c.row-item.result) c.as_slice-row-items.ensures in
    let inside : c.loop-row.row-index < length c.args.rows.now = omega (arith, ap length c.as_slice-row-items.ensures) in
    let P : Row → Type 0 = λ r. All (λ q. length q.coefficients ≡ length r.coefficients) c.args.rows.now in
    let one = c.requires.poly.widths c.loop-row.row-index c.row-item.result inside in
    record {
      row = subst Fits (sym here) (c.requires.poly.fits c.loop-row.row-index c.row-item.result inside);
      rows = c.requires.poly.fits;
      widths = subst P (sym here) (λ i d l. c.requires.poly.widths i d l ∙ sym one);
      room = paired-few c.args.column c.args.rows.now c.loop-row.row-index c.args.step.now c.loop-row.step c.loop-row.invariant inside c.requires.poly.few
          c.requires.room;
    }

pub loop-row-preserved : goal.loop-row-preserved
loop-row-preserved c =
    let here : c.row-item.result ≡ get_or c.args.rows.now c.loop-row.row-index c.row-item.result =
    c.row-item.is ∙ ap (λ l. get_or l c.loop-row.row-index c.row-item.result) c.as_slice-row-items.ensures in
    let inside : c.loop-row.row-index < length c.args.rows.now = omega (arith, ap length c.as_slice-row-items.ensures) in
    let P : Row → Type 0 = λ r. IsRowPaired c.args.column r c.args.rows.now c.loop-row.step c.add_pairs_of.new.step in
    paired-more c.args.column c.args.rows.now c.loop-row.row-index c.row-item.result c.args.step.now c.loop-row.step c.add_pairs_of.new.step
    c.loop-row.invariant inside (subst P here c.in_ok-add_pairs_of.ensures)
