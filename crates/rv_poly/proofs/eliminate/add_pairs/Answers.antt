use Rattle.std.proofs.Common.{◌≡◌, ◌<◌, ap, ◌∙◌, sym, arith, length, get_or, subst}
use Rattle.rv_rows.specs.{declared.linear.Row.Row, Tight.Fits}
use Rattle.rv_poly.specs.Elimination.{IsPairTaken}
use Rattle.rv_poly.proofs.EliminateLemmas.{pairs-none, pairs-more, pairs-few}
use Rattle.rv_poly.proofs.eliminate.add_pairs.Goals as goal

pub loop-other-init : goal.loop-other-init
loop-other-init c = pairs-none c.args.column c.args.rows.now c.args.positive.now c.args.step.now

pub add_pair-requires : goal.add_pair-requires
add_pair-requires c =
    let here : c.other-item.result ≡ get_or c.args.rows.now c.loop-other.other-index c.other-item.result =
    c.other-item.is ∙ ap (λ l. get_or l c.loop-other.other-index c.other-item.result) c.as_slice-other-items.ensures in
    let inside : c.loop-other.other-index < length c.args.rows.now = omega (arith, ap length c.as_slice-other-items.ensures) in
    let P : Row → Type 0 = λ r. length r.coefficients ≡ length c.args.positive.now.coefficients in
    record {
      positive = c.requires.positive;
      other = subst Fits (sym here) (c.requires.rows c.loop-other.other-index c.other-item.result inside);
      widths = subst P (sym here) (c.requires.widths c.loop-other.other-index c.other-item.result inside);
      room = pairs-few c.args.column c.args.rows.now c.args.positive.now c.loop-other.other-index c.args.step.now c.loop-other.step c.loop-other.invariant
          inside c.requires.room;
    }

pub loop-other-preserved : goal.loop-other-preserved
loop-other-preserved c =
    let here : c.other-item.result ≡ get_or c.args.rows.now c.loop-other.other-index c.other-item.result =
    c.other-item.is ∙ ap (λ l. get_or l c.loop-other.other-index c.other-item.result) c.as_slice-other-items.ensures in
    let inside : c.loop-other.other-index < length c.args.rows.now = omega (arith, ap length c.as_slice-other-items.ensures) in
    let P : Row → Type 0 = λ r. IsPairTaken c.args.column c.args.positive.now r c.loop-other.step c.add_pair.new.step in
    pairs-more c.args.column c.args.rows.now c.args.positive.now c.loop-other.other-index c.other-item.result c.args.step.now c.loop-other.step
    c.add_pair.new.step
    c.loop-other.invariant inside (subst P here c.in_ok-add_pair.ensures)
