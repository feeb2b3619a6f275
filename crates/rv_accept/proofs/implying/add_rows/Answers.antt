use Rattle.std.proofs.Common.{◌∙◌, ◌<◌, ◌++◌, List, [], ◌∷◌, take, length, ap, sym, arith}
use Rattle.std.proofs.{lemmas.List.append_assoc, lemmas.List.take_more, lemmas.Option.get_or_from_slice_get}
use Rattle.rv_rows.specs.declared.linear.Row.{Row}
use Rattle.rv_accept.proofs.implying.add_rows.Goals as goal

pub loop-i-preserved : goal.loop-i-preserved
loop-i-preserved c =
    let low : c.loop-i.i < length c.args.more.now = omega (arith, c.loop-i-test.true, c.len-i-end.ensures) in
    let e = get_or_from_slice_get c.args.more.now c.loop-i.i c.at.result.now c.in_ok-row.row c.at.ensures.value in
    let more = take_more c.args.more.now c.loop-i.i c.in_ok-row.row low in
    c.in_ok-push.ensures.ok
    ∙ ap (λ (l : List Row). l ++ c.in_ok-row.row ∷ []) c.loop-i.invariant
    ∙ append_assoc c.args.rows.now (take c.loop-i.i c.args.more.now) (c.in_ok-row.row ∷ [])
    ∙ ap (λ (r : Row). c.args.rows.now ++ (take c.loop-i.i c.args.more.now ++ r ∷ [])) (c.in_ok-row.ensures ∙ sym e)
    ∙ ap (λ (l : List Row). c.args.rows.now ++ l) (sym more)
