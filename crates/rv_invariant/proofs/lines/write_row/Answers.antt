use Rattle.std.proofs.{Common.◌∷◌, Common.[], Common.ℤ, Common.FitsSigned, Common.rules, Common.subst, lemmas.Int.to_z-of_z}
use Rattle.std.specs.{Int.w128, Prelude.Some, Prelude.codes, Fmt.signed_decimal}
use Rattle.rv_invariant.specs.{Pieces.row_record, Writes.HasFields}
use Rattle.rv_invariant.proofs.Adding.{put-made}
use Rattle.rv_invariant.proofs.lines.write_row.Goals as goal

pub returns : goal.returns
returns c =
    let r = c.args.numbers.now in
    let fits : FitsSigned w128 c.args.numbers.now.bound = search rules in
    let begun = subst (λ (z : ℤ). HasFields c.add_whole.new.row (codes "row" ∷ signed_decimal z ∷ [])) (to_z-of_z w128 c.args.numbers.now.bound fits)
    (c.in_ok-add_whole.ensures (codes "row" ∷ []) c.in_ok-row.ensures) in
    put-made (λ v. Some v.items) c.args.writer.now c.put_row.new.writer c.add_wholes.new.row (row_record r) c.put_row.result
    (c.in_ok-add_wholes.ensures (codes "row" ∷ signed_decimal r.bound ∷ []) begun) c.put_row.ensures
