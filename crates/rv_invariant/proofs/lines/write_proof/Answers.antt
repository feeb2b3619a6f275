use Rattle.std.proofs.{Common.◌∷◌, Common.[], Common.ℤ, Common.FitsSigned, Common.rules, Common.subst, lemmas.Int.to_z-of_z}
use Rattle.std.specs.{Int.w128, Prelude.Some, Prelude.codes, Fmt.signed_decimal}
use Rattle.rv_invariant.specs.{Pieces.by_record, Writes.HasFields}
use Rattle.rv_invariant.proofs.Adding.{put-made}
use Rattle.rv_invariant.proofs.lines.write_proof.Goals as goal

pub returns : goal.returns
returns c =
    let m = c.args.proof.now in
    let fits : FitsSigned w128 c.args.proof.now.divisor = search rules in
    let begun = subst (λ (z : ℤ). HasFields c.add_whole.new.row (codes "by" ∷ signed_decimal z ∷ [])) (to_z-of_z w128 c.args.proof.now.divisor fits)
    (c.in_ok-add_whole.ensures (codes "by" ∷ []) c.in_ok-row.ensures) in
    put-made (λ v. Some v.items) c.args.writer.now c.put_row.new.writer c.add_weights.new.row (by_record m) c.put_row.result
    (c.in_ok-add_weights.ensures (codes "by" ∷ signed_decimal m.divisor ∷ []) begun) c.put_row.ensures
