use Rattle.std.proofs.{Common.◌∷◌, Common.[], Common.ℤ, Common.FitsSigned, Common.rules, Common.subst, lemmas.Int.to_z-of_z}
use Rattle.std.specs.{Prelude.OnOk, Prelude.decimal, Fmt.signed_decimal, Int.w128}
use Rattle.rv_invariant.specs.Writes.{Extends}
use Rattle.rv_invariant.proofs.Adding.{extends-last}
use Rattle.rv_invariant.proofs.lines.add_weight.Goals as goal

pub returns : goal.returns
returns c =
    let w = c.args.weight in
    let fits : FitsSigned w128 c.args.weight.by = search rules in
    extends-last c.args.row.now c.add_number.new.row c.add_whole.new.row (decimal w.premise ∷ []) (signed_decimal w.by ∷ []) c.add_whole.result
    c.in_ok-add_number.ensures
    (subst (λ (z : ℤ). OnOk c.add_whole.result (Extends c.add_number.new.row c.add_whole.new.row (signed_decimal z ∷ [])))
    (to_z-of_z w128 c.args.weight.by fits)
    c.add_whole.ensures)
