use Rattle.std.proofs.{Common.◌∷◌, Common.[], Common.List, Common.ℕ, Common.ap, Common.◌∙◌, Common.subst, lemmas.Int.to_z-of_z}
use Rattle.std.specs.{Fmt.signed_decimal, Int.w128}
use Rattle.rv_invariant.specs.Writes.{Extends}
use Rattle.rv_invariant.proofs.Adding.{pushed}
use Rattle.rv_invariant.proofs.lines.add_whole.Goals as goal

pub returns : goal.returns
returns c =
    subst (λ (t : List ℕ). Extends c.args.row.now c.push_field.new.self (t ∷ []))
    (c.as_bytes.ensures.value ∙ c.format-text.ensures.text ∙ ap signed_decimal (to_z-of_z w128 c.args.number c.ranges.number))
    (pushed c.args.row.now c.push_field.new.self c.as_bytes.result.now c.in_ok-push_field.ensures.fields c.in_ok-push_field.ensures.partial)
