use Rattle.std.proofs.Common.{◌∷◌, [], List, ℕ, ◌∙◌, subst}
use Rattle.rv_invariant.specs.Writes.{Extends}
use Rattle.rv_invariant.proofs.Adding.{pushed}
use Rattle.rv_invariant.proofs.lines.add_number.Goals as goal

pub returns : goal.returns
returns c =
    subst (λ (t : List ℕ). Extends c.args.row.now c.push_field.new.self (t ∷ [])) (c.as_bytes.ensures.value ∙ c.format-text.ensures.text)
    (pushed c.args.row.now c.push_field.new.self c.as_bytes.result.now c.in_ok-push_field.ensures.fields c.in_ok-push_field.ensures.partial)
