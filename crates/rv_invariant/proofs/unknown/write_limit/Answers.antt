use Rattle.std.proofs.Common.{◌∷◌, [], List, ℕ, ◌∙◌, subst}
use Rattle.std.specs.Prelude.{Some, OnOk, codes}
use Rattle.rv_invfile.specs.Writes.{Adds}
use Rattle.rv_invariant.proofs.unknown.write_limit.Goals as goal

pub returns : goal.returns
returns c =
    subst (λ (t : List ℕ). OnOk c.put.result (Adds (λ v. Some v.items) c.args.writer.now c.put.new.writer
    ((codes "why" ∷ codes "locations" ∷ t ∷ []) ∷ [])))
    (c.as_bytes.ensures.value ∙ c.format-text.ensures.text) c.put.ensures
