use Rattle.std.proofs.Common.{◌∙◌, ◌∷◌, [], ℕ, List, subst}
use Rattle.std.specs.Prelude.{Some, OnOk}
use Rattle.rv_invfile.specs.Writes.{Adds}
use Rattle.rv_invfile.proofs.writing.put_count.Goals as goal

pub returns : goal.returns
returns c =
    subst (λ (t : List ℕ). OnOk c.put.result (Adds (λ v. Some v.items) c.args.writer.now c.put.new.writer ((c.args.word.now ∷ t ∷ []) ∷ [])))
    (c.as_bytes.ensures.value ∙ c.in_ok-text.ensures) c.put.ensures
