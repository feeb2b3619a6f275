use Rattle.std.proofs.Common.{◌∷◌, [], ◌∙◌, List, ℕ, subst}
use Rattle.std.specs.Prelude.{Some, OnOk, codes}
use Rattle.rv_invfile.specs.{Rules.Fields, Writes.Adds}
use Rattle.rv_invfile.proofs.Adding.{then-last}
use Rattle.rv_invariant.specs.Naming.{bit_texts, column_texts}
use Rattle.rv_invariant.proofs.writing.write_names.Goals as goal

pub returns : goal.returns
returns c =
    let f = c.args.flat.now in
    let r = c.write_texts-2.result in
    let w = c.write_texts-2.new.writer in
    let bits : Fields = codes "bits" ∷ bit_texts f in
    let columns : Fields = codes "columns" ∷ column_texts f in
    let main : Fields = codes "main" ∷ f.main ∷ [] in
    let named = subst (λ (t : List ℕ). Adds (λ v. Some v.items) c.args.writer.now c.put.new.writer ((codes "main" ∷ t ∷ []) ∷ []))
    (c.as_bytes.ensures.value ∙ c.as_str.ensures) c.in_ok-put.ensures in
    let states = subst (λ (t : Fields). Adds (λ v. Some v.items) c.put.new.writer c.write_texts.new.writer ((codes "bits" ∷ t) ∷ [])) c.in_ok-bits.ensures
    c.in_ok-write_texts.ensures in
    let last = subst (λ (t : Fields). OnOk r (Adds (λ v. Some v.items) c.write_texts.new.writer w ((codes "columns" ∷ t) ∷ []))) c.in_ok-columns.ensures
    c.write_texts-2.ensures in
    then-last (λ v. Some v.items) c.args.writer.now c.put.new.writer w (main ∷ []) (bits ∷ columns ∷ []) r named
    (then-last (λ v. Some v.items) c.put.new.writer c.write_texts.new.writer w (bits ∷ []) (columns ∷ []) r states last)
