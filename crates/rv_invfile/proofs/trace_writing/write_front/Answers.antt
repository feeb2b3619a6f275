use Rattle.std.proofs.Common.{◌∷◌, [], ℕ, length, ap, ◌∙◌, subst}
use Rattle.std.specs.Prelude.{Some, codes, decimal}
use Rattle.rv_invfile.specs.{Rules.Fields, Traces.first_record, Traces.start_records, Writes.Adds}
use Rattle.rv_invfile.proofs.Adding.{then-last, adds-then}
use Rattle.rv_invfile.proofs.trace_writing.write_front.Goals as goal

pub returns : goal.returns
returns c =
    let f = c.args.flat.now in
    let w = c.args.writer.now in
    let main = subst (λ (t : Fields). Adds (λ v. Some v.items) c.put.new.writer c.put-2.new.writer (t ∷ []))
    (ap (λ m. codes "main" ∷ m ∷ []) (c.as_bytes.ensures.value ∙ c.as_str.ensures)) c.in_ok-put-2.ensures in
    let two = adds-then (λ v. Some v.items) w c.put.new.writer c.put-2.new.writer (first_record ∷ []) ((codes "main" ∷ f.main ∷ []) ∷ []) c.in_ok-put.ensures
    main in
    let count = subst (λ (n : ℕ). Adds (λ v. Some v.items) c.put-2.new.writer c.put_count.new.writer ((codes "starts" ∷ decimal n ∷ []) ∷ [])) c.len.ensures
    c.in_ok-put_count.ensures in
    let three = adds-then (λ v. Some v.items) w c.put-2.new.writer c.put_count.new.writer (first_record ∷ (codes "main" ∷ f.main ∷ []) ∷ [])
    ((codes "starts" ∷ decimal (length f.memories) ∷ []) ∷ []) two count in
    then-last (λ v. Some v.items) w c.put_count.new.writer c.write_starts.new.writer
    (first_record ∷ (codes "main" ∷ f.main ∷ []) ∷ (codes "starts" ∷ decimal (length f.memories) ∷ []) ∷ [])
    (start_records f.labels f.memories c.args.values.now) c.write_starts.result three c.write_starts.ensures
