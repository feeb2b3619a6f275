use Rattle.std.proofs.Common.{◌∷◌, ◌++◌, [], ℕ, length, subst}
use Rattle.std.specs.Prelude.{Some, codes, decimal, flat_map}
use Rattle.rv_invfile.specs.{Rules.Fields, Writes.Adds}
use Rattle.rv_invfile.proofs.Adding.{then-last}
use Rattle.rv_invariant.specs.Certificates.{last_record, location_records, name_records}
use Rattle.rv_invariant.proofs.writing.write_body.Goals as goal

pub returns-clause-added : goal.returns-clause-added
returns-clause-added c =
    let f = c.args.flat.now in
    let ls = c.args.certificate.now.locations in
    let r = c.put.result in
    let w = c.put.new.writer in
    let count : Fields = codes "locations" ∷ decimal (length ls) ∷ [] in
    let counted = subst (λ (n : ℕ). Adds (λ v. Some v.items) c.write_names.new.writer c.put_count.new.writer ((codes "locations" ∷ decimal n ∷ []) ∷ []))
    c.len.ensures c.in_ok-put_count.ensures in
    then-last (λ v. Some v.items) c.args.writer.now c.write_names.new.writer w (name_records f) (count ∷ (flat_map location_records ls ++ last_record ∷ [])) r
    c.in_ok-write_names.ensures
    (then-last (λ v. Some v.items) c.write_names.new.writer c.put_count.new.writer w (count ∷ []) (flat_map location_records ls ++ last_record ∷ []) r counted
    (then-last (λ v. Some v.items) c.put_count.new.writer c.write_locations.new.writer w (flat_map location_records ls) (last_record ∷ []) r
    c.in_ok-write_locations.ensures.added c.put.ensures))
