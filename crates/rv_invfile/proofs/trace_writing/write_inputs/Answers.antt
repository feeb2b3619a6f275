use Rattle.std.proofs.Common.{◌∷◌, [], map, subst}
use Rattle.std.specs.Prelude.{Some, OnOk, codes}
use Rattle.csv.specs.Records.{fields_of, partial_of}
use Rattle.rv_flat.specs.declared.parts.FlatInput.{FlatInput}
use Rattle.rv_invfile.specs.{Rules.Fields, Writes.Adds}
use Rattle.rv_invfile.proofs.Adding.{row-is}
use Rattle.rv_invfile.proofs.trace_writing.write_inputs.Goals as goal

pub returns : goal.returns
returns c =
    let more : Fields = map (λ (i : FlatInput). i.name) c.args.inputs.now in
    subst (λ (r : Fields). OnOk c.put_row.result (Adds (λ v. Some v.items) c.args.writer.now c.put_row.new.writer (r ∷ [])))
    (row-is (codes "inputs") (fields_of c.new-row.result) (fields_of c.push_field.new.self) (fields_of c.add_names.new.row) more (partial_of c.new-row.result)
    c.new-row.ensures.fields c.new-row.ensures.partial c.in_ok-push_field.ensures.fields c.in_ok-add_names.ensures) c.put_row.ensures
