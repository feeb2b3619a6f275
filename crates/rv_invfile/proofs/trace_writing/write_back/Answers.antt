use Rattle.std.proofs.Common.{◌∷◌, [], List, length, map, subst}
use Rattle.std.specs.Prelude.{Some, codes, decimal}
use Rattle.rv_flat.specs.declared.parts.FlatInput.{FlatInput}
use Rattle.rv_invfile.specs.{Traces.last_record, Traces.instant_record, Writes.Adds}
use Rattle.rv_invfile.proofs.Adding.{then-last, adds-then}
use Rattle.rv_invfile.proofs.trace_writing.write_back.Goals as goal

pub returns : goal.returns
returns c =
    let f = c.args.flat.now in
    let w = c.args.writer.now in
    let vss = c.args.instants.now in
    let inputs = subst (λ (is : List FlatInput). Adds (λ v. Some v.items) w c.write_inputs.new.writer
    ((codes "inputs" ∷ map (λ (i : FlatInput). i.name) is) ∷ [])) c.as_slice.ensures c.in_ok-write_inputs.ensures in
    let two = adds-then (λ v. Some v.items) w c.write_inputs.new.writer c.put_count.new.writer
    ((codes "inputs" ∷ map (λ (i : FlatInput). i.name) f.inputs) ∷ []) ((codes "instants" ∷ decimal (length vss) ∷ []) ∷ []) inputs
    c.in_ok-put_count.ensures in
    let three = adds-then (λ v. Some v.items) w c.put_count.new.writer c.write_instants.new.writer
    ((codes "inputs" ∷ map (λ (i : FlatInput). i.name) f.inputs) ∷ (codes "instants" ∷ decimal (length vss) ∷ []) ∷ []) (map (instant_record f) vss) two
    c.in_ok-write_instants.ensures in
    then-last (λ v. Some v.items) w c.write_instants.new.writer c.put.new.writer
    ((codes "inputs" ∷ map (λ (i : FlatInput). i.name) f.inputs) ∷ (codes "instants" ∷ decimal (length vss) ∷ []) ∷ map (instant_record f) vss)
    (last_record ∷ []) c.put.result three c.put.ensures
