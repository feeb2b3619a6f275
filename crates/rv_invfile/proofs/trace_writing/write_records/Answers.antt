use Rattle.std.proofs.{Common.◌∙◌, Common.List, Common.map, Common.subst, lemmas.List.length-map}
use Rattle.std.specs.Prelude.{Some, OnOk}
use Rattle.rv_base.specs.declared.value.Value.{Value}
use Rattle.rv_flat.specs.declared.parts.FlatMemory.{FlatMemory}
use Rattle.rv_invfile.specs.{Traces.front_records, Traces.back_records, Writes.Adds}
use Rattle.rv_invfile.proofs.Adding.{kinds-length, then-last}
use Rattle.rv_invfile.proofs.trace_writing.write_records.Goals as goal

pub write_front-requires : goal.write_front-requires
write_front-requires c =
    let f = c.args.flat.now in
    kinds-length f.labels (map (λ (m : FlatMemory). m.kind) f.memories) c.args.trace.now.starts c.requires.starts
    ∙ length-map f.memories (λ (m : FlatMemory). m.kind)

pub returns : goal.returns
returns c =
    let f = c.args.flat.now in
    let t = c.args.trace.now in
    let back = subst (λ (vss : List (List Value)). OnOk c.write_back.result
    (Adds (λ v. Some v.items) c.write_front.new.writer c.write_back.new.writer (back_records f vss))) c.as_slice.ensures c.write_back.ensures in
    then-last (λ v. Some v.items) c.args.writer.now c.write_front.new.writer c.write_back.new.writer (front_records f t.starts) (back_records f t.instants)
    c.write_back.result c.in_ok-write_front.ensures back
