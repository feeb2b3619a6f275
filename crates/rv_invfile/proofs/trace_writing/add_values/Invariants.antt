use Rattle.std.proofs.Common.{◌≡◌, ◌++◌, [], map, drop}
use Rattle.csv.specs.Records.{fields_of, partial_of}
use Rattle.rv_flat.specs.declared.parts.FlatInput.{FlatInput}
use Rattle.rv_invfile.specs.Traces.{input_kinds, value_texts}
use Rattle.rv_invfile.proofs.trace_writing.add_values.Given as goal

abbrev pub invariant-loop-index : goal.invariant-loop-index
invariant-loop-index l =
    (partial_of l.row ≡ [])
    × (fields_of l.row ++ value_texts l.flat.labels (map (λ (i : FlatInput). i.kind) (drop l.index l.flat.inputs)) (drop l.index l.values)
    ≡ fields_of l.fn.row ++ value_texts l.flat.labels (input_kinds l.flat) l.values)
