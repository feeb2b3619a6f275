use Rattle.std.proofs.Common.{◌≡◌, ◌++◌, [], map, take}
use Rattle.csv.specs.Records.{fields_of, partial_of}
use Rattle.rv_flat.specs.declared.parts.FlatInput.{FlatInput}
use Rattle.rv_invfile.proofs.trace_writing.add_names.Given as goal

abbrev pub invariant-loop-input : goal.invariant-loop-input
invariant-loop-input l =
    (partial_of l.row ≡ []) × (fields_of l.row ≡ fields_of l.fn.row ++ map (λ (i : FlatInput). i.name) (take l.input-index l.inputs))
