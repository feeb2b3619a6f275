use Rattle.std.proofs.Common.{◌≡◌, ◌++◌, List, drop}
use Rattle.std.specs.Prelude.{Some}
use Rattle.rv_invfile.specs.{Rules.Fields, Traces.start_records, Writes.Adds}
use Rattle.rv_invfile.proofs.trace_writing.write_starts.Given as goal

abbrev pub invariant-loop-index : goal.invariant-loop-index
invariant-loop-index l =
    (done : List Fields) × Adds (λ v. Some v.items) l.fn.writer l.writer done
    × (done ++ start_records l.flat.labels (drop l.index l.flat.memories) (drop l.index l.values) ≡ start_records l.flat.labels l.flat.memories l.values)
