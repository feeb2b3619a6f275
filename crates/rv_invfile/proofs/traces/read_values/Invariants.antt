use Rattle.std.proofs.Common.{◌≡◌, ◌+◌, ◌<◌, ◌++◌, ℕ, true, drop}
use Rattle.rv_invfile.specs.{Ahead.here, Traces.given, Traces.read_values, Traces.input_kinds, Traces.tail_of}
use Rattle.rv_invfile.proofs.traces.read_values.Given as goal

abbrev pub invariant-loop-index : goal.invariant-loop-index
invariant-loop-index l = record {
  read : l.values ++ read_values l.flat.labels (drop l.index (input_kinds l.flat)) (drop l.index (tail_of (here l.records))) ≡ read_values l.flat.labels
      (input_kinds l.flat) (tail_of (here l.records));
  right : (k : ℕ) → k < l.index + 1 → (given l.flat).allows (here l.records) k ≡ true;
}
