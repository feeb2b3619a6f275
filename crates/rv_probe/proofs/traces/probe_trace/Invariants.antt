use Rattle.std.proofs.Common.{◌≡◌, map, replicate}
use Rattle.rv_flat.specs.Steps.{input_kinds}
use Rattle.rv_probe.specs.Probes.{probe_value}
use Rattle.rv_probe.proofs.traces.probe_trace.Given as goal

abbrev pub invariant-loop-instant : goal.invariant-loop-instant
invariant-loop-instant l = l.instants ≡ replicate l._instant (map (probe_value l.truth l.number) (input_kinds l.flat))
