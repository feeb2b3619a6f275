use Rattle.std.proofs.Common.{◌≡◌, map, take}
use Rattle.rv_probe.specs.Probes.{probe_value}
use Rattle.rv_probe.proofs.traces.start_values.Given as goal

abbrev pub invariant-loop-memory : goal.invariant-loop-memory
invariant-loop-memory l = l.values ≡ map (probe_value l.truth l.number) (map (λ m. m.kind) (take l.memory-index l.flat.memories))
