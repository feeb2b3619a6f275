use Rattle.std.proofs.Common.{◌≡◌, map, take}
use Rattle.rv_probe.specs.Probes.{probe_value}
use Rattle.rv_probe.proofs.traces.input_values.Given as goal

abbrev pub invariant-loop-input : goal.invariant-loop-input
invariant-loop-input l = l.values ≡ map (probe_value l.truth l.number) (map (λ m. m.kind) (take l.input-index l.flat.inputs))
