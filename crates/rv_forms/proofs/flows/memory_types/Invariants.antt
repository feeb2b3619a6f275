use Rattle.std.proofs.Common.{◌≡◌, take}
use Rattle.rv_agreement.specs.Trees.{memory_kinds}
use Rattle.rv_flat.specs.FlatInstants.{system_of}
use Rattle.rv_forms.proofs.flows.memory_types.Given as goal

abbrev pub invariant-loop-memory : goal.invariant-loop-memory
invariant-loop-memory l = l.kinds ≡ take l.memory-index (memory_kinds (system_of l.flat))
