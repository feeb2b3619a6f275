use Rattle.std.proofs.Common.{◌≡◌, take}
use Rattle.rv_flat.specs.FlatInstants.{system_of}
use Rattle.rv_forms.proofs.flows.input_types.Given as goal

abbrev pub invariant-loop-input : goal.invariant-loop-input
invariant-loop-input l = l.kinds ≡ take l.input-index (system_of l.flat).inputs
