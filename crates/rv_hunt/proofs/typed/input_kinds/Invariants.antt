use Rattle.std.proofs.Common.{◌≡◌, map, take}
use Rattle.rv_hunt.proofs.typed.input_kinds.Given as goal

abbrev pub invariant-loop-input : goal.invariant-loop-input
invariant-loop-input l = l.kinds ≡ map (λ x. x.kind) (take l.input-index l.flat.inputs)
