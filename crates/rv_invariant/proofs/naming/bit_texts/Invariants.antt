use Rattle.std.proofs.Common.{◌≡◌, map, take}
use Rattle.rv_invariant.specs.Naming.{bit_text}
use Rattle.rv_invariant.proofs.naming.bit_texts.Given as goal

abbrev pub invariant-loop-index : goal.invariant-loop-index
invariant-loop-index l = l.names ≡ map (bit_text l.flat.inputs) (take l.index l.flat.variables)
