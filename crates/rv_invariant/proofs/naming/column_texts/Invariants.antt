use Rattle.std.proofs.Common.{◌≡◌, map, take}
use Rattle.rv_invariant.specs.Naming.{column_text}
use Rattle.rv_invariant.proofs.naming.column_texts.Given as goal

abbrev pub invariant-loop-index : goal.invariant-loop-index
invariant-loop-index l = l.names ≡ map (column_text l.flat.inputs) (take l.index l.flat.columns)
