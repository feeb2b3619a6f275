use Rattle.std.proofs.Common.{◌≡◌, drop}
use Rattle.rv_types.specs.Names.{is_declared}
use Rattle.rv_meaning.proofs.kinds.is_named.Given as goal

abbrev pub invariant-loop-label : goal.invariant-loop-label
invariant-loop-label l = is_declared (drop l.label-index l.labels) l.name ≡ is_declared l.labels l.name
