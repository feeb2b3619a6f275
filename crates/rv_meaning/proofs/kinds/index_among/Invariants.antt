use Rattle.std.proofs.Common.{◌≡◌, ◌+◌, drop}
use Rattle.rv_tree.specs.Places.{index_of, names}
use Rattle.rv_meaning.proofs.kinds.index_among.Given as goal

abbrev pub invariant-loop-number : goal.invariant-loop-number
invariant-loop-number l = index_of (names (drop l.number l.decls)) l.name + l.number ≡ index_of (names l.decls) l.name
