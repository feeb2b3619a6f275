use Rattle.std.proofs.Common.{◌≡◌, ◌++◌, map, take}
use Rattle.rv_types.specs.Clocks.{base_clock}
use Rattle.rv_types.proofs.clocks.push_base.Given as goal

abbrev pub invariant-loop-decl : goal.invariant-loop-decl
invariant-loop-decl l = l.clocks.items ≡ l.initial.clocks.items ++ map base_clock (take l._decl-index l.decls)
