use Rattle.std.proofs.Common.{take}
use Rattle.rv_state.specs.Narrow.{IsNarrowed}
use Rattle.rv_state.proofs.narrow.narrowed.Given as goal

abbrev pub invariant-loop-place : goal.invariant-loop-place
invariant-loop-place l = IsNarrowed l.most (take l.place l.poly.rows) l.rows
