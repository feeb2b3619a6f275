use Rattle.std.proofs.Common.{◌≡◌, take}
use Rattle.rv_state.specs.Narrow.{support}
use Rattle.rv_state.proofs.narrow.support_of.Given as goal

abbrev pub invariant-loop-place : goal.invariant-loop-place
invariant-loop-place l = l.count ≡ support (take l.place l.numbers)
