use Rattle.std.proofs.Common.{◌≡◌, ◌+◌, min, take}
use Rattle.rv_base.specs.Limits.{heaviest}
use Rattle.rv_sizes.specs.Totals.{called_total}
use Rattle.rv_sizes.proofs.totals.sum_of.Given as goal

abbrev pub invariant-loop-call : goal.invariant-loop-call
invariant-loop-call l = l.sum ≡ min (l.fn.own + called_total l.totals (take l.call-index l.calls)) heaviest
