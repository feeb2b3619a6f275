use Rattle.std.proofs.Common.{◌≡◌, ◌++◌, drop}
use Rattle.rv_calls.specs.Callings.{callees}
use Rattle.rv_calls.proofs.calls.targets_of.Given as goal

abbrev pub invariant-loop-call : goal.invariant-loop-call
invariant-loop-call l = l.targets ++ callees (drop l.call-index l.calls) ≡ callees l.calls
