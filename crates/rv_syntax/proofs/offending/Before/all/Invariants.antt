use Rattle.std.proofs.Common.{◌≡◌, drop}
use Rattle.rv_syntax.specs.Faults.{looked_back, nothing_before}
use Rattle.rv_syntax.proofs.offending.Before.all.Given as goal

abbrev pub invariant-each : goal.invariant-each
invariant-each l = looked_back l.before (drop l.token-index l.tokens) ≡ looked_back nothing_before l.tokens
