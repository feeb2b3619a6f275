use Rattle.std.proofs.Common.{◌≡◌, [], replicate}
use Rattle.rv_calls.proofs.components.no_edges.Given as goal

abbrev pub invariant-loop : goal.invariant-loop
invariant-loop l = l.turned.items ≡ replicate l.counter []
