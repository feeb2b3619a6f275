use Rattle.std.proofs.Common.{◌≡◌}
use Rattle.rv_refine.specs.Frames.{IsKnown}
use Rattle.rv_refine.proofs.rising.closed.Given as goal

abbrev pub invariant-loop-visit : goal.invariant-loop-visit
invariant-loop-visit l = record {
  same : l.store ≡ l.fn.store;
  known : IsKnown l.frame l.known;
}
