use Rattle.std.proofs.Common.{◌≡◌}
use Rattle.rv_refine.specs.Frames.{IsKnown}
use Rattle.rv_refine.proofs.rising.lead_all.Given as goal

abbrev pub invariant-loop-target : goal.invariant-loop-target
invariant-loop-target l = record {
  same : l.store ≡ l.fn.store;
  known : IsKnown l.frame l.known;
}
