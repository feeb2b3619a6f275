use Rattle.bench_walk.specs.Chain.{AreNext}
use Rattle.bench_walk.proofs.links.all_next.Given as goal

abbrev pub invariant-loop-bit : goal.invariant-loop-bit
invariant-loop-bit l = AreNext l.n l.initial.store l.store l.refs.items l.bit
