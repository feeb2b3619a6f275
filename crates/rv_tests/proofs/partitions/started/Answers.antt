use Rattle.std.proofs.Common.{ℕ, sym, subst}
use Rattle.rv_split.specs.Partitions.{AreBelow}
use Rattle.rv_tests.proofs.partitions.started.Goals as goal

pub by_modes-requires-clause-reached : goal.by_modes-requires-clause-reached
by_modes-requires-clause-reached c =
    let below = subst (λ (m : ℕ). AreBelow m c.in_ok-state.state) (sym c.in_ok-store.ensures.1) c.in_ok-state.ensures.below in
    let set = c.in_ok-reached.ensures.set c.in_ok-store.store.variables below in
    rw c.in-Some.is at set
