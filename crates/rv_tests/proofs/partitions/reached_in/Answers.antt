use Rattle.rv_tests.proofs.partitions.reached_in.Goals as goal

pub returns-then-eq-clause-set : goal.returns-then-eq-clause-set
returns-then-eq-clause-set c m below = c.all_states.ensures.set m c.args.state.now

pub returns-then-eq-clause-some : goal.returns-then-eq-clause-some
returns-then-eq-clause-some c = c.all_states.ensures.some
