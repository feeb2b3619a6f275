use Rattle.rv_tests.proofs.partitions.hint_in.Goals as goal

pub returns-then-eq : goal.returns-then-eq
returns-then-eq c m below = c.no_states.ensures m c.args.state.now
