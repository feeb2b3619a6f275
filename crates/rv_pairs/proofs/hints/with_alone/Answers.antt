use Rattle.std.proofs.Common.{ap}
use Rattle.rv_rows.specs.declared.linear.Row.{Row}
use Rattle.rv_pairs.specs.Hints.{IsHinted}
use Rattle.rv_pairs.proofs.{Keying.key_alone, Pairing.both_not}
use Rattle.rv_pairs.proofs.hints.with_alone.Goals as goal

pub returns-then-here-key-clause-exact : goal.returns-then-here-key-clause-exact
returns-then-here-key-clause-exact c v z =
    both_not c.args.store.now.nodes v c.args.one.now c.args.none.now c.args.numbers.now z (IsHinted c.args.store.now.nodes c.args.hints v z)
    (λ s. c.if-here-key.true (key_alone c.args.numbers.now c.args.one.now.row c.args.none.now.row c.args.here c.args.key
    (ap (λ (r : Row). r.coefficients) c.requires.nothing) c.requires.here c.requires.key s))
