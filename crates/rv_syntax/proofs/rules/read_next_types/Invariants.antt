use Rattle.std.proofs.Common.{◌≡◌, length}
use Rattle.rv_syntax.specs.Reading.{with_front, next_types}
use Rattle.rv_syntax.proofs.rules.read_next_types.Given as goal

abbrev pub invariant-more : goal.invariant-more
invariant-more l = with_front l.found (next_types l.parser.rest) ≡ with_front l.fn.found (next_types l.fn.parser.rest)

abbrev pub decreases-more : goal.decreases-more
decreases-more l = length l.parser.rest
