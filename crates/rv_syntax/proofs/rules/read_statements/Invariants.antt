use Rattle.std.proofs.Common.{◌≡◌, length}
use Rattle.rv_syntax.specs.Reading.{mapped, items, statements, statements_of, with_items}
use Rattle.rv_syntax.proofs.rules.read_statements.Given as goal

abbrev pub invariant-more : goal.invariant-more
invariant-more l = mapped (with_items (statements l.body)) (items l.parser.rest) ≡ mapped statements_of (items l.fn.parser.rest)

abbrev pub decreases-more : goal.decreases-more
decreases-more l = length l.parser.rest
