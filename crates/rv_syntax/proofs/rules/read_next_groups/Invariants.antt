use Rattle.std.proofs.Common.{◌≡◌, length}
use Rattle.rv_syntax.specs.Reading.{mapped, next_groups}
use Rattle.rv_syntax.proofs.Loop.{behind}
use Rattle.rv_syntax.proofs.rules.read_next_groups.Given as goal

abbrev pub invariant-more : goal.invariant-more
invariant-more l = mapped (behind l.found) (next_groups l.parser.rest) ≡ mapped (behind l.fn.found) (next_groups l.fn.parser.rest)

abbrev pub decreases-more : goal.decreases-more
decreases-more l = length l.parser.rest
