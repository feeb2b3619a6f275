use Rattle.std.proofs.Common.{◌≡◌, length, map}
use Rattle.rv_tree.specs.Tree.{constant_tree}
use Rattle.rv_syntax.specs.Reading.{with_front, next_constants}
use Rattle.rv_syntax.proofs.rules.read_next_constants.Given as goal

abbrev pub invariant-more : goal.invariant-more
invariant-more l = with_front (map constant_tree l.found) (next_constants l.parser.rest) ≡ with_front (map constant_tree l.fn.found)
    (next_constants l.fn.parser.rest)

abbrev pub decreases-more : goal.decreases-more
decreases-more l = length l.parser.rest
