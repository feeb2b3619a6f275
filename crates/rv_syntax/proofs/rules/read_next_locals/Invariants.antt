use Rattle.std.proofs.Common.{◌≡◌, ◌++◌, length}
use Rattle.rv_syntax.specs.{ProgramText.joined, Reading.mapped, Reading.next_locals}
use Rattle.rv_syntax.proofs.rules.read_next_locals.Given as goal

abbrev pub invariant-more : goal.invariant-more
invariant-more l = mapped (λ more. l.found ++ joined more) (next_locals l.parser.rest) ≡ mapped (λ more. l.fn.found ++ joined more)
    (next_locals l.fn.parser.rest)

abbrev pub decreases-more : goal.decreases-more
decreases-more l = length l.parser.rest
