use Rattle.std.proofs.Common.{◌≡◌, ◌++◌, length}
use Rattle.rv_syntax.specs.{ProgramText.joined, Reading.mapped, Reading.vars}
use Rattle.rv_syntax.proofs.rules.read_vars.Given as goal

abbrev pub invariant-more : goal.invariant-more
invariant-more l = mapped (λ more. l.found ++ joined more) (vars l.parser.rest) ≡ mapped joined (vars l.fn.parser.rest)

abbrev pub decreases-more : goal.decreases-more
decreases-more l = length l.parser.rest
