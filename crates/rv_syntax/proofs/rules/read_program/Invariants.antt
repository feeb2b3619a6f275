use Rattle.std.proofs.Common.{◌≡◌, length}
use Rattle.rv_syntax.specs.{ProgramText.program_of, Reading.mapped, Reading.sections, Reading.with_sections}
use Rattle.rv_tree.specs.Tree.{program_tree}
use Rattle.rv_syntax.proofs.rules.read_program.Given as goal

abbrev pub invariant-more : goal.invariant-more
invariant-more l = mapped (with_sections (program_tree l.found)) (sections l.parser.rest) ≡ mapped program_of (sections l.fn.parser.rest)

abbrev pub decreases-more : goal.decreases-more
decreases-more l = length l.parser.rest
