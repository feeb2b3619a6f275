use Rattle.std.proofs.Common.{sym, subst}
use Rattle.rv_syntax.specs.{Nesting.Outside, Nesting.IsShallowText, ProgramText.IsProgram}
use Rattle.rv_made_text.proofs.{Lexed.made-tokens, Trees.offsets_of, Trees.plain_program, Derived.made-derived, Nested.made-shallow, Sited.made-sited}
use Rattle.rv_made_text.proofs.laws.made_trees.Goals as goal

pub returns : goal.returns
returns c n = (
  offsets_of n,
  (
    plain_program n,
    made-sited n,
    subst (IsProgram (plain_program n)) (sym (made-tokens n)) (made-derived n),
    subst (IsShallowText Outside) (sym (made-tokens n)) (made-shallow n),
  ),
)
