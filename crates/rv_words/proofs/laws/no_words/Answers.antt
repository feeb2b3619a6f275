use Rattle.std.proofs.Common.{◌≡◌, ℕ, List, [], ◌∷◌, None, refl}
use Rattle.clap.proofs.OnLiterals.{clap_on_literals}
use Rattle.rv_words.specs.Words.{command}
use Rattle.rv_words.proofs.laws.no_words.Goals as goal

none_is : command [] ≡ None
unfolding clap_on_literals
none_is = refl

program_is : (program : List ℕ) → command (program ∷ []) ≡ None
unfolding clap_on_literals
program_is program = refl

pub returns-clause-none : goal.returns-clause-none
returns-clause-none c = none_is

pub returns-clause-program : goal.returns-clause-program
returns-clause-program c = λ program. program_is program
