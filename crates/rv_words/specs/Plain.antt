-- Words that are no flags.
use Rattle.std.specs.Prelude.{Bool, true, not, [], ◌∷◌, ◌==◌}
use Rattle.clap.specs.Words.{Text}

-- The word does not begin with `-`, or is that byte alone.
abbrev pub is_plain : Text → Bool
is_plain [] = true
is_plain (first ∷ []) = true
is_plain (first ∷ second ∷ rest) = not (first == 45)
