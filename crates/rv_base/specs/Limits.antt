-- The numbers that bound a source.
use Rattle.std.specs.Prelude.{ℕ, ◌+◌, ◌^◌}

-- the most bytes that a source has
abbrev pub source_limit : ℕ
source_limit = 1048576

-- the most that a literal, or the weight of an integer expression, may be
abbrev pub heaviest : ℕ
heaviest = 2 ^ 40

-- as what a literal or a weight above that limit counts
abbrev pub too_heavy : ℕ
too_heavy = heaviest + 1
