-- Where chains of clocks lead, by the clocks of the flows of a node in the order of their sites.
use Rattle.std.specs.Prelude.{ℕ, zero, suc, Bool, true, false, List, slice_index_or}
use Rattle.rv_types.specs.{declared.typed.Clock.Clock, declared.typed.Clock.TheVariants.Base, declared.typed.Clock.TheVariants.On}

-- the clock of a clock's flow; the base clock has itself
abbrev pub follow : List Clock → Clock → Clock
follow cs Base = Base
follow cs (On i) = slice_index_or cs i Base

-- and so on, in a number of steps
abbrev pub after : List Clock → ℕ → Clock → Clock
after cs zero c = c
after cs (suc k) c = after cs k (follow cs c)

abbrev pub is_base : Clock → Bool
is_base Base = true
is_base (On i) = false
