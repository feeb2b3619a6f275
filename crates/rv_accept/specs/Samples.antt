-- The references of a small system.
use Rattle.std.specs.Prelude.{[], ◌∷◌}
use Rattle.rv_symbolic.specs.declared.relation.Parts.{Parts}

-- In the nodes of its questions: each valuation is allowed, the observer is reference 11, the control state is initial where variable 0,
-- the main tick, is false, and the tick becomes true.
abbrev pub counting_parts : Parts
counting_parts = record { allowed = 1; observer = 11; initial = 6; next = 1 ∷ [] }
