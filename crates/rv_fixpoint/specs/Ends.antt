-- How an analysis ends.
use Rattle.rv_fixpoint.specs.{declared.end.End.End, declared.end.End.TheVariants.Proved, declared.end.End.TheVariants.Left}

-- The end is a proof.
abbrev pub IsProved : End → Type 0
IsProved (Proved c) = Unit {0}
IsProved (Left l) = ⊥
