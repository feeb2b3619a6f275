use Rattle.std.proofs.Common.{map}
use Rattle.std.specs.Option.{option_copied}
use Rattle.rv_flat.specs.{Earliest.IsPicked, Steps.IsLeastOf}
use Rattle.rv_step.specs.Ranges.{is_grown_memory}
use Rattle.rv_step.proofs.ranges.grown_memory.Given as goal

abbrev pub invariant-loop-number : goal.invariant-loop-number
invariant-loop-number l = IsLeastOf (IsPicked (is_grown_memory l.kept) (map (λ m. m.place.sites) l.memories) l.number) (option_copied l.least)
