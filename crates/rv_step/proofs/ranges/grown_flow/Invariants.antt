use Rattle.std.proofs.Common.{map}
use Rattle.std.specs.Option.{option_copied}
use Rattle.rv_flat.specs.{Earliest.IsPicked, Steps.IsLeastOf}
use Rattle.rv_step.specs.Ranges.{is_grown_flow}
use Rattle.rv_step.proofs.ranges.grown_flow.Given as goal

abbrev pub invariant-loop-number : goal.invariant-loop-number
invariant-loop-number l = IsLeastOf (IsPicked (is_grown_flow l.row) (map (λ g. g.place.sites) l.flows) l.number) (option_copied l.least)
