use Rattle.std.proofs.Common.{map}
use Rattle.std.specs.Option.{option_copied}
use Rattle.rv_flat.specs.{Earliest.IsPicked, Filling.AreShown, Filling.is_broken, FlatInstants.found_at, Steps.IsLeastOf}
use Rattle.rv_step.proofs.filling.broken_place.Given as goal

abbrev pub invariant-loop-assertion : goal.invariant-loop-assertion
invariant-loop-assertion l = record {
  least : IsLeastOf (IsPicked (is_broken l.flat l.now l.input l.row) (map (λ e. e.at.sites) l.flat.assertions) l.assertion-index) (option_copied l.least);
  shown : AreShown l.flat.memories (found_at l.now l.input) l.row l.shown;
}
