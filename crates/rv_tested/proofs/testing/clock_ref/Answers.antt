use Rattle.std.proofs.Common.{◌∙◌, ℕ, ap, sym, Option}
use Rattle.rv_diagram.proofs.Calls.{value_of-true}
use Rattle.rv_bits.specs.Shown.{clock_bit}
use Rattle.rv_tested.proofs.testing.clock_ref.Goals as goal

pub returns-in-None-clause-means : goal.returns-in-None-clause-means
returns-in-None-clause-means c nodes v = value_of-true nodes v ∙ ap (λ (k : Option ℕ). clock_bit nodes c.args.on.now k v) (sym c.in-None.is)
