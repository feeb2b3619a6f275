use Rattle.rv_sizes.proofs.TickPlaces.{ticks_counted}
use Rattle.rv_sizes.proofs.ticks.tick_counts.Goals as goal

pub returns : goal.returns
returns c p main sited = ticks_counted p sited main
