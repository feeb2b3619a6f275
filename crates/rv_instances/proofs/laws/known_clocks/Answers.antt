use Rattle.rv_instances.proofs.ClockFlows.{pace_known, clocks_known}
use Rattle.rv_instances.proofs.laws.known_clocks.Goals as goal

pub returns : goal.returns
returns c n values nodes e locals known = pace_known n values nodes (clocks_known n locals) e known
