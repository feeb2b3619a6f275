use Rattle.bench_walk.specs.Chain.{links}
use Rattle.bench_walk.proofs.Chained.{is_system}
use Rattle.bench_walk.proofs.links.made.Goals as goal

pub returns : goal.returns
returns c = c.new.ensures.means (links c.args.strict c.args.n) (is_system c.args.strict c.args.n c.requires.n) c.in_ok-parts.ensures.means
