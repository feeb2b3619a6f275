use Rattle.std.proofs.Common.{arith}
use Rattle.rv_split.proofs.Walking.{walked_none, walked_from, walked_more, free_found, single_found}
use Rattle.rv_split.proofs.freeing.free_in.Goals as goal

pub loop-x-init : goal.loop-x-init
loop-x-init c = walked_none c.args.nodes.now c.args.root c.args.state.now c.requires.set.1.ordered.root c.requires.met

pub loop-x-preserved : goal.loop-x-preserved
loop-x-preserved c = walked_more c.args.nodes.now c.requires.set.1.ordered.placed c.args.root c.args.state.now c.loop-x.x-index c.loop-x.at c.in-Some.child
    c.requires.rising c.loop-x-test.true c.loop-x.invariant c.in-Some.ensures

pub returns-in-None : goal.returns-in-None
returns-in-None c = free_found c.args.nodes.now c.args.root c.args.state.now c.loop-x.x-index c.loop-x.at c.requires.rising c.loop-x-test.true
    c.loop-x.invariant c.in-None.ensures

pub returns : goal.returns
returns c = single_found c.args.nodes.now c.args.root c.args.state.now c.loop-x.x-index c.loop-x.at (omega arith) c.loop-x.invariant

pub forced-requires-clause-from : goal.forced-requires-clause-from
forced-requires-clause-from c = walked_from c.requires.set.0 c.args.state.now (record { nodes = c.args.nodes.now; root = c.args.root }) c.loop-x.x-index
    c.loop-x.at c.requires.set.1 c.requires.rising c.loop-x-test.true c.loop-x.invariant

pub forced-requires-clause-ordered : goal.forced-requires-clause-ordered
forced-requires-clause-ordered c = c.requires.set.1.ordered.placed
