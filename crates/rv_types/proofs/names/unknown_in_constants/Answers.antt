use Rattle.rv_tree.specs.Tree.{constant_tree}
use Rattle.rv_types.specs.Known.{constant_use_in}
use Rattle.rv_types.proofs.Joined.{mapped_step}
use Rattle.rv_types.proofs.names.unknown_in_constants.Goals as goal

pub loop-constant-preserved : goal.loop-constant-preserved
loop-constant-preserved c = mapped_step (constant_use_in c.args.spaces.now c.args.none.now) constant_tree c.args.constants.now c.loop-constant.constant-index
    c.constant-item.result
    _ _ _ c.loop-constant-test.true c.constant-item.is c.loop-constant.invariant c.unknown_in_constant.ensures c.sooner_of-fault.ensures.value
