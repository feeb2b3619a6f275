use Rattle.rv_types.proofs.FirstNames.{space_step, fault_step}
use Rattle.rv_base.proofs.Lists.{next_of}
use Rattle.rv_types.proofs.spaces.declare_names.Goals as goal

pub loop-name-preserved : goal.loop-name-preserved
loop-name-preserved c =
    let d = next_of c.args.names.now c.loop-name.name-index c.name-item.result c.loop-name-test.true c.name-item.is in
    record {
      space = space_step _ _ _ _ _ _ d c.in_ok-declare.ensures.space c.loop-name.invariant.space;
      fault = fault_step _ _ _ _ _ _ _ _ _ d c.in_ok-declare.ensures.space c.in_ok-declare.ensures.fault c.sooner_of-fault.ensures.value
          c.loop-name.invariant.fault;
    }
