use Rattle.std.proofs.Common.{map}
use Rattle.rv_tree.specs.Tree.{constant_tree}
use Rattle.rv_types.proofs.FirstNames.{space_step, fault_step}
use Rattle.rv_base.proofs.Lists.{next_of}
use Rattle.rv_types.proofs.spaces.declare_constants.Goals as goal

pub loop-constant-preserved : goal.loop-constant-preserved
loop-constant-preserved c =
    let d = next_of c.args.constants.now c.loop-constant.constant-index c.constant-item.result c.loop-constant-test.true c.constant-item.is in
    record {
      space = space_step _ _ _ _ _ _ (λ i. map (λ c. c.name) (map constant_tree (d i))) c.in_ok-declare.ensures.space c.loop-constant.invariant.space;
      fault = fault_step _ _ _ _ _ _ _ _ _ (λ i. map (λ c. c.name) (map constant_tree (d i))) c.in_ok-declare.ensures.space
          c.in_ok-declare.ensures.fault c.sooner_of-fault.ensures.value c.loop-constant.invariant.fault;
    }
