use Rattle.std.proofs.Common.{map}
use Rattle.rv_types.proofs.FirstNames.{space_step, fault_step}
use Rattle.rv_base.proofs.Lists.{next_of}
use Rattle.rv_types.proofs.spaces.declare_types.Goals as goal

pub loop-decl-preserved : goal.loop-decl-preserved
loop-decl-preserved c =
    let d = next_of c.args.types.now c.loop-decl.decl-index c.decl-item.result c.loop-decl-test.true c.decl-item.is in
    record {
      space = space_step _ _ _ _ _ _ (λ i. map (λ d. d.name) (d i)) c.in_ok-declare.ensures.space c.loop-decl.invariant.space;
      fault = fault_step _ _ _ _ _ _ _ _ _ (λ i. map (λ d. d.name) (d i)) c.in_ok-declare.ensures.space c.in_ok-declare.ensures.fault
          c.sooner_of-fault.ensures.value c.loop-decl.invariant.fault;
    }
