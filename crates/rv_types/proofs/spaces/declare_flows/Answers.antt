use Rattle.std.proofs.Common.{ap}
use Rattle.rv_types.specs.Names.{decl_names}
use Rattle.rv_types.proofs.FirstNames.{space_step, fault_step}
use Rattle.rv_base.proofs.Lists.{next_of}
use Rattle.rv_types.proofs.spaces.declare_flows.Goals as goal

pub loop-decl-preserved : goal.loop-decl-preserved
loop-decl-preserved c =
    let d = next_of c.args.decls.now c.loop-decl.decl-index c.decl-item.result c.loop-decl-test.true c.decl-item.is in
    record {
      space = space_step _ _ _ _ _ _ (ap decl_names d) c.in_ok-declare.ensures.space c.loop-decl.invariant.space;
      fault = fault_step _ _ _ _ _ _ _ _ _ (ap decl_names d) c.in_ok-declare.ensures.space c.in_ok-declare.ensures.fault
          c.sooner_of-fault.ensures.value c.loop-decl.invariant.fault;
    }
