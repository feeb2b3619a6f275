use Rattle.std.proofs.Common.{arith}
use Rattle.rv_tree.specs.declared.tree.Decl.{Decl}
use Rattle.rv_types.specs.{Known.flow_use_in, Earliest.first}
use Rattle.rv_types.proofs.Grouped.{fault_step, here}
use Rattle.rv_types.proofs.names.unknown_in_flows.Goals as goal

pub loop-index-preserved : goal.loop-index-preserved
loop-index-preserved c =
    let own = c.unknown_in_flow-own in
    record {
      so_far = fault_step (flow_use_in c.args.types.now) c.args.decls.now c.loop-index.index _ own.result _
          (omega arith) own.ensures c.loop-index.invariant.so_far c.sooner_of-fault.ensures.value;
      before = here (λ (d : Decl). first (flow_use_in c.args.types.now d)) c.args.decls.now c.loop-index.index own.result own.ensures;
    }
