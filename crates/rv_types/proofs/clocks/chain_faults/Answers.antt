use Rattle.std.proofs.Common.{arith}
use Rattle.rv_tree.specs.{declared.tree.Decl.Decl, Tree.node_tree}
use Rattle.rv_types.specs.{Clocks.chain_clash, Earliest.first}
use Rattle.rv_types.proofs.Grouped.{fault_step, here}
use Rattle.rv_types.proofs.clocks.chain_faults.Goals as goal

pub loop-index-preserved : goal.loop-index-preserved
loop-index-preserved c =
    let own = c.chain_fault_in-own in
    record {
      so_far = fault_step (chain_clash (node_tree c.args.timing.now.node.now)) c.args.decls.now c.loop-index.index _ own.result _
          (omega arith) own.ensures c.loop-index.invariant.so_far c.sooner_of-fault.ensures.value;
      before = here (λ (d : Decl). first (chain_clash (node_tree c.args.timing.now.node.now) d)) c.args.decls.now c.loop-index.index own.result own.ensures;
    }
