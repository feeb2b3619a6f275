use Rattle.std.proofs.Common.{arith}
use Rattle.rv_tree.specs.declared.tree.Decl.{Decl}
use Rattle.rv_types.specs.{Known.clock_use_in, Earliest.first}
use Rattle.rv_types.proofs.Grouped.{fault_step, here}
use Rattle.rv_types.proofs.names.unknown_clocks.Goals as goal

pub loop-index-preserved : goal.loop-index-preserved
loop-index-preserved c =
    let own = c.unknown_clock_in-own in
    record {
      so_far = fault_step (clock_use_in c.args.flows.now) c.args.decls.now c.loop-index.index _ own.result _
          (omega arith) own.ensures c.loop-index.invariant.so_far c.sooner_of-fault.ensures.value;
      before = here (λ (d : Decl). first (clock_use_in c.args.flows.now d)) c.args.decls.now c.loop-index.index own.result own.ensures;
    }
