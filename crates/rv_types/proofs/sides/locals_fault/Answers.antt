use Rattle.std.proofs.Common.{arith}
use Rattle.rv_tree.specs.declared.tree.Decl.{Decl}
use Rattle.rv_types.specs.{NodeTypes.local_by, Tables.scope_of, Earliest.first}
use Rattle.rv_types.proofs.Grouped.{fault_step, here}
use Rattle.rv_types.proofs.sides.locals_fault.Goals as goal

pub loop-index-preserved : goal.loop-index-preserved
loop-index-preserved c =
    let own = c.local_fault_in-own in
    record {
      so_far = fault_step (local_by (scope_of c.args.view.now)) c.args.locals.now c.loop-index.index _ own.result _
          (omega arith) own.ensures c.loop-index.invariant.so_far c.sooner_of-fault.ensures.value;
      before = here (λ (d : Decl). first (local_by (scope_of c.args.view.now) d)) c.args.locals.now c.loop-index.index own.result own.ensures;
    }
