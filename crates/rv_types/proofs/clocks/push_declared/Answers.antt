use Rattle.std.proofs.Common.{arith}
use Rattle.rv_tree.specs.declared.tree.Decl.{Decl}
use Rattle.rv_types.specs.Timings.{clock_by}
use Rattle.rv_types.proofs.Grouped.{pushed_step, here}
use Rattle.rv_types.proofs.clocks.push_declared.Goals as goal

pub loop-index-preserved : goal.loop-index-preserved
loop-index-preserved c =
    let own = c.clock_in_group-own in
    record {
      so_far = pushed_step (λ (d : Decl). clock_by c.args.flows.now d.clock) c.args.decls.now c.loop-index.index own.result _ _ _
          (omega arith) own.ensures c.loop-index.invariant.so_far c.in_ok-push.ensures.items;
      before = here (λ (d : Decl). clock_by c.args.flows.now d.clock) c.args.decls.now c.loop-index.index own.result own.ensures;
    }
