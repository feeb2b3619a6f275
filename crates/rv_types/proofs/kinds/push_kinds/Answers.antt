use Rattle.std.proofs.Common.{arith}
use Rattle.rv_tree.specs.declared.tree.Decl.{Decl}
use Rattle.rv_types.specs.{Kinds.written_kind, Tables.entry_in}
use Rattle.rv_types.proofs.Grouped.{pushed_step, here}
use Rattle.rv_types.proofs.kinds.push_kinds.Goals as goal

pub loop-index-preserved : goal.loop-index-preserved
loop-index-preserved c =
    let own = c.kind_in_group-own in
    record {
      so_far = pushed_step (λ (d : Decl). written_kind (entry_in c.args.names.now c.args.types.now) d.kind) c.args.decls.now c.loop-index.index own.result _ _ _
          (omega arith) own.ensures c.loop-index.invariant.so_far c.in_ok-push.ensures.ok;
      before = here (λ (d : Decl). written_kind (entry_in c.args.names.now c.args.types.now) d.kind) c.args.decls.now c.loop-index.index own.result own.ensures;
    }
