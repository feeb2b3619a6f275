use Rattle.rv_types.proofs.Grouped.{kept, looked_up}
use Rattle.rv_tree.specs.{declared.tree.Decl.Decl, declared.tree.TypeName.TypeName}
use Rattle.rv_types.specs.{Kinds.written_kind, Tables.entry_in}
use Rattle.rv_types.proofs.kinds.kind_in_group.Goals as goal

pub returns-then-goes_on : goal.returns-then-goes_on
returns-then-goes_on c = λ d is.
    let on = c.if-goes_on.true in
    kept (λ (d : Decl). d.kind) (λ (t : TypeName). written_kind (entry_in c.args.names.now c.args.types.now) t)
    _ _ _ d (c.goes_on.ensures.later on) c.requires.within (c.goes_on.ensures.kind on) c.requires.before is

pub returns-else-goes_on : goal.returns-else-goes_on
returns-else-goes_on c = λ d is.
    looked_up (λ (e : Decl). written_kind (entry_in c.args.names.now c.args.types.now) e.kind)
    c.args.decls.now c.args.index _ _ d c.written.ensures c.at.ensures.value is
