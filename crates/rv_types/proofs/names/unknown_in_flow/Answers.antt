use Rattle.rv_types.proofs.Grouped.{kept, looked_up}
use Rattle.rv_tree.specs.{declared.tree.Decl.Decl, declared.tree.TypeName.TypeName}
use Rattle.rv_types.specs.{Names.is_declared, Names.type_use, Known.flow_use_in, Earliest.first}
use Rattle.rv_types.proofs.names.unknown_in_flow.Goals as goal

pub returns-then-goes_on : goal.returns-then-goes_on
returns-then-goes_on c = λ d is.
    let on = c.if-goes_on.true in
    kept (λ (d : Decl). d.kind) (λ (t : TypeName). first (type_use (is_declared c.args.types.now) t))
    _ _ _ d (c.goes_on.ensures.later on) c.requires.within (c.goes_on.ensures.kind on) c.requires.before is

pub returns-else-goes_on : goal.returns-else-goes_on
returns-else-goes_on c = λ d is.
    looked_up (λ (e : Decl). first (flow_use_in c.args.types.now e)) c.args.decls.now c.args.index _ _ d c.unknown_type.ensures c.at.ensures.value is
