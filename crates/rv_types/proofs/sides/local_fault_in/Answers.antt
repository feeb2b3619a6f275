use Rattle.rv_types.proofs.Grouped.{kept, looked_up}
use Rattle.std.proofs.Common.{Option}
use Rattle.rv_tree.specs.{declared.tree.Decl.Decl, declared.tree.Name.Name}
use Rattle.rv_types.specs.{NodeTypes.local_by, Tables.scope_of, Earliest.first}
use Rattle.rv_types.proofs.sides.local_fault_in.Goals as goal

pub returns-then-goes_on : goal.returns-then-goes_on
returns-then-goes_on c = λ d is.
    let on = c.if-goes_on.true in
    kept (λ (d : Decl). d.clock) (λ (o : Option Name). first (local_by (scope_of c.args.view.now) (record d { clock = o })))
    _ _ _ d (c.goes_on.ensures.later on) c.requires.within (c.goes_on.ensures.clock on) c.requires.before is

pub returns-else-goes_on : goal.returns-else-goes_on
returns-else-goes_on c = λ d is.
    looked_up (λ (e : Decl). first (local_by (scope_of c.args.view.now) e)) c.args.locals.now c.args.index _ _ d c.local_fault.ensures c.at.ensures.value is
