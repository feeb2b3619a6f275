use Rattle.rv_types.proofs.Grouped.{kept, looked_up}
use Rattle.std.proofs.Common.{Option}
use Rattle.rv_tree.specs.{declared.tree.Decl.Decl, declared.tree.Name.Name}
use Rattle.rv_types.specs.{Known.clock_use_in, Earliest.first}
use Rattle.rv_types.proofs.names.unknown_clock_in.Goals as goal

pub returns-then-goes_on : goal.returns-then-goes_on
returns-then-goes_on c = λ d is.
    let on = c.if-goes_on.true in
    kept (λ (d : Decl). d.clock) (λ (o : Option Name). first (clock_use_in c.args.flows.now (record d { clock = o })))
    _ _ _ d (c.goes_on.ensures.later on) c.requires.within (c.goes_on.ensures.clock on) c.requires.before is

pub returns-else-goes_on : goal.returns-else-goes_on
returns-else-goes_on c = λ d is.
    looked_up (λ (e : Decl). first (clock_use_in c.args.flows.now e)) c.args.decls.now c.args.index _ _ d c.unknown_clock.ensures c.at.ensures.value is
