use Rattle.std.proofs.Common.{◌∙◌}
use Rattle.std.specs.Vec.Iter.{into_iter_items}
use Rattle.rv_tree.specs.Groups.{flow}
use Rattle.rv_tree.proofs.Grouped.{in-group, some-made, on-err}
use Rattle.rv_tree.proofs.decls.Decls.push_group.Goals as goal

pub returns-in_err-flow_of-clause-err : goal.returns-in_err-flow_of-clause-err
returns-in_err-flow_of-clause-err c =
    on-err _ (some-made (flow c.args.kind.now c.args.clock.now) c.each.self c.args.self.now c.args.names c.each.yielded (into_iter_items c.each.name-iterator)
    c.each.invariant.rest c.each.invariant.made)

pub push-requires : goal.push-requires
push-requires c =
    rw (c.in_ok-flow_of.ensures, c.each.invariant.made, c.len-first.ensures)
    (in-group c.args.self.now c.args.kind.now c.args.clock.now c.each.yielded c.in-Some.name)

pub returns-in_err-push-clause-err : goal.returns-in_err-push-clause-err
returns-in_err-push-clause-err c =
    on-err _ (some-made (flow c.args.kind.now c.args.clock.now) c.push.new.self c.args.self.now c.args.names c.each.yielded
    (into_iter_items c.each.name-iterator)
    c.each.invariant.rest (c.in_err-push.ensures.err ∙ c.each.invariant.made))
