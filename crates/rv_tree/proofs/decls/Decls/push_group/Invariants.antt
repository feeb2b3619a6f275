use Rattle.std.proofs.Common.{◌≡◌, ◌++◌, map}
use Rattle.std.specs.Vec.Iter.{into_iter_items}
use Rattle.rv_tree.specs.Groups.{flow}
use Rattle.rv_tree.proofs.decls.Decls.push_group.Given as goal

abbrev pub invariant-each : goal.invariant-each
invariant-each l = record {
  made : l.self ≡ l.fn.self ++ map (flow l.fn.kind l.fn.clock) l.yielded;
  rest : l.yielded ++ into_iter_items l.name-iterator ≡ l.fn.names;
}
