use Rattle.std.proofs.Common.{◌≡◌, ◌&&◌, drop}
use Rattle.rv_types.specs.{NodeTypes.lefts_by, Tables.scope_of, Types.fit}
use Rattle.rv_types.proofs.sides.fit_lefts.Given as goal

abbrev pub invariant-loop-x : goal.invariant-loop-x
invariant-loop-x l = record {
  counted : l.count ≡ l.x-index;
  fits : (l.fit && fit (drop l.count l.wanted) (lefts_by (scope_of l.view) (drop l.x-index l.lefts))) ≡ fit l.wanted (lefts_by (scope_of l.view) l.lefts);
}
