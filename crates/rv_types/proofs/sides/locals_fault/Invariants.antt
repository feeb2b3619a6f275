use Rattle.std.proofs.Common.{◌≡◌, ℕ, ◌+◌, take, flat_map, slice_get, Some}
use Rattle.rv_tree.specs.declared.tree.Decl.{Decl}
use Rattle.rv_types.specs.{NodeTypes.local_by, Tables.scope_of, Earliest.first}
use Rattle.rv_types.proofs.sides.locals_fault.Given as goal

abbrev pub invariant-loop-index : goal.invariant-loop-index
invariant-loop-index l = record {
  so_far : l.fault ≡ first (flat_map (local_by (scope_of l.view)) (take l.index l.locals));
  before : (k : ℕ) (d : Decl) → k + 1 ≡ l.index → slice_get l.locals k ≡ Some d → l.own ≡ first (local_by (scope_of l.view) d);
}
