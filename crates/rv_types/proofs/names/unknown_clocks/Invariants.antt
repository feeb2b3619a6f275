use Rattle.std.proofs.Common.{◌≡◌, ℕ, ◌+◌, take, flat_map, slice_get, Some}
use Rattle.rv_tree.specs.declared.tree.Decl.{Decl}
use Rattle.rv_types.specs.{Known.clock_use_in, Earliest.first}
use Rattle.rv_types.proofs.names.unknown_clocks.Given as goal

abbrev pub invariant-loop-index : goal.invariant-loop-index
invariant-loop-index l = record {
  so_far : l.fault ≡ first (flat_map (clock_use_in l.flows) (take l.index l.decls));
  before : (k : ℕ) (d : Decl) → k + 1 ≡ l.index → slice_get l.decls k ≡ Some d → l.own ≡ first (clock_use_in l.flows d);
}
