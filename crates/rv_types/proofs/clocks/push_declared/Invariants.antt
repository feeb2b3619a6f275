use Rattle.std.proofs.Common.{◌≡◌, ℕ, ◌+◌, ◌++◌, map, take, slice_get, Some}
use Rattle.rv_tree.specs.declared.tree.Decl.{Decl}
use Rattle.rv_types.specs.Timings.{clock_by}
use Rattle.rv_types.proofs.clocks.push_declared.Given as goal

abbrev pub invariant-loop-index : goal.invariant-loop-index
invariant-loop-index l = record {
  so_far : l.clocks.items ≡ l.initial.clocks.items ++ map (λ d. clock_by l.flows d.clock) (take l.index l.decls);
  before : (k : ℕ) (d : Decl) → k + 1 ≡ l.index → slice_get l.decls k ≡ Some d → l.own ≡ clock_by l.flows d.clock;
}
