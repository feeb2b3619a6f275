use Rattle.std.proofs.Common.{◌≡◌, ℕ, ◌+◌, take, flat_map, slice_get, Some}
use Rattle.rv_tree.specs.{declared.tree.Decl.Decl, Tree.node_tree}
use Rattle.rv_types.specs.{Clocks.chain_clash, Earliest.first}
use Rattle.rv_types.proofs.clocks.chain_faults.Given as goal

abbrev pub invariant-loop-index : goal.invariant-loop-index
invariant-loop-index l = record {
  so_far : l.fault ≡ first (flat_map (chain_clash (node_tree l.timing.node.now)) (take l.index l.decls));
  before : (k : ℕ) (d : Decl) → k + 1 ≡ l.index → slice_get l.decls k ≡ Some d → l.own ≡ first (chain_clash (node_tree l.timing.node.now) d);
}
