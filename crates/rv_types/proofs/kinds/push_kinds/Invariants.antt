use Rattle.std.proofs.Common.{◌≡◌, ℕ, ◌+◌, ◌++◌, take, slice_get, Some}
use Rattle.rv_tree.specs.declared.tree.Decl.{Decl}
use Rattle.rv_types.specs.{Kinds.written_kind, Tables.entry_in, TypeTables.kinds_by}
use Rattle.rv_types.proofs.kinds.push_kinds.Given as goal

abbrev pub invariant-loop-index : goal.invariant-loop-index
invariant-loop-index l = record {
  so_far : l.kinds ≡ l.initial.kinds ++ kinds_by (entry_in l.names l.types) (take l.index l.decls);
  before : (k : ℕ) (d : Decl) → k + 1 ≡ l.index → slice_get l.decls k ≡ Some d → l.own ≡ written_kind (entry_in l.names l.types) d.kind;
}
