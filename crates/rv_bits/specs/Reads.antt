-- Expressions among the memories of their flat system, and what is read of several of them and of a memory.
use Rattle.std.specs.Prelude.{◌≡◌, ℕ, true, List, length, map, Option}
use Rattle.rv_diagram.specs.Nodes.{Valuation, Diagrams}
use Rattle.rv_diagram.specs.Growing.{Extends}
use Rattle.rv_agreement.specs.Valuations.{Reading, reads_at, found_at, IsSymbolic}
use Rattle.rv_agreement.specs.{Agreement.AllFit, Evaluation.trues, Trees.FlatTree, Trees.FlatTrees}
use Rattle.rv_flat.specs.Inlined.{all_inlined, table_of, tree_among}
use Rattle.rv_flat.specs.{declared.flat.Flat.Flat, declared.parts.FlatExpr.FlatExpr, FlatInstants.system_of, RawTree.raw_tree, RawTree.raw_trees}
use Rattle.rv_control.specs.Named.{named}
use Rattle.rv_symbolic.specs.Linked.{AreRefs}
use Rattle.rv_bits.specs.{declared.around.Around.Around, Bits.bit, Bits.count_true, Shown.IsAfter, Shown.is_there_at}

-- the tree of an expression, and those of several
abbrev pub tree_in : Around → FlatExpr → FlatTree
tree_in x e = tree_among x.flat.now.memories e

abbrev pub trees_in : Around → List FlatExpr → FlatTrees
trees_in x es = all_inlined (table_of x.flat.now.memories) (raw_trees (map raw_tree es))

-- how many expressions are true at a valuation
abbrev pub true_at : Flat → Valuation → List (Option Reading) → FlatTrees → ℕ
true_at f v row es = trues Reading (reads_at (system_of f) (named f v)) (found_at (system_of f) (named f v)) row es

-- The calls gave references of which as many are true as of some expressions, wherever their clock is there.
pub record AreCountedIn (f : Flat) (old new : Diagrams) (es : FlatTrees) (refs : List ℕ) : Type 0 where
  pub extends : Extends old new
  pub are_refs : AreRefs new.nodes refs
  pub counts : (v : Valuation) (row : List (Option Reading)) (k : Option ℕ) → IsSymbolic (system_of f) (named f v) row
      → AllFit (system_of f) (length (system_of f).flows) k es → is_there_at f v row k ≡ true
      → count_true (length refs) (bit new.nodes refs v) ≡ true_at f v row es

-- The calls gave references that show what a memory holds after the instant.
pub record ShowsTo (f : Flat) (old new : Diagrams) (m : ℕ) (refs : List ℕ) : Type 0 where
  pub extends : Extends old new
  pub is_after : IsAfter f new.nodes m refs
