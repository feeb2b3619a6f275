-- An expression over its surroundings: its value, and what has to be known so that it is evaluated.
use Rattle.std.specs.Prelude.{ℕ, false, cond, List, map, length, Option, slice_index_or}
use Rattle.rv_base.specs.{declared.value.Value.Value, declared.value.Value.TheVariants.Flag}
use Rattle.rv_agreement.specs.{Evaluation.Found, Evaluation.value, Evaluation.trues, Evaluation.integers, Trees.FlatTree, Trees.FlatTrees}
use Rattle.rv_step.specs.declared.evaluate.Surroundings.{Surroundings}
use Rattle.rv_flat.specs.{declared.parts.FlatExpr.FlatExpr, Filling.AreShown, FlatInstants.found_at, FlatInstants.is_on_at, Inlined.all_inlined}
use Rattle.rv_flat.specs.{Inlined.table_of, Inlined.tree_among, RawTree.raw_tree, RawTree.raw_trees, Tame.IsOver, Tame.AreOver, Tame.IsTame, Tame.AreTame}

module _ (x : Surroundings) where
  abbrev pub found_in : Found Value
  found_in = found_at x.state.now x.inputs.now

  abbrev pub tree_in : FlatExpr → FlatTree
  tree_in e = tree_among x.memories.now e

  abbrev pub trees_in : List FlatExpr → FlatTrees
  trees_in es = all_inlined (table_of x.memories.now) (raw_trees (map raw_tree es))

  abbrev pub value_in : FlatTree → Value
  value_in e = value Value integers found_in x.row.now e

  abbrev pub trues_in : FlatTrees → ℕ
  trues_in es = trues Value integers found_in x.row.now es

  -- what the memory with a number takes where its clock is there, and what it holds elsewhere
  abbrev pub current_in : ℕ → Value
  current_in m = cond (is_on_at x.row.now (table_of x.memories.now m).clock) (value_in (table_of x.memories.now m).body)
      (slice_index_or x.state.now.kept m (Flag false))

  -- Its integers are small, and it names flows that have been evaluated.
  pub record IsReady (e : FlatTree) : Type 0 where
    pub tame : IsTame found_in x.row.now e
    pub over : IsOver (length x.row.now) e

  pub record AreReady (es : FlatTrees) : Type 0 where
    pub tame : AreTame found_in x.row.now es
    pub over : AreOver (length x.row.now) es

  -- what the memories take that have been asked for
  abbrev pub AreShownIn : List (Option Value) → Type 0
  AreShownIn shown = AreShown x.memories.now found_in x.row.now shown
