-- The tree of a flat expression among the memories of its system: each `current` shows the clock and the body of its memory.
-- The tree grows by that, and nothing does in memory.
use Rattle.std.specs.Prelude.{◌≡◌, ℕ, zero, suc, ◌+◌, Bool, false, ◌&&◌, true, List, length, Option, Some, slice_get, None as Nothing}
use Rattle.rv_agreement.specs.Trees.{FlatTree, TreeForm, FlatTrees, Item, no_item}
use Rattle.rv_agreement.specs.Trees as tree
use Rattle.rv_flat.specs.RawTree.{RawTree, Node, RawForm, RawTrees, Constant, Flow, Memory, Ticked, Input, Not, Binary, Scale, If, AtMostOne, When, Current}
use Rattle.rv_flat.specs.RawTree.{None, More, raw_tree, all_shown}
use Rattle.rv_flat.specs.{declared.parts.FlatExpr.FlatExpr, declared.parts.FlatMemory.FlatMemory}

-- by what a table has of each memory
module _ (table : ℕ → Item) where
  abbrev mutual
    pub inlined : RawTree → FlatTree
    inlined (Node at form) = tree.Node at (form_inlined form)

    pub form_inlined : RawForm → TreeForm
    form_inlined (Constant v) = tree.Constant v
    form_inlined (Flow k) = tree.Flow k
    form_inlined (Memory m) = tree.Memory m
    form_inlined (Ticked k) = tree.Ticked k
    form_inlined (Input j) = tree.Input j
    form_inlined (Not e) = tree.Not (inlined e)
    form_inlined (Binary o a b) = tree.Binary o (inlined a) (inlined b)
    form_inlined (Scale z e) = tree.Scale z (inlined e)
    form_inlined (If c a b) = tree.If (inlined c) (inlined a) (inlined b)
    form_inlined (AtMostOne es) = tree.AtMostOne (all_inlined es)
    form_inlined (When c e) = tree.When c (inlined e)
    form_inlined (Current m) = tree.Current m (table m).clock (table m).body

    pub all_inlined : RawTrees → FlatTrees
    all_inlined None = tree.None
    all_inlined (More e es) = tree.More (inlined e) (all_inlined es)

-- a memory, by what a table has of those that its expression shows
abbrev pub item_by : (ℕ → Item) → Option FlatMemory → Item
item_by table Nothing = no_item
item_by table (Some m) = record { clock = m.clock; body = inlined table (raw_tree m.body) }

-- the memories by their numbers, where what is shown is followed so many times
abbrev pub table_to : List FlatMemory → ℕ → ℕ → Item
table_to ms zero k = no_item
table_to ms (suc n) k = item_by (table_to ms n) (slice_get ms k)

-- all memories: what is shown is followed as many times as there are memories
abbrev pub table_of : List FlatMemory → ℕ → Item
table_of ms k = table_to ms (length ms) k

-- the tree of an expression among these memories
abbrev pub tree_among : List FlatMemory → FlatExpr → FlatTree
tree_among ms e = inlined (table_of ms) (raw_tree e)

-- whether following what a memory shows ends within so many times
abbrev pub shown_ends : (ℕ → Bool) → Option FlatMemory → Bool
shown_ends ends Nothing = true
shown_ends ends (Some m) = all_shown ends (raw_tree m.body)

abbrev pub ends_within : List FlatMemory → ℕ → ℕ → Bool
ends_within ms zero k = false
ends_within ms (suc n) k = shown_ends (ends_within ms n) (slice_get ms k)

-- of the first memories, as many as are said
abbrev pub all_end : List FlatMemory → ℕ → Bool
all_end ms zero = true
all_end ms (suc k) = ends_within ms (length ms) k && all_end ms k

-- the table has the clock and the tree of each memory
abbrev pub IsTable : List FlatMemory → Type 0
IsTable ms = (k : ℕ) (m : FlatMemory) → slice_get ms k ≡ Some m → table_of ms k ≡ record { clock = m.clock; body = tree_among ms m.body }

-- the size of a tree
abbrev mutual
  pub size : FlatTree → ℕ
  size (tree.Node at form) = suc (form_size form)

  pub form_size : TreeForm → ℕ
  form_size (tree.Constant v) = 0
  form_size (tree.Flow k) = 0
  form_size (tree.Memory m) = 0
  form_size (tree.Ticked k) = 0
  form_size (tree.Input j) = 0
  form_size (tree.Not e) = size e
  form_size (tree.Binary o a b) = size a + size b
  form_size (tree.Scale n e) = size e
  form_size (tree.If c a b) = size c + (size a + size b)
  form_size (tree.AtMostOne es) = size_of es
  form_size (tree.When c e) = size e
  form_size (tree.Current m k e) = size e

  pub size_of : FlatTrees → ℕ
  size_of tree.None = 0
  size_of (tree.More e es) = size e + size_of es
