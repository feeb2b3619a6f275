-- A flat expression that tells of each part where it is present, and a flat system by what an instant asks of it.
use Rattle.std.specs.Prelude.{ℕ, ℤ, false, List, [], Option, map, slice_index_or, None as Nothing}
use Rattle.rv_base.specs.{declared.value.Value.Value, declared.value.Value.TheVariants.Flag}
use Rattle.rv_tree.specs.{declared.tree.Op.Op, Places.Sites}
use Rattle.rv_types.specs.declared.typed.Kind.{Kind}
use Rattle.rv_types.specs.declared.typed.Kind.TheVariants as kind

-- `When c e` is e where the flow c is true; e is on the clock of that flow. `Current m k e` is e where e's clock k is there,
-- and the memory with the number m elsewhere; k and e are the clock and the body of that memory, which stand there once.
mutual
  pub data FlatTree : Type 0 where
    Node : (at : Sites) (form : TreeForm) → FlatTree

  pub data TreeForm : Type 0 where
    Constant : Value → TreeForm
    Flow : ℕ → TreeForm
    Memory : ℕ → TreeForm
    Ticked : ℕ → TreeForm
    Input : ℕ → TreeForm
    Not : FlatTree → TreeForm
    Binary : Op → FlatTree → FlatTree → TreeForm
    Scale : ℤ → FlatTree → TreeForm
    If : FlatTree → FlatTree → FlatTree → TreeForm
    AtMostOne : FlatTrees → TreeForm
    When : ℕ → FlatTree → TreeForm
    Current : ℕ → Option ℕ → FlatTree → TreeForm

  pub data FlatTrees : Type 0 where
    None : FlatTrees
    More : FlatTree → FlatTrees → FlatTrees

-- a flow, a memory or an assertion by what an instant asks of it: the number of its clock's flow, and its expression
pub record Item : Type 0 where
  pub clock : Option ℕ
  pub body : FlatTree

pub record Kept : Type 0 where
  pub place : Sites
  pub kind : Kind
  pub item : Item

-- A flat system: flows in an order of evaluation and their types, memories by place, types of the inputs, assertions, the clocks
-- of the ticks by the places and by the numbers of their flows (none for main's), the number of labels of each enumeration, the
-- observer. A comparison of integers has a place; nothing else has one.
pub record System : Type 0 where
  pub flows : List Item
  pub kinds : List Kind
  pub memories : List Kept
  pub inputs : List Kind
  pub assertions : List Item
  pub ticks : List (Option Sites)
  pub tick_clocks : List (Option ℕ)
  pub labels : List ℕ
  pub observer : ℕ

abbrev pub no_item : Item
no_item = record { clock = Nothing; body = Node [] (Constant (Flag false)) }

abbrev pub nth_item : List Item → ℕ → Item
nth_item items k = slice_index_or items k no_item

abbrev pub memory_items : System → List Item
memory_items s = map (λ m. m.item) s.memories

abbrev pub memory_kinds : System → List Kind
memory_kinds s = map (λ m. m.kind) s.memories

abbrev pub memory_places : System → List Sites
memory_places s = map (λ m. m.place) s.memories

abbrev pub kind_at : List Kind → ℕ → Kind
kind_at ks k = slice_index_or ks k kind.Bool
