-- Two flat systems that differ in where one comparison is present alone: `y = (a < b) when c` and `y = (a when c) < (b when c)`.
use Rattle.std.specs.Prelude.{ℕ, [], ◌∷◌, Some, None as Nothing}
use Rattle.rv_tree.specs.declared.tree.Op.TheVariants as op
use Rattle.rv_types.specs.declared.typed.Kind.TheVariants as kind
use Rattle.rv_agreement.specs.Trees.{FlatTree, Node, Flow, Input, Binary, When, Item, System}

-- an input as a flow
abbrev pub input_flow : ℕ → Item
input_flow j = record { clock = Nothing; body = Node [] (Input j) }

abbrev pub flow : ℕ → FlatTree
flow k = Node [] (Flow k)

-- inputs a, b and c, and y on the clock c
abbrev pub system_of : FlatTree → System
system_of body = record {
  flows = input_flow 0 ∷ input_flow 1 ∷ input_flow 2 ∷ record { clock = Some 2; body = body } ∷ [];
  kinds = kind.Int ∷ kind.Int ∷ kind.Bool ∷ kind.Bool ∷ [];
  memories = [];
  inputs = kind.Int ∷ kind.Int ∷ kind.Bool ∷ [];
  assertions = [];
  ticks = Nothing ∷ [];
  tick_clocks = Nothing ∷ [];
  labels = [];
  observer = 3;
}

abbrev pub compared_then_sampled : System
compared_then_sampled = system_of (Node [] (When 2 (Node (4 ∷ []) (Binary op.Less (flow 0) (flow 1)))))

abbrev pub sampled_then_compared : System
sampled_then_compared = system_of (Node (4 ∷ []) (Binary op.Less (Node [] (When 2 (flow 0))) (Node [] (When 2 (flow 1)))))
