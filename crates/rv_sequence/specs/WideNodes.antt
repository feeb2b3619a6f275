-- The least offset of what is too wide in a node and in all instances.
use Rattle.std.specs.Prelude.{ℕ, zero, suc, true, List, [], ◌∷◌, Option, None as Nothing}
use Rattle.rv_tree.specs.Tree.{Tree, Node, Call, EquationTree, AssertionTree, NodeTree, ProgramTree}
use Rattle.rv_tree.specs.{declared.tree.Name.Name, Places.Identifier}
use Rattle.rv_types.specs.{ValueTables.NamedTables, WideConstants.lesser}
use Rattle.rv_instances.specs.{declared.answer.Instance.Instance as Numbered, declared.layout.Layout.Layout, Layouts.node_at, Weights.IsFirstTooWide}
use Rattle.rv_calls.specs.declared.fault.CauseFault.{CauseFault}
use Rattle.rv_calls.specs.declared.fault.CauseFault.TheVariants.{Recursive, Cycle, TooLarge, TooWide, Memory}
use Rattle.rv_sequence.specs.{Weighing.Weighing, Weighing.first_in, Weighing.first_in_all, WeightTables.weighing_at}

module _ (w : Weighing) where
  -- in a right side with several left sides; a call has no weight of its own there
  abbrev pub wide_in_several : Tree → Option ℕ
  wide_in_several (Node at site (Call f es)) = first_in_all w true es
  wide_in_several e = first_in w true e

  abbrev pub wide_in_side : List Name → Tree → Option ℕ
  wide_in_side (x ∷ []) e = first_in w true e
  wide_in_side xs e = wide_in_several e

  -- in equations and assertions
  abbrev pub wide_in_equations : List EquationTree → Option ℕ
  wide_in_equations [] = Nothing
  wide_in_equations (q ∷ qs) = lesser (wide_in_side q.lefts q.right) (wide_in_equations qs)

  abbrev pub wide_in_assertions : List AssertionTree → Option ℕ
  wide_in_assertions [] = Nothing
  wide_in_assertions (a ∷ rest) = lesser (first_in w true a.body) (wide_in_assertions rest)

  -- in a node
  abbrev pub wide_in_node : NodeTree → Option ℕ
  wide_in_node n = lesser (wide_in_equations n.equations) (wide_in_assertions n.assertions)

-- in the first instances
abbrev pub wide_in_first : ProgramTree → List Numbered → NamedTables → Layout → List ℕ → ℕ → Option ℕ
wide_in_first p instances values l weights zero = Nothing
wide_in_first p instances values l weights (suc m) = lesser (wide_in_first p instances values l weights m)
    (wide_in_node (weighing_at p instances values l weights m) (node_at p instances m))

-- an offset is the least that is too wide; want of memory needs no cause
abbrev pub IsWideFault : ProgramTree → Identifier → CauseFault → Type 0
IsWideFault p main (TooWide at) = IsFirstTooWide p main at
IsWideFault p main Memory = Unit {0}
IsWideFault p main (Recursive at) = ⊥
IsWideFault p main (Cycle ps) = ⊥
IsWideFault p main (TooLarge q n) = ⊥
