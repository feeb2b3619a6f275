-- What stands in the expressions of a node, each with its clock: calls, `pre` and `current`, and operators, in the order in which
-- they are written, each before those in its operands.
use Rattle.std.specs.Prelude.{ℕ, Option, List, [], ◌∷◌, ◌++◌, map, flat_map}
use Rattle.rv_tree.specs.Tree.{Tree, Node, Form, True, False, Number, Named, Not, Minus, Pre, Current, When, Binary, If, AtMostOne, Call, Trees, None, More}
use Rattle.rv_tree.specs.Tree.{NodeTree, tree_of}
use Rattle.rv_tree.specs.{declared.tree.Op.Op, Delays.Delay, Delays.node_delays}
use Rattle.rv_types.specs.{declared.typed.Clock.Clock, declared.typed.Clock.TheVariants.Base, Clocks.seen, Clocks.binary_pace, Clocks.pace, Instances.taken}
use Rattle.rv_instances.specs.{NumberedNeeds.clock_of_expression, declared.timed.ClockedDelay.ClockedDelay, declared.timed.ClockedOperator.ClockedOperator}

-- a `pre` or `current` by its site and its operand, with the clock of that
pub record ToldDelay : Type 0 where
  pub site : Option ℕ
  pub operand : Tree
  pub clock : Clock

-- as it is listed
abbrev pub delay_listed : ClockedDelay → ToldDelay
delay_listed d = record { site = d.site; operand = tree_of d.operand.now; clock = d.clock }

-- one of a node
abbrev pub delay_told : NodeTree → Delay → ToldDelay
delay_told n d = record { site = d.site; operand = d.operand; clock = clock_of_expression n d.operand }

-- those of a node
abbrev pub delays_told : NodeTree → List ToldDelay
delays_told n = map (delay_told n) (node_delays n)

-- an operator between two operands by its site and its left operand, with its clock
pub record ToldOperator : Type 0 where
  pub site : Option ℕ
  pub operator : Op
  pub left : Tree
  pub clock : Clock

-- as it is listed
abbrev pub operator_listed : ClockedOperator → ToldOperator
operator_listed o = record { site = o.site; operator = o.operator; left = tree_of o.left.now; clock = o.clock }

-- those of a node
module _ (n : NodeTree) where
  abbrev mutual
    pub operators_in : Tree → List ToldOperator
    operators_in (Node at site form) = operators_below site form

    pub operators_below : Option ℕ → Form → List ToldOperator
    operators_below site True = []
    operators_below site False = []
    operators_below site (Number v) = []
    operators_below site (Named x) = []
    operators_below site (Not e) = operators_in e
    operators_below site (Minus e) = operators_in e
    operators_below site (Pre e) = operators_in e
    operators_below site (Current e) = operators_in e
    operators_below site (When e c) = operators_in e
    operators_below site (Binary o a b) =
        record { site = site; operator = o; left = a; clock = taken Base (binary_pace o (seen (pace n a)) (seen (pace n b))) }
        ∷ operators_in a ++ operators_in b
    operators_below site (If a b c) = operators_in a ++ (operators_in b ++ operators_in c)
    operators_below site (AtMostOne es) = operators_of_all es
    operators_below site (Call f es) = operators_of_all es

    pub operators_of_all : Trees → List ToldOperator
    operators_of_all None = []
    operators_of_all (More e es) = operators_in e ++ operators_of_all es

  -- the operator that an expression is
  abbrev pub own_operator : Tree → List ToldOperator
  own_operator (Node at site (Binary o a b)) = record { site = site; operator = o; left = a; clock = taken Base (pace n (Node at site (Binary o a b))) } ∷ []
  own_operator _ = []

  -- all of the node
  abbrev pub operators_told : List ToldOperator
  operators_told = flat_map (λ q. operators_in q.right) n.equations ++ flat_map (λ a. operators_in a.body) n.assertions
