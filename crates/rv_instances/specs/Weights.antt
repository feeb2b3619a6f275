-- The weight of an integer expression: a bound on its magnitude in terms of what memories and inputs hold.
use Rattle.std.specs.Prelude.{◌≡◌, ◌⊎◌, ℕ, ◌+◌, ◌*◌, ◌≤◌, max, cond, nat_lt, nat_abs, List, [], ◌∷◌, ◌++◌, flat_map, unwrap_or, reverse, Option}
use Rattle.std.specs.List.{Contains}
use Rattle.rv_tree.specs.Tree.{Tree, Node, Form, True, False, Number, Named, Not, Minus, Pre, Current, When, Binary, If, AtMostOne, Call, ConstantTree}
use Rattle.rv_tree.specs.Tree.{NodeTree, ProgramTree}
use Rattle.rv_tree.specs.{declared.tree.Name.Name, declared.tree.Op.Op, Places.Identifier, Places.Sites, Places.is_flow}
use Rattle.rv_tree.specs.declared.tree.Op.TheVariants as op
use Rattle.rv_base.specs.Limits.{heaviest}
use Rattle.rv_types.specs.Instances.{Right, Body, Output, Instance, place, output_place, IsInstance}
use Rattle.rv_types.specs.{Types.is_constant, Constants.whole_in, Constants.value_of, Constants.weight_of, Scopes.node_scope, Scopes.constant_value}
use Rattle.rv_types.specs.{Scopes.constant_value_after, Needs.Giver, Needs.Given, Needs.Of, Needs.Gives, Variables.parts, Variables.parts_of_all}

-- the absolute value of a constant expression of a node
abbrev pub constant_size : ProgramTree → Tree → ℕ
constant_size p e = nat_abs (whole_in (value_of (constant_value p) e))

-- an operator of two operands of these weights, for all but `*`; what gives a Boolean has none
abbrev pub weight_under : Op → ℕ → ℕ → ℕ
weight_under op.Plus v w = v + w
weight_under op.Minus v w = v + w
weight_under op.Arrow v w = max v w
weight_under _ v w = 0

-- The weight of an expression of an instance, where the flows have these weights. Booleans and labels have at most 1.
module _ (p : ProgramTree) (flows : Sites → ℕ) (i : Instance) where
  abbrev mutual
    pub weight : Tree → ℕ
    weight (Node at site form) = form_weight site form

    pub form_weight : Option ℕ → Form → ℕ
    form_weight site True = 0
    form_weight site False = 0
    form_weight site (Number n) = n
    form_weight site (Named x) = cond (is_flow i.node x) (flows (place i x)) (nat_abs (whole_in (constant_value p x)))
    form_weight site (Not e) = 0
    form_weight site (Minus e) = weight e
    form_weight site (Pre e) = 1
    form_weight site (Current e) = max 1 (weight e)
    form_weight site (When e c) = weight e
    -- in a product of two constant expressions the left one counts as the constant operand
    form_weight site (Binary op.Times a b) = cond (is_constant (node_scope p i.node) a) (constant_size p a * weight b) (constant_size p b * weight a)
    form_weight site (Binary o a b) = weight_under o (weight a) (weight b)
    form_weight site (If a b c) = max (weight b) (weight c)
    form_weight site (AtMostOne es) = 0
    form_weight site (Call f es) = flows (output_place p i (unwrap_or site 0) f 0)

  -- the weight that a right side gives
  abbrev pub weight_of_right : Right → ℕ
  weight_of_right (Body e) = weight e
  weight_of_right (Output c j) = flows (output_place p i c.site c.name j)

-- the weight that a flow has from what gives it its value: an input of main has 1
abbrev pub weight_of_giver : ProgramTree → (Sites → ℕ) → Giver → ℕ
weight_of_giver p flows (Given j) = 1
weight_of_giver p flows (Of i k r) = weight_of_right p flows i r

-- the offsets of some expressions that are above the limit
abbrev pub too_wide : (Tree → ℕ) → List Tree → List ℕ
too_wide w [] = []
too_wide w (Node at site form ∷ es) = cond (nat_lt heaviest (w (Node at site form))) (at ∷ []) [] ++ too_wide w es

-- the expressions of an equation that have a weight; a call with several outputs has none of its own
abbrev pub weighed_of_several : Tree → List Tree
weighed_of_several (Node at site (Call f es)) = parts_of_all es
weighed_of_several e = parts e

abbrev pub weighed_under : List Name → Tree → List Tree
weighed_under (x ∷ []) e = parts e
weighed_under xs e = weighed_of_several e

-- the expressions of a node that have a weight
abbrev pub weighed : NodeTree → List Tree
weighed n = flat_map (λ q. weighed_under q.lefts q.right) n.equations ++ flat_map (λ a. parts a.body) n.assertions

-- the offsets of what is too wide in some constants, the last of them first
abbrev pub too_wide_constants : ProgramTree → List ConstantTree → List ℕ
too_wide_constants p [] = []
too_wide_constants p (c ∷ before) = too_wide_constants p before ++ too_wide (weight_of (constant_value_after p before)) (parts c.body)

module _ (p : ProgramTree) (main : Identifier) where
  -- Each flow has the weight of what gives it its value.
  abbrev pub AreWeights : (Sites → ℕ) → Type 0
  AreWeights flows = (q : Sites) (g : Giver) → Gives p main q g → flows q ≡ weight_of_giver p flows g

  -- An expression at this offset is too wide in a constant, or in an instance.
  abbrev pub IsTooWide : (Sites → ℕ) → ℕ → Type 0
  IsTooWide flows at = Contains (too_wide_constants p (reverse p.constants)) at
      ⊎ ((i : Instance) × IsInstance p main i × Contains (too_wide (weight p flows i) (weighed i.node)) at)

  -- None is.
  abbrev pub AreLight : Type 0
  AreLight = (flows : Sites → ℕ) × AreWeights flows × ((at : ℕ) → IsTooWide flows at → ⊥)

  -- the least offset of one
  abbrev pub IsFirstTooWide : ℕ → Type 0
  IsFirstTooWide at = (flows : Sites → ℕ) × AreWeights flows × IsTooWide flows at × ((later : ℕ) → IsTooWide flows later → at ≤ later)
