-- The weights of the expressions of an instance by tables, and the least offset of what is too wide.
use Rattle.std.specs.Prelude.{ℕ, ◌+◌, ◌*◌, max, Bool, true, cond, nat_abs, unwrap_or, Option, Some, slice_index_or, None as Nothing}
use Rattle.rv_base.specs.declared.value.Value.{Value}
use Rattle.rv_tree.specs.Tree.{Tree, Node, Form, True, False, Number, Named, Not, Minus, Pre, Current, When, Binary, If, AtMostOne, Call, Trees, None, More}
use Rattle.rv_tree.specs.Tree.{node_tree}
use Rattle.rv_tree.specs.{declared.tree.Op.Op, Places.Identifier, Places.site_of}
use Rattle.rv_tree.specs.declared.tree.Op.TheVariants as op
use Rattle.rv_types.specs.{declared.weighing.Weighed.Weighed, Constants.whole_in, ConstantParts.constant_part, Scopes.no_clock, Scopes.no_callee}
use Rattle.rv_types.specs.{Scopes.is_fixed, Types.Scope, ValueTables.value_by, WideConstants.lesser, WideConstants.wide_at}
use Rattle.rv_sequence.specs.declared.weights.Weigher.{Weigher}
use Rattle.rv_instances.specs.{Layouts.here_of, Weights.weight_under}

-- What the weights in an instance depend on: which names are constants and labels, what these stand for, and the
-- weights of flows and, by the sites of calls, of outputs.
pub record Weighing : Type 0 where
  pub scope : Scope
  pub known : Identifier → Value
  pub flow : Identifier → ℕ
  pub output : ℕ → ℕ

-- a scope of which only the names of constants and labels are known
abbrev pub fixing : (Identifier → Bool) → Scope
fixing fixed = record { kind = no_clock; clock = no_clock; callee = no_callee; fixed = fixed; moves = true }

-- what the tables of an instance say
abbrev pub weighing : Weigher → Weighing
weighing w = record {
  scope = fixing (is_fixed (node_tree w.clocks.now.node.now));
  known = value_by w.values.now;
  flow = λ x. slice_index_or w.weights.now ((here_of w.layout.now w.instance).offset + site_of (node_tree w.clocks.now.node.now) x) 0;
  output = λ site. slice_index_or w.weights.now ((here_of w.layout.now w.instance).output site) 0;
}

-- the weight of a product, of what is known of its operands where they are constant, and of their weights
abbrev pub product_of : Option Weighed → Option Weighed → ℕ → ℕ → ℕ
product_of (Some c) b v w = nat_abs (whole_in c.value) * w
product_of Nothing (Some c) v w = nat_abs (whole_in c.value) * v
product_of Nothing Nothing v w = 0

-- the weight under any operator
abbrev pub weight_of_operator : Op → Option Weighed → Option Weighed → ℕ → ℕ → ℕ
weight_of_operator op.Times a b v w = product_of a b v w
weight_of_operator o a b v w = weight_under o v w

module _ (w : Weighing) where
  -- the weight of an expression
  abbrev mutual
    pub weight_in : Tree → ℕ
    weight_in (Node at site form) = form_weight_in site form

    pub form_weight_in : Option ℕ → Form → ℕ
    form_weight_in site True = 0
    form_weight_in site False = 0
    form_weight_in site (Number n) = n
    form_weight_in site (Named x) = cond (w.scope.fixed x) (nat_abs (whole_in (w.known x))) (w.flow x)
    form_weight_in site (Not e) = 0
    form_weight_in site (Minus e) = weight_in e
    form_weight_in site (Pre e) = 1
    form_weight_in site (Current e) = max 1 (weight_in e)
    form_weight_in site (When e c) = weight_in e
    form_weight_in site (Binary o a b) = weight_of_operator o (constant_part w.scope w.known a) (constant_part w.scope w.known b) (weight_in a) (weight_in b)
    form_weight_in site (If a b c) = max (weight_in b) (weight_in c)
    form_weight_in site (AtMostOne es) = 0
    form_weight_in site (Call f es) = w.output (unwrap_or site 0)

module _ (w : Weighing) (whole : Bool) where
  -- The least offset of what is too wide in an expression. The arguments of calls and the operands of `pre` count
  -- only where the whole expression does.
  abbrev mutual
    pub first_in : Tree → Option ℕ
    first_in (Node at site form) = lesser (wide_at at (form_weight_in w site form)) (first_below form)

    pub first_below : Form → Option ℕ
    first_below True = Nothing
    first_below False = Nothing
    first_below (Number n) = Nothing
    first_below (Named x) = Nothing
    first_below (Not e) = first_in e
    first_below (Minus e) = first_in e
    first_below (Pre e) = cond whole (first_in e) Nothing
    first_below (Current e) = first_in e
    first_below (When e c) = first_in e
    first_below (Binary o a b) = lesser (first_in a) (first_in b)
    first_below (If a b c) = lesser (first_in a) (lesser (first_in b) (first_in c))
    first_below (AtMostOne es) = first_in_all es
    first_below (Call f es) = cond whole (first_in_all es) Nothing

    pub first_in_all : Trees → Option ℕ
    first_in_all None = Nothing
    first_in_all (More e es) = lesser (first_in e) (first_in_all es)
