-- An expression of an instance as a flat one, by the tables of a frame.
use Rattle.std.specs.Prelude.{ℕ, ◌+◌, pos, negsuc, Bool, true, false, cond, unwrap_or, [], Option, Some, slice_index_or, None as Nothing}
use Rattle.std.specs.Option.{option_map}
use Rattle.rv_base.specs.declared.value.Value.TheVariants.{Flag, Whole}
use Rattle.rv_tree.specs.Places.{Identifier, Sites, is_flow, site_of, memory_site}
use Rattle.rv_tree.specs.{declared.tree.Op.Op, Tree.Tree, Tree.Form, Tree.Trees}
use Rattle.rv_tree.specs.Tree as tree
use Rattle.rv_types.specs.{declared.weighing.Weighed.Weighed, Constants.whole_in, declared.reading_values.Trues.Trues, ConstantParts.constant_part}
use Rattle.rv_types.specs.{ConstantParts.trues_over, Types.Scope, Scopes.node_scope, ToldPaces.told_clock, ValueTables.value_by}
use Rattle.rv_instances.specs.NumberedNeeds.{flow_number, clock_number, clock_of_expression, node_read, numbers_of}
use Rattle.rv_instances.specs.{Callees.callee_in, Expanded.program_of, Layouts.path_at}
use Rattle.rv_flatten.specs.{declared.frame.Frame.Frame, Compared.is_told_test, NodeReaders.scope_by, Readings.unplaced, Readings.operator}
use Rattle.rv_flat.specs.RawTree.{RawTree, Node, RawForm, RawTrees, Constant, Flow, Memory, Ticked, Not, Scale, If, AtMostOne, When, Current, None, More}
use Rattle.rv_agreement.specs.Programs.{spot}

-- a product, by what is known of the operands where they are constant, as one is in each accepted program
abbrev pub product_read : (a b : Option Weighed) → RawTree → RawTree → RawForm
product_read (Some v) b f g = Scale (whole_in v.value) g
product_read Nothing (Some v) f g = Scale (whole_in v.value) f
product_read Nothing Nothing f g = Scale (pos 0) f

-- whether an expression is an operator between two operands, or a `when`
abbrev pub is_chained : Tree → Bool
is_chained (tree.Node at site (tree.Binary o a b)) = true
is_chained (tree.Node at site (tree.When e c)) = true
is_chained _ = false

module _ (x : Frame) where
  -- the path of the instance
  abbrev pub path_read : Sites
  path_read = path_at x.expanded.now.instances.now x.reader.instance

  -- the number of the flow with this number in the layout
  abbrev pub flow_read : ℕ → ℕ
  flow_read k = slice_index_or x.numbering.now.flows k 0

  -- and of the flow of a clock
  abbrev pub clock_read : Option ℕ → Option ℕ
  clock_read k = option_map flow_read k

  -- the number of the tick of a clock, by the number of its flow in the layout
  abbrev pub tick_read : Option ℕ → ℕ
  tick_read Nothing = 0
  tick_read (Some k) = slice_index_or x.numbering.now.ticks k 0

  -- the number of the flow of the clock of an expression in the layout
  abbrev pub clock_of_read : Tree → Option ℕ
  clock_of_read e = clock_number (numbers_of x.reader) (clock_of_expression (node_read x.reader) e)

  -- the same of the clock that an expression tells
  abbrev pub told_clock_read : Tree → Option ℕ
  told_clock_read e = clock_number (numbers_of x.reader) (told_clock (node_read x.reader) e)

  -- the memory of a `pre` or `current`
  abbrev pub kept_read : Option ℕ → Tree → ℕ
  kept_read site e = unwrap_or (callee_in x.numbering.now.memories x.reader.instance (memory_site (node_read x.reader) site e)) 0

  -- the number of the flow of a `when`
  abbrev pub flow_named : Identifier → ℕ
  flow_named y = flow_read (unwrap_or (flow_number (node_read x.reader) (numbers_of x.reader) y) 0)

  -- a name
  abbrev pub named_read : Identifier → RawForm
  named_read y = cond (is_flow (node_read x.reader) y)
      (Flow (flow_read ((numbers_of x.reader).offset + site_of (node_read x.reader) y)))
      (Constant (value_by x.values.now y))

  -- which names are constants and labels
  abbrev pub scope_read : Scope
  scope_read = node_scope (program_of x.expanded.now) (node_read x.reader)

  -- what is known of an expression where it is constant
  abbrev pub constant_read : Tree → Option Weighed
  constant_read e = constant_part scope_read (value_by x.values.now) e

  -- what is known of further operands of a `#`
  abbrev pub trues_read : Trues → Trees → Trues
  trues_read t es = trues_over scope_read (value_by x.values.now) t es

  -- the first output of the call with a site
  abbrev pub output_read : Option ℕ → ℕ
  output_read site = flow_read ((numbers_of x.reader).output (unwrap_or site 0))

  -- the place of an operator with this site and left operand, whose type its head tells
  abbrev pub operator_place_read : Option ℕ → Op → Tree → Sites
  operator_place_read site o a = cond (is_told_test (scope_by x.tables.now x.own.now) o a) (spot path_read site) []

  -- the place of an expression: only a comparison of integers has one
  abbrev pub place_read : Tree → Sites
  place_read (tree.Node at site (tree.Binary o a b)) = operator_place_read site o a
  place_read _ = []

  abbrev mutual
    pub tree_read : Tree → RawTree
    tree_read (tree.Node at site form) = form_read site form

    pub form_read : Option ℕ → Form → RawTree
    form_read site tree.True = unplaced (Constant (Flag true))
    form_read site tree.False = unplaced (Constant (Flag false))
    form_read site (tree.Number n) = unplaced (Constant (Whole (pos n)))
    form_read site (tree.Named y) = unplaced (named_read y)
    form_read site (tree.Not e) = unplaced (Not (tree_read e))
    form_read site (tree.Minus e) = unplaced (Scale (negsuc 0) (tree_read e))
    form_read site (tree.Pre e) = unplaced (Memory (kept_read site e))
    form_read site (tree.Current e) = unplaced (Current (kept_read site e))
    form_read site (tree.When e c) = unplaced (When (flow_named c.text) (tree_read e))
    form_read site (tree.Binary o a b) = Node (operator_place_read site o a) (operator o
        (If (unplaced (Ticked (tick_read (told_clock_read (tree.Node 0 site (tree.Binary o a b)))))) (tree_read b) (tree_read a))
        (product_read (constant_read a) (constant_read b) (tree_read a) (tree_read b))
        (tree_read a) (tree_read b))
    form_read site (tree.If a b c) = unplaced (If (tree_read a) (tree_read b) (tree_read c))
    form_read site (tree.AtMostOne es) = unplaced (AtMostOne (trees_read es))
    form_read site (tree.Call f args) = unplaced (Flow (output_read site))

    pub trees_read : Trees → RawTrees
    trees_read tree.None = None
    trees_read (tree.More e es) = More (tree_read e) (trees_read es)
