-- A system that is read from its program passes the tests that a flat system keeps, and each `current` in it shows its memory.
use Rattle.std.proofs.Common.{ℕ, suc, ℤ, Bool, true, false, cond, sym, subst, slice_get, IsTrue}
use Rattle.rv_base.specs.declared.value.Value.{Value}
use Rattle.rv_tree.specs.{declared.tree.Op.Op, Tree.Tree, Tree.Trees, Tree.ProgramTree, Places.Identifier, Places.Sites, Places.is_flow, Places.index_of}
use Rattle.rv_tree.specs.declared.tree.Op.TheVariants as op
use Rattle.rv_tree.specs.Tree as tree
use Rattle.rv_types.specs.declared.typed.Kind.TheVariants as kind
use Rattle.rv_types.specs.Instances.{Body, Instance, place, clock_in, IsInstance, IsNode, IsArgument, head, tail}
use Rattle.rv_types.specs.Needs.{Giver, Gives, by_equation, by_call}
use Rattle.rv_types.specs.{declared.typed.Clock.TheVariants.Base, Scopes.node_scope, Scopes.constant_value, Types.is_constant, WellFormed.AreWell}
use Rattle.rv_agreement.specs.Checks.{is_of, IsShared, FormIsShared, AreShared, IsChecked, IsInlined}
use Rattle.rv_agreement.specs.Programs.{coefficient, operation}
use Rattle.rv_agreement.specs.Translation.{Numbers, tick_number, unplaced, flat_of, flats_of, giver_item, IsTranslated}
use Rattle.rv_agreement.specs.Trees.{FlatTree, Constant, Flow, Ticked, Scale, If, Binary, Item, System}
use Rattle.rv_flatten.specs.Kinded.{IsKinded}
use Rattle.rv_flatten.proofs.ReadFits.{all_flows_fit, all_memories_fit, all_assertions_fit, all_clocks_fit, clock_many}
use Rattle.rv_flatten.proofs.Standing.{Stands, as_child, of_not, of_minus, of_current, of_when, of_left, of_right, of_condition, of_first, of_second}
use Rattle.rv_flatten.proofs.Standing.{of_operand, own_current, body_stands, argument_stands, operand_stands, as_assertion}
use Rattle.rv_flatten.proofs.{ApartComparisons.comparisons_apart, DistinctPlaces.distinct_ticks, DistinctPlaces.distinct_memories}

module _ (s : System) where
  product_shared : (left : Bool) (y z : ℤ) (f g : FlatTree) → IsShared s f → IsShared s g → FormIsShared s (cond left (Scale y g) (Scale z f))
  product_shared true y z f g p q = q
  product_shared false y z f g p q = p

  operator_shared : (left : Bool) (o : Op) (y z : ℤ) (t : ℕ) (f g : FlatTree) → IsShared s f → IsShared s g
      → FormIsShared s (operation o (If (unplaced (Ticked t)) g f) (cond left (Scale y g) (Scale z f)) (Binary o f g))
  operator_shared left op.Arrow y z t f g p q = (tt, q, p)
  operator_shared left op.Times y z t f g p q = product_shared left y z f g p q
  operator_shared left _ y z t f g p q = (p, q)

  name_shared : (k : ℕ) (v : Value) (b : Bool) → FormIsShared s (cond b (Flow k) (Constant v))
  name_shared k v true = tt
  name_shared k v false = tt

module _ (program : ProgramTree) (main : Identifier) (numbers : Numbers) (s : System) (read : IsTranslated program main numbers s) where
  module _ (i : Instance) (of : IsInstance program main i) where
    mutual
      expression_shared : (e : Tree) → Stands i.node e → IsShared s (flat_of program numbers i e)
      expression_shared (tree.Node at site (tree.Named x)) t = name_shared s (index_of numbers.flows (place i x)) (constant_value program x) (is_flow i.node x)
      expression_shared (tree.Node at site (tree.Not e)) t = expression_shared e (as_child t of_not)
      expression_shared (tree.Node at site (tree.Minus e)) t = expression_shared e (as_child t of_minus)
      expression_shared (tree.Node at site (tree.Current e)) t = (
        read.memory i (record { site = site; operand = e }) of (own_current i.node at site e t),
        expression_shared e
            (as_child t of_current),
      )
      expression_shared (tree.Node at site (tree.When e x)) t = expression_shared e (as_child t (of_when x))
      expression_shared (tree.Node at site (tree.Binary o a b)) t =
          operator_shared s (is_constant (node_scope program i.node) a) o (coefficient program a) (coefficient program b)
          (tick_number numbers (clock_in i Base (tree.Node 0 site (tree.Binary o a b)))) (flat_of program numbers i a) (flat_of program numbers i b)
          (expression_shared a (as_child t of_left)) (expression_shared b (as_child t of_right))
      expression_shared (tree.Node at site (tree.If a b d)) t = (
        expression_shared a (as_child t of_condition),
        expression_shared b (as_child t of_first),
        expression_shared d (as_child t of_second),
      )
      expression_shared (tree.Node at site (tree.AtMostOne es)) t = all_shared es (λ j e arg. as_child t (of_operand j arg))
      expression_shared (tree.Node at site _) t = tt

      all_shared : (es : Trees) → ((j : ℕ) (e : Tree) → IsArgument es j e → Stands i.node e) → AreShared s (flats_of program numbers i es)
      all_shared tree.None t = tt
      all_shared (tree.More e es) t = (expression_shared e (t 0 e head), all_shared es (λ j a arg. t (suc j) a (tail arg)))

  giver_shared : (q : Sites) (g : Giver) → Gives program main q g → IsShared s (giver_item program numbers g).body
  giver_shared q _ (by_equation i x (Body e) of right at) = expression_shared i of e (body_stands i.node x e right)
  giver_shared q _ (by_call i c j e of called arg at) = expression_shared i of e (argument_stands i.node c j e called arg)
  giver_shared q _ _ = tt

  -- Each item shows its memories.
  pub is_inlined : IsInlined s
  is_inlined = record {
    flows = λ k lt. let r = read.flow k lt in subst (λ (x : Item). IsShared s x.body) (sym r.2) (giver_shared _ r.0 r.1);
    memories = λ m lt. let r = read.memory_only m lt in subst (λ (x : Item). IsShared s x.body) (sym r.4)
        (expression_shared r.0 r.2 r.1.operand (operand_stands r.0.node r.1 r.3));
    assertions = λ k lt. let r = read.asserted k lt in subst (λ (x : Item). IsShared s x.body) (sym r.4)
        (expression_shared r.0 r.2 r.1.body (as_assertion r.1 r.3));
  }

  -- The tests pass, where the observer is Boolean.
  pub is_checked : AreWell program → IsNode program main → IsKinded program main numbers s → IsTrue (is_of kind.Bool (slice_get s.kinds s.observer))
      → IsChecked s
  is_checked well named types observer = record {
    kinds = types.many;
    flows = all_flows_fit program main well named numbers s read types;
    memories = all_memories_fit program main well named numbers s read types;
    assertions = all_assertions_fit program main well named numbers s read types;
    observer = observer;
    ticks = clock_many program main well named numbers s read types;
    tick_clocks = all_clocks_fit program main well named numbers s read types;
    tick_places = distinct_ticks program main numbers s read;
    memory_places = distinct_memories program main numbers s read;
    comparisons = comparisons_apart program main numbers s read well named;
  }
