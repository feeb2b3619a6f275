-- What operators make of the bits of their operands, and comparisons of integers of their tests.
use Rattle.std.specs.Prelude.{ℕ, Bool, false, not, ◌&&◌, ◌||◌, cond, max, List, length}
use Rattle.rv_tree.specs.{declared.tree.Op.Op, Places.Sites}
use Rattle.rv_tree.specs.declared.tree.Op.TheVariants as op
use Rattle.rv_types.specs.Lists.{Variable, Test, AtMost, AtLeast}
use Rattle.rv_diagram.specs.{declared.Triple.Triple, Nodes.Valuation}
use Rattle.rv_agreement.specs.Valuations.{is_placed}
use Rattle.rv_control.specs.Named.{truth_at}
use Rattle.rv_bits.specs.Bits.{bit, are_same}

-- what an operator makes of two truth values, of whether its operands are the same, and of its tests
abbrev pub truth_by : Op → Bool → Bool → Bool → Bool → Bool → Bool
truth_by op.Implies a b same at_most at_least = not a || b
truth_by op.Or a b same at_most at_least = a || b
truth_by op.Xor a b same at_most at_least = cond a (not b) b
truth_by op.And a b same at_most at_least = a && b
truth_by op.Equal a b same at_most at_least = same
truth_by op.Differs a b same at_most at_least = not same
truth_by op.Less a b same at_most at_least = not at_least
truth_by op.AtMost a b same at_most at_least = at_most
truth_by op.Greater a b same at_most at_least = not at_most
truth_by op.AtLeast a b same at_most at_least = at_least
truth_by _ a b same at_most at_least = false

module _ (nodes : List Triple) (names : List Variable) (at : Sites) (left right : List ℕ) (v : Valuation) where
  -- operands are the same: integers where both tests are true, control values where all bits are the same
  abbrev pub same_by : Bool
  same_by = cond (is_placed at) (truth_at names v (Test at AtMost) && truth_at names v (Test at AtLeast))
      (are_same (max (length left) (length right)) (bit nodes left v) (bit nodes right v))

  -- what an operator at a place makes of two lists of bits
  abbrev pub operated_by : Op → Bool
  operated_by o = truth_by o (bit nodes left v 0) (bit nodes right v 0) same_by (truth_at names v (Test at AtMost)) (truth_at names v (Test at AtLeast))
