-- The values of constant expressions over integers of any size. An integer expression of a weight above 2^40 counts
-- as the value 2^40 + 1.
use Rattle.std.specs.Prelude.{ℕ, ◌+◌, ◌*◌, max, Bool, true, false, not, ◌&&◌, ◌||◌, cond, nat_eq, nat_le, List, [], ◌∷◌, ℤ, pos, ◌+ℤ◌, ◌-ℤ◌, ◌*ℤ◌, neg_ℤ}
use Rattle.std.specs.Prelude.{nat_abs, int_lt, int_le}
use Rattle.rv_base.specs.declared.value.Value.TheVariants.{Flag, Label, Whole}
use Rattle.rv_base.specs.{declared.value.Value.Value, Limits.heaviest, Limits.too_heavy}
use Rattle.rv_tree.specs.Tree.{Tree, Form, Trees, Node, True, False, Number, Named, Not, Minus, Binary, If, AtMostOne, None, More}
use Rattle.rv_tree.specs.{declared.tree.Op.Op, Places.Identifier}
use Rattle.rv_tree.specs.declared.tree.Op.TheVariants as op

-- the truth of a Boolean value
abbrev pub flag_in : Value → Bool
flag_in (Flag b) = b
flag_in _ = false

-- the number of an integer value
abbrev pub whole_in : Value → ℤ
whole_in (Whole z) = z
whole_in _ = pos 0

-- the value that an integer expression of a weight counts as
abbrev pub counted : ℕ → ℤ → Value
counted weight z = cond (nat_le weight heaviest) (Whole z) (Whole (pos too_heavy))

-- one of the last two parts of an `if`, of the larger weight of both
abbrev pub counted_part : ℕ → Value → Value
counted_part weight (Whole z) = counted weight z
counted_part weight v = v

abbrev pub same_bool : Bool → Bool → Bool
same_bool true b = b
same_bool false b = not b

abbrev pub same_int : ℤ → ℤ → Bool
same_int y z = int_le y z && int_le z y

abbrev pub same_value : Value → Value → Bool
same_value (Flag b) (Flag c) = same_bool b c
same_value (Label i) (Label j) = nat_eq i j
same_value (Whole y) (Whole z) = same_int y z
same_value _ _ = false

-- an operator that gives a Boolean; the others do not come here
abbrev pub flag_under : Op → Value → Value → Bool
flag_under op.Implies v w = not (flag_in v) || flag_in w
flag_under op.Or v w = flag_in v || flag_in w
flag_under op.Xor v w = not (same_bool (flag_in v) (flag_in w))
flag_under op.And v w = flag_in v && flag_in w
flag_under op.Equal v w = same_value v w
flag_under op.Differs v w = not (same_value v w)
flag_under op.Less v w = int_lt (whole_in v) (whole_in w)
flag_under op.AtMost v w = int_le (whole_in v) (whole_in w)
flag_under op.Greater v w = int_lt (whole_in w) (whole_in v)
flag_under op.AtLeast v w = int_le (whole_in w) (whole_in v)
flag_under _ v w = false

-- An operator of two values, the whole expression being of this weight. No expression with one of the last five is
-- a constant; false stands for it.
abbrev pub value_under : ℕ → Op → Value → Value → Value
value_under weight op.Plus v w = counted weight (whole_in v +ℤ whole_in w)
value_under weight op.Minus v w = counted weight (whole_in v -ℤ whole_in w)
value_under weight op.Times v w = counted weight (whole_in v *ℤ whole_in w)
value_under weight op.Arrow v w = Flag false
value_under weight op.Slash v w = Flag false
value_under weight op.Div v w = Flag false
value_under weight op.Mod v w = Flag false
value_under weight o v w = Flag (flag_under o v w)

-- The weight of an operator between constant operands, of the left one's value and the weights of both: in a product
-- the left one counts as the constant operand.
abbrev pub weight_under : Op → ℕ → ℕ → ℕ → ℕ
weight_under op.Plus size v w = v + w
weight_under op.Minus size v w = v + w
weight_under op.Times size v w = size * w
weight_under _ size v w = 0

-- whether no flag is true, and whether at most one is
abbrev pub none_true : List Bool → Bool
none_true [] = true
none_true (b ∷ bs) = not b && none_true bs

abbrev pub at_most_one : List Bool → Bool
at_most_one [] = true
at_most_one (b ∷ bs) = cond b (none_true bs) (at_most_one bs)

-- The weight and the value of a constant expression, where the names of constants and labels have these values.
-- What has no integers has the weight 0.
module _ (known : Identifier → Value) where
  abbrev mutual
    pub weight_of : Tree → ℕ
    weight_of (Node at site form) = form_weight form

    pub form_weight : Form → ℕ
    form_weight (Number n) = n
    form_weight (Named x) = nat_abs (whole_in (known x))
    form_weight (Minus e) = weight_of e
    form_weight (Binary o a b) = weight_under o (nat_abs (whole_in (value_of a))) (weight_of a) (weight_of b)
    form_weight (If a b c) = max (weight_of b) (weight_of c)
    form_weight _ = 0

    pub value_of : Tree → Value
    value_of (Node at site form) = form_value form

    pub form_value : Form → Value
    form_value True = Flag true
    form_value False = Flag false
    form_value (Number n) = counted n (pos n)
    form_value (Named x) = known x
    form_value (Not e) = Flag (not (flag_in (value_of e)))
    form_value (Minus e) = counted (weight_of e) (neg_ℤ (whole_in (value_of e)))
    form_value (Binary o a b) = value_under (weight_under o (nat_abs (whole_in (value_of a))) (weight_of a) (weight_of b)) o (value_of a) (value_of b)
    form_value (If a b c) = counted_part (max (weight_of b) (weight_of c)) (cond (flag_in (value_of a)) (value_of b) (value_of c))
    form_value (AtMostOne es) = Flag (at_most_one (flags_of_all es))
    form_value _ = Flag false

    pub flags_of_all : Trees → List Bool
    flags_of_all None = []
    flags_of_all (More e es) = flag_in (value_of e) ∷ flags_of_all es
