-- The value of an expression of an instance at an instant of a history.
-- (Halbwachs, Caspi, Raymond and Pilaud 1991; where that leaves nil, a memory has a start value.)
use Rattle.std.specs.Prelude.{ℕ, zero, suc, ◌+◌, ℤ, pos, ◌+ℤ◌, ◌-ℤ◌, ◌*ℤ◌, Bool, true, false, not, ◌&&◌, ◌||◌, cond, nat_eq, nat_le, int_lt, int_le, unwrap_or}
use Rattle.std.specs.Prelude.{Option, Some, None as Nothing}
use Rattle.std.specs.Ordering.{int_eq}
use Rattle.rv_base.specs.declared.value.Value.{Value}
use Rattle.rv_base.specs.declared.value.Value.TheVariants.{Flag, Label, Whole}
use Rattle.rv_tree.specs.Tree.{Tree, Node, Form, True, False, Number, Named, Not, Minus, Pre, Current, When, Binary, If, AtMostOne, Call, Trees, None, More}
use Rattle.rv_tree.specs.Tree.{ProgramTree}
use Rattle.rv_tree.specs.{declared.tree.Op.Op, Places.Sites, Places.is_flow, Places.memory_place}
use Rattle.rv_tree.specs.declared.tree.Op.TheVariants as op
use Rattle.rv_types.specs.Instances.{Right, Body, Output, Instance, place, absolute, clock_in, clock_of_arguments, output_place}
use Rattle.rv_types.specs.{declared.typed.Clock.Clock, declared.typed.Clock.TheVariants.Base, Scopes.constant_value}

-- what each flow has at each instant, none where it is absent
abbrev pub Cells : Type 0
Cells = ℕ → Sites → Option Value

-- the truth of a Boolean
abbrev pub is_true : Value → Bool
is_true (Flag b) = b
is_true _ = false

-- the number of an integer
abbrev pub number : Value → ℤ
number (Whole n) = n
number _ = pos 0

-- whether two values of one type are equal
abbrev pub is_equal : Value → Value → Bool
is_equal (Flag a) (Flag b) = cond a b (not b)
is_equal (Label a) (Label b) = nat_eq a b
is_equal (Whole a) (Whole b) = int_eq a b
is_equal _ _ = false

-- the value of a flow, of no meaning where it is absent
abbrev pub held : Option Value → Value
held Nothing = Flag false
held (Some v) = v

-- whether a flow is there and true
abbrev pub is_on : Option Value → Bool
is_on Nothing = false
is_on (Some v) = is_true v

-- An operator at the values of its operands; `first` says that its clock has been at no earlier instant.
-- `/`, `div` and `mod` are refused, so their value here is never asked for.
abbrev pub operate : Op → (first : Bool) → Value → Value → Value
operate op.Arrow first a b = cond first a b
operate op.Implies first a b = Flag (not (is_true a) || is_true b)
operate op.Or first a b = Flag (is_true a || is_true b)
operate op.Xor first a b = Flag (cond (is_true a) (not (is_true b)) (is_true b))
operate op.And first a b = Flag (is_true a && is_true b)
operate op.Equal first a b = Flag (is_equal a b)
operate op.Differs first a b = Flag (not (is_equal a b))
operate op.Less first a b = Flag (int_lt (number a) (number b))
operate op.AtMost first a b = Flag (int_le (number a) (number b))
operate op.Greater first a b = Flag (int_lt (number b) (number a))
operate op.AtLeast first a b = Flag (int_le (number b) (number a))
operate op.Plus first a b = Whole (number a +ℤ number b)
operate op.Minus first a b = Whole (number a -ℤ number b)
operate op.Times first a b = Whole (number a *ℤ number b)
operate op.Slash first a b = Whole (pos 0)
operate op.Div first a b = Whole (pos 0)
operate op.Mod first a b = Whole (pos 0)

-- whether the clock of a flow is there at the instant t, main's base clock where there is no flow
abbrev pub is_there : Cells → Option Sites → ℕ → Bool
is_there h Nothing t = true
is_there h (Some p) t = is_on (h t p)

-- whether it was there before t
abbrev pub was_there : Cells → Option Sites → ℕ → Bool
was_there h k zero = false
was_there h k (suc t) = is_there h k t || was_there h k t

-- the value at the last instant before t at which the clock was there, or the start value
abbrev pub last_before : Cells → Option Sites → (ℕ → Value) → Value → ℕ → Value
last_before h k flow start zero = start
last_before h k flow start (suc t) = cond (is_there h k t) (flow t) (last_before h k flow start t)

-- the memory of a `pre` or `current` of an instance, by its site and its operand
abbrev pub kept_place : Instance → Option ℕ → Tree → Sites
kept_place i site e = memory_place i.path i.node site e

module _ (program : ProgramTree) (starts : Sites → Value) (h : Cells) (i : Instance) where
  abbrev mutual
    -- what an expression has where its clock is there
    pub content : Tree → ℕ → Value
    content (Node at site form) t = form_content site form t

    pub form_content : Option ℕ → Form → ℕ → Value
    form_content site True t = Flag true
    form_content site False t = Flag false
    form_content site (Number n) t = Whole (pos n)
    form_content site (Named x) t = cond (is_flow i.node x) (held (h t (place i x))) (constant_value program x)
    form_content site (Not e) t = Flag (not (is_true (content e t)))
    form_content site (Minus e) t = Whole (pos 0 -ℤ number (content e t))
    form_content site (Pre e) t = last_before h (clock_in i Base e) (content e) (starts (kept_place i site e)) t
    form_content site (Current e) t = last_before h (clock_in i Base e) (content e) (starts (kept_place i site e)) (suc t)
    form_content site (When e c) t = content e t
    form_content site (Binary o a b) t = operate o (not (was_there h (clock_in i Base (Node 0 site (Binary o a b))) t)) (content a t) (content b t)
    form_content site (If a b c) t = cond (is_true (content a t)) (content b t) (content c t)
    form_content site (AtMostOne es) t = Flag (nat_le (trues es t) 1)
    form_content site (Call f args) t = held (h t (output_place program i (unwrap_or site 0) f 0))

    -- how many are true
    pub trues : Trees → ℕ → ℕ
    trues None t = 0
    trues (More e es) t = cond (is_true (content e t)) 1 0 + trues es t

  -- The value of an expression, absent exactly where its clock is not there. A free expression takes the clock k.
  abbrev pub value : Clock → Tree → ℕ → Option Value
  value k e t = cond (is_there h (clock_in i k e) t) (Some (content e t)) Nothing

  -- what a right side has, where the left side is on the clock k
  abbrev pub right_value : Clock → Right → ℕ → Option Value
  right_value k (Body e) t = value k e t
  right_value k (Output c j) t = cond (is_there h (absolute i (clock_of_arguments i c.args)) t) (Some (held (h t (output_place program i c.site c.name j))))
      Nothing
