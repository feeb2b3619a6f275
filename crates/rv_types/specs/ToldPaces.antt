-- The pace that the first operand with a clock tells, without a look at those after it.
use Rattle.std.specs.Prelude.{Bool, true, false, cond}
use Rattle.rv_tree.specs.Tree.{Tree, Form, Trees, Node, True, False, Number, Named, Not, Minus, Pre, Current, When, Binary, If, AtMostOne, Call, None, More}
use Rattle.rv_tree.specs.Tree.{NodeTree}
use Rattle.rv_tree.specs.{declared.tree.Op.Op, Places.site_of}
use Rattle.rv_tree.specs.declared.tree.Op.TheVariants as op
use Rattle.rv_types.specs.{declared.typed.Clock.Clock, declared.typed.Clock.TheVariants.Base, declared.typed.Clock.TheVariants.On, declared.fault.Pace.Pace}
use Rattle.rv_types.specs.{declared.fault.Pace.TheVariants.Free, declared.fault.Pace.TheVariants.At, declared.fault.Pace.TheVariants.Mute}
use Rattle.rv_types.specs.{declared.fault.Pace.TheVariants.Differ, Clocks.seen, Clocks.grounded, Clocks.current_pace, Clocks.name_pace, Instances.taken}

-- free or on a clock, as each expression of a program whose clocks are right
abbrev pub IsTimed : Pace → Type 0
IsTimed Free = Unit {0}
IsTimed (At c) = Unit {0}
IsTimed Mute = ⊥
IsTimed Differ = ⊥

abbrev pub is_free : Pace → Bool
is_free Free = true
is_free _ = false

-- the first of two paces that is not free
abbrev pub first_pace : Pace → Pace → Pace
first_pace p q = cond (is_free p) q p

-- an operator, by the first pace of its operands
abbrev pub operator_told : Op → Pace → Pace
operator_told op.Arrow p = grounded p
operator_told _ p = p

module _ (n : NodeTree) where
  abbrev mutual
    -- The pace that an expression tells. Of one that is free or on a clock it is that; of another it says nothing.
    pub told_pace : Tree → Pace
    told_pace (Node at site form) = form_told form

    pub form_told : Form → Pace
    form_told True = Free
    form_told False = Free
    form_told (Number v) = Free
    form_told (Named x) = name_pace n x
    form_told (Not e) = told_pace e
    form_told (Minus e) = told_pace e
    form_told (Pre e) = grounded (told_pace e)
    form_told (Current e) = current_pace n (seen (told_pace e))
    form_told (When e c) = At (On (site_of n c.text))
    form_told (Binary o a b) = operator_told o (first_pace (told_pace a) (told_pace b))
    form_told (If a b c) = first_pace (first_pace (told_pace a) (told_pace b)) (told_pace c)
    form_told (AtMostOne es) = told_pace_of_all es
    form_told (Call f es) = grounded (told_pace_of_all es)

    -- what operands or arguments tell together
    pub told_pace_of_all : Trees → Pace
    told_pace_of_all None = Free
    told_pace_of_all (More e es) = first_pace (told_pace e) (told_pace_of_all es)

  -- the clock that an expression tells, the base clock where it is free
  abbrev pub told_clock : Tree → Clock
  told_clock e = taken Base (told_pace e)
