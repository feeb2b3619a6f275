-- What is known of an expression where it is constant: its value and its weight.
use Rattle.std.specs.Prelude.{◌≤◌, min, true, false, not, ◌&&◌, ◌||◌, cond, nat_abs, Option, Some, IfSome, None as Nothing}
use Rattle.rv_base.specs.{declared.value.Value.Value, declared.value.Value.TheVariants.Flag, Limits.too_heavy}
use Rattle.rv_tree.specs.{Tree.Tree, Tree.Node, Tree.Form, Tree.Trees, Tree.None, Tree.More, Places.Identifier}
use Rattle.rv_types.specs.Constants.{flag_in, whole_in, form_value, form_weight}
use Rattle.rv_types.specs.{declared.weighing.Weighed.Weighed, declared.reading_values.Trues.Trues, Types.Scope, Types.is_constant_form}

-- A value is no larger than its weight, and that counts to 2^40 + 1.
pub record IsBound (w : Weighed) : Type 0 where
  pub value : nat_abs (whole_in w.value) ≤ w.weight
  pub weight : w.weight ≤ too_heavy

-- the same where something is known
abbrev pub IsKnownBound : Option Weighed → Type 0
IsKnownBound o = IfSome o IsBound

module _ (s : Scope) (known : Identifier → Value) where
  -- The value and the weight of a constant expression, whose weight counts to 2^40 + 1. Of another nothing is known.
  abbrev pub constant_form : Form → Option Weighed
  constant_form form = cond (is_constant_form s form) (Some (record { value = form_value known form; weight = min (form_weight known form) too_heavy })) Nothing

  abbrev pub constant_part : Tree → Option Weighed
  constant_part (Node at site form) = constant_form form

-- whether the operands of a `#` so far are constant, and how many of them are true: some, several
abbrev pub no_trues : Trues
no_trues = record { constant = true; some = false; several = false }

-- one operand more
abbrev pub trues_after : Trues → Option Weighed → Trues
trues_after t Nothing = record { constant = false; some = t.some; several = t.several }
trues_after t (Some w) = record { constant = t.constant; some = t.some || flag_in w.value; several = t.several || (t.some && flag_in w.value) }

-- what is known of the `#`
abbrev pub constant_trues : Trues → Option Weighed
constant_trues t = cond t.constant (Some (record { value = Flag (not t.several); weight = 0 })) Nothing

module _ (s : Scope) (known : Identifier → Value) where
  -- all further operands
  abbrev pub trues_over : Trues → Trees → Trues
  trues_over t None = t
  trues_over t (More e es) = trues_over (trues_after t (constant_part s known e)) es
