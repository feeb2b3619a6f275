-- Expressions whose integers, and those of all their parts, an `i128` holds.
use Rattle.std.specs.Prelude.{ℕ, ◌<◌, ◌^◌, nat_abs}
use Rattle.rv_base.specs.declared.value.Value.{Value}
use Rattle.rv_meaning.specs.Meaning.{number}
use Rattle.rv_agreement.specs.Trees.{FlatTree, Node, TreeForm, FlatTrees, Constant, Flow, Memory, Ticked, Input, Not, Binary, Scale, If, AtMostOne, When}
use Rattle.rv_agreement.specs.Trees.{Current, None, More}
use Rattle.rv_agreement.specs.{Agreement.IsNamed, Evaluation.Found, Evaluation.form_value, Evaluation.integers}
use Rattle.rv_flat.specs.FlatInstants.{Row}

-- the integer of a value is above -2^127 and below 2^127
abbrev pub IsHeld : Value → Type 0
IsHeld v = nat_abs (number v) < 2 ^ 127

-- Of the expression, and of all its parts.
module _ (found : Found Value) (row : Row) where
  abbrev mutual
    pub IsTame : FlatTree → Type 0
    IsTame (Node at form) = IsHeld (form_value Value integers found row at form) × HasTame form

    pub HasTame : TreeForm → Type 0
    HasTame (Constant c) = Unit {0}
    HasTame (Flow k) = Unit {0}
    HasTame (Memory m) = Unit {0}
    HasTame (Ticked k) = Unit {0}
    HasTame (Input j) = Unit {0}
    HasTame (Not e) = IsTame e
    HasTame (Binary o a b) = IsTame a × IsTame b
    HasTame (Scale n e) = IsTame e
    HasTame (If c a b) = IsTame c × (IsTame a × IsTame b)
    HasTame (AtMostOne es) = AreTame es
    HasTame (When c e) = IsTame e
    HasTame (Current m k e) = IsTame e

    pub AreTame : FlatTrees → Type 0
    AreTame None = Unit {0}
    AreTame (More e es) = IsTame e × AreTame es

-- The expression names flows among the first alone, as many as are said; so does what `current` shows in it, and its clock.
abbrev mutual
  pub IsOver : ℕ → FlatTree → Type 0
  IsOver n (Node at form) = FormIsOver n form

  pub FormIsOver : ℕ → TreeForm → Type 0
  FormIsOver n (Constant c) = Unit {0}
  FormIsOver n (Flow k) = k < n
  FormIsOver n (Memory m) = Unit {0}
  FormIsOver n (Ticked k) = Unit {0}
  FormIsOver n (Input j) = Unit {0}
  FormIsOver n (Not e) = IsOver n e
  FormIsOver n (Binary o a b) = IsOver n a × IsOver n b
  FormIsOver n (Scale z e) = IsOver n e
  FormIsOver n (If c a b) = IsOver n c × (IsOver n a × IsOver n b)
  FormIsOver n (AtMostOne es) = AreOver n es
  FormIsOver n (When c e) = IsOver n e
  FormIsOver n (Current m k e) = IsNamed n k × IsOver n e

  pub AreOver : ℕ → FlatTrees → Type 0
  AreOver n None = Unit {0}
  AreOver n (More e es) = IsOver n e × AreOver n es
