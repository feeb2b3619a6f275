-- Operators over readings give, at a point, what operators over integers give there, where tests tell the truth.
use Rattle.std.proofs.Common.{◌≡◌, ℕ, ℤ, pos, ◌+ℤ◌, ◌-ℤ◌, ◌*ℤ◌, Bool, true, false, not, ◌&&◌, ◌||◌, cond, List, [], ◌∷◌, refl, sym, ◌∙◌, ap, arith, Option}
use Rattle.std.proofs.Common.{Some, None as Nothing}
use Rattle.std.proofs.lemmas.Int.{ints}
use Rattle.std.specs.{Prelude.int_le, Prelude.int_lt, Ordering.int_eq, List.Contains}
use Rattle.rv_base.specs.{declared.value.Value.Value, declared.value.Value.TheVariants.Flag, declared.value.Value.TheVariants.Whole}
use Rattle.rv_tree.specs.{declared.tree.Op.Op, Places.Sites}
use Rattle.rv_tree.specs.declared.tree.Op.TheVariants as op
use Rattle.rv_types.specs.{Lists.Side, Lists.AtMost, Lists.AtLeast, Lists.sides_of, declared.typed.Kind.Kind}
use Rattle.rv_meaning.specs.Meaning.{is_true, number, is_equal, operate}
use Rattle.rv_rows.specs.Forms as forms
use Rattle.rv_rows.specs.Arithmetic.{form_times}
use Rattle.rv_agreement.specs.Valuations.{Reading, Truth, Name, Linear, at_point, holds_true, form_of, is_same, operated, constant_reading, is_of_integers}
use Rattle.rv_agreement.specs.Evaluation.{is_on, integers}
use Rattle.rv_agreement.specs.{Valuations.readings, Agreement.IsRule, Agreement.value_there}
use Rattle.rv_agreement.proofs.LinearLemmas.{told, difference_value}
use Rattle.rv_types.proofs.Members.{at_head}
use Rattle.rv_rows.proofs.FormValues.{constant_value, sum_value, times_value}

pub second_in : {X : Type 0} (x y : X) (xs : List X) → Contains (x ∷ y ∷ xs) y
second_in x y xs = (1, omega arith, refl)

int_equal : (a b : ℤ) → int_eq a b ≡ (int_le a b && int_le b a)
int_equal a b = grind (arith, ints)

int_less : (a b : ℤ) → int_lt a b ≡ not (int_le b a)
int_less a b = grind (arith, ints)

pub truth_at : (x : List ℤ) (a : Reading) → is_true (at_point x a) ≡ holds_true a
truth_at x (Truth b) = refl
truth_at x (Name l) = refl
truth_at x (Linear f) = refl

-- whether a flow is there and true
pub on_at : (x : List ℤ) (n : ℕ) (test : Sites → Side → Bool) (o : Option Reading) → is_on Value integers (value_there x o) ≡ is_on Reading (readings n test) o
on_at x n test Nothing = refl
on_at x n test (Some a) = truth_at x a

module _ (x : List ℤ) where
  pub constant_at : (n : ℕ) (test : Sites → Side → Bool) (c : Value) → c ≡ at_point x (constant_reading n test c)
  constant_at n test (Whole z) = ap Whole (sym (constant_value x n z))
  constant_at n test _ = refl

  module _ (n : ℕ) (test : Sites → Side → Bool) where
    pub number_at : (a : Reading) → number (at_point x a) ≡ forms.value (form_of n test a) x
    number_at (Linear f) = refl
    number_at _ = sym (constant_value x n (pos 0))

    pub scaled_at : (z : ℤ) (a : Reading) → Whole (z *ℤ number (at_point x a)) ≡ at_point x (Linear (form_times z (form_of n test a)))
    scaled_at z a = ap Whole (ap (λ m. z *ℤ m) (number_at a) ∙ sym (times_value x z (form_of n test a)))

    -- the tests of a comparison between these two tell the truth
    abbrev pub IsTold : Sites → Op → Reading → Reading → Type 0
    IsTold at o a b = is_of_integers o a b ≡ true → (side : Side) → Contains (sides_of o) side
        → test at side ≡ told side (number (at_point x a)) (number (at_point x b))

    same_at : (at : Sites) (a b : Reading) → IsTold at op.Equal a b → is_equal (at_point x a) (at_point x b) ≡ is_same n test at a b
    same_at at (Linear a) (Linear b) tell =
        int_equal (forms.value a x) (forms.value b x)
        ∙ (λ i. sym (tell refl AtMost (at_head AtMost (AtLeast ∷ []))) i && sym (tell refl AtLeast (second_in AtMost AtLeast [])) i)
    same_at at (Linear a) _ tell = refl
    same_at at (Truth a) (Truth b) tell = refl
    same_at at (Truth a) _ tell = refl
    same_at at (Name a) (Name b) tell = refl
    same_at at (Name a) _ tell = refl

    pub operated_at : (at : Sites) (o : Op) (i j : Kind) (a b : Reading) → IsRule o i j → IsTold at o a b
        → operate o false (at_point x a) (at_point x b) ≡ at_point x (operated n test at o a b)
    operated_at at op.Implies i j a b rule tell = λ t. Flag (not (truth_at x a t) || truth_at x b t)
    operated_at at op.Or i j a b rule tell = λ t. Flag (truth_at x a t || truth_at x b t)
    operated_at at op.Xor i j a b rule tell = λ t. Flag (cond (truth_at x a t) (not (truth_at x b t)) (truth_at x b t))
    operated_at at op.And i j a b rule tell = λ t. Flag (truth_at x a t && truth_at x b t)
    operated_at at op.Equal i j a b rule tell = ap Flag (same_at at a b tell)
    operated_at at op.Differs i j a b rule tell = ap (λ t. Flag (not t)) (same_at at a b tell)
    operated_at at op.Less i j a b rule tell =
        ap Flag (int_less (number (at_point x a)) (number (at_point x b)) ∙ ap not (sym (tell refl AtLeast (at_head AtLeast []))))
    operated_at at op.AtMost i j a b rule tell = ap Flag (sym (tell refl AtMost (at_head AtMost [])))
    operated_at at op.Greater i j a b rule tell =
        ap Flag (int_less (number (at_point x b)) (number (at_point x a)) ∙ ap not (sym (tell refl AtMost (at_head AtMost []))))
    operated_at at op.AtLeast i j a b rule tell = ap Flag (sym (tell refl AtLeast (at_head AtLeast [])))
    operated_at at op.Plus i j a b rule tell = ap Whole ((λ t. number_at a t +ℤ number_at b t) ∙ sym (sum_value x (form_of n test a) (form_of n test b)))
    operated_at at op.Minus i j a b rule tell =
        ap Whole ((λ t. number_at a t -ℤ number_at b t) ∙ sym (difference_value x (form_of n test a) (form_of n test b)))
    operated_at at _ i j a b rule tell = absurd rule
