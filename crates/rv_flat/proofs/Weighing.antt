-- No integer of a flat expression is larger than its weight times 2^63, so an `i128` holds each.
use Rattle.std.proofs.Common.{◌≡◌, ℕ, ◌+◌, ◌*◌, ◌^◌, ◌<◌, ◌≤◌, max, Bool, true, false, ◌&&◌, cond, ℤ, ◌+ℤ◌, ◌-ℤ◌, ◌*ℤ◌, nat_abs, List, get_or, arith, Option}
use Rattle.std.proofs.{Math.Nat.mul-le-mul_left, Math.Nat.mul_assoc, lemmas.Bool.ltb-true, lemmas.Bool.Decides.nat_tests, lemmas.Int.unsigned_abs-mul}
use Rattle.std.proofs.{lemmas.Int.ints}
use Rattle.std.specs.Prelude.{nat_lt, nat_le, slice_get}
use Rattle.rv_base.specs.declared.value.Value.TheVariants.{Whole}
use Rattle.rv_base.specs.{declared.value.Value.Value, Limits.heaviest}
use Rattle.rv_tree.specs.{declared.tree.Op.Op, Places.Sites}
use Rattle.rv_tree.specs.declared.tree.Op.TheVariants as op
use Rattle.rv_types.specs.{declared.typed.Kind.Kind, Types.same_kind}
use Rattle.rv_types.specs.declared.typed.Kind.TheVariants as kind
use Rattle.rv_meaning.specs.Meaning.{is_true, number, operate}
use Rattle.rv_agreement.specs.Checks.{same_clock, is_of, gives, fits, form_fits, all_fit}
use Rattle.rv_agreement.specs.Evaluation.{Found, value, form_value, integers}
use Rattle.rv_agreement.specs.Trees.{FlatTree, Node, TreeForm, FlatTrees, Constant, Flow, Memory, Input, Not, Binary, Scale, If, AtMostOne, When, Current, None}
use Rattle.rv_agreement.specs.Trees.{More, System, nth_item}
use Rattle.rv_flat.specs.Facts.{constant_weight, weight_under, flat_weight, form_flat_weight, is_light, form_is_light, all_light}
use Rattle.rv_flat.specs.{FlatInstants.Row, FlatInstants.nth, FlatInstants.held, FlatInstants.is_on_at, Tame.IsHeld, Tame.IsTame, Tame.HasTame, Tame.AreTame}
use Rattle.rv_flat.proofs.Tested.{current_fits, if_fits, operator_fits, when_fits}
use Rattle.rv_base.proofs.Truths.{and_first, and_second, both_of}

-- how far from 0 the integer of a value is
abbrev pub size : Value → ℕ
size v = nat_abs (number v)

sum_small : (y z : ℤ) (v w : ℕ) → nat_abs y ≤ v * 2 ^ 63 → nat_abs z ≤ w * 2 ^ 63 → nat_abs (y +ℤ z) ≤ (v + w) * 2 ^ 63
sum_small y z v w g h = omega (arith, ints)

difference_small : (y z : ℤ) (v w : ℕ) → nat_abs y ≤ v * 2 ^ 63 → nat_abs z ≤ w * 2 ^ 63 → nat_abs (y -ℤ z) ≤ (v + w) * 2 ^ 63
difference_small y z v w g h = omega (arith, ints)

product_small : (y z : ℤ) (w : ℕ) → nat_abs z ≤ w * 2 ^ 63 → nat_abs (y *ℤ z) ≤ nat_abs y * w * 2 ^ 63
product_small y z w h = rw (unsigned_abs-mul y z, mul_assoc (nat_abs y) w (2 ^ 63)) (mul-le-mul_left (nat_abs y) h)

-- an operator gives no more than its operands allow
operated_small : (o : Op) (k : Kind) (x y : Value) (v w : ℕ) → gives o k ≡ true → size x ≤ v * 2 ^ 63 → size y ≤ w * 2 ^ 63
    → size (operate o false x y) ≤ weight_under o v w * 2 ^ 63
operated_small op.Plus k x y v w e g h = sum_small (number x) (number y) v w g h
operated_small op.Minus k x y v w e g h = difference_small (number x) (number y) v w g h
operated_small _ k x y v w e g h = first_of (omega arith, cc)

constant_small : (v : Value) → size v ≤ constant_weight v * 2 ^ 63
constant_small (Whole z) = omega arith
constant_small _ = omega arith

chosen_small : (c : Bool) (x y : Value) (v w : ℕ) → size x ≤ v * 2 ^ 63 → size y ≤ w * 2 ^ 63 → size (cond c x y) ≤ max v w * 2 ^ 63
chosen_small true x y v w g h = omega arith
chosen_small false x y v w g h = omega arith

pub held_small : (v : Value) (w : ℕ) → size v ≤ w * 2 ^ 63 → nat_le w heaviest ≡ true → size v < 2 ^ 127
held_small v w small light = let le : w ≤ heaviest = grind (arith, nat_tests) in omega (arith, small)

-- where the flows have these weights, and the first of them, as many as are said, keep to them
module _ (s : System) (ws : List ℕ) (found : Found Value) (row : Row) (n : ℕ)
    (kept_small : (m : ℕ) → size (found.kept m) ≤ 2 ^ 63) (inputs_small : (j : ℕ) → size (found.given j) ≤ 2 ^ 63)
    (row_small : (k : ℕ) → k < n → size (held (nth row k)) ≤ get_or ws k 0 * 2 ^ 63) where
  abbrev worth : FlatTree → Value
  worth e = value Value integers found row e

  -- a value is within its weight, and the expression is tame
  mutual
    pub weighed : (k : Option ℕ) (j : Kind) (e : FlatTree) → fits s n k j e ≡ true → is_light ws e ≡ true
        → (size (value Value integers found row e) ≤ flat_weight ws e * 2 ^ 63) × IsTame found row e
    weighed k j (Node at form) fit light =
        let parts = both_of (nat_le (form_flat_weight ws form) heaviest) (form_is_light ws form) light in
        let inner = form_weighed k j at form fit parts.1 in
        (inner.0, (held_small (form_value Value integers found row at form) (form_flat_weight ws form) inner.0 parts.0, inner.1))

    form_weighed : (k : Option ℕ) (j : Kind) (at : Sites) (form : TreeForm) → form_fits s n k j at form ≡ true → form_is_light ws form ≡ true
        → (size (form_value Value integers found row at form) ≤ form_flat_weight ws form * 2 ^ 63) × HasTame found row form
    form_weighed k j at (Constant c) fit light = (constant_small c, tt)
    form_weighed k j at (Flow c) fit light =
        (row_small c (ltb-true c n (and_first (nat_lt c n) (is_of j (slice_get s.kinds c) && same_clock k (nth_item s.flows c).clock) fit)), tt)
    form_weighed k j at (Memory m) fit light = (omega (arith, kept_small m), tt)
    form_weighed k j at (Input i) fit light = (omega (arith, inputs_small i), tt)
    form_weighed k j at (Not e) fit light = (omega arith, (weighed k kind.Bool e (and_second (same_kind j kind.Bool) (fits s n k kind.Bool e) fit) light).1)
    form_weighed k j at (Binary o a b) fit light =
        let told = operator_fits s n k j at o a b fit in
        let light_both = both_of (is_light ws a) (is_light ws b) light in
        let left = weighed k told.1.0 a told.1.1 light_both.0 in
        let right = weighed k told.1.0 b told.1.2 light_both.1 in
        (operated_small o j (worth a) (worth b) (flat_weight ws a) (flat_weight ws b) told.0 left.0 right.0, (left.1, right.1))
    form_weighed k j at (Scale z e) fit light =
        let inner = weighed k kind.Int e (and_second (same_kind j kind.Int) (fits s n k kind.Int e) fit)
        (and_second (nat_le (nat_abs z) heaviest) (is_light ws e) light) in
        (product_small z (number (worth e)) (flat_weight ws e) inner.0, inner.1)
    form_weighed k j at (If c a b) fit light =
        let parts = if_fits s n k j at c a b fit in
        let light_outer = both_of (is_light ws c) (is_light ws a && is_light ws b) light in
        let light_parts = both_of (is_light ws a) (is_light ws b) light_outer.1 in
        let first = weighed k j a parts.1 light_parts.0 in
        let second = weighed k j b parts.2 light_parts.1 in (
          chosen_small (is_true (worth c)) (worth a) (worth b) (flat_weight ws a) (flat_weight ws b) first.0 second.0,
          ((weighed k kind.Bool c parts.0 light_outer.0).1, (first.1, second.1)),
        )
    form_weighed k j at (AtMostOne es) fit light = (omega arith, all_tame k es (and_second (same_kind j kind.Bool) (all_fit s n k es) fit) light)
    form_weighed k j at (When c e) fit light = weighed (nth_item s.flows c).clock j e (when_fits s n k j at c e fit) light
    form_weighed k j at (Current m i e) fit light =
        let inner = weighed i j e (current_fits s n k j at m i e fit).1 light in
        (chosen_small (is_on_at row i) (worth e) (found.kept m) (flat_weight ws e) 1 inner.0 (omega (arith, kept_small m)), inner.1)
    form_weighed k j at _ fit light = (omega arith, tt)

    all_tame : (k : Option ℕ) (es : FlatTrees) → all_fit s n k es ≡ true → all_light ws es ≡ true → AreTame found row es
    all_tame k None fit light = tt
    all_tame k (More e es) fit light =
        let parts = both_of (fits s n k kind.Bool e) (all_fit s n k es) fit in
        let light_parts = both_of (is_light ws e) (all_light ws es) light in
        ((weighed k kind.Bool e parts.0 light_parts.0).1, all_tame k es parts.1 light_parts.1)

-- the integer of what is tame is held
pub tame_held : (found : Found Value) (row : Row) (e : FlatTree) → IsTame found row e → IsHeld (value Value integers found row e)
tame_held found row (Node at form) is = is.0
