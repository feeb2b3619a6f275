-- What is known of constant expressions.
use Rattle.std.proofs.Common.{◌≡◌, ℕ, ◌≤◌, min, max, Bool, true, false, not, ◌&&◌, ◌||◌, cond, List, [], ◌∷◌, reverse, ℤ, pos, neg_ℤ, nat_abs, Option, Some}
use Rattle.std.proofs.Common.{refl, sym, ap, ◌∙◌, arith, None as Nothing}
use Rattle.std.proofs.{lemmas.Int.ints, lemmas.Option.cond_some}
use Rattle.std.specs.Option.{option_map}
use Rattle.rv_base.specs.{declared.value.Value.Value, declared.value.Value.TheVariants.Flag, declared.value.Value.TheVariants.Whole, Limits.too_heavy}
use Rattle.rv_base.specs.declared.value.Value.TheVariants as value
use Rattle.rv_tree.specs.Tree.{Tree, Form, Trees, Node, Number, Named, Minus, Binary, If, AtMostOne, None, More, ConstantTree, ProgramTree}
use Rattle.rv_tree.specs.{declared.tree.Op.Op, Places.Identifier, Places.is_same}
use Rattle.rv_tree.specs.declared.tree.Op.TheVariants as op
use Rattle.rv_types.specs.Types.{Scope, is_constant, is_constant_form, are_constant}
use Rattle.rv_types.specs.Constants.{flag_in, whole_in, counted_part, value_of, form_value, weight_of, form_weight, flags_of_all}
use Rattle.rv_types.specs.ConstantParts.{constant_form, constant_part, trues_after, trues_over}
use Rattle.rv_types.specs.{declared.weighing.Weighed.Weighed, declared.reading_values.Trues.Trues, Kinds.LabelPlace, Kinds.label_of, Scopes.constant_value}
use Rattle.rv_types.specs.{Scopes.constant_value_after, ValueTables.AreSmall, ValueTables.at_most_after}
use Rattle.rv_types.proofs.{Weights.counted_small, Weights.under_small, WideParts.seen_more}

-- Values are small.

part_small : (m : ℕ) (v : Value) → nat_abs (whole_in v) ≤ m → nat_abs (whole_in (counted_part m v)) ≤ min m too_heavy
part_small m (Whole z) h = counted_small m z h
part_small m _ h = omega arith

pub negated_small : (m : ℕ) (z : ℤ) → nat_abs z ≤ m → nat_abs (neg_ℤ z) ≤ m
negated_small m z h = omega (arith, ints)

pub chosen_small : (b : Bool) (v w : Value) (m n : ℕ) → nat_abs (whole_in v) ≤ m → nat_abs (whole_in w) ≤ n → nat_abs (whole_in (cond b v w)) ≤ max m n
chosen_small true v w m n g h = omega (arith, g)
chosen_small false v w m n g h = omega (arith, h)

pub capped_less : (k m : ℕ) → k ≤ min m too_heavy → k ≤ m
capped_less k m h = omega (arith, h)

module _ (known : Identifier → Value) (small : AreSmall known) where
  mutual
    pub value_small : (e : Tree) → nat_abs (whole_in (value_of known e)) ≤ min (weight_of known e) too_heavy
    value_small (Node at site form) = form_small form

    form_small : (form : Form) → nat_abs (whole_in (form_value known form)) ≤ min (form_weight known form) too_heavy
    form_small (Number n) = counted_small n (pos n) (omega (arith, ints))
    form_small (Named x) = let h = small x in omega (arith, h)
    form_small (Minus e) = counted_small (weight_of known e) (neg_ℤ (whole_in (value_of known e)))
        (negated_small _ (whole_in (value_of known e)) (capped_less _ (weight_of known e) (value_small e)))
    form_small (Binary o a b) =
        under_small o (value_of known a) (value_of known b) _ _
        (capped_less _ (weight_of known a) (value_small a)) (capped_less _ (weight_of known b) (value_small b))
    form_small (If i a b) =
        part_small (max (weight_of known a) (weight_of known b)) (cond (flag_in (value_of known i)) (value_of known a) (value_of known b))
        (chosen_small (flag_in (value_of known i)) (value_of known a) (value_of known b) _ _
        (capped_less _ (weight_of known a) (value_small a)) (capped_less _ (weight_of known b) (value_small b)))
    form_small _ = omega arith

label_small : (o : Option LabelPlace) → nat_abs (whole_in (elim o as (λ _. Value) [ Nothing ↦ Flag false | Some l ↦ value.Label l.number ])) ≤ too_heavy
label_small Nothing = omega arith
label_small (Some l) = omega arith

pub small_after : (p : ProgramTree) (before : List ConstantTree) → AreSmall (constant_value_after p before)
small_after p [] x = label_small (label_of p x)
small_after p (c ∷ before) x = elim (is_same c.name.text x) as
    (λ b. nat_abs (whole_in (cond b (value_of (constant_value_after p before) c.body) (constant_value_after p before x))) ≤ too_heavy) [
      | true ↦ (let h = value_small (constant_value_after p before) (small_after p before) c.body in omega (arith, h))
      | false ↦ small_after p before x
    ]

-- the values of a program are
pub constants_small : (p : ProgramTree) → AreSmall (constant_value p)
constants_small p = small_after p (reverse p.constants)

-- Constant operators.

pub not_arrow : (s : Scope) (o : Op) (a b : Tree) → (o ≡ op.Arrow → ⊥) → is_constant_form s (Binary o a b) ≡ (is_constant s a && is_constant s b)
not_arrow s op.Arrow a b h = absurd (h refl)
not_arrow s _ a b h = refl

-- what is known of an expression is its value and its weight
pub record IsConstantPart (s : Scope) (known : Identifier → Value) (e : Tree) (w : Weighed) : Type 0 where
  pub constant : is_constant s e ≡ true
  pub value : w.value ≡ value_of known e
  pub weight : w.weight ≡ min (weight_of known e) too_heavy

pub is_part : (s : Scope) (known : Identifier → Value) (e : Tree) (w : Weighed) → Some w ≡ constant_part s known e → IsConstantPart s known e w
is_part s known (Node at site form) w e =
    let v = cond_some _ _ _ (sym e) in
    record { constant = v.0; value = sym (ap (λ (w : Weighed). w.value) v.1); weight = sym (ap (λ (w : Weighed). w.weight) v.1) }

pub makes_form : (s : Scope) (known : Identifier → Value) (form : Form) (w : Weighed) → is_constant_form s form ≡ true → w.value ≡ form_value known form
    → w.weight ≡ min (form_weight known form) too_heavy → Some w ≡ constant_form s known form
makes_form s known form w c v m =
    (λ i. Some (record { value = v i; weight = m i })) ∙ ap (λ b. cond b
    (Some (record { value = form_value known form; weight = min (form_weight known form) too_heavy })) Nothing) (sym c)

-- The operands of a `#`.

module _ (s : Scope) (known : Identifier → Value) where
  abbrev told : Trues → Option Bool
  told t = cond t.constant (Some (not t.several)) Nothing

  trues_law : (t : Trues) (es : Trees) → told (trues_over s known t es) ≡ cond (t.constant && are_constant s es)
      (Some (not t.several && at_most_after t.some (flags_of_all known es))) Nothing
  trues_law t None = base t.constant t.some t.several
    where
      base : (c some several : Bool) → cond c (Some (not several)) Nothing ≡ cond (c && true) (Some (not several && at_most_after some [])) Nothing
      base true some true = refl
      base true true false = refl
      base true false false = refl
      base false some several = refl
  trues_law t (More (Node at site form) es) = step (is_constant_form s form) (λ t. trues_law t es)
    where
      never : (c : Bool) (b : Bool) → Nothing ≡ cond (c && false) (Some b) Nothing
      never true b = refl
      never false b = refl

      step : (b : Bool) → ((t : Trues) → told (trues_over s known t es) ≡ cond (t.constant && are_constant s es)
          (Some (not t.several && at_most_after t.some (flags_of_all known es))) Nothing)
          → told (trues_over s known (trues_after t (cond b (Some (record { value = form_value known form; weight = min (form_weight known form) too_heavy }))
          Nothing)) es)
          ≡ cond (t.constant && (b && are_constant s es)) (Some (not t.several && at_most_after t.some
          (flag_in (form_value known form) ∷ flags_of_all known es))) Nothing
      step true again =
          let f = flag_in (form_value known form) in
          again (record { constant = t.constant; some = t.some || f; several = t.several || (t.some && f) })
          ∙ ap (λ b. cond (t.constant && are_constant s es) (Some b) Nothing) (seen_more t.some t.several f (flags_of_all known es))
      step false again =
          again (record { constant = false; some = t.some; several = t.several })
          ∙ never t.constant (not t.several && at_most_after t.some (flag_in (form_value known form) ∷ flags_of_all known es))

  abbrev flagged : Bool → Weighed
  flagged b = record { value = Flag b; weight = 0 }

  made : (c b : Bool) → option_map flagged (cond c (Some b) Nothing) ≡ cond c (Some (flagged b)) Nothing
  made true b = refl
  made false b = refl

  pub at_most_form : (t : Trues) (es : Trees) → t ≡ trues_over s known (record { constant = true; some = false; several = false }) es
      → cond t.constant (Some (record { value = Flag (not t.several); weight = 0 })) Nothing ≡ constant_form s known (AtMostOne es)
  at_most_form t es is =
      sym (made t.constant (not t.several))
      ∙ ap (option_map flagged) (ap told is ∙ trues_law (record { constant = true; some = false; several = false }) es)
      ∙ made (are_constant s es) (at_most_after false (flags_of_all known es))
