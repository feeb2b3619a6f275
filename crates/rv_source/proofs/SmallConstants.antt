-- A constant expression counts as no more than its weight, and as no more than 2^40 + 1 where constants do.
use Rattle.std.proofs.Common.{ℕ, ◌≤◌, min, max, Bool, true, false, cond, List, [], ◌∷◌, reverse, pos, neg_ℤ, nat_abs, Option, Some, arith, None as Nothing}
use Rattle.std.proofs.{lemmas.List.Elements.All-nil, lemmas.List.Elements.All-push, lemmas.Int.ints}
use Rattle.std.specs.List.{All}
use Rattle.rv_base.specs.{declared.value.Value.Value, declared.value.Value.TheVariants.Flag, declared.value.Value.TheVariants.Whole, Limits.too_heavy}
use Rattle.rv_base.specs.declared.value.Value.TheVariants as value
use Rattle.rv_tree.specs.Tree.{Tree, Form, Node, Number, Named, Minus, Binary, If, ConstantTree, ProgramTree}
use Rattle.rv_tree.specs.{Places.Identifier, Places.is_same}
use Rattle.rv_tree.specs.declared.tree.Op.TheVariants as op
use Rattle.rv_types.specs.Constants.{flag_in, whole_in, counted_part, value_of, form_value, weight_of, form_weight}
use Rattle.rv_types.specs.{Kinds.LabelPlace, Kinds.label_of, Scopes.constant_value_after, Scopes.constant_values_of, Scopes.constant_values}
use Rattle.rv_types.proofs.{ConstantValues.capped_less, ConstantValues.negated_small, Weights.counted_small, Weights.under_small}

-- the magnitude of a value's integer
abbrev pub size : Value → ℕ
size v = nat_abs (whole_in v)

part_small : (m : ℕ) (v : Value) → size v ≤ m → size (counted_part m v) ≤ min m too_heavy
part_small m (Whole z) h = counted_small m z h
part_small m _ h = omega arith

chosen_small : (b : Bool) (v w : Value) (m n : ℕ) → size v ≤ m → size w ≤ n → size (cond b v w) ≤ max m n
chosen_small true v w m n g h = omega (arith, g)
chosen_small false v w m n g h = omega (arith, h)

module _ (known : Identifier → Value) (small : (x : Identifier) → size (known x) ≤ too_heavy) where
  mutual
    value_small : (e : Tree) → size (value_of known e) ≤ min (weight_of known e) too_heavy
    value_small (Node at site form) = form_small form

    form_small : (form : Form) → size (form_value known form) ≤ min (form_weight known form) too_heavy
    form_small (Number n) = counted_small n (pos n) (omega (arith, ints))
    form_small (Named x) = omega (arith, small x)
    form_small (Minus e) =
        counted_small (weight_of known e) (neg_ℤ (whole_in (value_of known e)))
        (negated_small (weight_of known e) (whole_in (value_of known e)) (capped_less (size (value_of known e)) (weight_of known e) (value_small e)))
    form_small (Binary o a b) =
        under_small o (value_of known a) (value_of known b) (weight_of known a) (weight_of known b)
        (capped_less (size (value_of known a)) (weight_of known a) (value_small a)) (capped_less (size (value_of known b)) (weight_of known b) (value_small b))
    form_small (If i a b) =
        part_small (max (weight_of known a) (weight_of known b)) (cond (flag_in (value_of known i)) (value_of known a) (value_of known b))
        (chosen_small (flag_in (value_of known i)) (value_of known a) (value_of known b) (weight_of known a) (weight_of known b)
        (capped_less (size (value_of known a)) (weight_of known a) (value_small a)) (capped_less (size (value_of known b)) (weight_of known b) (value_small b)))
    form_small _ = omega arith

module _ (p : ProgramTree) where
  label_small : (o : Option LabelPlace) → size (elim o as (λ _. Value) [ Nothing ↦ Flag false | Some l ↦ value.Label l.number ]) ≤ too_heavy
  label_small Nothing = omega arith
  label_small (Some l) = omega arith

  after_small : (before : List ConstantTree) (x : Identifier) → size (constant_value_after p before x) ≤ too_heavy
  after_small [] x = label_small (label_of p x)
  after_small (c ∷ before) x = tested (is_same c.name.text x) (after_small before)
    where
      tested : (b : Bool) → ((y : Identifier) → size (constant_value_after p before y) ≤ too_heavy)
          → size (cond b (value_of (constant_value_after p before) c.body) (constant_value_after p before x)) ≤ too_heavy
      tested true small = omega (arith, value_small (constant_value_after p before) small c.body)
      tested false small = small x

  listed_small : (cs : List ConstantTree) → All (λ v. size v ≤ too_heavy) (constant_values_of p cs)
  listed_small [] = All-nil (λ v. size v ≤ too_heavy)
  listed_small (c ∷ before) =
      All-push (λ v. size v ≤ too_heavy) (constant_values_of p before) (value_of (constant_value_after p before) c.body) (listed_small before)
      (omega (arith, value_small (constant_value_after p before) (after_small before) c.body))

  pub constants_small : All (λ v. size v ≤ too_heavy) (constant_values p)
  constants_small = listed_small (reverse p.constants)
