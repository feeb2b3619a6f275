-- Whole numbers and their texts; values and theirs.
use Rattle.std.proofs.Common.{◌≡◌, ◌-◌, ◌≤◌, ℕ, zero, suc, Bool, true, false, List, [], ◌∷◌, length, get_or, take, drop, refl, sym, ap, ◌∙◌, subst, arith}
use Rattle.std.proofs.{lemmas.Int.ints, lemmas.Fmt.decimal_digit, lemmas.Bool.false_from_ne_true}
use Rattle.std.specs.Prelude.{pos, negsuc, neg_ℤ, int_le, decimal, None, slice_get, option_map}
use Rattle.std.specs.{Str.bytes_eq, Fmt.signed_decimal}
use Rattle.rv_base.specs.declared.value.Value.TheVariants.{Label}
use Rattle.rv_invfile.specs.Texts.{natural, is_natural, is_whole, least, greatest, Labels, label_from}
use Rattle.rv_invfile.proofs.Decimals.{bytes-same, within, parts}

head-of : (x y : ℕ) (xs ys : List ℕ) → x ∷ xs ≡ y ∷ ys → x ≡ y
head-of x y xs ys e = cc

tail-of : (x y : ℕ) (xs ys : List ℕ) → x ∷ xs ≡ y ∷ ys → xs ≡ ys
tail-of x y xs ys e = cc

unequal : {X : Type 0} → ◌≡◌ {A = ℕ} 45 48 → X
unequal e = absurd (omega (arith, e))

low-is : (m : ℕ) → int_le least (negsuc m) ≡ true → m ≤ 9223372036854775807
low-is m h = grind (arith, ints)

-- a minus and digits, by the number of the digits
minus : (n : ℕ) (bs : List ℕ) → natural bs ≡ n → bytes_eq (45 ∷ bs) (signed_decimal (neg_ℤ (pos n))) ≡ true → int_le least (neg_ℤ (pos n)) ≡ true
    → is_natural 1 9223372036854775808 bs ≡ true
minus zero bs is same low =
    let e = bytes-same (45 ∷ bs) (decimal 0) same ∙ decimal_digit 0 (omega arith) in
    unequal (head-of 45 48 bs [] e)
minus (suc m) bs is same low =
    let e = tail-of 45 45 bs (decimal (suc m)) (bytes-same (45 ∷ bs) (45 ∷ decimal (suc m)) same) in
    let k = low-is m low in
    within 1 9223372036854775808 (suc m) bs (omega arith) e (omega arith) (omega arith)

minus-none : (bs : List ℕ) → is_natural 1 9223372036854775808 bs ≡ false → is_whole least greatest (45 ∷ bs) ≡ false
minus-none bs h =
    false_from_ne_true (is_whole least greatest (45 ∷ bs)) (λ e.
    let p = parts (bytes_eq (45 ∷ bs) (signed_decimal (neg_ℤ (pos (natural bs))))) (int_le least (neg_ℤ (pos (natural bs))))
    (int_le (neg_ℤ (pos (natural bs))) greatest) e in
    clash (is_natural 1 9223372036854775808 bs) h (minus (natural bs) bs refl p.0 p.1))
  where
    clash : (b : Bool) → b ≡ false → b ≡ true → ⊥
    clash true e f = cc
    clash false e f = cc

pub negative-none : (text ds : List ℕ) → get_or text 0 0 ≡ 45 → ds ≡ take (length text - 1) (drop 1 text) → is_natural 1 9223372036854775808 ds ≡ false
    → is_whole least greatest text ≡ false
negative-none [] ds h e n = absurd (omega arith)
negative-none (b ∷ bs) ds h e n =
    let same : ds ≡ bs = e ∙ ap (λ k. take k bs) (omega arith) ∙ whole-take bs in
    subst (λ x. is_whole least greatest (x ∷ bs) ≡ false) (sym h) (minus-none bs (subst (λ t. is_natural 1 9223372036854775808 t ≡ false) same n))
  where
    whole-take : (xs : List ℕ) → take (length xs) xs ≡ xs
    whole-take [] = refl
    whole-take (x ∷ xs) = ap (λ l. x ∷ l) (whole-take xs)

-- a type that is not there has no labels
pub no-labels : (labels : Labels) (e : ℕ) (text : List ℕ) → slice_get labels e ≡ None → option_map Label (label_from 0 (get_or labels e []) text) ≡ None
no-labels [] e text h = refl
no-labels (l ∷ ls) zero text h = cc
no-labels (l ∷ ls) (suc e) text h = no-labels ls e text h
