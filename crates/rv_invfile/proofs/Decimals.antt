-- Numbers and their texts.
use Rattle.std.proofs.Common.{◌≡◌, ◌<◌, ◌≤◌, ◌^◌, ℕ, zero, suc, Bool, true, false, List, [], ◌∷◌, length, get_or, refl, sym, ap, ◌∙◌, subst, arith, inl, inr}
use Rattle.std.proofs.lemmas.Str.Parse.{IsNumeralModel, numerals_by_value, tells_digits, without_leading_plus_none, digit_at}
use Rattle.std.proofs.{lemmas.Bool.leb-true, lemmas.Bool.le-leb, lemmas.Bool.lt-leb, lemmas.Bool.false_from_ne_true, lemmas.Fmt.decimal-digits_value}
use Rattle.std.proofs.{lemmas.Fmt.decimal_is_IsNumeral, lemmas.Fmt.first_decimal, lemmas.Fmt.decimal_digit, lemmas.Slice.Eq.bytes_eq-Decides}
use Rattle.std.specs.Prelude.{◌&&◌, ◌⊎◌, ◌↔◌, Option, Some, None, MatchOption, decimal, nat_le}
use Rattle.std.specs.{Str.bytes_eq, Str.Parse.IsNumeral, Str.Parse.AllDigits, Str.Parse.digits_value, Str.Parse.without_leading_plus}
use Rattle.rv_invfile.specs.Texts.{natural, is_natural}
use Rattle.rv_base.proofs.Truths.{and_false}

own : IsNumeralModel (AllDigits 10) (digits_value 10)
own = numerals_by_value (AllDigits 10) tells_digits

-- a decimal number begins with no plus, and with a zero only where it is that
pub no-plus : (n : ℕ) → n < 2 ^ 64 → get_or (decimal n) 0 0 ≡ 43 → ⊥
no-plus n h e = let k = (decimal_is_IsNumeral n h).0 in omega (arith, digit_at (decimal n) 0 k.1 k.0)

pub no-zero : (n : ℕ) → n < 2 ^ 64 → get_or (decimal n) 0 0 ≡ 48 → 1 < length (decimal n) → ⊥
no-zero zero h e l = let z = ap length (decimal_digit 0 (omega arith)) in omega (arith, z)
no-zero (suc n) h e l = omega (arith, first_decimal (suc n) (omega arith) h)

pub padded : (text : List ℕ) → ((get_or text 0 0 ≡ 43) ⊎ ((get_or text 0 0 ≡ 48) × (1 < length text))) → (n : ℕ) → n < 2 ^ 64 → text ≡ decimal n → ⊥
padded text (inl e) n h is = no-plus n h (subst (λ t. get_or t 0 0 ≡ 43) is e)
padded text (inr e) n h is = no-zero n h (subst (λ t. get_or t 0 0 ≡ 48) is e.0) (subst (λ t. 1 < length t) is e.1)

-- digits that are not padded are the decimal of their number
pub unpadded : (text : List ℕ) (n : ℕ) → (((get_or text 0 0 ≡ 43) ⊎ ((get_or text 0 0 ≡ 48) × (1 < length text))) → ⊥)
    → IsNumeral 10 (without_leading_plus text) → digits_value 10 (without_leading_plus text) < 2 ^ 64 → n ≡ digits_value 10 (without_leading_plus text)
    → text ≡ decimal n
unpadded text n unlike num small is =
    let plain : without_leading_plus text ≡ text = without_leading_plus_none text (λ e. unlike (inl e)) in
    let num2 = subst (IsNumeral 10) plain num in
    let small2 = subst (λ t. digits_value 10 t < 2 ^ 64) plain small in
    sym (ap decimal (is ∙ ap (digits_value 10) plain) ∙ decimal-digits_value own text num2.1 num2.0 (λ e. single text num2.0 (λ l. unlike (inr (e, l)))) small2)
  where
    single : (text : List ℕ) → 0 < length text → (1 < length text → ⊥) → length text ≡ 1
    single [] a one = elim a [ ]
    single (x ∷ []) a one = refl
    single (x ∷ y ∷ ys) a one = absurd (one (omega arith))

pub natural-is : (text : List ℕ) (n : ℕ) → n < 2 ^ 64 → text ≡ decimal n → natural text ≡ n
natural-is text n h e = ap (digits_value 10) e ∙ (decimal_is_IsNumeral n h).1

pub same-bytes : (x y : List ℕ) → x ≡ y → bytes_eq x y ≡ true
same-bytes x y h = (bytes_eq-Decides x y).1 h

pub bytes-same : (x y : List ℕ) → bytes_eq x y ≡ true → x ≡ y
bytes-same x y h = (bytes_eq-Decides x y).0 h

-- a text that writes a number is of the range where the number is
pub in-range : (low high n : ℕ) (text : List ℕ) → n < 2 ^ 64 → text ≡ decimal n → is_natural low high text ≡ (nat_le low n && nat_le n high)
in-range low high n text h e =
    let is = natural-is text n h e in
    ap (λ b. b && nat_le low (natural text) && nat_le (natural text) high) (same-bytes text (decimal (natural text)) (e ∙ ap decimal (sym is)))
    ∙ ap (λ m. true && nat_le low m && nat_le m high) is

pub parts : (a b c : Bool) → (a && b && c) ≡ true → (a ≡ true) × (b ≡ true) × (c ≡ true)
parts true true true e = (refl, refl, refl)
parts true true false e = cc
parts true false c e = cc
parts false b c e = cc

-- what a test of a range says
pub natural-told : (low high : ℕ) (text : List ℕ) → is_natural low high text ≡ true
    → (text ≡ decimal (natural text)) × (low ≤ natural text) × (natural text ≤ high)
natural-told low high text e =
    let p = parts (bytes_eq text (decimal (natural text))) (nat_le low (natural text)) (nat_le (natural text) high) e in
    (bytes-same text (decimal (natural text)) p.0, leb-true low (natural text) p.1, leb-true (natural text) high p.2)

pub no-number : (low high : ℕ) (text : List ℕ) → high < 2 ^ 64 → ((n : ℕ) → n < 2 ^ 64 → text ≡ decimal n → ⊥) → is_natural low high text ≡ false
no-number low high text fits none = false_from_ne_true (is_natural low high text)
    (λ e. let t = natural-told low high text e in none (natural text) (omega (arith, t.2)) t.0)

pub finds : (text : List ℕ) (b : Bool) → (b ≡ true ↔ ((get_or text 0 0 ≡ 43) ⊎ ((get_or text 0 0 ≡ 48) × (1 < length text)))) → b ≡ false → (o : Option ℕ)
    → MatchOption o ((n : ℕ) → n < 2 ^ 64 → ¬ (text ≡ decimal n)) (λ n. IsNumeral 10 (without_leading_plus text)
    × (digits_value 10 (without_leading_plus text) < 2 ^ 64) × (n ≡ digits_value 10 (without_leading_plus text)))
    → MatchOption o ((n : ℕ) → n < 2 ^ 64 → ¬ (text ≡ decimal n)) (λ n. (text ≡ decimal n) × (n < 2 ^ 64))
finds text b is fails None h = h
finds text b is fails (Some n) h = (unpadded text n (λ p. clash b fails (is.1 p)) h.0 h.1 h.2, omega (arith, h.1, h.2))
  where
    clash : (b : Bool) → b ≡ false → b ≡ true → ⊥
    clash true e f = cc
    clash false e f = cc

low-fails : (low high n : ℕ) → n < low → (nat_le low n && nat_le n high) ≡ false
low-fails low high n h = ap (λ b. b && nat_le n high) (lt-leb low n h)

pub below : (low high n : ℕ) (text : List ℕ) → n < 2 ^ 64 → text ≡ decimal n → n < low → is_natural low high text ≡ false
below low high n text h e l = in-range low high n text h e ∙ low-fails low high n l

pub above : (low high n : ℕ) (text : List ℕ) → n < 2 ^ 64 → text ≡ decimal n → high < n → is_natural low high text ≡ false
above low high n text h e l = in-range low high n text h e ∙ ap (λ b. nat_le low n && b) (lt-leb n high l) ∙ and_false (nat_le low n)

pub within : (low high n : ℕ) (text : List ℕ) → n < 2 ^ 64 → text ≡ decimal n → low ≤ n → n ≤ high → is_natural low high text ≡ true
within low high n text h e l m = in-range low high n text h e ∙ ap (λ b. b && nat_le n high) (le-leb low n l) ∙ le-leb n high m
