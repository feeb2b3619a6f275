-- The text of a number is one digit or more.
use Rattle.std.proofs.Common.{◌≡◌, ℕ, zero, suc, ◌+◌, ◌<◌, ◌/◌, ◌%◌, ◌==◌, Bool, true, false, cond, List, [], ◌∷◌, decimal, ap, ◌∙◌, arith}
use Rattle.std.proofs.lemmas.Bool.{and_from, lt-ltb, le-leb}
use Rattle.std.specs.{Fmt.digits, Fmt.digits_onto, Fmt.digit_glyph, Char.is_ascii_digit, Prelude.nat_le}

-- all bytes are digits
abbrev pub AreDigits : List ℕ → Type 0
AreDigits [] = Unit {0}
AreDigits (b ∷ bs) = (is_ascii_digit b ≡ true) × AreDigits bs

-- the same, and there is one
abbrev pub IsNumeral : List ℕ → Type 0
IsNumeral [] = ⊥
IsNumeral (b ∷ bs) = (is_ascii_digit b ≡ true) × AreDigits bs

digit : (d : ℕ) → d < 10 → is_ascii_digit (digit_glyph false d) ≡ true
digit d h =
    ap (λ b. is_ascii_digit (cond b (48 + d) (87 + d))) (lt-ltb d 10 h)
    ∙ and_from (nat_le 48 (48 + d)) (nat_le (48 + d) 57) (le-leb 48 (48 + d) (omega arith)) (le-leb (48 + d) 57 (omega arith))

either : (b : Bool) (xs ys : List ℕ) → IsNumeral xs → IsNumeral ys → IsNumeral (cond b xs ys)
either true xs ys h k = h
either false xs ys h k = k

before : (k n d : ℕ) (ds : List ℕ) → is_ascii_digit d ≡ true → AreDigits ds → IsNumeral (digits_onto k 10 false n (d ∷ ds))
before zero n d ds h hs = (h, hs)
before (suc k) n d ds h hs =
    let last : is_ascii_digit (digit_glyph false (n % 10)) ≡ true = digit (n % 10) (omega arith) in
    let b : ℕ = digit_glyph false (n % 10) in
    either (n / 10 == 0) (b ∷ d ∷ ds) (digits_onto k 10 false (n / 10) (b ∷ d ∷ ds)) (last, (h, hs)) (before k (n / 10) b (d ∷ ds) last (h, hs))

pub numeral : (n : ℕ) → IsNumeral (decimal n)
unfolding digits
numeral n =
    let last : is_ascii_digit (digit_glyph false (n % 10)) ≡ true = digit (n % 10) (omega arith) in
    let b : ℕ = digit_glyph false (n % 10) in
    either (n / 10 == 0) (b ∷ []) (digits_onto 63 10 false (n / 10) (b ∷ [])) (last, tt) (before 63 (n / 10) b [] last tt)
