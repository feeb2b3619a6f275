-- The bytes of a word.
use Rattle.std.proofs.Common.{◌≡◌, ℕ, zero, suc, ◌<◌, ◌≤◌, true, ◌||◌, List, [], ◌∷◌, take, refl, sym, subst, inl, inr, arith, lit<}
use Rattle.std.proofs.lemmas.Bool.{cases_Bool, or_cases, and_parts, leb-true, eqb-true}
use Rattle.std.proofs.lemmas.Str.Ascii.{IsAscii-nil as ascii-none, IsAscii-cons as ascii-more}
use Rattle.std.specs.Prelude.{◌==◌, nat_le, Result, Ok, Err, MatchResult, is_ok}
use Rattle.std.specs.{List.prefix_len, Str.IsAscii, Char.is_ascii_alphanumeric, Char.is_ascii_digit, Int.is_in_range}
use Rattle.rv_syntax.specs.Lexing.{is_word_byte, AreDigits}
use Rattle.rv_syntax.proofs.FineTokens.{len-more, len-none}

in-range : (lo hi b : ℕ) → is_in_range lo hi b ≡ true → hi < 128 → b < 128
in-range lo hi b h l =
    let le : b ≤ hi = leb-true b hi (and_parts (nat_le lo b) (nat_le b hi) h).1 in
    omega arith

below : (b : ℕ) → is_word_byte b ≡ true → b < 128
below b h =
    elim (or_cases (is_ascii_alphanumeric b) (b == 95) h) [
      | inl a ↦ elim (or_cases (is_in_range 48 57 b || is_in_range 65 90 b) (is_in_range 97 122 b) a) [
        | inl d ↦ elim (or_cases (is_in_range 48 57 b) (is_in_range 65 90 b) d) [
          | inl e ↦ in-range 48 57 b e (lit< tt)
          | inr e ↦ in-range 65 90 b e (lit< tt)
        ]
        | inr e ↦ in-range 97 122 b e (lit< tt)
      ]
      | inr e ↦ let is : b ≡ 95 = eqb-true b 95 e in omega arith
    ]

is-ok : {T E : Type 0} (P : T → Type 0) (Q : E → Type 0) (r : Result T E) → MatchResult r P Q → ((e : E) → Q e → ⊥) → is_ok r ≡ true
is-ok P Q (Ok x) h none = refl
is-ok P Q (Err e) h none = absurd (none e h)

-- what is text by its bytes is read as text
pub reads-text : {T E : Type 0} (P : T → Type 0) (U : Type 0) (Q : E → Type 0) (r : Result T E) → U → MatchResult r P (λ e. ¬ U × Q e) → is_ok r ≡ true
reads-text P U Q r u h = is-ok P (λ e. ¬ U × Q e) r h (λ e n. n.0 u)

-- a word is ASCII
pub ascii_word : (bs : List ℕ) → IsAscii (take (prefix_len is_word_byte bs) bs)
ascii_word [] = ascii-none
ascii_word (b ∷ bs) =
    elim (cases_Bool (is_word_byte b)) [
      | inl e ↦ subst (λ n. IsAscii (take n (b ∷ bs))) (sym (len-more is_word_byte b bs e))
          (ascii-more b (take (prefix_len is_word_byte bs) bs) (below b e) (ascii_word bs))
      | inr e ↦ subst (λ n. IsAscii (take n (b ∷ bs))) (sym (len-none is_word_byte b bs e)) ascii-none
    ]

digits-none : AreDigits []
digits-none i h = absurd (omega arith)

digits-more : (b : ℕ) (bs : List ℕ) → is_ascii_digit b ≡ true → AreDigits bs → AreDigits (b ∷ bs)
digits-more b bs h f zero l = h
digits-more b bs h f (suc i) l = f i (omega arith)

-- the digits of a number
pub digits_number : (bs : List ℕ) → AreDigits (take (prefix_len is_ascii_digit bs) bs)
digits_number [] = digits-none
digits_number (b ∷ bs) =
    elim (cases_Bool (is_ascii_digit b)) [
      | inl e ↦ subst (λ n. AreDigits (take n (b ∷ bs))) (sym (len-more is_ascii_digit b bs e))
          (digits-more b (take (prefix_len is_ascii_digit bs) bs) e (digits_number bs))
      | inr e ↦ subst (λ n. AreDigits (take n (b ∷ bs))) (sym (len-none is_ascii_digit b bs e)) digits-none
    ]
