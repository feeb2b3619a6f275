-- What a text of digits reads as.
use Rattle.std.proofs.Common.{◌≡◌, ◌∙◌, ◌≤◌, ◌<◌, ◌^◌, ◌&&◌, ap, sym, refl, true, false, Bool, ℕ, List, [], ◌∷◌, length, Result, Err, Option, Some, None}
use Rattle.std.proofs.lemmas.Bool.{leb-false, leb-true, lt-leb}
use Rattle.std.proofs.lemmas.Str.Parse.{numerals_by_value, parse_digits, tells_all_ascii_digits}
use Rattle.std.specs.{Prelude.if◌then◌else◌, Prelude.nat_le, List.list_all, Char.is_ascii_digit, Result.OkIff, Str.all_ascii_digits, Str.Parse.ParsesUnsigned}
use Rattle.std.specs.{Str.Parse.digits_value}
use Rattle.clap.proofs.WalkLemmas.{both}
use Rattle.rv_words.specs.Words.{digits_of, is_numeral}

digits_are : (text : List ℕ) → list_all (λ byte. is_ascii_digit byte) text ≡ all_ascii_digits text
digits_are [] = refl
digits_are (c ∷ cs) = ap (λ b. is_ascii_digit c && b) (digits_are cs)

numeral_digits : (text : List ℕ) → is_numeral text ≡ true → all_ascii_digits text ≡ true
numeral_digits text h = sym (digits_are text) ∙ (both (nat_le 1 (length text) && nat_le (length text) 10) _ h).1

numeral_some : (text : List ℕ) → is_numeral text ≡ true → 1 ≤ length text
numeral_some text h = leb-true 1 (length text) (both _ _ (both (nat_le 1 (length text) && nat_le (length text) 10) _ h).0).0

module _ {E : Type 0} (text : List ℕ) (numeral : is_numeral text ≡ true) where
  read : (r : Result ℕ E) → ParsesUnsigned 32 10 text r → OkIff r ((0 < length text) × (digits_value 10 text < 2 ^ 32)) (digits_value 10 text)
  read r h = parse_digits (numerals_by_value _ tells_all_ascii_digits) 32 text r h (numeral_digits text numeral)

  pub none_read : (e : E) → ParsesUnsigned 32 10 text (Err e) → 2 ^ 32 ≤ digits_value 10 text
  none_read e h = go (nat_le (2 ^ 32) (digits_value 10 text)) refl
    where
      go : (b : Bool) → nat_le (2 ^ 32) (digits_value 10 text) ≡ b → 2 ^ 32 ≤ digits_value 10 text
      go true is = leb-true (2 ^ 32) (digits_value 10 text) is
      go false is = absurd (read (Err e) h (numeral_some text numeral, leb-false (2 ^ 32) (digits_value 10 text) is))

pub above_range : (least most : ℕ) (text : List ℕ) → most < digits_value 10 text → None ≡ digits_of least most text
above_range least most text high =
    let no : nat_le (digits_value 10 text) most ≡ false = lt-leb (digits_value 10 text) most high in
    none_by (is_numeral text && nat_le least (digits_value 10 text)) _ (Some (digits_value 10 text)) no
  where
    none_by : (a b : Bool) (x : Option ℕ) → b ≡ false → None ≡ (if a && b then x else None)
    none_by true b x e = rw e refl
    none_by false b x e = refl
