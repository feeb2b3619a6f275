use Rattle.std.proofs.Common.{◌≡◌, ℕ, ◌+◌, ◌-◌, ◌*◌, ◌<◌, List, get_or, length, take, arith}
use Rattle.std.proofs.{lemmas.Bool.and_parts, lemmas.Bool.leb-true, lemmas.Int.Digits.digits_value_more, lemmas.Str.digit_value_digit}
use Rattle.std.specs.{Prelude.min, Prelude.true, Prelude.nat_le, Char.digit_value, Char.is_ascii_digit, Str.Parse.digits_value}
use Rattle.rv_base.specs.Limits.{too_heavy}
use Rattle.rv_syntax.specs.Lexing.{AreDigits, kept}
use Rattle.rv_syntax.proofs.lexer.number.Goals as goal

held : (n v d m x u : ℕ) → n ≡ min v m → u ≡ v * 10 + d → d + 48 ≡ x → min (n * 10 + (x - 48)) m ≡ min u m
held n v d m x u a b e = omega arith

digit-is : (x : ℕ) → is_ascii_digit x ≡ true → digit_value x + 48 ≡ x
digit-is x h =
    let both = and_parts (nat_le 48 x) (nat_le x 57) h in
    digit_value_digit x (leb-true 48 x both.0, leb-true x 57 both.1)

more-digits : (w : List ℕ) (i n : ℕ) → i < length w → AreDigits w → n ≡ kept (digits_value 10 (take i w))
    → min (n * 10 + (get_or w i 0 - 48)) too_heavy ≡ kept (digits_value 10 (take (i + 1) w))
more-digits w i n h d e =
    held n (digits_value 10 (take i w)) (digit_value (get_or w i 0)) too_heavy (get_or w i 0) (digits_value 10 (take (i + 1) w))
    e (digits_value_more 10 w i h) (digit-is (get_or w i 0) (d i h))

pub loop-digit-preserved : goal.loop-digit-preserved
loop-digit-preserved c =
    let h : c.loop-digit.digit-index < length c.args.digits.now = omega arith in
    let more = more-digits c.args.digits.now c.loop-digit.digit-index c.loop-digit.number h c.requires c.loop-digit.invariant in
    cc (c.min-number.ensures, c.from.ensures)
