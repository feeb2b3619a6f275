use Rattle.std.proofs.Common.{◌≡◌, ◌≤◌, ◌^◌, arith, rules, true}
use Rattle.std.specs.Str.Parse.{digits_value}
use Rattle.rv_words.specs.Words.{is_numeral}
use Rattle.rv_words.proofs.Numbers.{above_range, none_read}
use Rattle.rv_words.proofs.values.number_in.Goals as goal

-- Digits alone that a `u32` does not hold write a number above the range.
pub returns-in-Err : goal.returns-in-Err
returns-in-Err c =
    let numeral : is_numeral c.args.text.now ≡ true = search rules in
    let large : 2 ^ 32 ≤ digits_value 10 c.args.text.now = none_read c.args.text.now numeral c.in-Err.field-0 c.in-Err.ensures.value.0 in
    above_range c.args.least c.args.most c.args.text.now (omega (arith, large, c.ranges.most.fits))
