use Rattle.std.proofs.Common.{◌+◌, ◌-◌, arith, inl, inr}
use Rattle.rv_pairs.proofs.Keying.{key_rest}
use Rattle.rv_pairs.proofs.keys.key_of_rest.Goals as goal

pub returns-then-whole-part-clause-key : goal.returns-then-whole-part-clause-key
returns-then-whole-part-clause-key c numbers one other whole part sum =
    key_rest numbers one other c.args.whole c.args.part (c.args.whole + 4096 - c.args.part) whole part sum
    (omega (arith, c.requires.whole, c.requires.part, c.if-whole-part.true)) (inr (omega (arith, c.requires.part)))

pub returns-clause-key : goal.returns-clause-key
returns-clause-key c numbers one other whole part sum =
    key_rest numbers one other c.args.whole c.args.part (c.args.whole - c.args.part) whole part sum (omega (arith, c.requires.whole))
    (inl (omega (arith, c.if-whole-part.false)))
