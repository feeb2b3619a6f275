use Rattle.std.proofs.Common.{arith, sym}
use Rattle.rv_invfile.proofs.Decimals.{below, above, within, natural-is, no-number}
use Rattle.rv_invfile.proofs.numbers.natural_in.Goals as goal

pub returns-then-n-low : goal.returns-then-n-low
returns-then-n-low c = below c.args.low c.args.high c.in-Some.n c.args.text.now c.in-Some.ensures.1 c.in-Some.ensures.0 (omega arith)

pub returns-then-n-high : goal.returns-then-n-high
returns-then-n-high c = above c.args.low c.args.high c.in-Some.n c.args.text.now c.in-Some.ensures.1 c.in-Some.ensures.0 (omega arith)

pub returns-else-n-high : goal.returns-else-n-high
returns-else-n-high c = (
  within c.args.low c.args.high c.in-Some.n c.args.text.now c.in-Some.ensures.1 c.in-Some.ensures.0 (omega arith) (omega arith),
  sym (natural-is c.args.text.now c.in-Some.n c.in-Some.ensures.1 c.in-Some.ensures.0),
  omega arith,
)

pub returns-in-None : goal.returns-in-None
returns-in-None c = no-number c.args.low c.args.high c.args.text.now (omega arith) c.in-None.ensures
