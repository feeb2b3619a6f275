use Rattle.std.proofs.Common.{arith}
use Rattle.rv_invariant.proofs.Bounds.{below-is, too-great, too-long}
use Rattle.rv_invariant.proofs.numbers.below.Goals as goal

pub returns-then-n-limit : goal.returns-then-n-limit
returns-then-n-limit c = too-great c.args.limit c.args.text.now c.in-Some.n c.in-Some.ensures.0 c.in-Some.ensures.1 (omega arith)

pub returns-then-n-gt-GREATEST : goal.returns-then-n-gt-GREATEST
returns-then-n-gt-GREATEST c = too-long c.args.limit c.args.text.now c.in-Some.n c.in-Some.ensures.0 c.in-Some.ensures.1 (omega arith)

pub returns-else-n-gt-GREATEST : goal.returns-else-n-gt-GREATEST
returns-else-n-gt-GREATEST c = below-is c.args.limit c.args.text.now c.in-Some.n c.in-Some.ensures.0 c.in-Some.ensures.1 (omega arith) (omega arith)
