use Rattle.rv_invfile.proofs.Decimals.{padded, finds}
use Rattle.rv_invfile.proofs.numbers.natural_of.Goals as goal

pub returns-then-is_padded : goal.returns-then-is_padded
returns-then-is_padded c = padded c.args.text.now (c.is_padded.ensures.0 c.if-is_padded.true)

pub returns-else-is_padded : goal.returns-else-is_padded
returns-else-is_padded c = finds c.args.text.now c.is_padded.result c.is_padded.ensures c.if-is_padded.false c.parsed.result c.parsed.ensures
