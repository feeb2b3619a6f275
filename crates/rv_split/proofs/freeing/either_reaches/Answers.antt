use Rattle.std.proofs.Common.{◌||◌, Bool, sym, ap}
use Rattle.rv_split.proofs.freeing.either_reaches.Goals as goal

pub returns-then-first : goal.returns-then-first
returns-then-first c nodes are = (
  c.reaches-first.result,
  c.reaches-second.result,
  c.reaches-first.ensures nodes are,
  c.reaches-second.ensures nodes are,
  sym (ap (λ (x : Bool). x || c.reaches-second.result) c.if-first.true),
)

pub returns-else-first : goal.returns-else-first
returns-else-first c nodes are = (
  c.reaches-first.result,
  c.reaches-second.result,
  c.reaches-first.ensures nodes are,
  c.reaches-second.ensures nodes are,
  sym (ap (λ (x : Bool). x || c.reaches-second.result) c.if-first.false),
)
