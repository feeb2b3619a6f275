use Rattle.rv_seek.proofs.sides.add_again.Goals as goal

pub returns : goal.returns
returns c = (
  c.in_ok-side.side,
  c.closer-closest.result,
  record { columns = c.in_ok-side.ensures.length; side = c.in_ok-side.ensures.side; changed = c.in_ok-insert.ensures.updates.0 },
  λ old. c.closer-closest.ensures c.in_ok-side.side.items c.in_ok-side.ensures.side old,
)
