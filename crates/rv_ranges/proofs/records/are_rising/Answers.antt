use Rattle.std.proofs.Common.{arith, pos}
use Rattle.rv_ranges.proofs.records.are_rising.Goals as goal

pub returns-then-premise-next : goal.returns-then-premise-next
returns-then-premise-next c =
    let inside = rw c.as_slice-weight-items.ensures at c.loop-weight-test.true in
    let here = rw c.as_slice-weight-items.ensures at c.from-premise.ensures in (
      (λ untrue. absurd (cc)),
      (λ rising. absurd (omega (
        arith,
        c.if-premise-next.true,
        here,
        c.loop-weight.invariant.least _
            (λ i before. rising i c.loop-weight.weight-index (record { premise = 0; by = pos 0 }) before inside),
      ))),
    )
