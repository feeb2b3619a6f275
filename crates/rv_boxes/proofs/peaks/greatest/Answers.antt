use Rattle.std.proofs.Common.{◌≡◌, ℕ, length, arith, subst}
use Rattle.rv_boxes.specs.Boxed.{IsSummed}
use Rattle.rv_boxes.proofs.Tops.{is_greatest, is_unbounded}
use Rattle.rv_boxes.proofs.peaks.greatest.Goals as goal

pub returns-clause-some : goal.returns-clause-some
returns-clause-some c =
    let e : c.loop-column.column ≡ length c.args.numbers.now = omega (arith, c.len-column-end.ensures) in
    is_greatest c.args.premises.now (length c.args.ends.now) c.requires.premises c.args.ends.now c.requires.ends c.requires.some c.args.numbers.now
    c.requires.width c.requires.sizes c.loop-column.sum
    (subst (λ (n : ℕ). IsSummed c.args.premises.now c.args.ends.now c.args.numbers.now n c.loop-column.sum) e c.loop-column.invariant)

pub returns-in-None-clause-none : goal.returns-in-None-clause-none
returns-in-None-clause-none c =
    let loose = rw c.in-None.is at c.in_ok-next.ensures.none in
    is_unbounded c.args.premises.now (length c.args.ends.now) c.requires.premises c.args.ends.now c.requires.ends c.requires.some c.args.numbers.now
    c.requires.width c.loop-column.column (omega (arith, c.len-column-end.ensures)) loose
