use Rattle.std.proofs.Common.{◌+◌, length, subst, sym}
use Rattle.rv_bits.specs.Following.{AreNextRead}
use Rattle.rv_bits.proofs.{Keeping.around_kept, Nexting.next_pushed, Nexting.afters_kept}
use Rattle.rv_bits.proofs.following.read_next.Goals as goal

pub next_at-requires-clause-after : goal.next_at-requires-clause-after
next_at-requires-clause-after c =
    let f = c.args.around.now.flat.now in (
      c.requires.after.0,
      afters_kept f c.requires.after.0 c.args.store.now c.loop-bit.store (length f.memories) c.args.after.now
          c.loop-bit.invariant.read.extends c.requires.after.1,
    )

pub loop-bit-preserved : goal.loop-bit-preserved
loop-bit-preserved c =
    let f = c.args.around.now.flat.now in
    let s = c.loop-bit.store in
    let new = c.next_at.new.store in
    let one = c.in_ok-next_at.ensures.ok in
    record {
      read = subst (AreNextRead f c.args.store.now new (c.loop-bit.bit + 1)) (sym c.in_ok-push.ensures.ok)
          (next_pushed f c.args.store.now s new c.loop-bit.bit c.loop-bit.next c.in_ok-next_at.field-0 c.loop-bit.invariant.read one);
      around = around_kept s new c.args.around.now one.extends c.loop-bit.invariant.around;
    }
