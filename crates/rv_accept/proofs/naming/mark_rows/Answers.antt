use Rattle.std.proofs.Common.{◌≡◌, ◌≢◌, ◌∙◌, length, pos, sym, arith}
use Rattle.rv_rows.specs.{declared.linear.Row.Row, Rows.coefficient}
use Rattle.rv_accept.proofs.{Listing.all_at, Marking.loop_start, Marking.loop_more, Marking.loop_end}
use Rattle.rv_accept.proofs.naming.mark_rows.Goals as goal

pub loop-i-init : goal.loop-i-init
loop-i-init c = loop_start (λ k (r : Row). coefficient k r ≢ pos 0) c.args.rows.now c.args.flags.now

pub mark_row-requires : goal.mark_row-requires
mark_row-requires c = all_at (λ (r : Row). length r.coefficients ≡ length c.args.flags.now) c.args.rows.now c.requires c.loop-i.i c.at.result.now
    c.at.ensures.value
    ∙ sym c.loop-i.invariant.size

pub loop-i-preserved : goal.loop-i-preserved
loop-i-preserved c = loop_more (λ k (r : Row). coefficient k r ≢ pos 0) c.args.rows.now c.loop-i.i c.at.result.now c.args.flags.now c.loop-i.flags
    c.mark_row.new.flags c.at.ensures.value c.loop-i.invariant c.mark_row.ensures

pub returns : goal.returns
returns c = loop_end (λ k (r : Row). coefficient k r ≢ pos 0) c.args.rows.now c.loop-i.i c.args.flags.now c.loop-i.flags (omega arith) c.loop-i.invariant
