use Rattle.std.proofs.Common.{◌≢◌, ℕ, pos, arith}
use Rattle.rv_rows.specs.Rows.{coefficient}
use Rattle.rv_accept.proofs.Marking.{count_start, count_end}
use Rattle.rv_accept.proofs.naming.mark_row.Goals as goal

pub loop-k-init : goal.loop-k-init
loop-k-init c = count_start (λ (k : ℕ). coefficient k c.args.row.now ≢ pos 0) c.args.flags.now

pub returns : goal.returns
returns c = count_end (λ (k : ℕ). coefficient k c.args.row.now ≢ pos 0) c.loop-k.k c.args.flags.now c.loop-k.flags (omega
    (arith, c.requires, c.len-k-end.ensures)) c.loop-k.invariant
