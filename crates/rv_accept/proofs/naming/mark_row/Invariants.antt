use Rattle.std.proofs.Common.{◌≢◌, ◌<◌, pos}
use Rattle.rv_rows.specs.Rows.{coefficient}
use Rattle.rv_accept.specs.Needs.{IsMarked}
use Rattle.rv_accept.proofs.naming.mark_row.Given as goal

abbrev pub invariant-loop-k : goal.invariant-loop-k
invariant-loop-k l = IsMarked (λ t. (t < l.k) × (coefficient t l.row ≢ pos 0)) l.initial.flags l.flags
