use Rattle.std.proofs.Common.{◌≡◌, ◌++◌, take}
use Rattle.rv_accept.proofs.implying.add_rows.Given as goal

abbrev pub invariant-loop-i : goal.invariant-loop-i
invariant-loop-i l = l.rows ≡ l.initial.rows ++ take l.i l.more
