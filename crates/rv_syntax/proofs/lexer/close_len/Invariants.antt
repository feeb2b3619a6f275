use Rattle.std.proofs.Common.{◌≡◌, ◌≤◌, ◌-◌, length, drop}
use Rattle.rv_syntax.specs.Lexing.{close_len}
use Rattle.rv_syntax.proofs.Closing.{later}
use Rattle.rv_syntax.proofs.lexer.close_len.Given as goal

abbrev pub invariant-more : goal.invariant-more
invariant-more l = record { within : l.at ≤ length l.bytes; same : close_len l.last l.bytes ≡ later l.at (close_len l.last (drop l.at l.bytes)) }

abbrev pub decreases-more : goal.decreases-more
decreases-more l = length l.bytes - l.at
