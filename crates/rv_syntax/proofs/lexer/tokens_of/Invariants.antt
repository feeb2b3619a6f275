use Rattle.std.proofs.Common.{◌≡◌, ◌≤◌, ◌-◌, ◌++◌, length, drop}
use Rattle.rv_syntax.specs.Lexing.{lex, tokens}
use Rattle.rv_syntax.proofs.lexer.tokens_of.Given as goal

abbrev pub invariant-more : goal.invariant-more
invariant-more l = record { within : l.at ≤ length l.bytes; same : l.tokens.items ++ lex 0 l.after_tel l.at (drop l.at l.bytes) ≡ tokens l.bytes }

abbrev pub decreases-more : goal.decreases-more
decreases-more l = length l.bytes - l.at
