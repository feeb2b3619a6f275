use Rattle.std.proofs.Common.{◌≡◌, take}
use Rattle.std.specs.Str.Parse.{digits_value}
use Rattle.rv_syntax.specs.Lexing.{kept}
use Rattle.rv_syntax.proofs.lexer.number.Given as goal

abbrev pub invariant-loop-digit : goal.invariant-loop-digit
invariant-loop-digit l = l.number ≡ kept (digits_value 10 (take l.digit-index l.digits))
