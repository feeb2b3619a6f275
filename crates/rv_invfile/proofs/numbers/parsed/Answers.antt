use Rattle.std.proofs.{Common.◌≡◌, Common.sym, Common.◌∙◌, Common.subst, lemmas.Fmt.IsAscii-decimal, lemmas.Fmt.parse-decimal, lemmas.Str.IsUtf8-from_ascii}
use Rattle.std.specs.{Prelude.decimal, Prelude.Ok, Prelude.Err, Prelude.Result, Str.IsUtf8}
use Rattle.rv_invfile.proofs.numbers.parsed.Goals as goal

refused : {X E : Type 0} {r : Result X E} {x : X} {e : E} → r ≡ Ok x → r ≡ Err e → ⊥
refused a b = cc

pub returns-in-Err-parse : goal.returns-in-Err-parse
returns-in-Err-parse c n h e = refused (parse-decimal 64 n c.in-Ok.text.now c.parse.result h h (c.in-Ok.ensures.cases.0 ∙ e) c.parse.ensures.value.0)
    c.in-Err-parse.is

pub returns-in-Err : goal.returns-in-Err
returns-in-Err c n h e = c.in-Err.ensures.cases.0 (subst IsUtf8 (sym e) (IsUtf8-from_ascii (decimal n) (IsAscii-decimal n h)))
