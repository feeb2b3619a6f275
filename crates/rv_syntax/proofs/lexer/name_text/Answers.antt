use Rattle.std.proofs.lemmas.Str.{IsUtf8-from_ascii}
use Rattle.rv_syntax.proofs.Words.{reads-text}
use Rattle.rv_syntax.proofs.lexer.name_text.Goals as goal

pub unwrap-text-requires : goal.unwrap-text-requires
unwrap-text-requires c = reads-text _ _ _ c.from_utf8.result (IsUtf8-from_ascii c.args.text.now c.requires) c.from_utf8.ensures.cases
