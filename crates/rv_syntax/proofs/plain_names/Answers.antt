use Rattle.rv_syntax.proofs.PlainNames.{plain-text}
use Rattle.rv_syntax.proofs.plain_names.Goals as goal

pub returns : goal.returns
returns c = plain-text
