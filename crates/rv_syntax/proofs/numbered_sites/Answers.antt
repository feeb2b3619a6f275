use Rattle.rv_syntax.proofs.Numbered.{numbered-text}
use Rattle.rv_syntax.proofs.numbered_sites.Goals as goal

pub returns : goal.returns
returns c = numbered-text
