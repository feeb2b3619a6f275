use Rattle.rv_syntax.proofs.LongestCut.{in-pieces, only-pieces}
use Rattle.rv_syntax.proofs.whole_text.Goals as goal

pub returns : goal.returns
returns c = record { found = in-pieces; only = only-pieces }
