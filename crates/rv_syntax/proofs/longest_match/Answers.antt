use Rattle.rv_syntax.proofs.LongestCut.{cut-longest}
use Rattle.rv_syntax.proofs.longest_match.Goals as goal

pub returns : goal.returns
returns c = cut-longest
