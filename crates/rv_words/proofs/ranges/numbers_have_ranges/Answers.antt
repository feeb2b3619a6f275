use Rattle.rv_words.proofs.Ranged.{command-in_range}
use Rattle.rv_words.proofs.ranges.numbers_have_ranges.Goals as goal

pub returns : goal.returns
returns c = command-in_range
