use Rattle.rv_words.specs.Words.{texts}
use Rattle.rv_words.proofs.Parsed.{answered}
use Rattle.rv_words.proofs.reading.read_words.Goals as goal

pub returns : goal.returns
returns c = record {
  read = answered _ (texts c.args.words.now) c.in_ok-reaver.ensures c.try_get_matches_from.result c.read_answer.result c.try_get_matches_from.ensures.matches
      c.try_get_matches_from.ensures.kinds c.read_answer.ensures.memory.1 c.read_answer.ensures.refused c.read_answer.ensures.found;
}
