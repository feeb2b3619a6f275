use Rattle.rv_diagram.proofs.Counting.{few_nodes, fewest_few, needs_few, count-join, count-most, joined_fewest}
use Rattle.rv_terms.proofs.laws.few_nodes.Goals as goal

pub returns : goal.returns
returns c = record {
  some = few_nodes;
  fewest = fewest_few;
  needs = needs_few;
  joined = joined_fewest;
  apart = λ m f g off. count-join m 0 f g off;
  most = λ m f. count-most m 0 f;
}
