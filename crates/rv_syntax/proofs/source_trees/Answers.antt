use Rattle.rv_syntax.proofs.source_trees.Goals as goal

pub returns : goal.returns
returns c = λ t text. record {
  bounded = c.bounded_tree.ensures t text;
  numbered = λ n w. c.numbered_sites.ensures text.0 t n text.1 text.2 w;
  in_order = λ front back d is. c.ordered_constants.ensures.before t front back d text is;
}
