use Rattle.rv_tree.specs.Tree.{program_tree}
use Rattle.rv_explain.proofs.explaining.explain.Goals as goal

pub explain_accepted-requires : goal.explain_accepted-requires
explain_accepted-requires c = record {
  plain = c.plain_names.ensures c.args.source.now (program_tree c.in-Ok.read.program) c.in-Ok.ensures.found.text;
}
