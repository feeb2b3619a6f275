use Rattle.rv_tree.specs.Tree.{tree_of}
use Rattle.rv_sequence.proofs.Needed.{told_within}
use Rattle.rv_sequence.proofs.shown.+shown.Goals as goal

pub add_current-add_clock-requires-clause-within : goal.add_current-add_clock-requires-clause-within
add_current-add_clock-requires-clause-within t c =
    told_within c.args.reader.now c.requires (tree_of c.args.operand.now) c.in_ok-operand.operand c.in_ok-operand.ensures.pace
