use Rattle.std.proofs.Common.{◌≡◌, map, drop}
use Rattle.rv_tree.specs.Tree.{tree_of, trees}
use Rattle.rv_meaning.specs.Leading.{operand_within_all}
use Rattle.rv_meaning.proofs.finding.+operand.Given as goal

abbrev pub invariant-operand_in_all-loop-e : goal.invariant-operand_in_all-loop-e
invariant-operand_in_all-loop-e l = operand_within_all (trees (map tree_of (drop l.e-index l.expressions))) l.site ≡ operand_within_all
    (trees (map tree_of l.expressions)) l.site
