use Rattle.std.proofs.Common.{◌≡◌, map, drop}
use Rattle.rv_tree.specs.Tree.{assertion_tree}
use Rattle.rv_meaning.specs.Leading.{callee_in_assertions}
use Rattle.rv_meaning.proofs.finding.callee_in_assertions.Given as goal

abbrev pub invariant-loop-assertion : goal.invariant-loop-assertion
invariant-loop-assertion l = callee_in_assertions (map assertion_tree (drop l.assertion-index l.assertions)) l.site ≡ callee_in_assertions
    (map assertion_tree l.assertions) l.site
