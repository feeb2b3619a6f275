use Rattle.std.proofs.Common.{◌≡◌, map, drop}
use Rattle.rv_tree.specs.Tree.{assertion_tree}
use Rattle.rv_types.specs.WideConstants.{lesser}
use Rattle.rv_sequence.specs.{Weighing.weighing, WideNodes.wide_in_assertions}
use Rattle.rv_sequence.proofs.weight_check.wide_in_bodies.Given as goal

abbrev pub invariant-loop-assertion : goal.invariant-loop-assertion
invariant-loop-assertion l = lesser l.first (wide_in_assertions (weighing l.w) (map assertion_tree (drop l.assertion-index l.assertions))) ≡ wide_in_assertions
    (weighing l.w) (map assertion_tree l.assertions)
