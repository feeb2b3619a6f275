use Rattle.std.proofs.Common.{◌≡◌, ◌++◌, map, drop}
use Rattle.rv_tree.specs.{declared.tree.Assertion.Assertion, Tree.assertion_tree}
use Rattle.rv_types.specs.Instances.{Instance, IsInstance}
use Rattle.rv_instances.specs.Layouts.{IsNumberOf}
use Rattle.rv_flatten.specs.{Building.main_given, Building.numbers_of, Building.program_given, Readings.assertion_of}
use Rattle.rv_flat.specs.RawTree.{raw_tree}
use Rattle.rv_flatten.proofs.assertions.push_assertions.Given as goal

abbrev pub invariant-loop-assertion : goal.invariant-loop-assertion
invariant-loop-assertion l = (i : Instance) → IsInstance (program_given l.given) (main_given l.given) i
    → IsNumberOf (program_given l.given) l.given.expanded.now.instances.now l.instance i
    → map raw_tree l.made ++ map (λ (a : Assertion). assertion_of (program_given l.given) (numbers_of l.given l.found) i (assertion_tree a))
    (drop l.assertion-index l.assertion-items)
    ≡ map raw_tree l.fn.made ++ map (λ (a : Assertion). assertion_of (program_given l.given) (numbers_of l.given l.found) i (assertion_tree a))
    l.assertion-items
