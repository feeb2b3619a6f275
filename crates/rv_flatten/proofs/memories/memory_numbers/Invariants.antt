use Rattle.std.proofs.Common.{List}
use Rattle.rv_tree.specs.{Tree.ProgramTree, Places.Identifier}
use Rattle.rv_instances.specs.{declared.answer.Instance.Instance, Callees.callee_in, Expanded.IsExpanded}
use Rattle.rv_flatten.specs.Kept.{AreKept}
use Rattle.rv_flatten.proofs.MemoryNumbers.{AreTold}
use Rattle.rv_flatten.proofs.memories.memory_numbers.Given as goal

abbrev pub invariant-loop-number : goal.invariant-loop-number
invariant-loop-number l = (p : ProgramTree) (main : Identifier) (instances : List Instance) → IsExpanded p main instances → AreKept p main instances l.kept
    → AreTold instances l.kept (callee_in l.numbers) l.number
