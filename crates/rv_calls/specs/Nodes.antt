-- The nodes of a program without recursion, in order.
use Rattle.std.specs.Prelude.{◌≡◌}
use Rattle.rv_tree.specs.Tree.{ProgramTree}
use Rattle.rv_calls.specs.declared.fault.CauseFault.TheVariants.{Recursive, Cycle, TooLarge, TooWide, Memory}
use Rattle.rv_calls.specs.{declared.recursion.Nodes.Nodes, declared.fault.CauseFault.CauseFault, Reach.HasNoRecursion, Reach.IsFirstRecursion, Graphs.IsOrdered}
use Rattle.rv_calls.specs.{Callings.callings_of, Callings.call_graph}
use Rattle.rv_instances.specs.AllInstances.{names_of}

-- No node reaches itself. The names and calls are those of the nodes, and each stands after those that it calls.
pub record AreOrderedNodes (p : ProgramTree) (n : Nodes) : Type 0 where
  pub recursion : HasNoRecursion p
  pub names : n.names ≡ names_of p
  pub calls : n.calls ≡ callings_of p
  pub order : IsOrdered (call_graph (callings_of p)) n.order

-- the first recursive call; want of memory needs no cause
abbrev pub IsRecursionOf : ProgramTree → CauseFault → Type 0
IsRecursionOf p (Recursive at) = IsFirstRecursion p at
IsRecursionOf p Memory = Unit {0}
IsRecursionOf p (Cycle ps) = ⊥
IsRecursionOf p (TooLarge q n) = ⊥
IsRecursionOf p (TooWide at) = ⊥
