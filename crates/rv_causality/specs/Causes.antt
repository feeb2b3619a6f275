-- Which settled programs have one run for all starts and inputs, in which order their flows can be evaluated, and
-- why another is refused.
use Rattle.std.specs.Prelude.{◌≡◌, ◌⊎◌, List, Result, Ok, Err}
use Rattle.rv_tree.specs.{Tree.ProgramTree, Places.Identifier, Places.Sites}
use Rattle.rv_types.specs.{Lists.sites_of, Needs.IsSequence, Needs.IsCycle}
use Rattle.rv_instances.specs.{declared.answer.Order.Order, Counts.expanded, Weights.AreLight, Weights.IsFirstTooWide, AllInstances.AreInstances}
use Rattle.rv_calls.specs.declared.fault.CauseFault.TheVariants.{Recursive, Cycle, TooLarge, TooWide, Memory}
use Rattle.rv_calls.specs.{declared.fault.CauseFault.CauseFault, Reach.HasNoRecursion, Reach.IsFirstRecursion}
use Rattle.rv_sequence.specs.Cycles.{IsCycleFromLeast}
use Rattle.rv_sizes.specs.Sizes.{measures, AreWithin, IsFirstAbove}

-- no list of flows is a cycle
abbrev pub HasNoCycle : ProgramTree → Identifier → Type 0
HasNoCycle p main = (ps : List Sites) → IsCycle p main ps → ⊥

-- A program that is settled is accepted: no node reaches itself, each quantity is within its limit, no flow needs
-- itself at one instant, and no expression is too wide.
pub record IsAccepted (p : ProgramTree) (main : Identifier) : Type 0 where
  pub recursion : HasNoRecursion p
  pub sizes : AreWithin (measures p main)
  pub cycles : HasNoCycle p main
  pub weights : AreLight p main

-- What is answered of an accepted program.
pub record IsOrder (p : ProgramTree) (main : Identifier) (o : Order) : Type 0 where
  pub accepted : IsAccepted p main
  pub instances : AreInstances p main o.instances
  pub sequence : IsSequence p main (sites_of o.sequence)
  pub nodes : o.expanded ≡ expanded p main

-- The fault with which a program is refused. Recursion comes before all others, then sizes, cycles and weights.
-- Where there are several cycles, each is such a fault.
abbrev pub IsCause : ProgramTree → Identifier → CauseFault → Type 0
IsCause p main (Recursive at) = IsFirstRecursion p at
IsCause p main (TooLarge q n) = HasNoRecursion p × IsFirstAbove (measures p main) q n
IsCause p main (Cycle ps) = HasNoRecursion p × AreWithin (measures p main) × IsCycleFromLeast p main (sites_of ps)
IsCause p main (TooWide at) = HasNoRecursion p × AreWithin (measures p main) × HasNoCycle p main × IsFirstTooWide p main at
IsCause p main Memory = ⊥

-- the cause of an `Err`; want of memory needs none
abbrev pub HasCause : ProgramTree → Identifier → CauseFault → Type 0
HasCause p main Memory = Unit {0}
HasCause p main (Recursive at) = IsCause p main (Recursive at)
HasCause p main (TooLarge q n) = IsCause p main (TooLarge q n)
HasCause p main (Cycle ps) = IsCause p main (Cycle ps)
HasCause p main (TooWide at) = IsCause p main (TooWide at)

-- the same fault, or both a cycle
abbrev pub Matches : CauseFault → CauseFault → Type 0
Matches (Cycle ps) (Cycle qs) = Unit {0}
Matches f g = f ≡ g

-- an order is answered, unless memory ran out
abbrev pub Orders : Result Order CauseFault → Type 0
Orders (Ok o) = Unit {0}
Orders (Err f) = f ≡ Memory

-- this fault, or another cycle, is answered, unless memory ran out
abbrev pub Refuses : CauseFault → Result Order CauseFault → Type 0
Refuses f (Ok o) = ⊥
Refuses f (Err g) = (g ≡ Memory) ⊎ Matches f g
