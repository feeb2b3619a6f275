-- What is answered of a program whose instances are known: a sequence of its flows, or a cycle, or what is too wide.
use Rattle.std.specs.Prelude.{List}
use Rattle.rv_base.specs.declared.value.Place.{Place}
use Rattle.rv_tree.specs.{Tree.ProgramTree, Places.Identifier, Places.Sites}
use Rattle.rv_types.specs.{Lists.sites_of, Needs.IsSequence}
use Rattle.rv_calls.specs.declared.fault.CauseFault.{CauseFault}
use Rattle.rv_calls.specs.declared.fault.CauseFault.TheVariants.{Recursive, Cycle, TooLarge, TooWide, Memory}
use Rattle.rv_sequence.specs.Cycles.{IsCycleFromLeast}
use Rattle.rv_instances.specs.Weights.{AreLight, IsFirstTooWide}

-- The places are those of a sequence, and no expression is too wide.
pub record AreSequenced (p : ProgramTree) (main : Identifier) (places : List Place) : Type 0 where
  pub ordered : IsSequence p main (sites_of places)
  pub light : AreLight p main

-- some sequence has all flows
abbrev pub HasSequence : ProgramTree → Identifier → Type 0
HasSequence p main = (sequence : List Sites) × IsSequence p main sequence

-- a cycle; or, where there is a sequence, the least offset that is too wide; want of memory needs no cause
abbrev pub IsSequenceFault : ProgramTree → Identifier → CauseFault → Type 0
IsSequenceFault p main (Cycle ps) = IsCycleFromLeast p main (sites_of ps)
IsSequenceFault p main (TooWide at) = HasSequence p main × IsFirstTooWide p main at
IsSequenceFault p main Memory = Unit {0}
IsSequenceFault p main (Recursive at) = ⊥
IsSequenceFault p main (TooLarge q n) = ⊥
