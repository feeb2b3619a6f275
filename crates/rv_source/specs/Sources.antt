-- Which bytes are a source that is accepted with a main node, and why others are refused.
use Rattle.std.specs.Prelude.{◌≡◌, ◌⊎◌, ℕ, List, Result, Ok, Err}
use Rattle.rv_tree.specs.{Tree.ProgramTree, Tree.program_tree, Places.Identifier}
use Rattle.rv_syntax.specs.{ProgramText.IsTextOf, Faults.IsFault, declared.fault.TextFault.TextFault}
use Rattle.rv_syntax.specs.declared.fault.TextFault.TheVariants as text
use Rattle.rv_types.specs.{declared.fault.NameFault.NameFault, declared.typed.Typed.Typed, Settled.IsSettled, Settled.IsFirstFault}
use Rattle.rv_types.specs.declared.fault.NameFault.TheVariants as name
use Rattle.rv_calls.specs.declared.fault.CauseFault.{CauseFault}
use Rattle.rv_calls.specs.declared.fault.CauseFault.TheVariants as cause
use Rattle.rv_instances.specs.{declared.source.Source.Source, Fitting.Fits}
use Rattle.rv_source.specs.declared.fault.SourceFault.{SourceFault}
use Rattle.rv_source.specs.declared.fault.SourceFault.TheVariants.{Text, Names, Cause, Memory}
use Rattle.rv_causality.specs.Causes.{IsAccepted, IsOrder, IsCause, Matches}

-- The bytes are the text of a program that is settled with this main node, and that is accepted.
pub record IsSource (bytes : List ℕ) (main : Identifier) (p : ProgramTree) (t : Typed) : Type 0 where
  pub text : IsTextOf bytes p
  pub settled : IsSettled p main t
  pub accepted : IsAccepted p main

-- What is answered of it: its tree, what is known of its names, types and clocks, and an order of evaluation.
pub record IsSourceOf (bytes : List ℕ) (main : Identifier) (s : Source) : Type 0 where
  pub text : IsTextOf bytes (program_tree s.program)
  pub settled : IsSettled (program_tree s.program) main s.typed
  pub ordered : IsOrder (program_tree s.program) main s.order
  pub fits : Fits (program_tree s.program) s.typed s.order

-- Why bytes are refused: for the fault of their first offending token; or, where they have a tree, for its first fault of
-- names, types and clocks; or, where it has none, for its first of recursion, sizes, cycles and weights.
abbrev pub IsSourceFault : List ℕ → Identifier → SourceFault → Type 0
IsSourceFault bytes main (Text f) = IsFault bytes f
IsSourceFault bytes main (Names f) = (p : ProgramTree) × IsTextOf bytes p × IsFirstFault p main f
IsSourceFault bytes main (Cause f) = (p : ProgramTree) × (t : Typed) × IsTextOf bytes p × IsSettled p main t × IsCause p main f
IsSourceFault bytes main Memory = ⊥

-- the cause of an `Err`; want of memory needs none
abbrev pub HasSourceCause : List ℕ → Identifier → SourceFault → Type 0
HasSourceCause bytes main Memory = Unit {0}
HasSourceCause bytes main (Text f) = IsSourceFault bytes main (Text f)
HasSourceCause bytes main (Names f) = IsSourceFault bytes main (Names f)
HasSourceCause bytes main (Cause f) = IsSourceFault bytes main (Cause f)

-- the same fault, or both a cycle
abbrev pub AreSame : SourceFault → SourceFault → Type 0
AreSame (Cause f) (Cause g) = Matches f g
AreSame f g = f ≡ g

-- a source is answered, unless memory ran out
abbrev pub Accepts : Result Source SourceFault → Type 0
Accepts (Ok s) = Unit {0}
Accepts (Err f) = f ≡ Memory

-- this fault, or another cycle, is answered, unless memory ran out
abbrev pub RefusesSource : SourceFault → Result Source SourceFault → Type 0
RefusesSource f (Ok s) = ⊥
RefusesSource f (Err g) = (g ≡ Memory) ⊎ AreSame f g

-- how the faults of the three parts are told; want of memory refuses nothing
abbrev pub text_refusal : TextFault → SourceFault
text_refusal text.Memory = Memory
text_refusal (text.BadText at) = Text (text.BadText at)
text_refusal (text.LeftOut at) = Text (text.LeftOut at)
text_refusal (text.TooDeep at) = Text (text.TooDeep at)

abbrev pub name_refusal : NameFault → SourceFault
name_refusal name.Memory = Memory
name_refusal name.NoNode = Names name.NoNode
name_refusal (name.UnknownName at) = Names (name.UnknownName at)
name_refusal (name.DefinedTwice at) = Names (name.DefinedTwice at)
name_refusal (name.Undefined at) = Names (name.Undefined at)
name_refusal (name.TypeClash at) = Names (name.TypeClash at)
name_refusal (name.Nonlinear at) = Names (name.Nonlinear at)
name_refusal (name.ClockClash at) = Names (name.ClockClash at)
name_refusal (name.NotObserver at) = Names (name.NotObserver at)

abbrev pub cause_refusal : CauseFault → SourceFault
cause_refusal cause.Memory = Memory
cause_refusal (cause.Recursive at) = Cause (cause.Recursive at)
cause_refusal (cause.Cycle ps) = Cause (cause.Cycle ps)
cause_refusal (cause.TooLarge q n) = Cause (cause.TooLarge q n)
cause_refusal (cause.TooWide at) = Cause (cause.TooWide at)
