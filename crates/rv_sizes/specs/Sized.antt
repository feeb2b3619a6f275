-- A program whose quantities are within their limits, and one of which a quantity is not.
use Rattle.std.specs.Prelude.{◌≡◌, ◌≤◌, ℕ, map}
use Rattle.rv_tree.specs.{Tree.ProgramTree, Places.Identifier}
use Rattle.rv_calls.specs.declared.fault.CauseFault.{CauseFault}
use Rattle.rv_calls.specs.declared.fault.CauseFault.TheVariants.{Recursive, Cycle, TooLarge, TooWide, Memory}
use Rattle.rv_instances.specs.Counts.{instance_count, expanded, integer_memories, integer_inputs}
use Rattle.rv_sizes.specs.Sizes.{first_above, measures, IsFirstAbove}
use Rattle.rv_types.specs.{Variables.over_instances, Variables.variable_count, Values.label_count, Instances.node_of}

-- The program has no more instances and expressions than it may, and so many expressions.
pub record IsSmall (p : ProgramTree) (main : Identifier) (count : ℕ) : Type 0 where
  pub instances : instance_count p main ≤ 4000
  pub expressions : expanded p main ≤ 200000
  pub counted : count ≡ expanded p main

-- It is small, and has no more integer memories, integer inputs, labels and variables than it may.
pub record IsSized (p : ProgramTree) (main : Identifier) (count : ℕ) : Type 0 where
  pub small : IsSmall p main count
  pub memories : over_instances p main (integer_memories p) ≤ 64
  pub inputs : integer_inputs p (node_of p main) ≤ 64
  pub labels : first_above 256 (map label_count p.types) ≤ 256
  pub variables : variable_count p main ≤ 4096

-- a quantity that is too large is the first; want of memory needs no cause
abbrev pub IsSizeFault : ProgramTree → Identifier → CauseFault → Type 0
IsSizeFault p main (TooLarge q n) = IsFirstAbove (measures p main) q n
IsSizeFault p main Memory = Unit {0}
IsSizeFault p main (Recursive at) = ⊥
IsSizeFault p main (Cycle ps) = ⊥
IsSizeFault p main (TooWide at) = ⊥
