-- How large a program may be: its instances, the expressions and memories of all of them, its inputs, its enumerations, and
-- the variables of its decision diagrams.
use Rattle.std.specs.Prelude.{◌≡◌, ◌⊎◌, ℕ, ◌<◌, ◌≤◌, min, cond, nat_lt, List, [], ◌∷◌, map}
use Rattle.rv_base.specs.Limits.{heaviest}
use Rattle.rv_tree.specs.{Tree.ProgramTree, Places.Identifier}
use Rattle.rv_types.specs.{Values.label_count, Instances.node_of, Variables.over_instances, Variables.variable_count}
use Rattle.rv_calls.specs.declared.fault.Quantity.{Quantity}
use Rattle.rv_calls.specs.declared.fault.Quantity.TheVariants as quantity
use Rattle.rv_instances.specs.Counts.{integer_memories, integer_inputs, instance_count, expanded}

-- the first of some numbers that is above a limit, 0 where none is
abbrev pub first_above : ℕ → List ℕ → ℕ
first_above limit [] = 0
first_above limit (k ∷ ks) = cond (nat_lt limit k) k (first_above limit ks)

-- a quantity, with its number and the limit of that
pub record Measure : Type 0 where
  pub quantity : Quantity
  pub number : ℕ
  pub limit : ℕ

-- The quantities in order. Of the enumerations the first that is too large counts.
abbrev pub measures : ProgramTree → Identifier → List Measure
measures p main =
    record { quantity = quantity.Instances; number = instance_count p main; limit = 4000 }
    ∷ record { quantity = quantity.Expanded; number = expanded p main; limit = 200000 }
    ∷ record { quantity = quantity.Memories; number = over_instances p main (integer_memories p); limit = 64 }
    ∷ record { quantity = quantity.Inputs; number = integer_inputs p (node_of p main); limit = 64 }
    ∷ record { quantity = quantity.Labels; number = first_above 256 (map label_count p.types); limit = 256 }
    ∷ record { quantity = quantity.Variables; number = variable_count p main; limit = 4096 }
    ∷ []

-- each is within its limit
abbrev pub AreWithin : List Measure → Type 0
AreWithin [] = Unit {0}
AreWithin (m ∷ ms) = (m.number ≤ m.limit) × AreWithin ms

-- The first that is above its limit, with the lesser of its number and 2^40.
abbrev pub IsFirstAbove : List Measure → Quantity → ℕ → Type 0
IsFirstAbove [] q n = ⊥
IsFirstAbove (m ∷ ms) q n = ((m.limit < m.number) × (q ≡ m.quantity) × (n ≡ min m.number heaviest))
    ⊎ ((m.number ≤ m.limit) × IsFirstAbove ms q n)
