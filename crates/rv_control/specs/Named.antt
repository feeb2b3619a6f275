-- A valuation by the numbers of the diagram variables is one by their names, and back.
use Rattle.std.specs.Prelude.{suc, Bool, true, false, ◌&&◌, cond, nat_eq, List, [], ◌∷◌, map, Option, Some, slice_index_or, None as Nothing}
use Rattle.rv_tree.specs.Places.{Sites}
use Rattle.rv_types.specs.Lists.{Side, AtMost, AtLeast, Variable, MainTick, Tick, Kept, Next, Input, Test}
use Rattle.rv_diagram.specs.Nodes.{Valuation as Numbered}
use Rattle.rv_agreement.specs.{Checks.same_sites, Valuations.Valuation}
use Rattle.rv_flat.specs.{declared.flat.Flat.Flat, Lists.variable_of}

-- the diagram variables of a flat system, in order
abbrev pub variables_of : Flat → List Variable
variables_of f = map variable_of f.variables

abbrev pub same_side : Side → Side → Bool
same_side AtMost AtMost = true
same_side AtMost AtLeast = false
same_side AtLeast AtMost = false
same_side AtLeast AtLeast = true

-- two variables with one name; a next copy has none
abbrev pub same_variable : Variable → Variable → Bool
same_variable MainTick MainTick = true
same_variable (Tick p) (Tick q) = same_sites p q
same_variable (Kept p a) (Kept q b) = same_sites p q && nat_eq a b
same_variable (Input j a) (Input k b) = nat_eq j k && nat_eq a b
same_variable (Test p s) (Test q t) = same_sites p q && same_side s t
same_variable _ _ = false

-- The truth of the first variable of this name; false where there is none.
unfoldable pub truth_at : List Variable → Numbered → Variable → Bool
truth_at [] v x = false
truth_at (y ∷ ys) v x = cond (same_variable y x) (v 0) (truth_at ys (λ k. v (suc k)) x)

-- the tick of a clock by the place of its flow, none for main's
abbrev pub tick_variable : Option Sites → Variable
tick_variable Nothing = MainTick
tick_variable (Some p) = Tick p

-- The valuation by names that a valuation by numbers is, where the variables stand in this order.
abbrev pub by_names : List Variable → Numbered → Valuation
by_names names v = record {
  ticked = λ t. truth_at names v (tick_variable t);
  kept = λ p b. truth_at names v (Kept p b);
  input = λ j b. truth_at names v (Input j b);
  test = λ p side. truth_at names v (Test p side);
}

-- what a valuation by names says of a variable; a next copy is false
abbrev pub truth_of : Valuation → Variable → Bool
truth_of w MainTick = w.ticked Nothing
truth_of w (Tick p) = w.ticked (Some p)
truth_of w (Kept p b) = w.kept p b
truth_of w Next = false
truth_of w (Input j b) = w.input j b
truth_of w (Test p side) = w.test p side

-- The valuation by numbers that a valuation by names is.
abbrev pub by_numbers : List Variable → Valuation → Numbered
by_numbers names w k = truth_of w (slice_index_or names k Next)

-- the same over the variables of a flat system
abbrev pub named : Flat → Numbered → Valuation
named f v = by_names (variables_of f) v

abbrev pub numbered : Flat → Valuation → Numbered
numbered f w = by_numbers (variables_of f) w
