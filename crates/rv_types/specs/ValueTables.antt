-- What constants and labels stand for, by tables.
use Rattle.std.specs.Prelude.{ℕ, ◌≤◌, Bool, true, false, List, nat_abs, Option, Some, None as Nothing}
use Rattle.rv_base.specs.{declared.value.Value.Value, Limits.too_heavy}
use Rattle.rv_base.specs.declared.value.Value.TheVariants as value
use Rattle.rv_tree.specs.{declared.tree.Name.Name, Places.Identifier}
use Rattle.rv_types.specs.{declared.view.Label.Label, Constants.whole_in, Constants.none_true, Constants.at_most_one, Tables.entry_in}

-- as what any larger weight counts
abbrev pub cap : ℕ
cap = too_heavy

abbrev pub value_of_label : Option Label → Value
value_of_label Nothing = value.Flag false
value_of_label (Some l) = value.Label l.number

-- the value of a constant where there is one of the name so far, otherwise that of a label
abbrev pub value_or : Option Value → Value → Value
value_or Nothing label = label
value_or (Some v) label = v

abbrev pub known_in : List Name → List Value → List Name → List Label → Identifier → Value
known_in constants values labels places x = value_or (entry_in constants values x) (value_of_label (entry_in labels places x))

-- The tables of constants with their values and of labels.
pub record NamedTables : Type 0 where
  pub constants : List Name
  pub values : List Value
  pub labels : List Name
  pub places : List Label

-- what a name stands for by them
abbrev pub value_by : NamedTables → Identifier → Value
value_by t = known_in t.constants t.values t.labels t.places

-- integers count to 2^40 + 1 at most
abbrev pub AreSmall : (Identifier → Value) → Type 0
AreSmall known = (x : Identifier) → nat_abs (whole_in (known x)) ≤ too_heavy

-- whether at most one flag is true, where one before them is or none
abbrev pub at_most_after : Bool → List Bool → Bool
at_most_after true bs = none_true bs
at_most_after false bs = at_most_one bs
