-- The variables and columns of a flat system, as those of its program.
use Rattle.std.specs.Prelude.{List, [], ◌∷◌}
use Rattle.rv_tree.specs.Places.{Sites}
use Rattle.rv_types.specs.Lists.{Variable, Side}
use Rattle.rv_types.specs.Lists as lists
use Rattle.rv_flat.specs.declared.parts.Bit.{Bit}
use Rattle.rv_flat.specs.declared.parts.Bit.TheVariants as bit
use Rattle.rv_flat.specs.declared.parts.Side as declared
use Rattle.rv_flat.specs.declared.parts.Side.TheVariants as side
use Rattle.rv_flat.specs.declared.parts.Column as columns
use Rattle.rv_flat.specs.declared.parts.Column.TheVariants as column

-- the flows of the ticks among some variables, the main tick's left out
abbrev pub tick_places : List Bit → List Sites
tick_places [] = []
tick_places (bit.Tick p ∷ bs) = p.sites ∷ tick_places bs
tick_places (_ ∷ bs) = tick_places bs

abbrev pub side_of : declared.Side → Side
side_of side.AtMost = lists.AtMost
side_of side.AtLeast = lists.AtLeast

abbrev pub variable_of : Bit → Variable
variable_of bit.MainTick = lists.MainTick
variable_of (bit.Tick p) = lists.Tick p.sites
variable_of (bit.Kept p b) = lists.Kept p.sites b
variable_of bit.Next = lists.Next
variable_of (bit.Input j b) = lists.Input j b
variable_of (bit.Test p s) = lists.Test p.sites (side_of s)

abbrev pub column_of : columns.Column → lists.Column
column_of (column.Kept p) = lists.KeptColumn p.sites
column_of (column.Input j) = lists.InputColumn j
