-- The texts by which documents name the diagram variables and columns of a flat system.
use Rattle.std.specs.Prelude.{ℕ, List, [], ◌++◌, map, codes, decimal, slice_get, Option, Some, None}
use Rattle.rv_flat.specs.{declared.flat.Flat.Flat, declared.parts.Bit.Bit, declared.parts.Column.Column, declared.parts.FlatInput.FlatInput}
use Rattle.rv_flat.specs.{declared.parts.Side.Side}
use Rattle.rv_flat.specs.declared.parts.Bit.TheVariants as bit
use Rattle.rv_flat.specs.declared.parts.Column.TheVariants as column
use Rattle.rv_flat.specs.declared.parts.Side.TheVariants as side
use Rattle.rv_invfile.specs.Texts.{dotted}

abbrev pub name_from : Option FlatInput → List ℕ
name_from None = []
name_from (Some i) = i.name

-- the name of the input with this number
abbrev pub name_at : List FlatInput → ℕ → List ℕ
name_at inputs j = name_from (slice_get inputs j)

abbrev pub side_text : Side → List ℕ
side_text side.AtMost = codes "le"
side_text side.AtLeast = codes "ge"

-- A variable: the tick of a clock by the place of its flow, a next copy, a bit of a memory or an input, an order test.
abbrev pub bit_text : List FlatInput → Bit → List ℕ
bit_text inputs bit.MainTick = codes "tick"
bit_text inputs (bit.Tick p) = codes "tick:" ++ dotted p.sites
bit_text inputs (bit.Kept p b) = codes "memory:" ++ (dotted p.sites ++ (codes ":" ++ decimal b))
bit_text inputs bit.Next = codes "next"
bit_text inputs (bit.Input j b) = codes "input:" ++ (name_at inputs j ++ (codes ":" ++ decimal b))
bit_text inputs (bit.Test p s) = codes "test:" ++ (dotted p.sites ++ (codes ":" ++ side_text s))

-- A column: a memory by its place, or an input by its name.
abbrev pub column_text : List FlatInput → Column → List ℕ
column_text inputs (column.Kept p) = codes "memory:" ++ dotted p.sites
column_text inputs (column.Input j) = codes "input:" ++ name_at inputs j

abbrev pub bit_texts : Flat → List (List ℕ)
bit_texts f = map (bit_text f.inputs) f.variables

abbrev pub column_texts : Flat → List (List ℕ)
column_texts f = map (column_text f.inputs) f.columns
