-- What is shown at a valuation, and a limit under way.
use Rattle.std.specs.Prelude.{◌<◌, ◌≤◌, ◌^◌, List, length, All}
use Rattle.std.specs.Int.RustNames.{unsigned_abs}
use Rattle.rv_diagram.specs.{declared.Triple.Triple, Nodes.IsRef}
use Rattle.rv_rows.specs.{Rows.RowWithin, Forms.FormWithin}
use Rattle.rv_cases.specs.Conditions.{AreRefs}
use Rattle.rv_refine.specs.{declared.bounding.Told.Told, declared.bounding.Shown.Shown, declared.bounding.Turn.Turn}

-- The rows can be premises, and the form can be bounded by them.
pub record IsTold (t : Told) : Type 0 where
  pub rows : All (RowWithin (2 ^ 60)) t.rows
  pub few : length t.rows < 2 ^ 32
  pub form : FormWithin (2 ^ 78) t.form

-- The answers are references of the list.
abbrev pub IsShown : List Triple → Shown → Type 0
IsShown nodes shown = AreRefs nodes shown.answers.items

-- The limit is small, and what is left is a reference of the list.
pub record IsTurn (nodes : List Triple) (t : Turn) : Type 0 where
  pub held : unsigned_abs t.held ≤ 2 ^ 41
  pub left : IsRef nodes t.left
