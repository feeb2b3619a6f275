-- Rows that can be premises.
use Rattle.std.specs.Prelude.{ℕ, ◌<◌, ◌≤◌, ◌^◌, List, All, length}
use Rattle.std.specs.Int.RustNames.{unsigned_abs}
use Rattle.rv_rows.specs.declared.linear.Row.{Row}
use Rattle.rv_proofs.specs.Boxes.{HasUnit}
use Rattle.rv_cover.specs.{declared.frame.By.By, declared.frame.By.TheVariants.Boxes, declared.frame.By.TheVariants.Rows}
use Rattle.rv_boxes.specs.{declared.ends.End.End, Ends.AreEnds, Boxed.ArePremises, Boxed.IsUncrossed}

-- The row can be a premise over so many columns.
pub record IsPremise (columns : ℕ) (r : Row) : Type 0 where
  pub wide : length r.coefficients ≤ columns
  pub bound : unsigned_abs r.bound ≤ 2 ^ 60
  pub sizes : All (λ c. unsigned_abs c ≤ 2 ^ 41) r.coefficients
  pub one : HasUnit r

-- The ends of the box of premises, which is not empty.
pub record AreOpenEnds (rows : List Row) (ends : List End) : Type 0 where
  pub premises : ArePremises (length ends) rows
  pub ends_are : AreEnds rows (length ends) ends
  pub uncrossed : IsUncrossed rows ends (length ends)
  pub few : length ends < 256

-- Boxes have fewer than 256 columns.
abbrev pub IsNarrow : By → Type 0
IsNarrow (Boxes columns) = columns < 256
IsNarrow Rows = Unit {0}
