-- The least of some thresholds that is not below a value.
use Rattle.std.specs.{Prelude.ℤ, Prelude.◌≤ℤ◌, Prelude.◌<ℤ◌, Prelude.List, Prelude.Option, Prelude.IfSome, Prelude.IfNone, List.Contains}

-- The least of the thresholds that is not below the value, or none where all are below it.
pub record IsLeastAbove (thresholds : List ℤ) (x : ℤ) (bound : Option ℤ) : Type 0 where
  pub some : IfSome bound (λ b. Contains thresholds b × (x ≤ℤ b) × ((t : ℤ) → Contains thresholds t → x ≤ℤ t → b ≤ℤ t))
  pub none : IfNone bound ((t : ℤ) → Contains thresholds t → t <ℤ x)
