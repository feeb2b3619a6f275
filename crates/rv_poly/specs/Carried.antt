-- Rows of a list that are taken over into another, each as a row that is to it as some relation says.
use Rattle.std.specs.Prelude.{◌≡◌, ◌⊎◌, ℕ, ◌<◌, ◌≤◌, List, [], ◌∷◌, ◌++◌, length, All, slice_index_or}
use Rattle.std.specs.List.{Contains}
use Rattle.rv_rows.specs.{declared.linear.Row.Row, Tight.Fits}

-- A row within the limits of a kept row is added, which is to the given one as the relation says.
pub record IsCarried (like : Row → Row → Type 0) (r : Row) (old new : List Row) : Type 0 where
  pub row : Row
  pub carried : like r row
  pub fits : Fits row
  pub new_is : new ≡ old ++ row ∷ []

-- That is so, or the row cannot be taken over and nothing is added.
abbrev pub IsCarriedAdded : (Row → Type 0) → (Row → Row → Type 0) → Row → List Row → List Row → Type 0
IsCarriedAdded can like r old new = IsCarried like r old new ⊎ ((¬ can r) × (new ≡ old))

-- Of the first n rows those that can be are taken over, and each row that is there is to one of the rows as the relation says.
pub record AreCarried (can : Row → Type 0) (like : Row → Row → Type 0) (old : List Row) (n : ℕ) (new : List Row) : Type 0 where
  pub few : length new ≤ n
  pub fits : All Fits new
  pub from : All (λ s. (r : Row) × Contains old r × like r s) new
  pub kept : (i : ℕ) (d : Row) → i < n → i < length old → can (slice_index_or old i d)
      → (s : Row) × Contains new s × like (slice_index_or old i d) s
