-- The least bound that a pair of places shows.
use Rattle.std.specs.Prelude.{◌≡◌, ◌≢◌, ◌⊎◌, ℕ, ◌<◌, ℤ, pos, ◌+ℤ◌, ◌-ℤ◌, ◌*ℤ◌, ◌≤ℤ◌, List, length, ◌≤◌, Option, IfSome, IsSomeAnd}
use Rattle.rv_rows.specs.{declared.linear.Row.Row, declared.linear.Form.Form, declared.farkas.Multipliers.Multipliers}
use Rattle.rv_rows.specs.{Rows.coefficient, Rows.row_at, Forms.number, Multipliers.weighted}
use Rattle.rv_seek.specs.{declared.least.Best.Best, Pairs.PairShows}

-- The row with these coefficients and this bound.
abbrev pub bounded : List ℤ → ℤ → Row
bounded cs bound = record { coefficients = cs; bound = bound }

-- The row that says that a form is at most a bound.
abbrev pub at_most : Form → ℤ → Row
at_most form bound = bounded form.coefficients (bound -ℤ form.constant)

-- The bound of the form is no looser than what its multipliers prove: the divisor times the bound, less the form's constant, is at most the
-- weighted sum of the premises' bounds.
abbrev pub IsNoLooser : List Row → Form → ℤ → Multipliers → Type 0
IsNoLooser rows form bound m = (m.divisor *ℤ (bound -ℤ form.constant)) ≤ℤ weighted (λ r. r.bound) rows m.weights

-- The left sides at the two places, the first before the second, sum to the wanted one, and their bounds to the
-- bound.
pub record PairSums (rows : List Row) (cs : List ℤ) (b : Best) : Type 0 where
  pub order : b.first < b.second
  pub sides : (k : ℕ) → number k cs ≡ coefficient k (row_at rows b.first) +ℤ coefficient k (row_at rows b.second)
  pub bound : b.bound ≡ (row_at rows b.first).bound +ℤ (row_at rows b.second).bound

-- `best` is a pair whose left sides sum to the wanted one, and no pair of places below n has a lesser sum of bounds.
pub record IsLeast (rows : List Row) (cs : List ℤ) (n : ℕ) (best : Option Best) : Type 0 where
  pub shown : IfSome best (PairSums rows cs)
  pub least : (i j : ℕ) → i < j → j < n → (bound : ℤ) → PairShows rows (bounded cs bound) i j → IsSomeAnd best (λ b. b.bound ≤ℤ bound)

-- No pair of the place and another one below n has a lesser sum of bounds.
abbrev pub IsLeastAt : List Row → List ℤ → ℕ → Option Best → ℕ → Type 0
IsLeastAt rows cs n best place = (i : ℕ) → i < n → i ≢ place → (bound : ℤ) → PairShows rows (bounded cs bound) place i → IsSomeAnd best (λ b. b.bound ≤ℤ bound)

-- The left side at the place is 0 in the column; where there is no column, none is aside.
abbrev pub IsAside : List Row → Option ℕ → ℕ → Type 0
IsAside rows pivot place = IsSomeAnd pivot (λ k. coefficient k (row_at rows place) ≡ pos 0)

-- The place is aside, or no pair of it and another one below n has a lesser sum of bounds.
abbrev pub IsPassed : List Row → List ℤ → ℕ → Option ℕ → Option Best → ℕ → Type 0
IsPassed rows cs n pivot best place = IsAside rows pivot place ⊎ IsLeastAt rows cs n best place

-- one of the two places
abbrev pub HasPlace : ℕ → Best → Type 0
HasPlace place b = (b.first ≡ place) ⊎ (b.second ≡ place)

-- `best` is a pair whose left sides sum to the wanted one, one of whose places is below `first`, and no pair of a place below `first` and
-- another one below n has a lesser sum of bounds.
pub record IsLeastAmong (rows : List Row) (cs : List ℤ) (n first : ℕ) (best : Option Best) : Type 0 where
  pub shown : IfSome best (PairSums rows cs)
  pub among : IfSome best (λ b. b.first < first)
  pub least : (i : ℕ) → i < first → IsLeastAt rows cs n best i

-- `best` is a pair with a place past the end whose left sides sum to the wanted one, and no single row with that left side has a lesser
-- bound.
pub record IsAlone (rows : List Row) (cs : List ℤ) (best : Option Best) : Type 0 where
  pub shown : IfSome best (PairSums rows cs)
  pub past : IfSome best (λ b. length rows ≤ b.second)
  pub least : (i : ℕ) → i < length rows → ((k : ℕ) → number k cs ≡ coefficient k (row_at rows i)) → IsSomeAnd best (λ b. b.bound ≤ℤ (row_at rows i).bound)
