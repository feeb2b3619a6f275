-- Places of premises in a certificate, where each test has a number, whether it is present or not.
use Rattle.std.specs.Prelude.{◌≡◌, ℕ, zero, suc, ◌+◌, ◌<◌, ◌≤◌, pos, List, [], ◌∷◌, ◌++◌, length, Option, Some, slice_get, None as Nothing}
use Rattle.rv_diagram.specs.Nodes.{Valuation}
use Rattle.rv_rows.specs.{declared.linear.Row.Row, declared.farkas.Multipliers.Multipliers}
use Rattle.rv_seek.specs.Pairs.{PairShows, unit_at}
use Rattle.rv_proofs.specs.Systems.{System}

-- The number of a place, where the premises are given rows and then those of the tests that are present, in a list of the given rows
-- and then one for each of `many` tests. What is past the end of the one is past the end of the other.
pub record IsPlaced (given many : ℕ) (tests : List ℕ) (p q : ℕ) : Type 0 where
  pub given_row : p < given → q ≡ p
  pub test_row : (i t : ℕ) → p ≡ given + i → slice_get tests i ≡ Some t → q ≡ given + t
  pub past : given + length tests ≤ p → q ≡ given + many

-- The multipliers of a pair of places: the weight 1 on what has their numbers.
pub record IsPlacedPair (given many : ℕ) (tests : List ℕ) (i j : ℕ) (m : Multipliers) : Type 0 where
  pub first : ℕ
  pub second : ℕ
  pub is_first : IsPlaced given many tests i first
  pub is_second : IsPlaced given many tests j second
  pub is : m ≡ record { divisor = pos 1; weights = unit_at (given + many) first ++ unit_at (given + many) second }

-- the row of a test, and `0 <= 0` where it is absent
abbrev pub row_or_none : Option Row → Row
row_or_none Nothing = record { coefficients = []; bound = pos 0 }
row_or_none (Some r) = r

-- the rows of the first n tests, one for each
abbrev pub told_among : System → Valuation → ℕ → List Row
told_among s v zero = []
told_among s v (suc n) = told_among s v n ++ row_or_none (s.row v n) ∷ []

-- One row for each test of a valuation, `0 <= 0` for one that is absent.
abbrev pub told_of : System → Valuation → List Row
told_of s v = told_among s v s.tests

-- The multipliers are those of a pair of places of the premises that shows the row at once.
pub record IsPairOf (given many : ℕ) (tests : List ℕ) (premises : List Row) (r : Row) (m : Multipliers) : Type 0 where
  pub first : ℕ
  pub second : ℕ
  pub order : first < second
  pub shows : PairShows premises r first second
  pub placed : IsPlacedPair given many tests first second m
