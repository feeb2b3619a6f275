-- Pairs of places in a list of premises, where a place past the end stands for no premise, and the ranges of the
-- multipliers that are given.
use Rattle.std.specs.Prelude.{◌≡◌, ℕ, ◌<◌, ◌≤◌, ◌^◌, pos, ◌+ℤ◌, ◌≤ℤ◌, List, [], ◌∷◌, length, All, nat_lt, slice_index_or, if◌then◌else◌}
use Rattle.rv_rows.specs.{declared.linear.Row.Row, declared.farkas.Weight.Weight, declared.farkas.Multipliers.Multipliers, Rows.coefficient, Rows.row_at}

-- The left sides at the two places sum to the wanted one, and their bounds to at most its bound.
pub record PairShows (rows : List Row) (wanted : Row) (i j : ℕ) : Type 0 where
  pub sides : (k : ℕ) → coefficient k wanted ≡ coefficient k (row_at rows i) +ℤ coefficient k (row_at rows j)
  pub bounds : ((row_at rows i).bound +ℤ (row_at rows j).bound) ≤ℤ wanted.bound

-- A weight is from 1 to 2^41 and stands on a premise that is there.
pub record WeightInRange (premises : ℕ) (w : Weight) : Type 0 where
  pub positive : pos 1 ≤ℤ w.by
  pub most : w.by ≤ℤ pos (2 ^ 41)
  pub premise : w.premise < premises

-- Each weight stands on a later premise than the one before it.
abbrev pub IsRising : List Weight → Type 0
IsRising ws = (i j : ℕ) (d : Weight) → i < j → j < length ws → (slice_index_or ws i d).premise < (slice_index_or ws j d).premise

-- The ranges of multipliers as a document writes them: a divisor from 1 to 2^30, at most 256 weights in their
-- range, and premises that rise.
pub record HasRanges (premises : ℕ) (m : Multipliers) : Type 0 where
  pub positive : pos 1 ≤ℤ m.divisor
  pub divisor : m.divisor ≤ℤ pos (2 ^ 30)
  pub most : length m.weights ≤ 256
  pub weights : All (WeightInRange premises) m.weights
  pub rising : IsRising m.weights

-- The weight 1 on the premise at a place, and no weight past the end.
abbrev pub unit_at : ℕ → ℕ → List Weight
unit_at n i = if nat_lt i n then (record { premise = i; by = pos 1 } ∷ []) else []
