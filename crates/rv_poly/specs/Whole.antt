-- Whole points whose numbers a trace may have, and how the numbers of a column that single rows allow are found.
use Rattle.std.specs.Prelude.{◌≡◌, ℕ, ◌<◌, ◌^◌, ℤ, pos, ◌-ℤ◌, ◌*ℤ◌, ◌≤ℤ◌, ◌<ℤ◌, List, length, All, slice_index_or}
use Rattle.rv_rows.specs.{declared.linear.Row.Row, Rows.coefficient, Forms.number}
use Rattle.rv_poly.specs.{Points.HasPoint, declared.spans.Span.Span}

-- The number is one that a value of a trace may have: from -2^63 to 2^63 - 1.
pub record IsInReplay (z : ℤ) : Type 0 where
  pub low : (pos 0 -ℤ pos (2 ^ 63)) ≤ℤ z
  pub high : z <ℤ pos (2 ^ 63)

-- At most one of the numbers is not 0.
abbrev pub IsSingle : List ℤ → Type 0
IsSingle cs = (i j : ℕ) → (number i cs ≡ pos 0 → ⊥) → (number j cs ≡ pos 0 → ⊥) → i ≡ j

-- Of the old span the new one has exactly the numbers that, times `by`, are at most `rest`.
pub record IsSpanCut (by rest : ℤ) (old new : Span) : Type 0 where
  pub low : old.low ≤ℤ new.low
  pub high : new.high ≤ℤ old.high
  pub sound : (x : ℤ) → new.low ≤ℤ x → x ≤ℤ new.high → (by *ℤ x) ≤ℤ rest
  pub kept : (x : ℤ) → old.low ≤ℤ x → x ≤ℤ old.high → (by *ℤ x) ≤ℤ rest → (new.low ≤ℤ x) × (x ≤ℤ new.high)

-- The span is narrowed; where the row has a coefficient other than 0 at column k, and no other, to exactly the numbers that it allows.
pub record IsNarrowed (k : ℕ) (r : Row) (old new : Span) : Type 0 where
  pub low : old.low ≤ℤ new.low
  pub high : new.high ≤ℤ old.high
  pub sound : IsSingle r.coefficients → (coefficient k r ≡ pos 0 → ⊥) → (x : ℤ) → new.low ≤ℤ x → x ≤ℤ new.high → (coefficient k r *ℤ x) ≤ℤ r.bound
  pub kept : IsSingle r.coefficients → (x : ℤ) → old.low ≤ℤ x → x ≤ℤ old.high → ((coefficient k r ≡ pos 0 → ⊥) → (coefficient k r *ℤ x) ≤ℤ r.bound)
      → (new.low ≤ℤ x) × (x ≤ℤ new.high)

-- So it is by the first n rows, from the range of a trace.
pub record IsSpanOf (k : ℕ) (rows : List Row) (n : ℕ) (new : Span) : Type 0 where
  pub low : (pos 0 -ℤ pos (2 ^ 63)) ≤ℤ new.low
  pub high : new.high <ℤ pos (2 ^ 63)
  pub sound : (i : ℕ) (d : Row) → i < n → i < length rows → IsSingle (slice_index_or rows i d).coefficients
      → (coefficient k (slice_index_or rows i d) ≡ pos 0 → ⊥)
      → (x : ℤ) → new.low ≤ℤ x → x ≤ℤ new.high → (coefficient k (slice_index_or rows i d) *ℤ x) ≤ℤ (slice_index_or rows i d).bound
  pub kept : All (λ r. IsSingle r.coefficients) rows → (x : ℤ) → IsInReplay x
      → ((i : ℕ) (d : Row) → i < length rows → (coefficient k (slice_index_or rows i d) ≡ pos 0 → ⊥)
      → (coefficient k (slice_index_or rows i d) *ℤ x) ≤ℤ (slice_index_or rows i d).bound)
      → (new.low ≤ℤ x) × (x ≤ℤ new.high)

-- The first n numbers of a point are in the range of a trace. Where each row has at most one coefficient other than 0, and some point whose
-- numbers are in that range meets all rows, each row with its coefficient at one of the columns allows the number there.
pub record IsCandidate (rows : List Row) (n : ℕ) (point : List ℤ) : Type 0 where
  pub size : length point ≡ n
  pub replay : All IsInReplay point
  pub allowed : All (λ r. IsSingle r.coefficients) rows → (other : List ℤ) → All IsInReplay other → HasPoint rows other
      → (i : ℕ) (d : Row) (k : ℕ) → i < length rows → k < n → (coefficient k (slice_index_or rows i d) ≡ pos 0 → ⊥)
      → (coefficient k (slice_index_or rows i d) *ℤ number k point) ≤ℤ (slice_index_or rows i d).bound
