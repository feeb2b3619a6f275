-- Sums over a node and all that it calls, by the numbers of nodes.
use Rattle.std.specs.Prelude.{◌≡◌, ℕ, zero, suc, ◌+◌, ◌<◌, ◌≤◌, min, List, [], length, slice_index_or}
use Rattle.rv_base.specs.Limits.{heaviest}
use Rattle.rv_calls.specs.declared.calls.Calling.{Calling}
use Rattle.rv_types.specs.Variables.{total}

-- the sum of what nodes have of their own, over a node and what its calls give, down to a number of levels
abbrev pub total_at : List ℕ → List (List Calling) → ℕ → ℕ → ℕ
total_at own t zero k = 0
total_at own t (suc levels) k = slice_index_or own k 0 + total (λ c. total_at own t levels c.callee) (slice_index_or t k [])

-- Each node has its sum, or 2^40 where that is less.
pub record AreTotals (own : List ℕ) (t : List (List Calling)) (totals : List ℕ) : Type 0 where
  pub size : length totals ≡ length t
  pub value : (k : ℕ) → k < length t → slice_index_or totals k 0 ≡ min (total_at own t (length t) k) heaviest

-- no number is above 2^40
abbrev pub AreCapped : List ℕ → Type 0
AreCapped xs = (k : ℕ) → k < length xs → slice_index_or xs k 0 ≤ heaviest

-- the sum of what calls have
abbrev pub called_total : List ℕ → List Calling → ℕ
called_total totals cs = total (λ c. slice_index_or totals c.callee 0) cs

-- What holds while sums are taken in order: those of the first nodes are there, at every number of levels that is
-- enough for them.
pub record AreSummed (own : List ℕ) (t : List (List Calling)) (order : List ℕ) (done : ℕ) (totals : List ℕ) : Type 0 where
  pub size : length totals ≡ length t
  pub capped : AreCapped totals
  pub value : (j levels : ℕ) → j < done → j < length order → j < levels
      → slice_index_or totals (slice_index_or order j 0) 0 ≡ min (total_at own t levels (slice_index_or order j 0)) heaviest
