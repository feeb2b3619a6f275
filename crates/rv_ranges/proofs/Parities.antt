-- State bits and next copies by halves.
use Rattle.std.proofs.Common.{◌≡◌, ◌≢◌, ℕ, ◌/◌, ◌%◌, ◌<◌, ◌≤◌, ◌⊎◌, inl, inr, arith}
use Rattle.std.proofs.lemmas.Bool.{cases_lt}
use Rattle.rv_ranges.specs.Documents.{IsStateBit, IsNoCopy}

pub state_bit : (x k : ℕ) → x % 2 ≡ 0 → x / 2 < k → IsStateBit k x
state_bit x k even less = record { number = x / 2; known = less; twice = omega arith }

pub half_of_state : (x k : ℕ) → IsStateBit k x → x / 2 < k
half_of_state x k h = let l = h.known in let e = h.twice in omega arith

pub no_copy : (x k : ℕ) → k ≤ x / 2 → IsNoCopy k x
no_copy x k more = record { none = λ i less is. omega arith }

pub half_of_no_copy : (x k : ℕ) → x % 2 ≢ 0 → IsNoCopy k x → k ≤ x / 2
half_of_no_copy x k odd h = go (cases_lt (x / 2) k)
  where
    go : (x / 2 < k) ⊎ (k ≤ x / 2) → k ≤ x / 2
    go (inl less) = absurd (h.none (x / 2) less (omega arith))
    go (inr more) = more
