-- The variables of a system by their numbers: state bit i is variable 2 i, and its next copy is variable 2 i + 1.
use Rattle.std.specs.Prelude.{◌≡◌, ℕ, ◌*◌, ◌%◌, ◌<◌, ◌≤◌, Bool, false, not, ◌&&◌, ◌==◌, nat_lt}
use Rattle.rv_diagram.specs.Nodes.{Valuation}

-- whether x is one of the first n variables 2 i + p
abbrev pub is_of : ℕ → ℕ → ℕ → Bool
is_of n p x = nat_lt x (2 * n) && (x % 2 == p)

-- The given variables are those below m, except for the first n variables 2 i + p.
pub record AreAllBut (m n p : ℕ) (given : Valuation) : Type 0 where
  pub within : (x : ℕ) → x < m → given x ≡ not (is_of n p x)
  pub past : (x : ℕ) → m ≤ x → given x ≡ false
