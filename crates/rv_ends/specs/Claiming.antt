-- The box claim that a set of control states and two lists of limits are.
use Rattle.std.specs.Prelude.{◌≡◌, ℕ, ◌≤◌, ◌^◌, ℤ, pos, ◌-ℤ◌, List, Bool, Option, Some, slice_index_or, None as Nothing}
use Rattle.std.specs.Int.RustNames.{unsigned_abs}
use Rattle.rv_diagram.specs.Nodes.{Valuation}
use Rattle.rv_proofs.specs.Boxes.{BoxClaim}

-- the limit with a number, none past the end
abbrev pub limit_at : List (Option ℤ) → ℕ → Option ℤ
limit_at limits k = slice_index_or limits k Nothing

-- An upper limit of the opposite as a lower one.
abbrev pub turned : Option ℤ → Option ℤ
turned Nothing = Nothing
turned (Some b) = Some (pos 0 -ℤ b)

-- The claim with these control states, upper limits, and upper limits of the opposites.
abbrev pub claim_with : (Valuation → Bool) → List (Option ℤ) → List (Option ℤ) → BoxClaim
claim_with reached upper lower = record { reached = reached; lower = λ k. turned (limit_at lower k); upper = λ k. limit_at upper k }

-- No limit has a magnitude above 2^41.
abbrev pub AreSmall : List (Option ℤ) → Type 0
AreSmall limits = (k : ℕ) (b : ℤ) → limit_at limits k ≡ Some b → unsigned_abs b ≤ 2 ^ 41
