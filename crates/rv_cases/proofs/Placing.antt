-- The one answer that a condition has is that of a sample of it.
use Rattle.std.proofs.Common.{ℕ, ◌<◌, ◌≡◌, true, List, length, arith}
use Rattle.rv_diagram.specs.{declared.Triple.Triple, Nodes.Valuation}
use Rattle.rv_cases.specs.Conditions.{is_in, AreAnswers}

-- a valuation has an answer
pub not_none : (nodes : List Triple) (answers : List ℕ) (v : Valuation) (n : ℕ) → AreAnswers nodes answers → length answers ≡ n
    → ((k : ℕ) → k < n → is_in nodes answers k v ≡ true → ⊥) → ⊥
not_none nodes answers v n a e none = let (i, low, on) = a.covered v in none i (omega arith) on
