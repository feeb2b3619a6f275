-- Whether two sets have a valuation in common.
use Rattle.std.specs.Prelude.{◌≡◌, Bool, true, false}
use Rattle.rv_diagram.specs.Nodes.{Valuation}

-- some valuation is in both, or none is
abbrev pub Meets : (Valuation → Bool) → (Valuation → Bool) → Type 0
Meets a b = (v : Valuation) × (a v ≡ true) × (b v ≡ true)

abbrev pub AreApart : (Valuation → Bool) → (Valuation → Bool) → Type 0
AreApart a b = (v : Valuation) → a v ≡ true → b v ≡ true → ⊥

-- which of the two it is
abbrev pub IsEither : (Valuation → Bool) → (Valuation → Bool) → Bool → Type 0
IsEither a b true = Meets a b
IsEither a b false = AreApart a b
