-- What a reference means that calls of a store gave.
use Rattle.std.specs.Prelude.{◌≡◌, ℕ, ◌↔◌, Bool, true}
use Rattle.rv_diagram.specs.Nodes.{Valuation, Diagrams, IsRef, value_of}
use Rattle.rv_diagram.specs.Growing.{Extends}

-- The calls gave r, which has this meaning.
pub record Makes (old new : Diagrams) (meaning : Valuation → Bool) (r : ℕ) : Type 0 where
  pub extends : Extends old new
  pub found : IsRef new.nodes r
  pub means : (v : Valuation) → value_of new.nodes r v ≡ meaning v

-- The calls gave r, which is true exactly where this holds.
pub record Finds (old new : Diagrams) (holds : Valuation → Type 0) (r : ℕ) : Type 0 where
  pub extends : Extends old new
  pub found : IsRef new.nodes r
  pub exact : (v : Valuation) → (value_of new.nodes r v ≡ true) ↔ holds v
