-- Where a row claim takes a valuation, in a store.
use Rattle.std.specs.Prelude.{◌≡◌, ◌↔◌, ℕ, List, true}
use Rattle.rv_diagram.specs.{declared.Triple.Triple, Nodes.Valuation, Nodes.IsRef, Nodes.value_of}
use Rattle.rv_proofs.specs.{Systems.System, RowClaims.RowClaim, RowClaims.IsRowTaken, RowClaims.premises_at}
use Rattle.rv_pairs.specs.{declared.labels.Labelled.Labelled, Labels.active}

-- At each valuation the rows that count are the claim's premises.
abbrev pub ArePremises : System → List Triple → RowClaim → List Labelled → Type 0
ArePremises s nodes c labels = (v : Valuation) → active nodes labels v ≡ premises_at s c v

-- The reference is true exactly where the claim takes the valuation.
pub record IsTakenAt (s : System) (nodes : List Triple) (c : RowClaim) (r : ℕ) : Type 0 where
  pub found : IsRef nodes r
  pub exact : (v : Valuation) → (value_of nodes r v ≡ true) ↔ IsRowTaken s c v
