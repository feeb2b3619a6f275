-- Bounds of a left side, each with where rows show it.
use Rattle.std.specs.Prelude.{◌≡◌, ◌↔◌, ℕ, ℤ, ◌-ℤ◌, ◌≤ℤ◌, List, true, All}
use Rattle.std.specs.List.{Contains}
use Rattle.rv_diagram.specs.{declared.Triple.Triple, Nodes.Valuation, Nodes.IsRef, Nodes.value_of}
use Rattle.rv_rows.specs.Multipliers.{ShowsAtOnce}
use Rattle.rv_seek.specs.Least.{bounded}
use Rattle.rv_pairs.specs.{declared.hints.Hint.Hint, declared.labels.Labelled.Labelled, Labels.active}

-- Their references are those of the list.
abbrev pub AreHints : List Triple → List Hint → Type 0
AreHints nodes hints = All (λ h. IsRef nodes h.one × IsRef nodes h.other) hints

-- The hint counts at the valuation and has a bound of at most z.
pub record IsHintAt (nodes : List Triple) (v : Valuation) (z : ℤ) (h : Hint) : Type 0 where
  pub one : value_of nodes h.one v ≡ true
  pub other : value_of nodes h.other v ≡ true
  pub low : h.bound ≤ℤ z

-- One of them does.
abbrev pub IsHinted : List Triple → List Hint → Valuation → ℤ → Type 0
IsHinted nodes hints v z = (h : Hint) × Contains hints h × IsHintAt nodes v z h

-- They are what the rows that count at each valuation show at once of the left side.
abbrev pub AreHintsOf : List Triple → List Labelled → List ℤ → List Hint → Type 0
AreHintsOf nodes labels numbers hints = (v : Valuation) (z : ℤ) → ShowsAtOnce (active nodes labels v) (bounded numbers z) ↔ IsHinted nodes hints v z

-- Wherever the reference is true they show that the left side and a constant are at most z.
abbrev pub HintsHold : List Triple → ℕ → List Hint → ℤ → ℤ → Type 0
HintsHold nodes inside hints constant z = (v : Valuation) → value_of nodes inside v ≡ true → IsHinted nodes hints v (z -ℤ constant)
