-- The parts of a term as answers to a question.
use Rattle.std.specs.Prelude.{◌≡◌, ℕ, ◌<◌, List, length, map, Some, slice_get}
use Rattle.rv_rows.specs.declared.linear.Form.{Form}
use Rattle.rv_diagram.specs.Nodes.{Valuation, Diagrams}
use Rattle.rv_terms.specs.declared.parted.Part.{Part}
use Rattle.rv_proofs.specs.Systems.{System, IsSystem, IsSameValuation}
use Rattle.rv_cases.specs.{Conditions.is_in, Conditions.AreAnswers, Questions.AreUpdateAnswers}

-- the references under which the parts hold, and their forms
abbrev pub refs_in : List Part → List ℕ
refs_in parts = map (λ p. p.under) parts

abbrev pub forms_in : List Part → List Form
forms_in parts = map (λ p. p.form) parts

-- Each valuation has exactly one part as its answer. The answer says what the memory becomes, no two answers say the same, and none
-- reads a next copy.
pub record AreChoices (s : System) (d : Diagrams) (k : ℕ) (parts : List Part) : Type 0 where
  pub answers : AreAnswers d.nodes (refs_in parts)
  pub updates : AreUpdateAnswers s d.nodes k (refs_in parts) (forms_in parts)
  pub many : length (refs_in parts) ≡ length (forms_in parts)
  pub distinct : (i j : ℕ) (f : Form) → slice_get (forms_in parts) i ≡ Some f → slice_get (forms_in parts) j ≡ Some f → i ≡ j
  pub unread : IsSystem s → (b : ℕ) (v w : Valuation) → b < length (refs_in parts) → IsSameValuation s v w
      → is_in d.nodes (refs_in parts) b v ≡ is_in d.nodes (refs_in parts) b w
