-- How a list of cases grows by the case of a reference.
use Rattle.std.specs.Prelude.{◌≡◌, ◌⊎◌, ℕ, Bool, true, false, not, ◌&&◌, List, [], ◌∷◌, ◌++◌}
use Rattle.rv_diagram.specs.{Nodes.Valuation, Nodes.Diagrams, Nodes.value_of, Nodes.IsOrderedOver, Several.UsesNeeded, declared.frozen.Frozen.Frozen}
use Rattle.rv_proofs.specs.declared.report.Case.{Case}
use Rattle.rv_symbolic.specs.declared.relation.Parts.{Parts}

-- The case has the meaning of the reference, which is true somewhere, as its condition, and no test, row or update.
pub record IsCaseFor (d : Diagrams) (condition : ℕ) (observer : Bool) (c : Case) : Type 0 where
  pub ordered : IsOrderedOver d.variables c.condition
  pub means : (v : Valuation) → value_of c.condition.nodes c.condition.root v ≡ value_of d.nodes condition v
  pub needed : UsesNeeded c.condition.nodes (value_of d.nodes condition)
  pub some : (v : Valuation) × (value_of d.nodes condition v ≡ true)
  pub tests : c.tests ≡ []
  pub rows : c.rows ≡ []
  pub updates : c.updates ≡ []
  pub observed : c.observer ≡ observer

-- The case of the reference has been added, or no valuation makes it true.
abbrev pub IsAdded : Diagrams → ℕ → Bool → List Case → List Case → Type 0
IsAdded d condition observer before after =
    (((v : Valuation) → value_of d.nodes condition v ≡ false) × (after ≡ before))
    ⊎ ((c : Case) × IsCaseFor d condition observer c × (after ≡ before ++ c ∷ []))

-- The cases are those of two references: the allowed valuations of the set at which the observer is true, and the others.
pub record HasSides (old : Diagrams) (p : Parts) (from : Frozen) (cases : List Case) : Type 0 where
  pub new : Diagrams
  pub variables : new.variables ≡ old.variables
  pub good : ℕ
  pub bad : ℕ
  pub first : List Case
  pub good_means : (v : Valuation) → value_of new.nodes good v
      ≡ ((value_of old.nodes p.allowed v && value_of from.nodes from.root v) && value_of old.nodes p.observer v)
  pub bad_means : (v : Valuation) → value_of new.nodes bad v
      ≡ ((value_of old.nodes p.allowed v && value_of from.nodes from.root v) && not (value_of old.nodes p.observer v))
  pub good_added : IsAdded new good true [] first
  pub bad_added : IsAdded new bad false first cases
