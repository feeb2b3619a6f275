-- What is so throughout a set of valuations.
use Rattle.std.specs.Prelude.{◌≡◌, ℕ, ◌+◌, ◌<◌, ◌⊎◌, Bool, true, List, [], ◌∷◌, ◌++◌, length, Some, slice_get, None as Nothing}
use Rattle.std.specs.List.{Contains}
use Rattle.rv_diagram.specs.Nodes.{Valuation}
use Rattle.rv_rows.specs.{declared.linear.Row.Row, declared.linear.Form.Form}
use Rattle.rv_proofs.specs.Systems.{System, updates_among}

-- Of the first n tests these, in rising order, are present throughout the set, with these rows in the same order, and every other
-- one is absent throughout it.
pub record AreTold (s : System) (inside : Valuation → Bool) (n : ℕ) (tests : List ℕ) (rows : List Row) : Type 0 where
  pub known : (i t : ℕ) → slice_get tests i ≡ Some t → t < n
  pub rising : (i j t u : ℕ) → i < j → slice_get tests i ≡ Some t → slice_get tests j ≡ Some u → t < u
  pub counts : length rows ≡ length tests
  pub present : (i t : ℕ) (r : Row) (v : Valuation) → slice_get tests i ≡ Some t → slice_get rows i ≡ Some r → inside v ≡ true → s.row v t ≡ Some r
  pub absent : (t : ℕ) → t < n → Contains tests t ⊎ ((v : Valuation) → inside v ≡ true → s.row v t ≡ Nothing)

-- Throughout the set the first n integer memories become these forms.
abbrev pub AreUpdated : System → (Valuation → Bool) → ℕ → List Form → Type 0
AreUpdated s inside n updates = (v : Valuation) → inside v ≡ true → updates_among s v n ≡ updates

-- Throughout the set the observer has this truth value.
abbrev pub IsObserved : System → (Valuation → Bool) → Bool → Type 0
IsObserved s inside good = (v : Valuation) → inside v ≡ true → s.observer v ≡ good

-- The answer with this number to the question of test t has been noted: nothing where it is absence, else the test and its row.
abbrev pub IsNoted : ℕ → ℕ → List Row → List ℕ → List Row → List ℕ → List Row → Type 0
IsNoted t place known tests rows more_tests more_rows = ((place ≡ 0) × (more_tests ≡ tests) × (more_rows ≡ rows))
    ⊎ ((i : ℕ) × (r : Row) × (place ≡ i + 1) × (slice_get known i ≡ Some r) × (more_tests ≡ tests ++ t ∷ []) × (more_rows ≡ rows ++ r ∷ []))
