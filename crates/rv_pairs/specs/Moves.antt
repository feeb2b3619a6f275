-- A left side that is moved by the updates of a valuation.
use Rattle.std.specs.Prelude.{◌≡◌, ℕ, ◌<◌, ℤ, List, map, length, take, true}
use Rattle.rv_diagram.specs.{declared.Triple.Triple, Nodes.Valuation, Nodes.value_of}
use Rattle.rv_rows.specs.{declared.linear.Row.Row, declared.linear.Form.Form, Rows.dot, Forms.number, Forms.IsSubstituted, Multipliers.ShowsAtOnce}
use Rattle.rv_seek.specs.Least.{bounded}
use Rattle.rv_proofs.specs.Systems.{System, updates_of}
use Rattle.rv_cases.specs.{Conditions.is_in}
use Rattle.rv_pairs.specs.{declared.labels.Labelled.Labelled, Labels.active}

-- The form is the sum of the first memories' updates, each times its number.
pub record IsMoved (s : System) (v : Valuation) (numbers : List ℤ) (f : Form) : Type 0 where
  pub width : length f.coefficients ≡ s.columns
  pub coefficients : (k : ℕ) → number k f.coefficients ≡ dot numbers (map (λ g. number k g.coefficients) (updates_of s v))
  pub constant : f.constant ≡ dot numbers (map (λ g. g.constant) (updates_of s v))

-- Where the reference is true the form is that sum for the first n memories.
abbrev pub IsMovedIn : System → List Triple → ℕ → List ℤ → ℕ → Form → Type 0
IsMovedIn s nodes inside numbers n f = (v : Valuation) → value_of nodes inside v ≡ true → IsMoved s v (take n numbers) f

-- Where both references are true the rows that count show, after the updates, the left side with this bound at once.
abbrev pub HoldsAfter : System → List Triple → List Labelled → ℕ → ℕ → List ℤ → ℤ → Type 0
HoldsAfter s nodes labels taken path numbers z = (v : Valuation) → value_of nodes taken v ≡ true → value_of nodes path v ≡ true
    → (new : Row) × IsSubstituted (bounded numbers z) (updates_of s v) new × ShowsAtOnce (active nodes labels v) new

-- The same where one of the first n answers of a memory is given.
abbrev pub HoldsAmong : System → List Triple → List Labelled → ℕ → ℕ → List ℤ → List ℕ → ℕ → ℤ → Type 0
HoldsAmong s nodes labels taken path numbers answers n z = (i : ℕ) → i < n → (v : Valuation) → value_of nodes taken v ≡ true
    → value_of nodes path v ≡ true → is_in nodes answers i v ≡ true
    → (new : Row) × IsSubstituted (bounded numbers z) (updates_of s v) new × ShowsAtOnce (active nodes labels v) new

-- Where the reference is true the rows that count show, after the updates, the left side with this bound at once.
abbrev pub HoldsWhere : System → List Triple → List Labelled → ℕ → List ℤ → ℤ → Type 0
HoldsWhere s nodes labels taken numbers z = (v : Valuation) → value_of nodes taken v ≡ true
    → (new : Row) × IsSubstituted (bounded numbers z) (updates_of s v) new × ShowsAtOnce (active nodes labels v) new
