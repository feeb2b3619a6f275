-- What a reference is true of, and the least word of which something is so.
use Rattle.std.specs.Prelude.{◌≡◌, ℕ, ◌<◌, ◌↔◌, true, List, Bool, length}
use Rattle.rv_diagram.specs.Nodes.{Valuation, Diagrams, IsRef, value_of, valuation_of, ComesBefore}
use Rattle.rv_diagram.specs.{Several.ref_at, declared.frozen.Frozen.Frozen}

-- r is a reference that is true exactly where this holds
pub record IsTrueOf (d : Diagrams) (holds : Valuation → Type 0) (r : ℕ) : Type 0 where
  pub found : IsRef d.nodes r
  pub exact : (v : Valuation) → (value_of d.nodes r v ≡ true) ↔ holds v

-- whether a valuation is in a set
abbrev pub has : Frozen → Valuation → Bool
has f v = value_of f.nodes f.root v

-- each is a reference of the list of nodes
abbrev pub AreRefs : Diagrams → List ℕ → Type 0
AreRefs d refs = (i : ℕ) → i < length refs → IsRef d.nodes (ref_at refs i)

-- Of the words of which something is so, this is the least.
pub record IsLeastWord (so : List Bool → Type 0) (word : List Bool) : Type 0 where
  pub is_so : so word
  pub least : (other : List Bool) → so other → ¬ ComesBefore (valuation_of other) (valuation_of word)
