-- Where the next control state is in a set, in a store.
use Rattle.std.specs.Prelude.{◌≡◌, ℕ, ◌*◌, ◌<◌, List, length}
use Rattle.rv_diagram.specs.Nodes.{Valuation, Diagrams, IsRef, value_of}
use Rattle.rv_diagram.specs.{Several.ref_at, declared.frozen.Frozen.Frozen}

-- what each variable becomes
abbrev pub become : Diagrams → List ℕ → Valuation → Valuation
become d by v x = value_of d.nodes (ref_at by x) v

-- The reference is true where the set is true of what the variables become, and state bit i becomes its reference.
pub record IsLedBy (old new : Diagrams) (next : List ℕ) (to : Frozen) (r : ℕ) : Type 0 where
  pub by : List ℕ
  pub bits : (i : ℕ) → i < length next → ref_at by (2 * i) ≡ ref_at next i
  pub found : IsRef new.nodes r
  pub means : (v : Valuation) → value_of new.nodes r v ≡ value_of to.nodes to.root (become old by v)
