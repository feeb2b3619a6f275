-- What the variables become in one step, in a store.
use Rattle.std.specs.Prelude.{◌≡◌, ℕ, ◌*◌, ◌<◌, ◌&&◌, true, List, length}
use Rattle.rv_diagram.specs.Nodes.{Valuation, Diagrams, IsRef, IsOrderedOver, value_of}
use Rattle.rv_diagram.specs.{Several.ref_at, Several.replaced, Several.UsesNeeded, declared.frozen.Frozen.Frozen}
use Rattle.rv_diagram.specs.Growing.{Extends}
use Rattle.rv_walk.specs.Ends.{has}

-- The calls gave what a variable becomes: where `within` is true, state bit i has the value of its reference.
pub record IsBecome (old new : Diagrams) (next : List ℕ) (within x r : ℕ) : Type 0 where
  pub found : IsRef new.nodes r
  pub bit : (i : ℕ) → x ≡ 2 * i → i < length next → (v : Valuation) → value_of old.nodes within v ≡ true
      → value_of new.nodes r v ≡ value_of old.nodes (ref_at next i) v

-- The same for all variables below a number.
pub record AreBecoming (old new : Diagrams) (next : List ℕ) (within x : ℕ) (by : List ℕ) : Type 0 where
  pub extends : Extends old new
  pub size : length by ≡ x
  pub found : (y : ℕ) → IsRef new.nodes (ref_at by y)
  pub bits : (i : ℕ) → 2 * i < x → i < length next → (v : Valuation) → value_of old.nodes within v ≡ true
      → value_of new.nodes (ref_at by (2 * i)) v ≡ value_of old.nodes (ref_at next i) v

-- The diagram is true where `within` is and the target is true of what the variables become, and reads no more than it needs.
pub record IsConditionOf (d : Diagrams) (within target : ℕ) (by : List ℕ) (f : Frozen) : Type 0 where
  pub ordered : IsOrderedOver d.variables f
  pub means : (v : Valuation) → has f v ≡ (value_of d.nodes within v && replaced d.nodes target by v)
  pub needed : UsesNeeded f.nodes (λ v. value_of d.nodes within v && replaced d.nodes target by v)
