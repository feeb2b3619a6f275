-- Control values bit by bit: a list of references, of which the first is the least significant bit. Past the end stands the
-- constant false.
use Rattle.std.specs.Prelude.{◌≡◌, ℕ, zero, suc, ◌+◌, Bool, true, not, ◌&&◌, cond, nat_eq, nat_le, List, [], ◌∷◌}
use Rattle.std.specs.Int.{bit_at}
use Rattle.rv_diagram.specs.{declared.Triple.Triple, Nodes.Valuation, Nodes.Diagrams, Nodes.IsRef, Nodes.value_of, Several.ref_at}
use Rattle.rv_diagram.specs.Growing.{Extends}
use Rattle.rv_symbolic.specs.{Growing.Makes, Linked.AreRefs}

-- a bit of what some references spell
abbrev pub bit : List Triple → List ℕ → Valuation → ℕ → Bool
bit nodes refs v b = value_of nodes (ref_at refs b) v

-- a bit of a number
abbrev pub bit_of : ℕ → ℕ → Bool
bit_of l b = nat_eq (bit_at l b) 1

-- The calls gave references whose bits have these meanings.
pub record Spells (old new : Diagrams) (meaning : ℕ → Valuation → Bool) (refs : List ℕ) : Type 0 where
  pub extends : Extends old new
  pub found : AreRefs new.nodes refs
  pub means : (b : ℕ) (v : Valuation) → bit new.nodes refs v b ≡ meaning b v

-- both are true, or both are false
abbrev pub is_same : Bool → Bool → Bool
is_same a b = cond a b (not b)

-- the first bits, as many as are said, are the same
abbrev pub are_same : ℕ → (ℕ → Bool) → (ℕ → Bool) → Bool
are_same zero f g = true
are_same (suc n) f g = are_same n f g && is_same (f n) (g n)

-- how many of the first bits are true
abbrev pub count_true : ℕ → (ℕ → Bool) → ℕ
count_true zero f = 0
count_true (suc n) f = count_true n f + cond (f n) 1 0

-- What has been counted: whether no reference is true, and whether one at the most is.
pub record AreCounted (old new : Diagrams) (count : Valuation → ℕ) (none most : ℕ) : Type 0 where
  pub extends : Extends old new
  pub none_found : IsRef new.nodes none
  pub most_found : IsRef new.nodes most
  pub none_means : (v : Valuation) → value_of new.nodes none v ≡ nat_eq (count v) 0
  pub most_means : (v : Valuation) → value_of new.nodes most v ≡ nat_le (count v) 1

-- The calls gave one reference alone, with this meaning.
pub record IsSingle (old new : Diagrams) (meaning : Valuation → Bool) (refs : List ℕ) : Type 0 where
  pub one : ℕ
  pub made : Makes old new meaning one
  pub is : refs ≡ one ∷ []
