-- The references of diagram variables by name, in lists.
use Rattle.std.specs.Prelude.{◌≡◌, ℕ, ◌<◌, List, [], ◌∷◌, length, Option, Some, slice_index_or, None as Nothing}
use Rattle.rv_tree.specs.Places.{Sites}
use Rattle.rv_types.specs.{declared.typed.Kind.Kind, Lists.Variable, Lists.Kept}
use Rattle.rv_diagram.specs.{declared.Triple.Triple, Nodes.Valuation, Nodes.Diagrams, Nodes.value_of, Several.ref_at}
use Rattle.rv_diagram.specs.Growing.{Extends}
use Rattle.rv_agreement.specs.Agreement.{bit_count}
use Rattle.rv_flat.specs.{declared.flat.Flat.Flat, FlatInstants.memory_places, declared.parts.Bit.Bit}
use Rattle.rv_flat.specs.declared.parts.Bit.TheVariants as variant
use Rattle.rv_control.specs.Named.{truth_at, tick_variable}
use Rattle.rv_symbolic.specs.Linked.{AreRefs}
use Rattle.rv_bits.specs.{Bits.bit, Shown.refs_at}

-- the tick that a variable is, by the place of its clock's flow; the main tick is no such variable
abbrev pub ticks_in : Bit → List (Option Sites)
ticks_in (variant.Tick p) = Some p.sites ∷ []
ticks_in _ = []

-- The calls gave a reference for each of these ticks.
pub record AreTickRefs (names : List Variable) (old new : Diagrams) (ticks : List (Option Sites)) (refs : List ℕ) : Type 0 where
  pub extends : Extends old new
  pub size : length refs ≡ length ticks
  pub found : AreRefs new.nodes refs
  pub means : (k : ℕ) (v : Valuation) → k < length ticks → value_of new.nodes (ref_at refs k) v ≡ truth_at names v
      (tick_variable (slice_index_or ticks k Nothing))

-- The references are those of the first bits of a memory or input, as many as are said.
pub record AreBits (nodes : List Triple) (names : List Variable) (owned : ℕ → Variable) (count : ℕ) (refs : List ℕ) : Type 0 where
  pub size : length refs ≡ count
  pub found : AreRefs nodes refs
  pub means : (b : ℕ) (v : Valuation) → b < count → bit nodes refs v b ≡ truth_at names v (owned b)

-- The lists are those of the first memories or inputs, as many as are said.
pub record AreBitLists (labels : List ℕ) (names : List Variable) (owned : ℕ → ℕ → Variable) (kinds : ℕ → Kind) (old new : Diagrams) (n : ℕ)
    (lists : List (List ℕ)) : Type 0 where
  pub extends : Extends old new
  pub size : length lists ≡ n
  pub each : (m : ℕ) → m < n → AreBits new.nodes names (owned m) (bit_count labels (kinds m)) (refs_at lists m)

-- a bit of a memory
abbrev pub memory_bit : Flat → ℕ → ℕ → Variable
memory_bit f m b = Kept (slice_index_or (memory_places f) m []) b

-- The lists are those of the first memories or inputs, as many as are said, in this store.
abbrev pub AreAllBits : List ℕ → List Variable → (ℕ → ℕ → Variable) → (ℕ → Kind) → List Triple → ℕ → List (List ℕ) → Type 0
AreAllBits labels names owned kinds nodes n lists = (m : ℕ) → m < n → AreBits nodes names (owned m) (bit_count labels (kinds m)) (refs_at lists m)
