-- What is read of the state bits after the instant.
use Rattle.std.specs.Prelude.{◌≡◌, ℕ, ◌*◌, ◌<◌, List, length, Option, slice_index_or}
use Rattle.rv_tree.specs.Places.{Sites, index_of}
use Rattle.rv_types.specs.{declared.typed.Kind.Kind, Lists.Variable, Lists.Next}
use Rattle.rv_types.specs.declared.typed.Kind.TheVariants as kind
use Rattle.rv_diagram.specs.{declared.Triple.Triple, Nodes.Valuation, Nodes.Diagrams, Nodes.IsRef, Nodes.value_of, Several.ref_at}
use Rattle.rv_diagram.specs.Growing.{Extends}
use Rattle.rv_agreement.specs.Valuations.{Reading, IsSymbolic, next_tick, updated}
use Rattle.rv_control.specs.{Control.bit_of, Control.next_truth, Named.named, Named.variables_of}
use Rattle.rv_flat.specs.{declared.flat.Flat.Flat, declared.parts.Bit.Bit, FlatInstants.memory_places, FlatInstants.system_of}
use Rattle.rv_flat.specs.declared.parts.Bit.TheVariants as variant

-- the variable with a number
abbrev pub variable_at : Flat → ℕ → Variable
variable_at f x = slice_index_or (variables_of f) x Next

-- whether a variable is a next copy, as a number
abbrev pub copies_in : Bit → ℕ
copies_in variant.Next = 1
copies_in _ = 0

-- a bit of a value of a type, by the references of its bits; a form has none
abbrev pub kept_ref : Kind → List ℕ → ℕ → ℕ
kept_ref kind.Bool refs b = ref_at refs 0
kept_ref kind.Int refs b = 0
kept_ref (kind.Labels i) refs b = ref_at refs b

-- The reference tells whether the clock of a tick has been there after the instant.
pub record IsTickRead (f : Flat) (old new : Diagrams) (k : ℕ) (r : ℕ) : Type 0 where
  pub extends : Extends old new
  pub is_ref : IsRef new.nodes r
  pub means : (v : Valuation) (row : List (Option Reading)) → IsSymbolic (system_of f) (named f v) row
      → value_of new.nodes r v ≡ next_tick (system_of f) (named f v) row k

-- The reference is a bit of what the memory at a place holds after the instant.
pub record IsKeptBit (f : Flat) (nodes : List Triple) (p : Sites) (b : ℕ) (r : ℕ) : Type 0 where
  pub is_ref : IsRef nodes r
  pub means : (v : Valuation) (row : List (Option Reading)) → IsSymbolic (system_of f) (named f v) row
      → value_of nodes r v ≡ bit_of (updated (system_of f) (named f v) row (index_of (memory_places f) p)) b

-- The reference is what a state bit is after the instant.
pub record IsNextRead (f : Flat) (old new : Diagrams) (x : Variable) (r : ℕ) : Type 0 where
  pub extends : Extends old new
  pub is_ref : IsRef new.nodes r
  pub means : (v : Valuation) (row : List (Option Reading)) → IsSymbolic (system_of f) (named f v) row
      → value_of new.nodes r v ≡ next_truth (system_of f) (named f v) row x

-- The references are what the first state bits are after the instant, as many as are said.
pub record AreNextRead (f : Flat) (old new : Diagrams) (n : ℕ) (refs : List ℕ) : Type 0 where
  pub extends : Extends old new
  pub size : length refs ≡ n
  pub each : (i : ℕ) → i < n → (v : Valuation) (row : List (Option Reading)) → IsSymbolic (system_of f) (named f v) row
      → value_of new.nodes (ref_at refs i) v ≡ next_truth (system_of f) (named f v) row (variable_at f (2 * i))
  pub are_refs : (i : ℕ) → i < n → IsRef new.nodes (ref_at refs i)
