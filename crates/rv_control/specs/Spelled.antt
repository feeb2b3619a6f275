-- The start values and inputs that valuations and points spell, and the run of a program from them.
use Rattle.std.specs.Prelude.{◌≡◌, ℕ, suc, ◌<◌, ℤ, Bool, cond, List, [], ◌∷◌, map, drop, slice_index_or}
use Rattle.rv_base.specs.declared.value.Value.{Value}
use Rattle.rv_base.specs.declared.value.Value.TheVariants.{Flag, Label, Whole}
use Rattle.rv_tree.specs.{Tree.ProgramTree, Places.Identifier, Places.Sites}
use Rattle.rv_types.specs.{declared.typed.Kind.Kind, Variables.is_integer, Variables.bits_for}
use Rattle.rv_types.specs.declared.typed.Kind.TheVariants as kind
use Rattle.rv_meaning.specs.{Codes.code, Runs.History, Runs.IsRun}
use Rattle.rv_rows.specs.Forms as forms
use Rattle.rv_agreement.specs.Valuations.{whole_count}
use Rattle.rv_diagram.specs.Nodes.{Valuation as Numbered}
use Rattle.rv_flat.specs.{declared.flat.Flat.Flat, FlatInstants.memory_places, FlatOf.flat_inputs, Steps.label_counts, Steps.memory_kinds, Steps.input_kinds}
use Rattle.rv_control.specs.{Named.named, Meets.IsAbstractOf}

-- the value of a type: what bits spell, or a number
abbrev pub value_at : List ℕ → Kind → (ℕ → Bool) → ℤ → Value
value_at labels kind.Bool bits z = Flag (bits 0)
value_at labels kind.Int bits z = Whole z
value_at labels (kind.Labels i) bits z = Label (code (bits_for (slice_index_or labels i 0)) bits)

-- some numbers without the first
abbrev pub rest_of : List ℤ → List ℤ
rest_of [] = []
rest_of (x ∷ xs) = xs

-- Values of types, one for each: a control value from its own bits, and the integers in order from a list.
unfoldable pub decoded : List ℕ → List Kind → (ℕ → ℕ → Bool) → List ℤ → List Value
decoded labels [] bits xs = []
decoded labels (k ∷ ks) bits xs =
    value_at labels k (bits 0) (forms.number 0 xs) ∷ decoded labels ks (λ m. bits (suc m)) (cond (is_integer k) (rest_of xs) xs)

module _ (f : Flat) (v : Numbered) (point : List ℤ) where
  -- What the memories hold, in the order of their places: what the bits of each spell, and the first numbers of the point.
  abbrev pub spelled_starts : List Value
  spelled_starts = decoded (label_counts f) (memory_kinds f) (λ m. (named f v).kept (slice_index_or (memory_places f) m [])) point

  -- What the inputs are, in order: what the bits of each spell, and the numbers of the point after those of the memories.
  abbrev pub spelled_inputs : List Value
  spelled_inputs = decoded (label_counts f) (input_kinds f) (named f v).input (drop (whole_count (memory_kinds f)) point)

-- The run of the program that an abstract run of n instants is: it starts with what the first valuation and point spell, and has at
-- each instant the inputs that those of the instant spell.
pub record HasSpelledRun (program : ProgramTree) (main : Identifier) (f : Flat) (n : ℕ) (vs : ℕ → Numbered) (points : ℕ → List ℤ) : Type 0 where
  pub starts : Sites → Value
  pub inputs : ℕ → ℕ → Value
  pub history : History
  pub run : IsRun program main starts inputs n history
  pub meets : IsAbstractOf program main f starts n history vs points
  pub started : map starts (memory_places f) ≡ spelled_starts f (vs 0) (points 0)
  pub fed : (t : ℕ) → t < n → flat_inputs f (inputs t) ≡ spelled_inputs f (vs t) (points t)
