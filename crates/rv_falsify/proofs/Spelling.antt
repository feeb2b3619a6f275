-- The values that are read from words are those that their valuations spell.
use Rattle.std.proofs.Common.{◌≡◌, inl, inr, ℕ, zero, suc, ◌+◌, ◌*◌, ◌<◌, ℤ, pos, Bool, false, cond, List, [], ◌∷◌, ◌++◌, length, map, drop, refl, sym, ◌∙◌, ap}
use Rattle.std.proofs.Common.{arith}
use Rattle.std.proofs.{Math.Nat.eq-or-lt_of_le, lemmas.List.ext_get_or, lemmas.List.get_or_push, lemmas.List.get_or_append_left, lemmas.List.length-map}
use Rattle.std.specs.Prelude.{slice_index_or}
use Rattle.rv_base.specs.{declared.value.Value.Value, declared.value.Value.TheVariants.Flag, declared.value.Value.TheVariants.Label}
use Rattle.rv_tree.specs.{Tree.ProgramTree, Places.Identifier}
use Rattle.rv_types.specs.{declared.typed.Kind.Kind, Variables.is_integer, Variables.bits_for}
use Rattle.rv_types.specs.declared.typed.Kind.TheVariants as kind
use Rattle.rv_rows.specs.Forms as forms
use Rattle.rv_agreement.specs.{Trees.kind_at, Agreement.bit_count, Valuations.whole_count}
use Rattle.rv_diagram.specs.Nodes.{valuation_of}
use Rattle.rv_flat.specs.Steps.{label_counts, memory_kinds, input_kinds}
use Rattle.rv_flat.specs.{declared.flat.Flat.Flat, declared.parts.FlatMemory.FlatMemory, FlatInstants.memory_places, FlatOf.IsFlatOf}
use Rattle.rv_control.specs.{Named.named, Spelled.value_at, Spelled.rest_of, Spelled.decoded, Spelled.spelled_starts, Spelled.spelled_inputs}
use Rattle.rv_control.proofs.{Alike.code_same, Decoded.length-decoded, Decoded.decoded_at}
use Rattle.rv_falsify.specs.Decoding.{bits_before, bit_behind, bits_along}
use Rattle.rv_falsify.proofs.Placed.{kept_placed, given_placed}

-- The bits behind a position are those behind an earlier one.
pub along_same : (word : List Bool) (at first step before : ℕ) → at ≡ first + step * before → (b : ℕ)
    → bit_behind word at step b ≡ bit_behind word first step (before + b)
along_same word at first step before is b = ap (λ n. slice_index_or word n false) (let e : at + step * b ≡ first + step * (before + b) = omega (arith, is) in e)

-- one value more
pub each_more : (values : List Value) (v : Value) (n : ℕ) (g : ℕ → Value) (new : List Value) → new ≡ values ++ v ∷ [] → length values ≡ n → v ≡ g n
    → ((m : ℕ) → m < n → slice_index_or values m (Flag false) ≡ g m) → (m : ℕ) → m < n + 1 → slice_index_or new m (Flag false) ≡ g m
each_more values v n g new is size here before m lt =
    ap (λ l. slice_index_or l m (Flag false)) is
    ∙ elim (eq-or-lt_of_le {n = m} {m = n} (omega arith)) [
      | inl same ↦ get_or_push values v (Flag false) m (size ∙ sym same) ∙ here ∙ ap g (sym same)
      | inr below ↦ get_or_append_left values (v ∷ []) (Flag false) m (omega (arith, size, below)) ∙ before m below
    ]

-- values go by their own bits alone
value_same : (labels : List ℕ) (k : Kind) (f g : ℕ → Bool) (z : ℤ) → ((b : ℕ) → b < bit_count labels k → f b ≡ g b)
    → value_at labels k f z ≡ value_at labels k g z
value_same labels kind.Bool f g z same = ap Flag (same 0 (omega arith))
value_same labels kind.Int f g z same = refl
value_same labels (kind.Labels i) f g z same = ap Label (code_same (bits_for (slice_index_or labels i 0)) f g same)

decoded_same : (labels : List ℕ) (ks : List Kind) (f g : ℕ → ℕ → Bool) (xs : List ℤ)
    → ((m b : ℕ) → m < length ks → b < bit_count labels (kind_at ks m) → f m b ≡ g m b) → decoded labels ks f xs ≡ decoded labels ks g xs
unfolding decoded
decoded_same labels [] f g xs same = refl
decoded_same labels (k ∷ ks) f g xs same =
    let here = value_same labels k (f 0) (g 0) (forms.number 0 xs) (λ b lt. same 0 b (omega arith) lt) in
    let later = decoded_same labels ks (λ m. f (suc m)) (λ m. g (suc m)) (cond (is_integer k) (rest_of xs) xs)
    (λ m b lt less. same (suc m) b (omega (arith, lt)) less) in
    λ i. here i ∷ later i

-- values one by one, where all numbers are 0
pub decoded_all : (labels : List ℕ) (ks : List Kind) (bits : ℕ → ℕ → Bool) (values : List Value) → length values ≡ length ks
    → ((m : ℕ) → m < length ks → slice_index_or values m (Flag false) ≡ value_at labels (kind_at ks m) (bits m) (pos 0))
    → values ≡ decoded labels ks bits []
decoded_all labels ks bits values size each =
    let long = length-decoded labels ks bits [] in
    ext_get_or (Flag false) values (decoded labels ks bits []) (size ∙ sym long)
    (λ m lt. let less : m < length ks = omega (arith, lt, size) in each m less ∙ sym (decoded_at labels ks bits [] m less))

pub drop_none : (n : ℕ) → drop {A = ℤ} n [] ≡ []
drop_none zero = refl
drop_none (suc n) = refl

module _ (program : ProgramTree) (main : Identifier) (f : Flat) (flat : IsFlatOf program main f) where
  abbrev labels : List ℕ
  labels = label_counts f

  pub starts_spelled : (word : List Bool) → decoded (label_counts f) (memory_kinds f)
      (bits_along (label_counts f) (memory_kinds f) word (2 * (1 + length f.tick_flows)) 2) []
      ≡ spelled_starts f (valuation_of word) []
  starts_spelled word =
      let many = length-map f.memories (λ (m : FlatMemory). m.kind) in
      decoded_same labels (memory_kinds f) (bits_along labels (memory_kinds f) word (2 * (1 + length f.tick_flows)) 2)
      (λ m. (named f (valuation_of word)).kept (slice_index_or (memory_places f) m [])) []
      (λ m b lt less. sym (kept_placed program main f flat (valuation_of word) m b (omega (arith, many, lt)) less))

  pub inputs_spelled : (word : List Bool) → decoded (label_counts f) (input_kinds f)
      (bits_along (label_counts f) (input_kinds f) word
      (2 * (1 + length f.tick_flows) + 2 * bits_before (label_counts f) (memory_kinds f) (length (memory_kinds f))) 1) []
      ≡ spelled_inputs f (valuation_of word) []
  inputs_spelled word =
      decoded_same labels (input_kinds f)
      (bits_along labels (input_kinds f) word (2 * (1 + length f.tick_flows) + 2 * bits_before labels (memory_kinds f) (length (memory_kinds f))) 1)
      (named f (valuation_of word)).input []
      (λ j b lt less. sym (given_placed program main f flat (valuation_of word) j b lt less))
      ∙ ap (decoded labels (input_kinds f) (named f (valuation_of word)).input) (sym (drop_none (whole_count (memory_kinds f))))

  pub all_inputs_spelled : (words : List (List Bool)) → map (λ word. decoded (label_counts f) (input_kinds f)
      (bits_along (label_counts f) (input_kinds f) word
      (2 * (1 + length f.tick_flows) + 2 * bits_before (label_counts f) (memory_kinds f) (length (memory_kinds f))) 1) []) words
      ≡ map (λ word. spelled_inputs f (valuation_of word) []) words
  all_inputs_spelled words = λ i. map (λ word. inputs_spelled word i) words
