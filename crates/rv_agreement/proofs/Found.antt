-- What an instant finds is what a valuation spells and what the columns have at the point.
use Rattle.std.proofs.Common.{◌≡◌, ℕ, zero, suc, ◌+◌, ◌<◌, ℤ, pos, Bool, true, false, cond, List, [], ◌∷◌, length, get_or, refl, sym, ◌∙◌, ap, subst, arith}
use Rattle.std.proofs.lemmas.List.{length-map, get_or_append_left, get_or-append-add}
use Rattle.std.specs.Prelude.{slice_index_or}
use Rattle.rv_base.specs.declared.value.Value.{Value}
use Rattle.rv_base.specs.declared.value.Value.TheVariants.{Flag, Label, Whole}
use Rattle.rv_types.specs.{declared.typed.Kind.Kind, Variables.is_integer}
use Rattle.rv_types.specs.declared.typed.Kind.TheVariants as kind
use Rattle.rv_meaning.specs.Meaning.{number}
use Rattle.rv_rows.specs.{declared.linear.Form.Form, Arithmetic.column_form}
use Rattle.rv_rows.specs.Forms as forms
use Rattle.rv_agreement.specs.Trees.{System, memory_kinds, kind_at}
use Rattle.rv_agreement.specs.Valuations.{Valuation, at_point, whole_count, rank, width, wholes, spelled}
use Rattle.rv_agreement.specs.Agreement.{State, point, HasKind, IsTyped, IsSpelled, Spells}
use Rattle.rv_agreement.proofs.Matching.{IsFound}
use Rattle.rv_rows.proofs.FormValues.{column_value}

one_whole : (b : Bool) (z : ℤ) (zs : List ℤ) (n : ℕ) → length zs ≡ n → length (cond b (z ∷ zs) zs) ≡ cond b 1 0 + n
one_whole true z zs n e = omega (arith, e)
one_whole false z zs n e = omega (arith, e)

pub length-wholes : (ks : List Kind) (vs : List Value) → length (wholes ks vs) ≡ whole_count ks
length-wholes [] vs = refl
length-wholes (k ∷ ks) [] = one_whole (is_integer k) (pos 0) (wholes ks []) (whole_count ks) (length-wholes ks [])
length-wholes (k ∷ ks) (v ∷ vs) = one_whole (is_integer k) (number v) (wholes ks vs) (whole_count ks) (length-wholes ks vs)

-- the column of an integer is within, and has it
wholes_at : (ks : List Kind) (vs : List Value) (m : ℕ) → m < length ks → length vs ≡ length ks → kind_at ks m ≡ kind.Int
    → (rank ks m < whole_count ks) × (get_or (wholes ks vs) (rank ks m) (pos 0) ≡ number (slice_index_or vs m (Flag false)))
wholes_at [] vs m lt many is = absurd (omega arith)
wholes_at (k ∷ ks) [] m lt many is = absurd (omega arith)
wholes_at (k ∷ ks) (v ∷ vs) zero lt many is = subst (λ j. (0 < cond (is_integer j) 1 0 + whole_count ks)
    × (get_or (cond (is_integer j) (number v ∷ wholes ks vs) (wholes ks vs)) 0 (pos 0) ≡ number v)) (sym is) (omega arith, refl)
wholes_at (k ∷ ks) (v ∷ vs) (suc m) lt many is = by (is_integer k) (wholes_at ks vs m (omega arith) (omega arith) is)
  where
    by : (b : Bool) → (rank ks m < whole_count ks) × (get_or (wholes ks vs) (rank ks m) (pos 0) ≡ number (slice_index_or vs m (Flag false)))
        → (cond b 1 0 + rank ks m < cond b 1 0 + whole_count ks) × (get_or (cond b (number v ∷ wholes ks vs) (wholes ks vs)) (cond b 1 0 + rank ks m)
        (pos 0) ≡ number (slice_index_or vs m (Flag false)))
    by true h = (omega (arith, h.0), (let e : 1 + rank ks m ≡ suc (rank ks m) = omega arith in ap (λ n. get_or (number v ∷ wholes ks vs) n (pos 0)) e) ∙ h.1)
    by false h = (omega (arith, h.0), (let e : 0 + rank ks m ≡ rank ks m = omega arith in ap (λ n. get_or (wholes ks vs) n (pos 0)) e) ∙ h.1)

module _ (labels : List ℕ) (x : List ℤ) where
  -- a value of a type that bits spell, or that a column has
  found_kind : (k : Kind) (bits : ℕ → Bool) (column : Form) (value : Value) → HasKind labels k value → IsSpelled labels k bits value
      → (k ≡ kind.Int → number value ≡ forms.value column x) → value ≡ at_point x (spelled labels k bits column)
  found_kind kind.Bool bits column value has is at = is
  found_kind kind.Int bits column (Flag b) has is at = absurd has
  found_kind kind.Int bits column (Label l) has is at = absurd has
  found_kind kind.Int bits column (Whole z) has is at = ap Whole (at refl)
  found_kind (kind.Labels i) bits column value has is at = is

module _ (s : System) (v : Valuation) (now : State) (inputs : List Value) (typed : IsTyped s now inputs) (spells : Spells s v now inputs) where
  memory_column : (m : ℕ) → m < length s.memories → kind_at (memory_kinds s) m ≡ kind.Int
      → number (slice_index_or now.kept m (Flag false)) ≡ forms.value (column_form (width s) (rank (memory_kinds s) m)) (point s now inputs)
  memory_column m lt is =
      let within : m < length (memory_kinds s) = rw length-map lt in
      let w = wholes_at (memory_kinds s) now.kept m within typed.memories.many is in
      let long = length-wholes (memory_kinds s) now.kept in
      sym (column_value (point s now inputs) (width s) (rank (memory_kinds s) m) (omega (arith, w.0))
      ∙ get_or_append_left (wholes (memory_kinds s) now.kept) (wholes s.inputs inputs) (pos 0) (rank (memory_kinds s) m) (omega (arith, w.0, long))
      ∙ w.1)

  input_column : (j : ℕ) → j < length s.inputs → kind_at s.inputs j ≡ kind.Int
      → number (slice_index_or inputs j (Flag false)) ≡ forms.value (column_form (width s) (whole_count (memory_kinds s) + rank s.inputs j))
      (point s now inputs)
  input_column j lt is =
      let w = wholes_at s.inputs inputs j lt typed.given.many is in
      let long = length-wholes (memory_kinds s) now.kept in
      let e : whole_count (memory_kinds s) + rank s.inputs j ≡ length (wholes (memory_kinds s) now.kept) + rank s.inputs j = omega (arith, long) in
      sym (column_value (point s now inputs) (width s) (whole_count (memory_kinds s) + rank s.inputs j) (omega (arith, w.0))
      ∙ ap (λ n. get_or (point s now inputs) n (pos 0)) e
      ∙ get_or-append-add (wholes (memory_kinds s) now.kept) (wholes s.inputs inputs) (rank s.inputs j) (pos 0)
      ∙ w.1)

  pub is_found : (row : List _) (symbolic : List _) → IsFound s v now inputs row symbolic (point s now inputs)
  is_found row symbolic = record {
    ticked = spells.ticks;
    kept = λ m lt. found_kind s.labels (point s now inputs) (kind_at (memory_kinds s) m) _ _ _
        (typed.memories.each m (rw length-map lt)) (spells.memories m lt) (memory_column m lt);
    given = λ j lt. found_kind s.labels (point s now inputs) (kind_at s.inputs j) _ _ _ (typed.given.each j lt) (spells.given j lt) (input_column j lt);
  }
