-- An abstract run of which each valuation is allowed is a run of the flat system in whole numbers.
use Rattle.std.proofs.Common.{◌≡◌, ◌⊎◌, ◌↔◌, inl, inr, ℕ, zero, suc, ◌+◌, ◌*◌, ◌<◌, ◌≤◌, ℤ, pos, Bool, true, false, ◌||◌, List, [], ◌++◌, length, map, drop}
use Rattle.std.proofs.Common.{refl, sym, ◌∙◌, ap, subst, arith, Option, Some, None as Nothing}
use Rattle.std.proofs.lemmas.List.{length-map, length-drop, take-append-drop, take_all, get_or-map, get_or_past}
use Rattle.std.proofs.{lemmas.Bool.and_parts, lemmas.Bool.cases_lt, lemmas.List.Elements.Contains-get_or, lemmas.List.Elements.Contains-append_cases}
use Rattle.std.specs.Prelude.{slice_index_or, IsTrue}
use Rattle.rv_base.specs.declared.value.Value.{Value}
use Rattle.rv_base.specs.declared.value.Value.TheVariants.{Flag, Label, Whole}
use Rattle.rv_tree.specs.Places.{Sites}
use Rattle.rv_types.specs.{declared.typed.Kind.Kind, Lists.Variable, Lists.MainTick, Lists.Tick, Lists.Kept, Lists.Next, Variables.bits_for}
use Rattle.rv_types.specs.declared.typed.Kind.TheVariants as kind
use Rattle.rv_rows.specs.{declared.linear.Row.Row, declared.linear.Form.Form, Tight.IsTightened, Arithmetic.constant_form}
use Rattle.rv_rows.specs.Forms as forms
use Rattle.rv_agreement.specs.Valuations.{Valuation, Reading, Truth, Name, Linear, at_point, form_of, whole_count, rank, width, IsSymbolic, Agrees, updated}
use Rattle.rv_agreement.specs.Valuations.{next_tick, observed, IsCoded, IsAllowed}
use Rattle.rv_agreement.specs.Agreement.{State, point, found_in, IsWholeInstant, IsNext, IsTyped, IsAgreed, IsWell, Gives, bit_count, Spells}
use Rattle.rv_agreement.specs.{Trees.nth_item, Trees.System, Trees.memory_items, Trees.memory_kinds, Trees.memory_places, Trees.kind_at, Evaluation.nth}
use Rattle.rv_agreement.specs.{Evaluation.is_there, Evaluation.after, Evaluation.integers, Kinding.ReadsAs, FlatRuns.IsFlatRun, FlatRuns.AreMetIn}
use Rattle.rv_agreement.proofs.Spelled.{is_spelled}
use Rattle.rv_diagram.specs.Nodes.{Valuation as Numbered}
use Rattle.rv_proofs.specs.Systems as systems
use Rattle.rv_proofs.specs.Runs.{IsAbstractRun}
use Rattle.rv_control.specs.Control.{is_initial, none_ticked, memories_named, tick_index, bit_of, next_truth, control_over}
use Rattle.rv_control.specs.{Named.same_variable, Named.by_names, Named.truth_at, Named.tick_variable, Symbolic.symbolic, Spelled.value_at, Spelled.decoded}
use Rattle.rv_control.proofs.Names.{tick_itself, kept_itself, tick_found, state_truth, agreed_truth, found_by}
use Rattle.rv_control.proofs.Listed.{IsListed, IsInputBit, a_bit_of, IsTestBit, a_test}
use Rattle.rv_control.proofs.Abstract.{Laws, ticks_told, allowed_told, observed_true, next_of_tick, place_number}
use Rattle.rv_control.proofs.Decoded.{first_of, length-first, first_kth, length-decoded, decoded_at, wholes_decoded, are_typed, are_spelled, form_at}
use Rattle.rv_control.proofs.{Readings.is_symbolic, Alike.code_same, Places.states_are, Places.state_at, Points.meets as point_meets}

-- What is taken from agreement beside, and from rows.
pub record More : Type 0 where
  pub laws : Laws
  pub memories : (s : System) (v : Valuation) (row : List (Option Reading)) (m : ℕ) → IsWell s → IsCoded s v → IsSymbolic s v row → m < length s.memories
      → ReadsAs s.labels (kind_at (memory_kinds s) m) (updated s v row m)
  pub one : (r a b : Row) → IsTightened r a → IsTightened r b → a ≡ b

-- a value after the instant, by its bits and its number
value_after : (labels : List ℕ) (x : List ℤ) (k : Kind) (bits : ℕ → Bool) (z : ℤ) (a : Reading) → ReadsAs labels k a
    → ((b : ℕ) → b < bit_count labels k → bits b ≡ bit_of a b) → ((f : Form) → k ≡ kind.Int → a ≡ Linear f → z ≡ forms.value f x)
    → value_at labels k bits z ≡ at_point x a
value_after labels x kind.Bool bits z (Truth b) reads same whole = ap Flag (same 0 (omega arith))
value_after labels x kind.Bool bits z (Name l) reads same whole = absurd reads
value_after labels x kind.Bool bits z (Linear f) reads same whole = absurd reads
value_after labels x kind.Int bits z (Truth b) reads same whole = absurd reads
value_after labels x kind.Int bits z (Name l) reads same whole = absurd reads
value_after labels x kind.Int bits z (Linear f) reads same whole = ap Whole (whole f refl refl)
value_after labels x (kind.Labels i) bits z (Truth b) reads same whole = absurd reads
value_after labels x (kind.Labels i) bits z (Name l) reads same whole =
    ap Label (code_same (bits_for (slice_index_or labels i 0)) bits _ same) ∙ sym (is_spelled labels (kind.Labels i) (Label l) reads)
value_after labels x (kind.Labels i) bits z (Linear f) reads same whole = absurd reads

not_input : (x : Variable) → IsInputBit x → (t : Option Sites) → same_variable x (tick_variable t) ≡ false
not_input x (a_bit_of j b is) Nothing = ap (λ y. same_variable y MainTick) is
not_input x (a_bit_of j b is) (Some p) = ap (λ y. same_variable y (Tick p)) is

not_test : (x : Variable) → IsTestBit x → (t : Option Sites) → same_variable x (tick_variable t) ≡ false
not_test x (a_test q side is) Nothing = ap (λ y. same_variable y MainTick) is
not_test x (a_test q side is) (Some p) = ap (λ y. same_variable y (Tick p)) is

pub input_no_kept : (x : Variable) → IsInputBit x → (p : Sites) (b : ℕ) → same_variable x (Kept p b) ≡ false
input_no_kept x (a_bit_of j c is) p b = ap (λ y. same_variable y (Kept p b)) is

pub test_no_kept : (x : Variable) → IsTestBit x → (p : Sites) (b : ℕ) → same_variable x (Kept p b) ≡ false
test_no_kept x (a_test q side is) p b = ap (λ y. same_variable y (Kept p b)) is

module _ (s : System) (names : List Variable) (listed : IsListed s names) where
  -- A state bit is read at its own variable.
  pub tick_read : (v : Numbered) (t : Option Sites) → truth_at names v (tick_variable t) ≡ truth_at listed.bits (λ i. v (2 * i)) (tick_variable t)
  tick_read v t = ap (λ l. truth_at l v (tick_variable t)) listed.list ∙ state_truth listed.bits (listed.given ++ listed.order) v (tick_variable t)
      (λ y w. elim (Contains-append_cases listed.given listed.order y w)
      [ inl u ↦ not_input y (listed.input_bits y u) t | inr u ↦ not_test y (listed.test_bits y u) t ])

  pub kept_read : (v : Numbered) (p : Sites) (b : ℕ) → truth_at names v (Kept p b) ≡ truth_at listed.bits (λ i. v (2 * i)) (Kept p b)
  kept_read v p b = ap (λ l. truth_at l v (Kept p b)) listed.list ∙ state_truth listed.bits (listed.given ++ listed.order) v (Kept p b)
      (λ y w. elim (Contains-append_cases listed.given listed.order y w)
      [ inl u ↦ input_no_kept y (listed.input_bits y u) p b | inr u ↦ test_no_kept y (listed.test_bits y u) p b ])

module _ (laws : More) (s : System) (names : List Variable) (well : IsWell s) (listed : IsListed s names)
    (some_row : (now : State) (inputs : List Value) → (row : List (Option Value)) × IsWholeInstant s now inputs row)
    (n : ℕ) (vs : ℕ → Numbered) (points : ℕ → List ℤ) (run : IsAbstractRun (control_over s names) n vs points)
    (allowed : (t : ℕ) → t < n → IsTrue ((control_over s names).allowed (vs t))) where
  abbrev control : systems.System
  control = control_over s names

  abbrev named : ℕ → Valuation
  named t = by_names names (vs t)

  abbrev sym_at : ℕ → List (Option Reading)
  sym_at t = symbolic s (named t)

  abbrev held_bits : ℕ → ℕ → ℕ → Bool
  held_bits t m = (named t).kept (slice_index_or (memory_places s) m [])

  abbrev input_bits : ℕ → ℕ → ℕ → Bool
  input_bits t j = (named t).input j

  -- the state and the inputs that a valuation and its point spell
  abbrev state : ℕ → State
  state t = record { ticked = map (named t).ticked s.ticks; kept = decoded s.labels (memory_kinds s) (held_bits t) (points t) }

  pub inputs : ℕ → List Value
  inputs t = decoded s.labels s.inputs (input_bits t) (drop (whole_count (memory_kinds s)) (points t))

  many : length (memory_kinds s) ≡ length s.memories
  many = length-map s.memories (λ m. m.kind)

  is_allowed : (t : ℕ) → t < n → IsAllowed s (named t) (sym_at t)
  is_allowed t lt = allowed_told s (named t) (sym_at t) (allowed t lt)

  typed : (t : ℕ) → t < n → IsTyped s (state t) (inputs t)
  unfolding inputs
  typed t lt = record {
    memories = are_typed s.labels (memory_kinds s) (held_bits t) (points t) (λ m less. (is_allowed t lt).0.memories m (omega (arith, many, less)));
    given = are_typed s.labels s.inputs (input_bits t) (drop (whole_count (memory_kinds s)) (points t)) (is_allowed t lt).0.inputs;
  }

  point_same : (t : ℕ) → t < n → point s (state t) (inputs t) ≡ points t
  unfolding inputs
  point_same t lt =
      let size = (run.agrees t lt).size in
      let front = whole_count (memory_kinds s) in
      let dropped = length-drop front (points t) in
      let a = wholes_decoded s.labels (memory_kinds s) (held_bits t) (points t) (omega (arith, size)) in
      let b = wholes_decoded s.labels s.inputs (input_bits t) (drop front (points t)) (omega (arith, size, dropped)) in
      let c = take_all (whole_count s.inputs) (drop front (points t)) (omega (arith, size, dropped)) in
      (λ i. a i ++ (b ∙ c) i) ∙ take-append-drop front (points t)

  spells : (t : ℕ) → Spells s (named t) (state t) (inputs t)
  unfolding inputs
  spells t = record {
    ticks = λ k lt. get_or-map (named t).ticked s.ticks k Nothing false lt;
    memories = λ m lt. are_spelled s.labels (memory_kinds s) (held_bits t) (points t) m (omega (arith, many, lt));
    given = λ j lt. are_spelled s.labels s.inputs (input_bits t) (drop (whole_count (memory_kinds s)) (points t)) j lt;
  }

  -- The point meets the row of each comparison.
  meets : (t : ℕ) → t < n → Agrees s (named t) (sym_at t) (points t)
  meets t lt = point_meets laws.one s names well listed (vs t) (points t) (run.agrees t lt)

  agreed : (t : ℕ) → t < n → IsAgreed s (named t) (sym_at t) (state t) (inputs t)
  agreed t lt = (spells t, is_symbolic s (named t) well, subst (Agrees s (named t) (sym_at t)) (sym (point_same t lt)) (meets t lt))

  pub rows : ℕ → List (Option Value)
  rows t = (some_row (state t) (inputs t)).0

  instant : (t : ℕ) → IsWholeInstant s (state t) (inputs t) (rows t)
  unfolding rows
  instant t = (some_row (state t) (inputs t)).1

  -- the state after an instant
  later : ℕ → State
  later t = record {
    ticked = first_of (λ k. slice_index_or (state t).ticked k false || is_there Value integers (rows t) (slice_index_or s.tick_clocks k Nothing))
        (length s.tick_clocks);
    kept = first_of (λ m. after Value integers (found_in (state t) (inputs t)) (rows t) (nth_item (memory_items s) m) m) (length s.memories);
  }

  is_later : (t : ℕ) → IsNext s (state t) (inputs t) (rows t) (later t)
  unfolding later
  is_later t = record {
    ticks = length-first _ (length s.tick_clocks);
    ticked = λ k lt. first_kth _ (length s.tick_clocks) k false lt;
    memories = length-first _ (length s.memories);
    kept = λ m lt. first_kth _ (length s.memories) m (Flag false) lt;
  }

  given_by : (t : ℕ) → t < n → Gives s (named t) (sym_at t) (state t) (inputs t) (rows t) (later t)
  given_by t lt = laws.laws.gives s (state t) (later t) (inputs t) (rows t) (named t) (sym_at t) well (typed t lt) (instant t) (is_later t) (agreed t lt)

  -- the next control state
  next_bits : (t : ℕ) → t + 1 < n → (i : ℕ) → i < length listed.bits
      → vs (t + 1) (2 * i) ≡ next_truth s (named t) (sym_at t) (slice_index_or listed.bits i Next)
  next_bits t lt i less =
      sym (run.control t lt (2 * i) (i, omega (arith, states_are s names listed, less), refl))
      ∙ ap (next_truth s (named t) (sym_at t)) (state_at s names listed i less)

  next_ticked : (t : ℕ) → t + 1 < n → (k : ℕ) → k < length s.ticks
      → (named (t + 1)).ticked (slice_index_or s.ticks k Nothing) ≡ next_tick s (named t) (sym_at t) k
  next_ticked t lt k less =
      let o = slice_index_or s.ticks k Nothing in
      let there = Contains-get_or s.ticks k Nothing less in
      let found = tick_found s.ticks o there in
      let same : tick_index s.ticks o ≡ k = well.ticks_apart (tick_index s.ticks o) k found.0 less found.1 in
      tick_read s names listed (vs (t + 1)) o
      ∙ agreed_truth listed.bits (λ i. vs (t + 1) (2 * i)) (λ i. next_truth s (named t) (sym_at t) (slice_index_or listed.bits i Next)) (tick_variable o)
      (next_bits t lt)
      ∙ found_by (next_truth s (named t) (sym_at t)) listed.bits (tick_variable o) (tick_itself o) (listed.ticks o there)
      ∙ next_of_tick s (named t) (sym_at t) o
      ∙ ap (next_tick s (named t) (sym_at t)) same

  next_kept : (t : ℕ) → t + 1 < n → (m b : ℕ) → m < length s.memories → b < bit_count s.labels (kind_at (memory_kinds s) m)
      → held_bits (t + 1) m b ≡ bit_of (updated s (named t) (sym_at t) m) b
  next_kept t lt m b less under =
      let p = slice_index_or (memory_places s) m [] in
      kept_read s names listed (vs (t + 1)) p b
      ∙ agreed_truth listed.bits (λ i. vs (t + 1) (2 * i)) (λ i. next_truth s (named t) (sym_at t) (slice_index_or listed.bits i Next)) (Kept p b)
      (next_bits t lt)
      ∙ found_by (next_truth s (named t) (sym_at t)) listed.bits (Kept p b) (kept_itself p b) (listed.memories m b less under)
      ∙ ap (λ j. bit_of (updated s (named t) (sym_at t) j) b) (place_number s well m less)

  next_whole : (t : ℕ) → t + 1 < n → (m : ℕ) → m < length s.memories → (f : Form) → kind_at (memory_kinds s) m ≡ kind.Int
      → updated s (named t) (sym_at t) m ≡ Linear f
      → forms.number (rank (memory_kinds s) m) (points (t + 1)) ≡ forms.value f (points t)
  next_whole t lt m less f is read =
      let at = form_at (memory_kinds s) (λ j. form_of (width s) (named t).test (updated s (named t) (sym_at t) j)) m (constant_form (width s) (pos 0))
      (omega (arith, many, less)) is in
      run.memories t (rank (memory_kinds s) m) lt at.0 ∙ ap (λ (g : Form). forms.value g (points t)) (at.1 ∙ ap (form_of (width s) (named t).test) read)

  -- The state that the next valuation spells is the one after the instant.
  is_next : (t : ℕ) → t + 1 < n → IsNext s (state t) (inputs t) (rows t) (state (t + 1))
  is_next t lt =
      let now : t < n = omega arith in
      let after_it = is_later t in
      let g = given_by t now in
      let count : length (map (named (t + 1)).ticked s.ticks) ≡ length s.ticks = length-map s.ticks (named (t + 1)).ticked in
      record {
        ticks = count ∙ sym well.ticks;
        ticked = λ k less.
            let within : k < length s.ticks = omega (arith, well.ticks, less) in
            get_or-map (named (t + 1)).ticked s.ticks k Nothing false within ∙ next_ticked t lt k within ∙ sym (g.ticks k less) ∙ after_it.ticked k less;
        memories = length-decoded s.labels (memory_kinds s) (held_bits (t + 1)) (points (t + 1)) ∙ many;
        kept = λ m less.
            decoded_at s.labels (memory_kinds s) (held_bits (t + 1)) (points (t + 1)) m (omega (arith, many, less))
            ∙ value_after s.labels (point s (state t) (inputs t)) (kind_at (memory_kinds s) m) (held_bits (t + 1) m)
            (forms.number (rank (memory_kinds s) m) (points (t + 1))) (updated s (named t) (sym_at t) m)
            (laws.memories s (named t) (sym_at t) m well (is_allowed t now).0 (is_symbolic s (named t) well) less)
            (λ b under. next_kept t lt m b less under)
            (λ f is read. next_whole t lt m less f is read ∙ ap (forms.value f) (sym (point_same t now)))
            ∙ sym (g.memories m less) ∙ after_it.kept m less;
      }

  -- the states of the run, and one after it
  pick : (t : ℕ) → (suc t < n) ⊎ (n ≤ suc t) → State
  pick t (inl lt) = state (t + 1)
  pick t (inr le) = later t

  pub states : ℕ → State
  states zero = state 0
  states (suc t) = pick t (cases_lt (suc t) n)

  pub states_here : (t : ℕ) → t < n → states t ≡ state t
  unfolding states pick
  states_here zero lt = refl
  states_here (suc t) lt = by (cases_lt (suc t) n)
    where
      by : (c : (suc t < n) ⊎ (n ≤ suc t)) → pick t c ≡ state (suc t)
      by (inl less) = let one : t + 1 ≡ suc t = omega arith in ap (λ u. state u) one
      by (inr le) = absurd (omega arith)

  nexts : (t : ℕ) → t < n → IsNext s (state t) (inputs t) (rows t) (states (suc t))
  unfolding states pick
  nexts t lt = by (cases_lt (suc t) n)
    where
      by : (c : (suc t < n) ⊎ (n ≤ suc t)) → IsNext s (state t) (inputs t) (rows t) (pick t c)
      by (inl less) = is_next t (omega arith)
      by (inr le) = is_later t

  start : 0 < n → (k : ℕ) → slice_index_or (states 0).ticked k false ≡ false
  unfolding states is_initial
  start some k =
      let none = (and_parts (none_ticked (named 0) s.ticks) (memories_named s.labels (named 0) s.memories) run.start).0 in
      elim (cases_lt k (length s.ticks)) [
        | inl lt ↦ get_or-map (named 0).ticked s.ticks k Nothing false lt ∙ ticks_told (named 0) s.ticks none k lt
        | inr le ↦ get_or_past (map (named 0).ticked s.ticks) k false (let many_ticks = length-map s.ticks (named 0).ticked in omega (arith, many_ticks, le))
      ]

  pub is_flat_run : 0 < n → IsFlatRun s n states inputs rows
  is_flat_run some = record {
    start = start some;
    typed = λ t lt. subst (λ now. IsTyped s now (inputs t)) (sym (states_here t lt)) (typed t lt);
    instant = λ t lt. subst (λ now. IsWholeInstant s now (inputs t) (rows t)) (sym (states_here t lt)) (instant t);
    next = λ t lt. subst (λ now. IsNext s now (inputs t) (rows t) (states (suc t))) (sym (states_here t lt)) (nexts t lt);
  }

  pub observer_same : (t : ℕ) → t < n → (nth Value integers (rows t) s.observer ≡ Some (Flag true)) ↔ IsTrue (control.observer (vs t))
  observer_same t lt =
      let g = given_by t lt in
      let is = observed_true s (named t) (point s (state t) (inputs t)) (observed s (named t) (sym_at t)) in
      (λ e. is.0 (sym g.observer ∙ e), λ e. g.observer ∙ is.1 e)

  pub are_met : (t : ℕ) → t < n → AreMetIn s (states t) (inputs t) (rows t)
  are_met t lt = subst (λ now. AreMetIn s now (inputs t) (rows t)) (sym (states_here t lt))
      (λ k less. (given_by t lt).assertions k less ∙ (is_allowed t lt).1 k less)

  -- The run starts with what the first valuation and point spell, and its inputs are those that each instant spells.
  pub starts_are : (states 0).kept ≡ decoded s.labels (memory_kinds s) (held_bits 0) (points 0)
  unfolding states
  starts_are = refl

  pub inputs_are : (t : ℕ) → inputs t ≡ decoded s.labels s.inputs (input_bits t) (drop (whole_count (memory_kinds s)) (points t))
  unfolding inputs
  inputs_are t = refl
