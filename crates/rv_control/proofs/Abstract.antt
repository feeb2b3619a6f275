-- A run of a flat system in whole numbers is an abstract run of its system of valuations.
use Rattle.std.proofs.Common.{◌≡◌, ◌⊎◌, ◌↔◌, inl, inr, ℕ, zero, suc, ◌+◌, ◌<◌, ◌≤◌, ℤ, pos, Bool, true, false, not, ◌&&◌, cond, List, [], ◌∷◌, length}
use Rattle.std.proofs.Common.{length-append, map, refl, sym, ◌∙◌, ap, subst, arith, Option, Some, None as Nothing}
use Rattle.std.proofs.lemmas.Bool.{and_parts, ltb-true, lt-ltb, cases_lt, not-true, and_from}
use Rattle.std.proofs.{lemmas.List.length-map, lemmas.List.get_or-map, lemmas.List.get_or_append_left, lemmas.List.Elements.Contains-get_or}
use Rattle.std.specs.Prelude.{slice_index_or, IsTrue}
use Rattle.rv_base.specs.{declared.value.Value.Value, declared.value.Value.TheVariants.Flag, declared.value.Value.TheVariants.Label}
use Rattle.rv_tree.specs.Places.{Sites, index_of}
use Rattle.rv_types.specs.{Lists.Variable, Lists.Kept, Lists.Next, Lists.Input, Lists.Test, declared.typed.Kind.Kind, Variables.is_integer, Variables.bits_for}
use Rattle.rv_types.specs.declared.typed.Kind.TheVariants as kind
use Rattle.rv_meaning.specs.Codes.{code}
use Rattle.rv_rows.specs.{declared.linear.Row.Row, declared.linear.Form.Form, Rows.Holds, Arithmetic.constant_form}
use Rattle.rv_rows.specs.Forms as forms
use Rattle.rv_agreement.specs.Trees.{Item, nth_item, Kept as KeptMemory, System, memory_kinds, memory_places, kind_at}
use Rattle.rv_agreement.specs.Valuations.{Valuation, Reading, Truth, form_of, whole_count, width, wholes, reads_at, found_at, IsSymbolic, all_comparisons}
use Rattle.rv_agreement.specs.Valuations.{Agrees, updated, next_tick, observed, IsCodedAs, IsCoded, IsAllowed}
use Rattle.rv_agreement.specs.Agreement.{State, point, IsWholeInstant, IsNext, IsTyped, IsAgreed, IsWell, Gives, value_there, forms_from, updates, bit_count}
use Rattle.rv_agreement.specs.Agreement.{IsSpelledAs, Leads}
use Rattle.rv_agreement.specs.{Evaluation.nth, Evaluation.is_on, Evaluation.is_met, Evaluation.integers, FlatRuns.IsFlatRun, FlatRuns.AreMetIn}
use Rattle.rv_agreement.proofs.{Found.length-wholes, Indexed.indexed, Spelled.is_spelled, Spelled.same_bits}
use Rattle.rv_diagram.specs.Nodes.{Valuation as Numbered}
use Rattle.rv_proofs.specs.Systems as systems
use Rattle.rv_proofs.specs.Runs.{IsAbstractRun}
use Rattle.rv_control.specs.Control.{names_label, memories_named, inputs_named, none_ticked, is_initial, tick_index, bit_of, all_met, is_allowed, row_of}
use Rattle.rv_control.specs.Control.{next_truth, control_over}
use Rattle.rv_control.specs.{Named.by_names, Named.by_numbers, Named.truth_of, Named.tick_variable, Symbolic.symbolic}
use Rattle.rv_control.proofs.Names.{tick_itself, kept_itself, input_itself, test_itself, found_truth, tick_found}
use Rattle.rv_control.proofs.Alike.{NoControlForms, IsLike, symbolic_same, agrees_same, spells_as, coded_as}
use Rattle.rv_control.proofs.Places.{row_told, in_bits, in_given, in_order, states_are, state_at}
use Rattle.rv_control.proofs.{Readings.is_symbolic, Listed.IsStateBit, Listed.a_tick, Listed.a_bit, Listed.IsListed}
use Rattle.rv_types.proofs.ChainLaws.{no_flag}

-- What is taken from the agreement of instants.
pub record Laws : Type 0 where
  pub controls : NoControlForms
  pub one : (s : System) (v : Valuation) → IsWell s → (row : List (Option Reading)) × IsSymbolic s v row
      × ((other : List (Option Reading)) → IsSymbolic s v other → other ≡ row)
  pub some : (s : System) (now : State) (inputs : List Value) (row : List (Option Value)) → IsWell s → IsTyped s now inputs → IsWholeInstant s now inputs row
      → (v : Valuation) × (first : List (Option Reading)) × IsCoded s v × IsAgreed s v first now inputs
  pub gives : (s : System) (now next : State) (inputs : List Value) (row : List (Option Value)) (v : Valuation) (first : List (Option Reading))
      → IsWell s → IsTyped s now inputs → IsWholeInstant s now inputs row → IsNext s now inputs row next → IsAgreed s v first now inputs
      → Gives s v first now inputs row next
  pub updates : (s : System) (now next : State) (inputs : List Value) (row : List (Option Value)) (v : Valuation) (first : List (Option Reading))
      → IsWell s → IsTyped s now inputs → IsWholeInstant s now inputs row → IsNext s now inputs row next → IsAgreed s v first now inputs
      → wholes (memory_kinds s) next.kept ≡ forms.values (updates s v first) (point s now inputs)
  pub leads : (s : System) (now next : State) (inputs later : List Value) (row : List (Option Value)) (v w : Valuation) (first after : List (Option Reading))
      → IsWell s → IsTyped s now inputs → IsWholeInstant s now inputs row → IsNext s now inputs row next → IsAgreed s v first now inputs
      → IsAgreed s w after next later → Leads s v first w

-- Codes.
label_named : (labels : List ℕ) (k : Kind) (bits : ℕ → Bool) → IsCodedAs labels k bits → names_label labels k bits ≡ true
label_named labels (kind.Labels i) bits is = lt-ltb (code (bits_for (slice_index_or labels i 0)) bits) (slice_index_or labels i 0) is
label_named labels _ bits is = refl

label_told : (labels : List ℕ) (k : Kind) (bits : ℕ → Bool) → names_label labels k bits ≡ true → IsCodedAs labels k bits
label_told labels (kind.Labels i) bits e = ltb-true (code (bits_for (slice_index_or labels i 0)) bits) (slice_index_or labels i 0) e
label_told labels _ bits e = tt

pub memories_there : (labels : List ℕ) (w : Valuation) (ms : List KeptMemory)
    → ((m : ℕ) → m < length ms → IsCodedAs labels (kind_at (map (λ x. x.kind) ms) m) (w.kept (slice_index_or (map (λ x. x.place) ms) m [])))
    → memories_named labels w ms ≡ true
unfolding memories_named
memories_there labels w [] coded = refl
memories_there labels w (x ∷ xs) coded = and_from (names_label labels x.kind (w.kept x.place)) (memories_named labels w xs)
    (label_named labels x.kind (w.kept x.place) (coded 0 (omega arith))) (memories_there labels w xs (λ m lt. coded (suc m) (omega (arith, lt))))

pub memories_told : (labels : List ℕ) (w : Valuation) (ms : List KeptMemory) → memories_named labels w ms ≡ true
    → (m : ℕ) → m < length ms → IsCodedAs labels (kind_at (map (λ x. x.kind) ms) m) (w.kept (slice_index_or (map (λ x. x.place) ms) m []))
unfolding memories_named
memories_told labels w [] e m lt = absurd (omega arith)
memories_told labels w (x ∷ xs) e zero lt = label_told labels x.kind (w.kept x.place)
    (and_parts (names_label labels x.kind (w.kept x.place)) (memories_named labels w xs) e).0
memories_told labels w (x ∷ xs) e (suc m) lt = memories_told labels w xs
    (and_parts (names_label labels x.kind (w.kept x.place)) (memories_named labels w xs) e).1 m (omega arith)

inputs_there : (labels : List ℕ) (w : Valuation) (i : ℕ) (ks : List Kind) → ((j : ℕ) → j < length ks → IsCodedAs labels (kind_at ks j) (w.input (i + j)))
    → inputs_named labels w i ks ≡ true
unfolding inputs_named
inputs_there labels w i [] coded = refl
inputs_there labels w i (k ∷ ks) coded =
    let here : i + 0 ≡ i = omega arith in
    and_from (names_label labels k (w.input i)) (inputs_named labels w (suc i) ks)
    (label_named labels k (w.input i) (subst (λ j. IsCodedAs labels k (w.input j)) here (coded 0 (omega arith))))
    (inputs_there labels w (suc i) ks (λ j lt. let e : i + suc j ≡ suc i + j = omega arith in
    subst (λ n. IsCodedAs labels (kind_at ks j) (w.input n)) e (coded (suc j) (omega (arith, lt)))))

pub inputs_told : (labels : List ℕ) (w : Valuation) (i : ℕ) (ks : List Kind) → inputs_named labels w i ks ≡ true → (j : ℕ) → j < length ks
    → IsCodedAs labels (kind_at ks j) (w.input (i + j))
unfolding inputs_named
inputs_told labels w i [] e j lt = absurd (omega arith)
inputs_told labels w i (k ∷ ks) e zero lt =
    let here : i ≡ i + 0 = omega arith in
    subst (λ j. IsCodedAs labels k (w.input j)) here (label_told labels k (w.input i)
    (and_parts (names_label labels k (w.input i)) (inputs_named labels w (suc i) ks) e).0)
inputs_told labels w i (k ∷ ks) e (suc j) lt =
    let there : suc i + j ≡ i + suc j = omega arith in
    subst (λ n. IsCodedAs labels (kind_at ks j) (w.input n)) there
    (inputs_told labels w (suc i) ks (and_parts (names_label labels k (w.input i)) (inputs_named labels w (suc i) ks) e).1 j (omega arith))

ticks_there : (w : Valuation) (ts : List (Option Sites)) → ((k : ℕ) → k < length ts → w.ticked (slice_index_or ts k Nothing) ≡ false) → none_ticked w ts ≡ true
unfolding none_ticked
ticks_there w [] none = refl
ticks_there w (t ∷ ts) none = and_from (not (w.ticked t)) (none_ticked w ts) (ap not (none 0 (omega arith)))
    (ticks_there w ts (λ k lt. none (suc k) (omega (arith, lt))))

pub ticks_told : (w : Valuation) (ts : List (Option Sites)) → none_ticked w ts ≡ true → (k : ℕ) → k < length ts → w.ticked (slice_index_or ts k Nothing) ≡ false
unfolding none_ticked
ticks_told w [] e k lt = absurd (omega arith)
ticks_told w (t ∷ ts) e zero lt = not-true (w.ticked t) (and_parts (not (w.ticked t)) (none_ticked w ts) e).0
ticks_told w (t ∷ ts) e (suc k) lt = ticks_told w ts (and_parts (not (w.ticked t)) (none_ticked w ts) e).1 k (omega arith)

pub initial_there : (s : System) (w : Valuation) → ((k : ℕ) → k < length s.ticks → w.ticked (slice_index_or s.ticks k Nothing) ≡ false)
    → ((m : ℕ) → m < length s.memories → IsCodedAs s.labels (kind_at (memory_kinds s) m) (w.kept (slice_index_or (memory_places s) m [])))
    → is_initial s w ≡ true
unfolding is_initial
initial_there s w none coded = and_from (none_ticked w s.ticks) (memories_named s.labels w s.memories) (ticks_there w s.ticks none)
    (memories_there s.labels w s.memories coded)

pub initial_told : (s : System) (w : Valuation) → is_initial s w ≡ true → (none_ticked w s.ticks ≡ true) × (memories_named s.labels w s.memories ≡ true)
unfolding is_initial
initial_told s w e = and_parts (none_ticked w s.ticks) (memories_named s.labels w s.memories) e

-- Assertions.
module _ (s : System) (w : Valuation) (row : List (Option Reading)) where
  met_there : (xs : List Item) → ((k : ℕ) → k < length xs → is_met Reading (reads_at s w) (found_at s w) row (nth_item xs k) ≡ true) → all_met s w row xs ≡ true
  unfolding all_met
  met_there [] met = refl
  met_there (x ∷ xs) met = and_from (is_met Reading (reads_at s w) (found_at s w) row x) (all_met s w row xs) (met 0 (omega arith))
      (met_there xs (λ k lt. met (suc k) (omega (arith, lt))))

  met_told : (xs : List Item) → all_met s w row xs ≡ true → (k : ℕ) → k < length xs → is_met Reading (reads_at s w) (found_at s w) row (nth_item xs k) ≡ true
  unfolding all_met
  met_told [] e k lt = absurd (omega arith)
  met_told (x ∷ xs) e zero lt = (and_parts (is_met Reading (reads_at s w) (found_at s w) row x) (all_met s w row xs) e).0
  met_told (x ∷ xs) e (suc k) lt = met_told xs (and_parts (is_met Reading (reads_at s w) (found_at s w) row x) (all_met s w row xs) e).1 k (omega arith)

  pub allowed_there : IsAllowed s w row → is_allowed s w row ≡ true
  unfolding is_allowed
  allowed_there is = and_from (memories_named s.labels w s.memories && inputs_named s.labels w 0 s.inputs) (all_met s w row s.assertions)
      (and_from (memories_named s.labels w s.memories) (inputs_named s.labels w 0 s.inputs) (memories_there s.labels w s.memories is.0.memories)
      (inputs_there s.labels w 0 s.inputs (λ j lt. let e : j ≡ 0 + j = omega arith in
      subst (λ n. IsCodedAs s.labels (kind_at s.inputs j) (w.input n)) e (is.0.inputs j lt))))
      (met_there s.assertions is.1)

  pub allowed_told : is_allowed s w row ≡ true → IsAllowed s w row
  unfolding is_allowed
  allowed_told e =
      let r = and_parts (memories_named s.labels w s.memories && inputs_named s.labels w 0 s.inputs) (all_met s w row s.assertions) e in
      let q = and_parts (memories_named s.labels w s.memories) (inputs_named s.labels w 0 s.inputs) r.0 in (
        record {
          memories = memories_told s.labels w s.memories q.0;
          inputs = λ j lt. let same : 0 + j ≡ j = omega arith in
              subst (λ n. IsCodedAs s.labels (kind_at s.inputs j) (w.input n)) same (inputs_told s.labels w 0 s.inputs q.1 j lt);
        },
        met_told s.assertions r.1,
      )

-- The observer.
pub observed_true : (s : System) (w : Valuation) (x : List ℤ) (o : Option Reading)
    → (value_there x o ≡ Some (Flag true)) ↔ IsTrue (is_on Reading (reads_at s w) o)
observed_true s w x (Some (Truth b)) = (λ e. let h : b ≡ true = cc in h, λ e. ap (λ c. Some (Flag c)) e)
observed_true s w x _ = (λ e. absurd (cc), λ e. no_flag e)

-- a bit of what spells a control value
bit_told : (labels : List ℕ) (k : Kind) (bits : ℕ → Bool) (a : Reading) (b : ℕ) → IsCodedAs labels k bits → IsSpelledAs labels k bits a
    → b < bit_count labels k → bit_of a b ≡ bits b
bit_told labels kind.Bool bits a b coded is lt = let e : 0 ≡ b = omega arith in ap (λ x. bit_of x b) is ∙ ap bits e
bit_told labels kind.Int bits a b coded is lt = absurd (omega arith)
bit_told labels (kind.Labels i) bits a b coded is lt =
    let l = code (bits_for (slice_index_or labels i 0)) bits in
    ap (λ x. bit_of x b) is ∙ same_bits labels (kind.Labels i) _ bits (Label l) (is_spelled labels (kind.Labels i) (Label l) coded) refl b lt

tick_truth : (w : Valuation) (t : Option Sites) → truth_of w (tick_variable t) ≡ w.ticked t
tick_truth w Nothing = refl
tick_truth w (Some p) = refl

pub next_of_tick : (s : System) (w : Valuation) (row : List (Option Reading)) (t : Option Sites)
    → next_truth s w row (tick_variable t) ≡ next_tick s w row (tick_index s.ticks t)
next_of_tick s w row Nothing = refl
next_of_tick s w row (Some p) = refl

length-forms : (ks : List Kind) (f : ℕ → Form) → length (forms_from ks f) ≡ whole_count ks
length-forms [] f = refl
length-forms (k ∷ ks) f = by (is_integer k) (length-forms ks (λ m. f (suc m)))
  where
    by : (b : Bool) → length (forms_from ks (λ m. f (suc m))) ≡ whole_count ks
        → length (cond b (f 0 ∷ forms_from ks (λ m. f (suc m))) (forms_from ks (λ m. f (suc m)))) ≡ cond b 1 0 + whole_count ks
    by true h = omega (arith, h)
    by false h = omega (arith, h)

-- A memory's place stands at its number alone.
pub place_number : (s : System) → IsWell s → (m : ℕ) → m < length s.memories → index_of (memory_places s) (slice_index_or (memory_places s) m []) ≡ m
place_number s well m lt =
    let many : length (memory_places s) ≡ length s.memories = length-map s.memories (λ x. x.place) in
    let found = indexed (memory_places s) (slice_index_or (memory_places s) m []) (Contains-get_or (memory_places s) m [] (omega (arith, many, lt))) in
    well.memories_apart (index_of (memory_places s) (slice_index_or (memory_places s) m [])) m (omega (arith, found.0, many)) lt found.1

module _ (laws : Laws) (s : System) (names : List Variable) (well : IsWell s) (listed : IsListed s names) where
  abbrev control : systems.System
  control = control_over s names

  -- what is named is said as it was
  like : (w : Valuation) → IsLike s w (by_names names (by_numbers names w))
  like w = record {
    ticks = λ k lt.
        let t = slice_index_or s.ticks k Nothing in
        sym (found_truth names w (tick_variable t) (tick_itself t)
        (in_bits s names listed (tick_variable t) (listed.ticks t (Contains-get_or s.ticks k Nothing lt))) ∙ tick_truth w t);
    memories = λ m b lt less.
        let p = slice_index_or (memory_places s) m [] in
        sym (found_truth names w (Kept p b) (kept_itself p b) (in_bits s names listed (Kept p b) (listed.memories m b lt less)));
    inputs = λ j b lt less. sym (found_truth names w (Input j b) (input_itself j b) (in_given s names listed (Input j b) (listed.inputs j b lt less)));
    tests = λ c side there w2. sym (found_truth names w (Test c.at side) (test_itself c.at side)
        (in_order s names listed (Test c.at side) (listed.tests c side there w2)));
  }

  -- Each row of the system of valuations holds where the point agrees.
  row_of_told : (w : Valuation) (row : List (Option Reading)) (x : Variable) (r : Row) (at : List ℤ) → Agrees s w row at → row_of s w row x ≡ Some r
      → Holds r at
  row_of_told w row (Test p side) r at agrees e =
      let h = row_told s w row (all_comparisons s) p side r e in
      agrees h.comparison side r h.there h.is
  row_of_told w row _ r at agrees e = absurd (cc)

  -- The next truth of a state bit is that of each valuation of the next state.
  next_bit : (w next : Valuation) (row : List (Option Reading)) → IsCoded s next → Leads s w row next → (x : Variable) → IsStateBit s x
      → next_truth s w row x ≡ truth_of next x
  next_bit w next row coded leads x (a_tick t there is) =
      let found = tick_found s.ticks t there in
      ap (next_truth s w row) is ∙ next_of_tick s w row t ∙ sym (leads.ticks (tick_index s.ticks t) found.0) ∙ ap next.ticked found.1
      ∙ sym (tick_truth next t) ∙ sym (ap (truth_of next) is)
  next_bit w next row coded leads x (a_bit m b lt less is) =
      let p = slice_index_or (memory_places s) m [] in
      ap (next_truth s w row) is
      ∙ ap (λ n. bit_of (updated s w row n) b) (place_number s well m lt)
      ∙ bit_told s.labels (kind_at (memory_kinds s) m) (next.kept p) (updated s w row m) b (coded.memories m lt) (leads.memories m lt) less
      ∙ sym (ap (truth_of next) is)

  module _ (n : ℕ) (states : ℕ → State) (inputs : ℕ → List Value) (rows : ℕ → List (Option Value)) (run : IsFlatRun s n states inputs rows)
      (resting : Valuation) (rest : n ≡ 0 → is_initial s (by_names names (by_numbers names resting)) ≡ true) where
    -- a valuation with which the state agrees
    pick : (t : ℕ) → (t < n) ⊎ (n ≤ t) → Valuation
    pick t (inl lt) = (laws.some s (states t) (inputs t) (rows t) well (run.typed t lt) (run.instant t lt)).0
    pick t (inr le) = resting

    at : ℕ → Valuation
    at t = pick t (cases_lt t n)

    abbrev named : ℕ → Valuation
    named t = by_names names (by_numbers names (at t))

    record Picked (t : ℕ) (w : Valuation) : Type 0 where
      pub first : List (Option Reading)
      pub coded : IsCoded s w
      pub agreed : IsAgreed s w first (states t) (inputs t)

    picked : (t : ℕ) → t < n → Picked t (at t)
    unfolding at pick
    picked t lt = by (cases_lt t n)
      where
        by : (c : (t < n) ⊎ (n ≤ t)) → Picked t (pick t c)
        by (inl less) = let a = laws.some s (states t) (inputs t) (rows t) well (run.typed t less) (run.instant t less) in
            record { first = a.1; coded = a.2; agreed = a.3 }
        by (inr le) = absurd (omega arith)

    agreed : (t : ℕ) → t < n → IsAgreed s (named t) (symbolic s (named t)) (states t) (inputs t)
    agreed t lt =
        let g = picked t lt in
        let l = like (at t) in
        let other = symbolic_same laws.controls s well (at t) (named t) l g.first g.agreed.1 in
        let only = laws.one s (named t) well in
        let same : g.first ≡ symbolic s (named t) = only.2 g.first other ∙ sym (only.2 (symbolic s (named t)) (is_symbolic s (named t) well)) in (
          spells_as laws.controls s well (at t) (named t) l g.first g.agreed.1 (states t) (inputs t) g.agreed.0,
          is_symbolic s (named t) well,
          subst (λ r. Agrees s (named t) r (point s (states t) (inputs t))) same
              (agrees_same laws.controls s well (at t) (named t) l g.first g.agreed.1 (point s (states t) (inputs t)) g.agreed.2),
        )

    coded : (t : ℕ) → t < n → IsCoded s (named t)
    coded t lt = let g = picked t lt in coded_as laws.controls s well (at t) (named t) (like (at t)) g.first g.agreed.1 g.coded

    pub vs : ℕ → Numbered
    vs t = by_numbers names (at t)

    pub points : ℕ → List ℤ
    points t = point s (states t) (inputs t)

    resting_at : n ≤ 0 → (c : (0 < n) ⊎ (n ≤ 0)) → is_initial s (by_names names (by_numbers names (pick 0 c))) ≡ true
    unfolding pick
    resting_at none (inl some) = absurd (omega arith)
    resting_at none (inr le) = rest (omega arith)

    start : is_initial s (named 0) ≡ true
    unfolding at
    start = by (cases_lt 0 n)
      where
        by : (0 < n) ⊎ (n ≤ 0) → is_initial s (named 0) ≡ true
        by (inl some) = initial_there s (named 0) (λ k lt. sym ((agreed 0 some).0.ticks k lt) ∙ run.start k) (coded 0 some).memories
        by (inr none) = resting_at none (cases_lt 0 n)

    same_state : (t : ℕ) → t + 1 < n → systems.HasSameState control (control.next (vs t)) (vs (t + 1))
    unfolding vs
    same_state t lt x (i, less, is) =
        let now : t < n = omega arith in
        let one : t + 1 ≡ suc t = omega arith in
        let within : i < length listed.bits = omega (arith, less, states_are s names listed) in
        let place : slice_index_or names x Next ≡ slice_index_or listed.bits i Next = ap (λ k. slice_index_or names k Next) is
        ∙ state_at s names listed i within in
        let bit : IsStateBit s (slice_index_or names x Next) = subst (IsStateBit s) (sym place)
        (listed.state_bits (slice_index_or listed.bits i Next) (Contains-get_or listed.bits i Next within)) in
        let later = picked (t + 1) lt in
        let next : IsNext s (states t) (inputs t) (rows t) (states (t + 1)) = subst (λ u. IsNext s (states t) (inputs t) (rows t) (states u)) (sym one)
        (run.next t now) in
        let leads = laws.leads s (states t) (states (t + 1)) (inputs t) (inputs (t + 1)) (rows t) (named t) (at (t + 1)) (symbolic s (named t)) later.first
        well (run.typed t now) (run.instant t now) next (agreed t now) later.agreed in
        next_bit (named t) (at (t + 1)) (symbolic s (named t)) later.coded leads (slice_index_or names x Next) bit

    moved : (t k : ℕ) → t + 1 < n → k < control.memories → forms.number k (points (t + 1)) ≡ forms.value (control.update (vs t) k) (points t)
    unfolding vs points
    moved t k lt less =
        let now : t < n = omega arith in
        let one : t + 1 ≡ suc t = omega arith in
        let next : IsNext s (states t) (inputs t) (rows t) (states (t + 1)) = subst (λ u. IsNext s (states t) (inputs t) (rows t) (states u)) (sym one)
        (run.next t now) in
        let is = laws.updates s (states t) (states (t + 1)) (inputs t) (rows t) (named t) (symbolic s (named t)) well (run.typed t now) (run.instant t now)
        next (agreed t now) in
        let long = length-wholes (memory_kinds s) (states (t + 1)).kept in
        let many = length-forms (memory_kinds s) (λ m. form_of (width s) (named t).test (updated s (named t) (symbolic s (named t)) m)) in
        let d = constant_form (width s) (pos 0) in
        get_or_append_left (wholes (memory_kinds s) (states (t + 1)).kept) (wholes s.inputs (inputs (t + 1))) (pos 0) k (omega (arith, long, less))
        ∙ ap (λ xs. slice_index_or xs k (pos 0)) is
        ∙ get_or-map (λ (f : Form). forms.value f (point s (states t) (inputs t))) (updates s (named t) (symbolic s (named t))) k d (pos 0)
        (omega (arith, many, less))

    pub is_run : IsAbstractRun control n vs points
    unfolding vs points
    is_run = record {
      start = start;
      agrees = λ t lt. record {
        size =
            let a = length-append (wholes (memory_kinds s) (states t).kept) (wholes s.inputs (inputs t)) in
            let b = length-wholes (memory_kinds s) (states t).kept in
            let c = length-wholes s.inputs (inputs t) in
            omega (arith, a, b, c);
        rows = λ j r less e. row_of_told (named t) (symbolic s (named t)) _ r (point s (states t) (inputs t)) (agreed t lt).2 e;
      };
      control = same_state;
      memories = moved;
    }

    pub observer_is : (t : ℕ) → t < n → (nth Value integers (rows t) s.observer ≡ Some (Flag true)) ↔ IsTrue (control.observer (vs t))
    unfolding vs
    observer_is t lt =
        let g = laws.gives s (states t) (states (suc t)) (inputs t) (rows t) (named t) (symbolic s (named t)) well (run.typed t lt) (run.instant t lt)
        (run.next t lt) (agreed t lt) in
        let is = observed_true s (named t) (point s (states t) (inputs t)) (observed s (named t) (symbolic s (named t))) in
        (λ e. is.0 (sym g.observer ∙ e), λ e. g.observer ∙ is.1 e)

    pub allowed_is : (t : ℕ) → t < n → AreMetIn s (states t) (inputs t) (rows t) ↔ IsTrue (control.allowed (vs t))
    unfolding vs
    allowed_is t lt =
        let g = laws.gives s (states t) (states (suc t)) (inputs t) (rows t) (named t) (symbolic s (named t)) well (run.typed t lt) (run.instant t lt)
        (run.next t lt) (agreed t lt) in (
          λ met. allowed_there s (named t) (symbolic s (named t)) (coded t lt, λ k less. sym (g.assertions k less) ∙ met k less),
          λ e. λ k less. g.assertions k less ∙ (allowed_told s (named t) (symbolic s (named t)) e).1 k less,
        )
