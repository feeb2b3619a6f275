-- In the flat system of a well formed program each memory takes values of its type.
use Rattle.std.proofs.Common.{◌≡◌, ℕ, zero, suc, ◌<◌, ◌↔◌, Bool, true, false, cond, List, [], ◌∷◌, length, map, get_or, refl, sym, ◌∙◌, ap, subst, arith}
use Rattle.std.proofs.Common.{length-append, inl, inr, Option, None as Nothing, Some}
use Rattle.std.proofs.lemmas.List.{ext_get_or, get_or-map, get_or_append_left, get_or_push}
use Rattle.std.proofs.{lemmas.Bool.ltb-true, lemmas.Bool.Decides.nat_tests, lemmas.List.Elements.Contains-get_or, lemmas.Option.slice_get_within}
use Rattle.std.proofs.{lemmas.Simd.map-map, Math.ListN.length-map, Math.Nat.eq-or-lt_of_le}
use Rattle.std.specs.{Prelude.slice_get, List.Contains}
use Rattle.rv_base.specs.declared.value.Value.{Value}
use Rattle.rv_base.specs.declared.value.Value.TheVariants.{Flag, Label, Whole}
use Rattle.rv_tree.specs.{declared.tree.TypeDecl.TypeDecl, Delays.Delay, Delays.node_delays, Tree.ProgramTree, Places.Identifier, Places.Sites, Places.index_of}
use Rattle.rv_types.specs.{declared.typed.Kind.Kind, Instances.Instance, Instances.IsInstance, Instances.IsNode, Lists.MemoryAt, Lists.AreRising}
use Rattle.rv_types.specs.{Lists.memory_at, Names.labels_of, Names.texts, Needs.IsSequence, Values.HasKind, Values.labels_at, WellFormed.AreWell}
use Rattle.rv_types.specs.declared.typed.Kind.TheVariants as kind
use Rattle.rv_meaning.specs.{Runs.Instant, Runs.AreStarts, Instants.State as Brought, Instants.IsInstant, Instants.IsNext, Instants.AreGiven}
use Rattle.rv_flat.specs.FlatInstants.{Row, places, memory_places, nth_item, memory_items, value_at, IsFlatInstant, IsFlatNext}
use Rattle.rv_flat.specs.FlatOf.{IsFlatOf, flat_state, flat_inputs, first_values, row_of, instant_of}
use Rattle.rv_flat.specs.Steps.{IsInRange, IsState, AreValues, AreTaken, label_counts, memory_kinds, input_kinds}
use Rattle.rv_flat.specs.{declared.flat.Flat.Flat, declared.parts.FlatMemory.FlatMemory, declared.state.State.State, Lists.tick_places, Systems.memory_of}
use Rattle.rv_agreement.specs.Checks.{constant_fits}
use Rattle.rv_flat.proofs.{Running.ticks_long, TickList.number_at, TickList.ticks_rising}
use Rattle.rv_types.proofs.ChainLaws.{no_flag}

-- What is taken from the meaning: memories of their types stay so, and there is a state after each row.

abbrev pub TypedMemories : Type 0
TypedMemories = (program : ProgramTree) (main : Identifier) (sequence : List Sites) (state next : Brought) (inputs : ℕ → Value) (row : Instant)
    → AreWell program → IsNode program main → IsSequence program main sequence → AreStarts program main state.kept → AreGiven program main inputs
    → IsInstant program main state inputs row → IsNext program main state row next → AreStarts program main next.kept

abbrev pub SomeNext : Type 0
SomeNext = (program : ProgramTree) (main : Identifier) (state : Brought) (row : Instant) → AreWell program → IsNode program main
    → (next : Brought) × IsNext program main state row next

-- the labels of the enumerations
pub counted : (ds : List TypeDecl) (i : ℕ) → get_or (map (λ ls. length ls) (map (λ d. texts (labels_of d)) ds)) i 0 ≡ labels_at ds i
counted [] i = refl
counted (d ∷ ds) zero = length-map (labels_of d) (λ x. x.text)
counted (d ∷ ds) (suc i) = counted ds i

-- both say which values a type has
module _ (program : ProgramTree) (counts : List ℕ) (same : (i : ℕ) → get_or counts i 0 ≡ labels_at program.types i) where
  fits_is : (k : Kind) (v : Value) → (constant_fits counts k v ≡ true) ↔ HasKind program k v
  fits_is kind.Bool (Flag b) = (λ e. tt, λ h. refl)
  fits_is kind.Int (Whole z) = (λ e. tt, λ h. refl)
  fits_is (kind.Labels i) (Label l) = (λ e. omega (arith, same i, ltb-true l (get_or counts i 0) e), λ h. let s = same i in grind (arith, nat_tests))
  fits_is _ _ = (λ e. no_flag e, λ h. absurd h)

-- how many labels each enumeration has
pub counts_same : (program : ProgramTree) (main : Identifier) (f : Flat) → IsFlatOf program main f → (i : ℕ)
    → get_or (label_counts f) i 0 ≡ labels_at program.types i
counts_same program main f flat i = ap (λ ls. get_or (map (λ l. length l) ls) i 0) flat.labels ∙ counted program.types i

-- the inputs as a function and back
pub length-values : (g : ℕ → Value) (n : ℕ) → length (first_values g n) ≡ n
length-values g zero = refl
length-values g (suc n) = omega (arith, length-append (first_values g n) (g n ∷ []), length-values g n)

pub value_kth : (g : ℕ → Value) (n k : ℕ) → k < n → get_or (first_values g n) k (Flag false) ≡ g k
value_kth g zero k lt = absurd (omega arith)
value_kth g (suc n) k lt = elim (eq-or-lt_of_le {n = k} {m = n} (omega arith)) [
  | inl same ↦ subst (λ j. get_or (first_values g (suc n)) j (Flag false) ≡ g j) (sym same)
      (get_or_push (first_values g n) (g n) (Flag false) n (length-values g n))
  | inr below ↦ get_or_append_left (first_values g n) (g n ∷ []) (Flag false) k (omega (arith, length-values g n)) ∙ value_kth g n k below
]

pub values_again : (values : List Value) (n : ℕ) → length values ≡ n → first_values (λ j. get_or values j (Flag false)) n ≡ values
values_again values n size =
    let read : ℕ → Value = λ j. get_or values j (Flag false) in
    ext_get_or (Flag false) (first_values read n) values (omega (arith, length-values read n, size))
    (λ k lt. value_kth read n k (omega (arith, length-values read n, lt)))

-- a memory by its place and type, at a number
pub memory_kth : (ms : List FlatMemory) (m : ℕ) (j : Kind) → slice_get (map (λ x. x.kind) ms) m ≡ Some j
    → Contains (map memory_of ms) (record { place = get_or (map (λ x. x.place.sites) ms) m []; kind = j })
memory_kth [] m j e = absurd (grind arith)
memory_kth (x ∷ ms) zero j e = let same : x.kind ≡ j = grind arith in (0, omega arith, λ i. record { place = x.place.sites; kind = same i })
memory_kth (x ∷ ms) (suc m) j e = let w = memory_kth ms m j e in (suc w.0, omega (arith, w.1), w.2)

-- and back
pub memory_found : (ms : List FlatMemory) (a : MemoryAt) → Contains (map memory_of ms) a
    → (m : ℕ) × (m < length ms) × (slice_get (map (λ x. x.kind) ms) m ≡ Some a.kind) × (get_or (map (λ x. x.place.sites) ms) m [] ≡ a.place)
memory_found [] a w = absurd (let lt = w.1 in omega (arith, lt))
memory_found (x ∷ ms) a (zero, lt, is) = (0, omega arith, ap (λ (b : MemoryAt). Some b.kind) is, ap (λ (b : MemoryAt). b.place) is)
memory_found (x ∷ ms) a (suc k, lt, is) = let r = memory_found ms a (k, omega arith, is) in (suc r.0, omega (arith, r.1), r.2, r.3)

-- the number of a tick, by the flow of its clock
abbrev tick_number : List Sites → Option Sites → ℕ
tick_number ps Nothing = 0
tick_number ps (Some p) = suc (index_of ps p)

tick_value : (ticked : List Bool) (ps : List Sites) → AreRising ps → (k : ℕ) → k < suc (length ps)
    → get_or (map (λ o. get_or ticked (tick_number ps o) false) (Nothing ∷ map (λ p. Some p) ps)) k false ≡ get_or ticked k false
tick_value ticked ps rising zero lt = refl
tick_value ticked ps rising (suc k) lt =
    let g : Option Sites → Bool = λ o. get_or ticked (tick_number ps o) false in
    let less : k < length ps = omega arith in
    let long : length (map (λ (p : Sites). Some p) ps) ≡ length ps = length-map ps (λ p. Some p) in
    get_or-map g (map (λ p. Some p) ps) k Nothing false (omega (arith, long))
    ∙ ap g (get_or-map (λ (p : Sites). Some p) ps k [] Nothing less)
    ∙ ap (λ j. get_or ticked (suc j) false) (number_at ps rising k less)

-- The states and the inputs of a flat system, as its program has them.
module _ (program : ProgramTree) (main : Identifier) (f : Flat) (well : AreWell program) (named : IsNode program main) (flat : IsFlatOf program main f) where
  abbrev ticks : List Sites
  ticks = tick_places f.variables

  abbrev kept_places : List Sites
  kept_places = memory_places f

  pub memories_rising : AreRising kept_places
  memories_rising = subst AreRising (map-map (λ (a : MemoryAt). a.place) memory_of f.memories) flat.memories.rising

  kind_is : (k : Kind) (v : Value) → (constant_fits (label_counts f) k v ≡ true) ↔ HasKind program k v
  kind_is = fits_is program (label_counts f) (counts_same program main f flat)

  pub count : length kept_places ≡ length f.memories
  count = length-map f.memories (λ m. m.place.sites)

  -- the number of a memory of the program, and its type there
  pub number_of : (i : Instance) (d : Delay) → IsInstance program main i → Contains (node_delays i.node) d → (m : ℕ) × (m < length f.memories)
      × (slice_get (memory_kinds f) m ≡ Some (memory_at program i d).kind) × (index_of kept_places (memory_at program i d).place ≡ m)
  number_of i d inst w =
      let found = memory_found f.memories (memory_at program i d) (flat.memories.all i d inst tt w) in
      (found.0, found.1, found.2, ap (index_of kept_places) (sym found.3) ∙ number_at kept_places memories_rising found.0 (omega (arith, count, found.1)))

  -- and back: what memories of a program have by places has the types of the system by numbers
  pub kept_typed : (kept : Sites → Value) → AreStarts program main kept → (m : ℕ) (j : Kind) → slice_get (memory_kinds f) m ≡ Some j
      → HasKind program j (kept (get_or kept_places m []))
  kept_typed kept starts m j e =
      let found = flat.memories.only (record { place = get_or kept_places m []; kind = j }) (memory_kth f.memories m j e) in
      subst (λ (a : MemoryAt). HasKind program a.kind (kept a.place)) (sym found.5) (starts found.0 found.1 found.2 found.4)

  -- values by the numbers of memories, read by places
  pub kept_again : (values : List Value) → length values ≡ length f.memories
      → map (λ p. get_or values (index_of kept_places p) (Flag false)) kept_places ≡ values
  kept_again values size =
      let read : Sites → Value = λ p. get_or values (index_of kept_places p) (Flag false) in
      let long : length (map read kept_places) ≡ length kept_places = length-map kept_places read in
      ext_get_or (Flag false) (map read kept_places) values (omega (arith, long, count, size)) (λ m lt.
      let less : m < length kept_places = omega (arith, long) in
      get_or-map read kept_places m [] (Flag false) less ∙ ap (λ j. get_or values j (Flag false)) (number_at kept_places memories_rising m less))

  module _ (now : State) (state : IsState f now) where
    abbrev brought : Brought
    brought = record { ticked = λ o. get_or now.ticked (tick_number ticks o) false; kept = λ p. get_or now.kept (index_of kept_places p) (Flag false) }

    pub state_same : flat_state f brought ≡ now
    state_same =
        let long = ticks_long f brought in
        let clocks = length-map ticks (λ (p : Sites). Some (index_of (places f) p)) in
        let ticked = ext_get_or false (flat_state f brought).ticked now.ticked (long ∙ sym state.ticks)
        (λ k lt. tick_value now.ticked ticks (ticks_rising program main f.variables flat.variables) k (omega (arith, long, clocks))) in
        let kept = kept_again now.kept (state.kept.size ∙ length-map f.memories (λ m. m.kind)) in
        λ i. record { ticked = ticked i; kept = kept i }

    pub starts_typed : AreStarts program main brought.kept
    starts_typed i d inst w =
        let at = number_of i d inst w in
        subst (λ m. HasKind program (memory_at program i d).kind (get_or now.kept m (Flag false))) (sym at.3)
        ((kind_is (memory_at program i d).kind (get_or now.kept at.0 (Flag false))).0
        (state.kept.typed at.0 (memory_at program i d).kind (slice_get_within (memory_kinds f) at.0 (memory_at program i d).kind at.2) at.2))

    pub state_of_program : (state : Brought) × (flat_state f state ≡ now) × AreStarts program main state.kept
    state_of_program = (brought, state_same, starts_typed)

  module _ (given_values : List Value) (given : AreValues f (input_kinds f) given_values) where
    abbrev given_at : ℕ → Value
    given_at j = get_or given_values j (Flag false)

    pub inputs_same : flat_inputs f given_at ≡ given_values
    inputs_same = values_again given_values (length f.inputs) (given.size ∙ length-map f.inputs (λ j. j.kind))

    pub given_typed : AreGiven program main given_at
    given_typed j k e =
        let is : slice_get (input_kinds f) j ≡ Some k = ap (λ ks. slice_get ks j) flat.input_kinds ∙ e in
        (kind_is k (given_at j)).0 (given.typed j k (slice_get_within (input_kinds f) j k is) is)

    pub inputs_of_program : (inputs : ℕ → Value) × (flat_inputs f inputs ≡ given_values) × AreGiven program main inputs
    inputs_of_program = (given_at, inputs_same, given_typed)

  -- And back: what a state of the program is to the flat system.
  pub state_of_flat : (state : Brought) → AreStarts program main state.kept → ((q : Sites) → Contains kept_places q → IsInRange (state.kept q))
      → IsState f (flat_state f state)
  state_of_flat state starts small = record {
    ticks = ticks_long f state;
    kept = record {
      size = length-map kept_places state.kept ∙ count ∙ sym (length-map f.memories (λ m. m.kind));
      typed = λ m j lt e.
          let less : m < length kept_places = omega (arith, lt, count, length-map f.memories (λ m. m.kind)) in
          subst (λ v. constant_fits (label_counts f) j v ≡ true) (sym (get_or-map state.kept kept_places m [] (Flag false) less))
          ((kind_is j (state.kept (get_or kept_places m []))).1 (kept_typed state.kept starts m j e));
      within = λ m lt.
          let less : m < length kept_places = omega (arith, lt, length-map kept_places state.kept) in
          subst IsInRange (sym (get_or-map state.kept kept_places m [] (Flag false) less))
          (small (get_or kept_places m []) (Contains-get_or kept_places m [] less));
    };
  }

  -- and what its inputs are
  pub inputs_of_flat : (inputs : ℕ → Value) → AreGiven program main inputs → ((j : ℕ) → j < length f.inputs → IsInRange (inputs j))
      → AreValues f (input_kinds f) (flat_inputs f inputs)
  inputs_of_flat inputs given small = record {
    size = length-values inputs (length f.inputs) ∙ sym (length-map f.inputs (λ j. j.kind));
    typed = λ k j lt e.
        let less : k < length f.inputs = omega (arith, lt, length-map f.inputs (λ j. j.kind)) in
        subst (λ v. constant_fits (label_counts f) j v ≡ true) (sym (value_kth inputs (length f.inputs) k less))
        ((kind_is j (inputs k)).1 (given k j (ap (λ ks. slice_get ks k) (sym flat.input_kinds) ∙ e)));
    within = λ k lt.
        let less : k < length f.inputs = omega (arith, lt, length-values inputs (length f.inputs)) in
        subst IsInRange (sym (value_kth inputs (length f.inputs) k less)) (small k less);
  }

module _ (typed_memories : TypedMemories) (some_next : SomeNext) (program : ProgramTree) (main : Identifier) (f : Flat) (now : State) (inputs : List Value)
    (row : Row) (well : AreWell program) (named : IsNode program main) (flat : IsFlatOf program main f) (state : IsState f now)
    (given : AreValues f (input_kinds f) inputs) (instant : IsFlatInstant f now inputs row) where
  abbrev memory_spots : List Sites
  memory_spots = memory_places f

  abbrev before : Brought
  before = brought program main f well named flat now state

  abbrev inputs_at : ℕ → Value
  inputs_at = given_at program main f well named flat inputs given

  program_instant : IsInstant program main before inputs_at (instant_of (places f) row)
  program_instant =
      flat.rows before inputs_at row (subst (λ s. IsFlatInstant f s (flat_inputs f inputs_at) row) (sym (state_same program main f well named flat now state))
      (subst (λ js. IsFlatInstant f now js row) (sym (inputs_same program main f well named flat inputs given)) instant))

  abbrev next : Brought
  next = (some_next program main before (instant_of (places f) row) well named).0

  flat_next : IsFlatNext f now inputs row (flat_state f next)
  flat_next =
      let is = flat.next before next inputs_at (instant_of (places f) row) program_instant
      (some_next program main before (instant_of (places f) row) well named).1 in
      subst (λ r. IsFlatNext f now inputs r (flat_state f next)) (flat.kept row instant.flows)
      (subst (λ js. IsFlatNext f now js (row_of (places f) (instant_of (places f) row)) (flat_state f next))
      (inputs_same program main f well named flat inputs given)
      (subst (λ s. IsFlatNext f s (flat_inputs f inputs_at) (row_of (places f) (instant_of (places f) row)) (flat_state f next))
      (state_same program main f well named flat now state) is))

  next_typed : AreStarts program main next.kept
  next_typed =
      typed_memories program main (places f) before next inputs_at (instant_of (places f) row) well named flat.sequence
      (starts_typed program main f well named flat now state) (given_typed program main f well named flat inputs given) program_instant
      (some_next program main before (instant_of (places f) row) well named).1

  pub memories_taken : AreTaken f now inputs row
  memories_taken m j lt e on =
      let item = nth_item (memory_items f) m in
      let value : next.kept (get_or memory_spots m []) ≡ value_at now inputs row item.body =
      sym (get_or-map next.kept memory_spots m [] (Flag false) (omega (arith, length-map f.memories (λ m. m.place.sites))))
      ∙ flat_next.kept m lt ∙ ap (λ b. cond b (value_at now inputs row item.body) (get_or now.kept m (Flag false))) on in
      (kind_is program main f well named flat j (value_at now inputs row item.body)).1
      (subst (HasKind program j) value (kept_typed program main f well named flat next.kept next_typed m j e))
