-- A trace of a program is one of its flat system, and the other way.
use Rattle.std.proofs.Common.{◌≡◌, ℕ, zero, suc, ◌<◌, ◌≤◌, Bool, false, List, [], ◌∷◌, map, length, get_or, refl, sym, ◌∙◌, ap, subst, arith, Some, slice_get}
use Rattle.std.proofs.{lemmas.List.ext_get_or, lemmas.List.get_or-map, lemmas.List.length-map, lemmas.Option.slice_get_within}
use Rattle.std.specs.List.{Contains}
use Rattle.rv_base.specs.{declared.value.Trace.Trace, declared.value.Value.Value, declared.value.Value.TheVariants.Flag}
use Rattle.rv_tree.specs.{Tree.ProgramTree, Places.Identifier, Places.Sites, Places.index_of}
use Rattle.rv_types.specs.{declared.typed.Kind.Kind, Instances.IsNode, Instances.node_of, Kinds.decl_kinds, Kinds.kind_in_program, Lists.MemoryAt}
use Rattle.rv_types.specs.{Lists.memory_at, Lists.memory_places, Values.HasKind, WellFormed.AreWell}
use Rattle.rv_meaning.specs.{Runs.AreInputs, Runs.AreStarts, Instants.State as Brought, Instants.AreGiven}
use Rattle.rv_flat.specs.Steps.{AreValues, IsInRange, IsState, input_kinds, memory_kinds}
use Rattle.rv_flat.specs.{declared.flat.Flat.Flat, declared.parts.FlatMemory.FlatMemory, declared.state.State.State, FlatInstants.tick_clocks}
use Rattle.rv_flat.specs.{FlatOf.first_values, FlatOf.flat_inputs, FlatOf.flat_state, FlatOf.IsFlatOf, Systems.memory_of}
use Rattle.rv_flat.specs.FlatInstants as instants
use Rattle.rv_flat.proofs.{TickList.number_at, Typing.length-values, Typing.memory_kth, Typing.value_kth}
use Rattle.rv_replay.specs.Traces.{Fixes, IsFlatTrace, IsTrace, given, kinds_of}
use Rattle.rv_replay.proofs.{Observers.InputsOfProgram, Observers.StatesOfProgram, Orders.one_listing}
use Rattle.rv_types.proofs.PlaceOrders.{placed}

abbrev pub StatesOfFlat : Type 0
StatesOfFlat = (program : ProgramTree) (main : Identifier) (f : Flat) (state : Brought) → AreWell program → IsNode program main → IsFlatOf program main f
    → AreStarts program main state.kept
    → ((q : Sites) → Contains (instants.memory_places f) q → IsInRange (state.kept q)) → IsState f (flat_state f state)

abbrev pub InputsOfFlat : Type 0
InputsOfFlat = (program : ProgramTree) (main : Identifier) (f : Flat) (inputs : ℕ → Value) → AreWell program → IsNode program main → IsFlatOf program main f
    → AreGiven program main inputs
    → ((j : ℕ) → j < length f.inputs → IsInRange (inputs j)) → AreValues f (input_kinds f) (flat_inputs f inputs)

-- values by number, and back
first_same : (values : List Value) (n : ℕ) → length values ≡ n → first_values (λ j. get_or values j (Flag false)) n ≡ values
first_same values n e =
    let g : ℕ → Value = λ j. get_or values j (Flag false) in
    let long = length-values g n in
    ext_get_or (Flag false) (first_values g n) values (omega (arith, long, e)) (λ k lt. value_kth g n k (omega (arith, long, lt)))

pub places_same : (ms : List FlatMemory) → memory_places (map memory_of ms) ≡ map (λ m. m.place.sites) ms
places_same [] = refl
places_same (x ∷ ms) = ap (λ ps. x.place.sites ∷ ps) (places_same ms)

pub kinds_same : (ms : List FlatMemory) → kinds_of (map memory_of ms) ≡ map (λ m. m.kind) ms
kinds_same [] = refl
kinds_same (x ∷ ms) = ap (λ ks. x.kind ∷ ks) (kinds_same ms)

-- what the memories of a flat system start with
pub starts_same : (starts : Sites → Value) (ms : List FlatMemory) → map (λ (m : MemoryAt). starts m.place) (map memory_of ms) ≡ map starts
    (map (λ m. m.place.sites) ms)
starts_same starts [] = refl
starts_same starts (x ∷ ms) = ap (λ vs. starts x.place.sites ∷ vs) (starts_same starts ms)

kind_there : (ms : List MemoryAt) (k : ℕ) (a : MemoryAt) → k < length ms → get_or ms k a ≡ a → slice_get (kinds_of ms) k ≡ Some a.kind
kind_there [] k a lt e = absurd (omega (arith, lt))
kind_there (m ∷ ms) zero a lt e = ap (λ (m : MemoryAt). Some m.kind) e
kind_there (m ∷ ms) (suc k) a lt e = kind_there ms k a (omega (arith, lt)) e

in_range_there : (values : List Value) → ((k : ℕ) → k < length values → IsInRange (get_or values k (Flag false))) → (k : ℕ)
    → IsInRange (get_or values k (Flag false))
in_range_there [] within k = tt
in_range_there (v ∷ values) within zero = within 0 (omega arith)
in_range_there (v ∷ values) within (suc k) = in_range_there values (λ j lt. within (suc j) (omega (arith, lt))) k

-- The start values and inputs of a trace, as functions.
module _ (program : ProgramTree) (main : Identifier) (t : Trace) (trace : IsTrace program main t) where
  abbrev spots : List Sites
  spots = memory_places trace.memories

  abbrev pub trace_starts : Sites → Value
  trace_starts q = get_or t.starts (index_of spots q) (Flag false)

  abbrev pub trace_inputs : ℕ → ℕ → Value
  trace_inputs k j = get_or (given t k) j (Flag false)

  spots_many : length spots ≡ length trace.memories
  spots_many = length-map trace.memories (λ (m : MemoryAt). m.place)

  starts_many : length t.starts ≡ length trace.memories
  starts_many = trace.starts.size ∙ length-map trace.memories (λ (m : MemoryAt). m.kind)

  started : map (λ m. trace_starts m.place) trace.memories ≡ t.starts
  started =
      let long = length-map trace.memories (λ (m : MemoryAt). trace_starts m.place) in
      ext_get_or (Flag false) (map (λ m. trace_starts m.place) trace.memories) t.starts (long ∙ sym starts_many)
      (λ k lt. at k (omega (arith, lt, long)))
    where
      by_place : (ms : List MemoryAt) (k : ℕ) → k < length ms → get_or (map (λ m. trace_starts m.place) ms) k (Flag false) ≡ trace_starts
          (get_or (memory_places ms) k [])
      by_place [] k lt = absurd (omega (arith, lt))
      by_place (m ∷ ms) zero lt = refl
      by_place (m ∷ ms) (suc k) lt = by_place ms k (omega (arith, lt))

      at : (k : ℕ) → k < length trace.memories → get_or (map (λ m. trace_starts m.place) trace.memories) k (Flag false) ≡ get_or t.starts k (Flag false)
      at k lt = by_place trace.memories k lt ∙ ap (λ j. get_or t.starts j (Flag false)) (number_at spots trace.listed.rising k (omega (arith, lt, spots_many)))

  pub are_starts : AreStarts program main trace_starts
  are_starts i d inst w =
      let a = memory_at program i d in
      let found = trace.listed.all i d inst tt w in
      let number : index_of spots a.place ≡ found.0 =
      ap (index_of spots) (sym (placed trace.memories found.0 a found.1 found.2))
      ∙ number_at spots trace.listed.rising found.0 (let lt = found.1 in omega (arith, lt, spots_many)) in
      subst (λ k. HasKind program a.kind (get_or t.starts k (Flag false))) (sym number)
      (trace.starts.typed found.0 a.kind (kind_there trace.memories found.0 a found.1 found.2))

  pub are_given : (k : ℕ) → k < length t.instants → AreGiven program main (trace_inputs k)
  are_given k lt j kind e = (trace.instants k lt).typed j kind e

  pub are_inputs : (n : ℕ) → n ≤ length t.instants → AreInputs program main n trace_inputs
  are_inputs n le s j kind lt e = are_given s (omega (arith, le, lt)) j kind e

  pub trace_fixes : (n : ℕ) → n ≤ length t.instants → Fixes program main t n trace_starts trace_inputs
  trace_fixes n le = record {
    memories = trace.memories;
    listed = trace.listed;
    started = started;
    count = le;
    fed = λ k lt. first_same (given t k) (length (node_of program main).inputs)
        ((trace.instants k (omega (arith, lt, le))).size ∙ inputs_many);
  }
    where
      inputs_many : length (decl_kinds program (node_of program main).inputs) ≡ length (node_of program main).inputs
      inputs_many = length-map (node_of program main).inputs (λ d. kind_in_program program d.kind)

  -- the same of its flat system
  module _ (states_of_flat : StatesOfFlat) (inputs_of_flat : InputsOfFlat) (f : Flat) (well : AreWell program) (named : IsNode program main)
      (flat : IsFlatOf program main f) where
    inputs_long : length f.inputs ≡ length (decl_kinds program (node_of program main).inputs)
    inputs_long = sym (length-map f.inputs (λ i. i.kind)) ∙ ap length flat.input_kinds

    memories_same : trace.memories ≡ map memory_of f.memories
    memories_same = one_listing program main trace.memories (map memory_of f.memories) trace.listed flat.memories

    pub starts_flat : map trace_starts (instants.memory_places f) ≡ t.starts
    starts_flat = sym (starts_same trace_starts f.memories) ∙ ap (map (λ (m : MemoryAt). trace_starts m.place)) (sym memories_same) ∙ started

    pub inputs_flat : (k : ℕ) → k < length t.instants → flat_inputs f (trace_inputs k) ≡ given t k
    inputs_flat k lt = first_same (given t k) (length f.inputs) ((trace.instants k lt).size ∙ sym inputs_long)

    pub flat_trace : IsFlatTrace f t
    flat_trace = record {
      starts = subst (AreValues f (memory_kinds f)) starts_flat
          (states_of_flat program main f (record { ticked = λ o. false; kept = trace_starts }) well named flat are_starts
          (λ q w. in_range_there t.starts trace.starts.within (index_of spots q))).kept;
      instants = λ k lt. subst (AreValues f (input_kinds f)) (inputs_flat k lt)
          (inputs_of_flat program main f (trace_inputs k) well named flat (are_given k lt)
          (λ j less. in_range_there (given t k) (trace.instants k lt).within j));
      count = trace.count;
    }

-- And the other way.
module _ (states_of_program : StatesOfProgram) (inputs_of_program : InputsOfProgram) (program : ProgramTree) (main : Identifier) (f : Flat) (t : Trace)
    (well : AreWell program) (named : IsNode program main) (flat : IsFlatOf program main f) (trace : IsFlatTrace f t) where
  abbrev ticked : List Bool
  ticked = map (λ o. false) (tick_clocks f)

  first : IsState f (record { ticked = ticked; kept = t.starts })
  first = record { ticks = length-map (tick_clocks f) (λ o. false); kept = trace.starts }

  abbrev state : Brought
  state = (states_of_program program main f (record { ticked = ticked; kept = t.starts }) well named flat first).0

  kept_same : map state.kept (instants.memory_places f) ≡ t.starts
  kept_same = ap (λ (s : State). s.kept) (states_of_program program main f (record { ticked = ticked; kept = t.starts }) well named flat first).1

  starts_typed : (k : ℕ) (j : Kind) → slice_get (kinds_of (map memory_of f.memories)) k ≡ Some j → HasKind program j (get_or t.starts k (Flag false))
  starts_typed k j e =
      let is : slice_get (memory_kinds f) k ≡ Some j = ap (λ ks. slice_get ks k) (sym (kinds_same f.memories)) ∙ e in
      let long = length-map f.memories (λ m. m.place.sites) in
      let kinds = length-map f.memories (λ m. m.kind) in
      let lt : k < length (instants.memory_places f) = let within = slice_get_within (memory_kinds f) k j is in omega (arith, within, long, kinds) in
      let found = flat.memories.only (record { place = get_or (instants.memory_places f) k []; kind = j }) (memory_kth f.memories k j is) in
      let at : MemoryAt = memory_at program found.0 found.1 in
      let place : get_or (instants.memory_places f) k [] ≡ at.place = ap (λ (a : MemoryAt). a.place) found.5 in
      let kind : j ≡ at.kind = ap (λ (a : MemoryAt). a.kind) found.5 in
      let value : get_or t.starts k (Flag false) ≡ state.kept at.place =
      ap (λ vs. get_or vs k (Flag false)) (sym kept_same) ∙ get_or-map state.kept (instants.memory_places f) k [] (Flag false) lt ∙ ap state.kept place in
      subst (λ (x : Kind). HasKind program x (get_or t.starts k (Flag false))) (sym kind)
      (subst (HasKind program at.kind) (sym value) ((states_of_program program main f (record { ticked = ticked; kept = t.starts }) well named flat first).2
      found.0 found.1 found.2 found.4))

  given_typed : (k : ℕ) → k < length t.instants → (j : ℕ) (x : Kind) → slice_get (decl_kinds program (node_of program main).inputs) j ≡ Some x
      → HasKind program x (get_or (given t k) j (Flag false))
  given_typed k lt j x e =
      let of = inputs_of_program program main f (given t k) well named flat (trace.instants k lt) in
      let is : slice_get (input_kinds f) j ≡ Some x = ap (λ ks. slice_get ks j) flat.input_kinds ∙ e in
      let kinds = length-map f.inputs (λ i. i.kind) in
      let less : j < length f.inputs = let within = slice_get_within (input_kinds f) j x is in omega (arith, within, kinds) in
      subst (HasKind program x) (sym (value_kth of.0 (length f.inputs) j less) ∙ ap (λ vs. get_or vs j (Flag false)) of.1) (of.2 j x e)

  pub trace_of_program : IsTrace program main t
  trace_of_program = record {
    memories = map memory_of f.memories;
    listed = flat.memories;
    starts = record {
      size = trace.starts.size ∙ ap length (sym (kinds_same f.memories));
      typed = starts_typed;
      within = trace.starts.within;
    };
    instants = λ k lt. record {
      size = (trace.instants k lt).size ∙ ap length flat.input_kinds;
      typed = given_typed k lt;
      within = (trace.instants k lt).within;
    };
    count = trace.count;
  }
