-- A run of a flat system is one of its program, in whole numbers of any size.
use Rattle.std.proofs.Common.{◌≡◌, ℕ, zero, suc, ◌+◌, ◌<◌, ◌≤◌, Bool, false, ◌||◌, List, ◌∷◌, length, map, get_or, refl, sym, ◌∙◌, ap, subst, arith, slice_get}
use Rattle.std.proofs.Common.{None as Nothing, Some}
use Rattle.std.proofs.lemmas.List.FromFn.{length-map-range_with_len, get_or-map-range_with_len}
use Rattle.std.proofs.{lemmas.List.ext_get_or, lemmas.Option.get_or_from_slice_get, lemmas.Option.slice_get_within, Math.ListN.length-map}
use Rattle.std.specs.{FinMap.empty, List.range_with_len}
use Rattle.rv_base.specs.declared.value.Value.{Value}
use Rattle.rv_base.specs.declared.value.Value.TheVariants.{Flag}
use Rattle.rv_tree.specs.{Tree.ProgramTree, Places.Identifier, Places.Sites, Places.index_of}
use Rattle.rv_types.specs.{declared.typed.Kind.Kind, Instances.IsNode, Lists.memory_at, Values.HasKind, WellFormed.AreWell}
use Rattle.rv_types.specs.declared.typed.Kind.TheVariants as kind
use Rattle.rv_meaning.specs.Runs.{History, cells, AreStarts, AreInputs, IsRun}
use Rattle.rv_meaning.specs.{Instants.State as Brought, Instants.IsInstant, Instants.IsNext, Following.IsStateAt, Following.AreSteps}
use Rattle.rv_agreement.specs.{Agreement.State, Agreement.HasKind as HasKindIn, Evaluation.IsInstant as IsSystemInstant, Evaluation.integers}
use Rattle.rv_agreement.specs.{FlatRuns.IsFlatRun, Trees.System, Trees.kind_at}
use Rattle.rv_agreement.specs.Agreement as agreement
use Rattle.rv_agreement.specs.Evaluation as evaluation
use Rattle.rv_agreement.specs.Trees as trees
use Rattle.rv_flat.specs.FlatInstants.{Row, places, memory_places, system_of, found_at, IsFlatInstant, IsFlatNext}
use Rattle.rv_flat.specs.{declared.flat.Flat.Flat, FlatOf.IsFlatOf, FlatOf.flat_state, FlatOf.flat_inputs, FlatOf.row_of, FlatOf.instant_of, Lists.tick_places}
use Rattle.rv_flat.specs.{Steps.label_counts, Steps.memory_kinds, Steps.input_kinds, SystemRuns.HasRun, Systems.flow_item, Systems.kept_of}
use Rattle.rv_flat.proofs.Typing.{SomeNext, counts_same, kept_again, number_of, values_again}
use Rattle.rv_flat.proofs.{Running.all_false, SystemRuns.kept_kinds, SystemRuns.kept_items, SystemRuns.kind_there}

-- What is taken from the meaning: steps from the start are the run.
abbrev pub StepsAreRun : Type 0
StepsAreRun = (program : ProgramTree) (main : Identifier) (starts : Sites → Value) (inputs : ℕ → ℕ → Value) (n : ℕ) (states : ℕ → Brought) (rows : History)
    → AreStarts program main starts → AreInputs program main n inputs → AreSteps program main starts inputs n states rows
    → IsRun program main starts inputs n rows × ((t : ℕ) → t < n → IsStateAt program main starts (cells rows) t (states t))

-- the type with a number, where there is one
kind_found : (ks : List Kind) (m : ℕ) (k : Kind) → slice_get ks m ≡ Some k → (m < length ks) × (kind_at ks m ≡ k)
kind_found ks m k e = (slice_get_within ks m k e, get_or_from_slice_get ks m k kind.Bool e)

module _ (steps_are_run : StepsAreRun) (some_next : SomeNext) (program : ProgramTree) (main : Identifier) (f : Flat) (well : AreWell program)
    (named : IsNode program main) (flat : IsFlatOf program main f) (n : ℕ) (states : ℕ → State) (inputs : ℕ → List Value) (rows : ℕ → Row)
    (run : IsFlatRun (system_of f) n states inputs rows) (some : 0 < n) where
  abbrev system : System
  system = system_of f

  abbrev starts : Sites → Value
  starts p = get_or (states 0).kept (index_of (memory_places f) p) (Flag false)

  abbrev given : ℕ → ℕ → Value
  given t j = get_or (inputs t) j (Flag false)

  kind_back : (k : Kind) (v : Value) → HasKindIn (label_counts f) k v → HasKind program k v
  kind_back k v h = (kind_there program (label_counts f) (counts_same program main f flat) k v).1 h

  kinds_count : length (trees.memory_kinds system) ≡ length f.memories
  kinds_count = ap length (kept_kinds f.memories f.memories) ∙ length-map f.memories (λ m. m.kind)

  starts_typed : AreStarts program main starts
  starts_typed i d inst w =
      let k = (memory_at program i d).kind in
      let at = number_of program main f well named flat i d inst w in
      let is = kind_found (trees.memory_kinds system) at.0 k (ap (λ ks. slice_get ks at.0) (kept_kinds f.memories f.memories) ∙ at.2) in
      subst (λ m. HasKind program k (get_or (states 0).kept m (Flag false))) (sym at.3) (kind_back k (get_or (states 0).kept at.0 (Flag false))
      (subst (λ k. HasKindIn system.labels k (get_or (states 0).kept at.0 (Flag false))) is.1 ((run.typed 0 some).memories.each at.0 is.0)))

  inputs_typed : AreInputs program main n given
  inputs_typed t j k lt e =
      let is = kind_found system.inputs j k (ap (λ ks. slice_get ks j) flat.input_kinds ∙ e) in
      kind_back k (given t j) (subst (λ i. HasKindIn system.labels i (given t j)) is.1 ((run.typed t lt).given.each j is.0))

  inputs_same : (t : ℕ) → t < n → inputs t ≡ flat_inputs f (given t)
  inputs_same t lt = sym (values_again (inputs t) (length f.inputs) ((run.typed t lt).given.many ∙ length-map f.inputs (λ i. i.kind)))

  -- the states of the program
  brought : ℕ → Brought
  brought zero = record { ticked = λ k. false; kept = starts }
  brought (suc t) = (some_next program main (brought t) (instant_of (places f) (rows t)) well named).0

  next_at : (t : ℕ) → IsNext program main (brought t) (instant_of (places f) (rows t)) (brought (suc t))
  unfolding brought
  next_at t = (some_next program main (brought t) (instant_of (places f) (rows t)) well named).1

  -- the two states have the same
  record IsSame (t : ℕ) : Type 0 where
    pub ticked : (k : ℕ) → get_or (states t).ticked k false ≡ get_or (flat_state f (brought t)).ticked k false
    pub kept : (states t).kept ≡ (flat_state f (brought t)).kept

  found_same : (t : ℕ) → t < n → IsSame t → agreement.found_in (states t) (inputs t) ≡ found_at (flat_state f (brought t)) (flat_inputs f (given t))
  found_same t lt same = λ i. record {
    ticked = λ k. same.ticked k i;
    kept = λ m. get_or (same.kept i) m (Flag false);
    given = λ j. get_or (inputs_same t lt i) j (Flag false);
  }

  flat_instant : (t : ℕ) → t < n → IsSame t → IsFlatInstant f (flat_state f (brought t)) (flat_inputs f (given t)) (rows t)
  flat_instant t lt same =
      let is = subst (λ found. IsSystemInstant Value integers system found (rows t)) (found_same t lt same) (run.instant t lt) in
      let many = length-map f.flows (flow_item f.memories) in
      record { flows = is.flows ∙ many; holds = λ k less. is.holds k (omega (arith, many, less)) }

  instant_at : (t : ℕ) → t < n → IsSame t → IsInstant program main (brought t) (given t) (instant_of (places f) (rows t))
  instant_at t lt same = flat.rows (brought t) (given t) (rows t) (flat_instant t lt same)

  row_same : (t : ℕ) → t < n → IsSame t → row_of (places f) (instant_of (places f) (rows t)) ≡ rows t
  row_same t lt same = flat.kept (rows t) (flat_instant t lt same).flows

  same_at : (t : ℕ) → t ≤ n → IsSame t
  unfolding brought
  same_at zero le = record {
    ticked = λ k. run.start k ∙ sym (all_false (λ o. false) (Nothing ∷ map (λ p. Some p) (tick_places f.variables)) (λ o. refl) k);
    kept = sym (kept_again program main f well named flat (states 0).kept ((run.typed 0 some).memories.many ∙ kinds_count));
  }
  same_at (suc t) le =
      let lt : t < n = omega arith in
      let same = same_at t (omega arith) in
      let mine = run.next t lt in
      let other : IsFlatNext f (flat_state f (brought t)) (flat_inputs f (given t)) (rows t) (flat_state f (brought (suc t))) =
      subst (λ r. IsFlatNext f (flat_state f (brought t)) (flat_inputs f (given t)) r (flat_state f (brought (suc t)))) (row_same t lt same)
      (flat.next (brought t) (brought (suc t)) (given t) (instant_of (places f) (rows t)) (instant_at t lt same) (next_at t)) in
      let many = length-map f.memories (kept_of f.memories) in
      let ticks = ext_get_or false (states (suc t)).ticked (flat_state f (brought (suc t))).ticked (mine.ticks ∙ sym other.ticks)
      (λ k less. let below : k < length system.tick_clocks = omega (arith, mine.ticks, less) in
      mine.ticked k below ∙ ap (λ b. b || evaluation.is_there Value integers (rows t) (get_or system.tick_clocks k Nothing)) (same.ticked k)
      ∙ sym (other.ticked k below)) in
      record {
        ticked = λ k. ap (λ l. get_or l k false) ticks;
        kept =
            ext_get_or (Flag false) (states (suc t)).kept (flat_state f (brought (suc t))).kept (mine.memories ∙ many ∙ sym other.memories)
            (λ m less. let below : m < length f.memories = omega (arith, mine.memories, many, less) in
            mine.kept m (omega (arith, many, below))
            ∙ (λ i. evaluation.after Value integers (found_same t lt same i) (rows t) (trees.nth_item (kept_items f.memories f.memories i) m) m)
            ∙ sym (other.kept m below));
      }

  abbrev history : History
  history = map (λ t. instant_of (places f) (rows t)) (range_with_len 0 n)

  row_at : (t : ℕ) → t < n → get_or history t empty ≡ instant_of (places f) (rows t)
  row_at t lt = get_or-map-range_with_len (λ u. instant_of (places f) (rows u)) 0 n t t empty lt (omega arith)

  are_steps : AreSteps program main starts given n brought history
  unfolding brought
  are_steps = record {
    instants = length-map-range_with_len (λ t. instant_of (places f) (rows t)) 0 n;
    start = record { ticks = λ k. refl; memories = λ i d inst w. refl };
    instant = λ t lt. subst (IsInstant program main (brought t) (given t)) (sym (row_at t lt)) (instant_at t lt (same_at t (omega arith)));
    next = λ t lt.
        let one : suc t ≡ t + 1 = omega arith in
        subst (λ r. IsNext program main (brought t) r (brought (t + 1))) (sym (row_at t lt))
        (subst (λ u. IsNext program main (brought t) (instant_of (places f) (rows t)) (brought u)) one (next_at t));
  }

  pub has_run : HasRun program main f n states inputs rows
  unfolding brought
  has_run = record {
    start_values = starts;
    given = given;
    history = history;
    run = (steps_are_run program main starts given n brought history starts_typed inputs_typed are_steps).0;
    kept_at_first = (same_at 0 (omega arith)).kept;
    taken = inputs_same;
    told = λ t lt. sym (row_same t lt (same_at t (omega arith))) ∙ ap (row_of (places f)) (sym (row_at t lt));
  }
