-- The steps of a flat system along a trace, and the run of its program.
use Rattle.std.proofs.Common.{◌≡◌, ℕ, zero, suc, ◌+◌, ◌<◌, ◌≤◌, ◌↔◌, ℤ, Bool, true, false, cond, List, [], ◌∷◌, map, length, get_or, refl, sym, ◌∙◌, ap, subst}
use Rattle.std.proofs.Common.{arith, Option, Some, IsSome, None as Nothing}
use Rattle.std.proofs.{lemmas.Int.ints, lemmas.List.get_or-map, lemmas.List.get_or_default, lemmas.List.length-map}
use Rattle.std.specs.{FinMap.empty, List.Contains}
use Rattle.std.specs.FinMap as finite
use Rattle.rv_base.specs.{declared.value.Value.Value, declared.value.Value.TheVariants.Flag, declared.value.Value.TheVariants.Whole}
use Rattle.rv_tree.specs.{Tree.ProgramTree, Places.Identifier, Places.Sites, Places.index_of, Delays.Delay, Delays.node_delays}
use Rattle.rv_types.specs.{declared.typed.Clock.TheVariants.Base, Instances.Instance, Instances.clock_in, Instances.IsInstance, Lists.MemoryAt, Lists.memory_at}
use Rattle.rv_meaning.specs.{Meaning.content, Meaning.is_there, Meaning.kept_place, Runs.History, Runs.cell, Runs.cells, Runs.observed, Runs.AssertionsHold}
use Rattle.rv_meaning.specs.{Runs.IsRun, Instants.State as Brought, Instants.IsInstant, Following.held_before, Following.IsStateAt}
use Rattle.rv_meaning.specs.Runs as runs
use Rattle.rv_flat.specs.FlatInstants.{Row, is_on_at, memory_items, memory_places, nth, nth_item, places, value_at, IsFlatNext}
use Rattle.rv_flat.specs.Steps.{flow, memory, IsFlatStart, IsGrown, IsInRange, IsWithin}
use Rattle.rv_flat.specs.{declared.flat.Flat.Flat, declared.parts.FlatMemory.FlatMemory, declared.state.State.State, FlatOf.flat_inputs, FlatOf.flat_state}
use Rattle.rv_flat.specs.{FlatOf.row_of, FlatOf.IsFlatBroken, FlatRuns.AreStepsOf, FlatRuns.IsBrokenAt, Lists.tick_places, Systems.memory_of}
use Rattle.rv_flat.proofs.{Running.RunIsInstants, Running.StatesOfRun, Running.all_false, Running.same_kept, Typing.memory_found}
use Rattle.rv_step.specs.Ranges.{is_outside}
use Rattle.rv_replay.specs.{Observers.IsObserved, Replays.HasOutgrown}
use Rattle.rv_replay.specs.Replays as replays
use Rattle.rv_step.proofs.OneStep.{inside}

-- What is taken from the flat systems: steps are the run.
pub record StepsGiveRun : Type 0 where
  pub rows : (program : ProgramTree) (main : Identifier) (f : Flat) (starts : Sites → Value) (inputs : ℕ → ℕ → Value) (n : ℕ) (h : History) (states : ℕ → State)
      (rows : ℕ → Row)
      → AreStepsOf program main f starts inputs n h states rows → (t : ℕ) → t < n → rows t ≡ row_of (places f) (get_or h t empty)
  pub states : (program : ProgramTree) (main : Identifier) (f : Flat) (starts : Sites → Value) (inputs : ℕ → ℕ → Value) (n : ℕ) (h : History)
      (states : ℕ → State) (rows : ℕ → Row)
      → AreStepsOf program main f starts inputs n h states rows → (t : ℕ) → t ≤ n
      → (state : Brought) × IsStateAt program main starts (cells h) t state × (states t ≡ flat_state f state)
  pub observer : (program : ProgramTree) (main : Identifier) (f : Flat) (starts : Sites → Value) (inputs : ℕ → ℕ → Value) (n : ℕ) (h : History)
      (states : ℕ → State) (rows : ℕ → Row)
      → AreStepsOf program main f starts inputs n h states rows → (t : ℕ) → t < n → nth (rows t) f.observer ≡ observed program main h t
  pub broken : (program : ProgramTree) (main : Identifier) (f : Flat) (starts : Sites → Value) (inputs : ℕ → ℕ → Value) (n : ℕ) (h : History)
      (states : ℕ → State) (rows : ℕ → Row)
      → AreStepsOf program main f starts inputs n h states rows → (t : ℕ) → t < n → (q : Sites)
      → IsFlatBroken f (states t) (flat_inputs f (inputs t)) (rows t) q ↔ IsBrokenAt program main starts h t q
  pub allowed : (program : ProgramTree) (main : Identifier) (f : Flat) (starts : Sites → Value) (inputs : ℕ → ℕ → Value) (n : ℕ) (h : History)
      (states : ℕ → State) (rows : ℕ → Row)
      → AreStepsOf program main f starts inputs n h states rows → (t : ℕ) → t < n
      → AssertionsHold program main starts h t ↔ ((q : Sites) → IsFlatBroken f (states t) (flat_inputs f (inputs t)) (rows t) q → ⊥)

-- an instant of a flat system that does not end a replay
pub record FlatPasses (f : Flat) (now : State) (inputs : List Value) (row : Row) : Type 0 where
  pub within : (q : Sites) → IsGrown f now inputs row q → ⊥
  pub allowed : (q : Sites) → IsFlatBroken f now inputs row q → ⊥
  pub observed : nth row f.observer ≡ Some (Flag true)

-- the integers in the memories are within the range
abbrev pub KeepsWithin : Flat → State → Type 0
KeepsWithin f now = (m : ℕ) → m < length f.memories → IsInRange (get_or now.kept m (Flag false))

within_if : (z : ℤ) → ((IsWithin z → ⊥) → ⊥) → IsWithin z
within_if z h = tested (is_outside z) refl
  where
    outside : is_outside z ≡ true → IsWithin z → ⊥
    outside e w = grind (arith, ints, w.0, w.1)

    tested : (b : Bool) → is_outside z ≡ b → IsWithin z
    tested true e = absurd (h (outside e))
    tested false e = inside z e

in_range_if : (v : Value) → ((z : ℤ) → v ≡ Whole z → (IsWithin z → ⊥) → ⊥) → IsInRange v
in_range_if (Whole z) h = within_if z (h z refl)
in_range_if _ h = tt

-- After an instant at which no integer leaves the range they are so again.
pub stays_within : (f : Flat) (now : State) (inputs : List Value) (row : Row) (next : State) → KeepsWithin f now
    → ((q : Sites) → IsGrown f now inputs row q → ⊥)
    → IsFlatNext f now inputs row next → KeepsWithin f next
stays_within f now inputs row next keeps none is m lt =
    subst IsInRange (sym (is.kept m lt)) (chosen (is_on_at row (nth_item (memory_items f) m).clock) refl)
  where
    chosen : (b : Bool) → is_on_at row (nth_item (memory_items f) m).clock ≡ b
        → IsInRange (cond b (value_at now inputs row (nth_item (memory_items f) m).body) (get_or now.kept m (Flag false)))
    chosen true e = in_range_if (value_at now inputs row (nth_item (memory_items f) m).body)
        (λ z at out. none (get_or (memory_places f) m []) (memory m z lt e at out refl))
    chosen false e = keeps m lt

-- what is there has a value
pub there_by : (o : Option (Option Value)) (v : Value) → runs.flat o ≡ Some v → IsSome o
there_by Nothing v e = absurd (let bad : ⊥ = cc in bad)
there_by (Some x) v e = refl

-- the memory with a number, and its place
memory_at_number : (ms : List FlatMemory) (m : ℕ) → m < length ms → (a : MemoryAt) × Contains (map memory_of ms) a
    × (get_or (map (λ x. x.place.sites) ms) m [] ≡ a.place)
memory_at_number [] m lt = absurd (omega (arith, lt))
memory_at_number (x ∷ ms) zero lt = (memory_of x, (0, omega arith, refl), refl)
memory_at_number (x ∷ ms) (suc m) lt = let w = memory_at_number ms m (omega (arith, lt)) in
    (w.0, (suc w.1.0, (let less = w.1.1 in omega (arith, less)), w.1.2), w.2)

-- a value that is there
taken_by : (b : Bool) (c old : Value) (z : ℤ) → cond b (Some c) Nothing ≡ Some (Whole z) → cond b c old ≡ Whole z
taken_by true c old z e = cc
taken_by false c old z e = absurd (let bad : ⊥ = cc in bad)

-- What the instant k of a run and of its steps have in common.
module _ (steps_give_run : StepsGiveRun) (program : ProgramTree) (main : Identifier) (f : Flat) (starts : Sites → Value) (inputs : ℕ → ℕ → Value) (n : ℕ)
    (h : History)
    (states : ℕ → State) (rows : ℕ → Row) (are : AreStepsOf program main f starts inputs n h states rows) (k : ℕ) (lt : k < n) where
  abbrev x : List Value
  x = flat_inputs f (inputs k)

  -- what a memory holds, by its number
  held_at : (j : ℕ) → j ≤ n → (i : Instance) (d : Delay) (m : ℕ) → IsInstance program main i → Contains (node_delays i.node) d → m < length f.memories
      → get_or (memory_places f) m [] ≡ kept_place i d.site d.operand → get_or (states j).kept m (Flag false) ≡ held_before program starts (cells h) i d j
  held_at j le i d m inst w less at =
      let state = steps_give_run.states program main f starts inputs n h states rows are j le in
      let long = length-map f.memories (λ m. m.place.sites) in
      ap (λ (s : State). get_or s.kept m (Flag false)) state.2
      ∙ get_or-map state.0.kept (memory_places f) m [] (Flag false) (omega (arith, long, less))
      ∙ ap state.0.kept at
      ∙ state.1.memories i d inst w

  -- what it takes
  held_after : (i : Instance) (d : Delay) (m : ℕ) → IsInstance program main i → Contains (node_delays i.node) d → m < length f.memories
      → get_or (memory_places f) m [] ≡ kept_place i d.site d.operand
      → get_or (states (k + 1)).kept m (Flag false)
      ≡ cond (is_there (cells h) (clock_in i Base d.operand) k) (content program starts (cells h) i d.operand k) (held_before program starts (cells h) i d k)
  held_after i d m inst w less at =
      held_at (k + 1) (omega arith) i d m inst w less at
      ∙ ap (held_before program starts (cells h) i d) (let one : k + 1 ≡ suc k = omega arith in one)

  flow_same : (j : ℕ) → j < length f.flows → nth (rows k) j ≡ cells h k (get_or (places f) j [])
  flow_same j less =
      let long = length-map f.flows (λ x. x.place.sites) in
      ap (λ r. nth r j) (steps_give_run.rows program main f starts inputs n h states rows are k lt)
      ∙ get_or-map (cell (get_or h k empty)) (places f) j [] Nothing (omega (arith, long, less))

  module _ (keeps : KeepsWithin f (states k)) where
    pub outgrown_there : (q : Sites) → IsGrown f (states k) x (rows k) q → HasOutgrown program main starts h k q
    outgrown_there q (flow j z less is out at) = replays.flow z (subst (λ p. cells h k p ≡ Some (Whole z)) at (sym (flow_same j less) ∙ is)) out
    outgrown_there q (memory m z less on is out at) =
        let found = memory_at_number f.memories m less in
        let of = are.flat.memories.only found.0 found.1 in
        let i = of.0 in
        let d = of.1 in
        let place : get_or (memory_places f) m [] ≡ kept_place i d.site d.operand = found.2 ∙ ap (λ (a : MemoryAt). a.place) of.5 in
        let after : get_or (states (k + 1)).kept m (Flag false) ≡ Whole z =
        (are.nexts k lt).kept m less ∙ ap (λ b. cond b (value_at (states k) x (rows k) (nth_item (memory_items f) m).body)
        (get_or (states k).kept m (Flag false))) on ∙ is in
        chosen i d z (of.2) (of.4) (sym place ∙ at) out (held_at k (omega arith) i d m of.2 of.4 less place) (keeps m less)
        (is_there (cells h) (clock_in i Base d.operand) k) refl (sym (held_after i d m of.2 of.4 less place) ∙ after)
      where
        chosen : (i : Instance) (d : Delay) (z : ℤ) → IsInstance program main i → Contains (node_delays i.node) d → kept_place i d.site d.operand ≡ q
            → (IsWithin z → ⊥)
            → {v : Value} → v ≡ held_before program starts (cells h) i d k → IsInRange v
            → (b : Bool) → is_there (cells h) (clock_in i Base d.operand) k ≡ b
            → cond (is_there (cells h) (clock_in i Base d.operand) k) (content program starts (cells h) i d.operand k)
            (held_before program starts (cells h) i d k) ≡ Whole z
            → HasOutgrown program main starts h k q
        chosen i d z inst w at out held small true e is =
            let c = content program starts (cells h) i d.operand k in
            let old = held_before program starts (cells h) i d k in
            let taken : c ≡ Whole z = sym (ap (λ b. cond b c old) e) ∙ is in
            replays.memory i d z inst w at (ap (λ b. cond b (Some c) Nothing) e ∙ ap (λ v. Some v) taken) out
        chosen i d z inst w at out held small false e is =
            let c = content program starts (cells h) i d.operand k in
            let old = held_before program starts (cells h) i d k in
            let kept : old ≡ Whole z = sym (ap (λ b. cond b c old) e) ∙ is in
            absurd (out (subst IsInRange (held ∙ kept) small))

    pub outgrown_here : (q : Sites) → HasOutgrown program main starts h k q → IsGrown f (states k) x (rows k) q
    outgrown_here q (replays.flow z is out) =
        let there = (are.run.history.places k q lt).0 (there_by (finite.get (get_or h k empty) q) (Whole z) is) in
        let w = are.flat.sequence.flows q there in
        let less : w.0 < length f.flows = let long = length-map f.flows (λ x. x.place.sites) in let within = w.1 in omega (arith, long, within) in
        let at : get_or (places f) w.0 [] ≡ q = sym (get_or_default (places f) w.0 q [] w.1) ∙ w.2 in
        flow w.0 z less (flow_same w.0 less ∙ ap (cells h k) at ∙ is) out at
    outgrown_here q (replays.memory i d z inst w at is out) =
        let found = memory_found f.memories (memory_at program i d) (are.flat.memories.all i d inst tt w) in
        let m = found.0 in
        let after : get_or (states (k + 1)).kept m (Flag false) ≡ Whole z =
        held_after i d m inst w found.1 found.3
        ∙ taken_by (is_there (cells h) (clock_in i Base d.operand) k) (content program starts (cells h) i d.operand k)
        (held_before program starts (cells h) i d k) z is in
        chosen m found.1 (found.3 ∙ at) (keeps m found.1) (is_on_at (rows k) (nth_item (memory_items f) m).clock) refl
        (sym ((are.nexts k lt).kept m found.1) ∙ after)
      where
        chosen : (m : ℕ) → m < length f.memories → get_or (memory_places f) m [] ≡ q → IsInRange (get_or (states k).kept m (Flag false))
            → (b : Bool) → is_on_at (rows k) (nth_item (memory_items f) m).clock ≡ b
            → cond (is_on_at (rows k) (nth_item (memory_items f) m).clock) (value_at (states k) x (rows k) (nth_item (memory_items f) m).body)
            (get_or (states k).kept m (Flag false)) ≡ Whole z
            → IsGrown f (states k) x (rows k) q
        chosen m less place small true e is =
            memory m z less e (sym (ap (λ b. cond b (value_at (states k) x (rows k) (nth_item (memory_items f) m).body) (get_or (states k).kept m (Flag false)))
            e) ∙ is) out place
        chosen m less place small false e is =
            absurd (out (subst IsInRange (sym (ap (λ b. cond b (value_at (states k) x (rows k) (nth_item (memory_items f) m).body)
            (get_or (states k).kept m (Flag false))) e) ∙ is) small))

    pub passes_there : FlatPasses f (states k) x (rows k) → replays.GoesOn program main starts h k
    passes_there passes = record {
      within = λ q is. passes.within q (outgrown_here q is);
      allowed = (steps_give_run.allowed program main f starts inputs n h states rows are k lt).1 passes.allowed;
      observed = sym (steps_give_run.observer program main f starts inputs n h states rows are k lt) ∙ passes.observed;
    }

    pub passes_here : replays.GoesOn program main starts h k → FlatPasses f (states k) x (rows k)
    passes_here goes = record {
      within = λ q is. goes.within q (outgrown_there q is);
      allowed = (steps_give_run.allowed program main f starts inputs n h states rows are k lt).0 goes.allowed;
      observed = steps_give_run.observer program main f starts inputs n h states rows are k lt ∙ goes.observed;
    }

-- The steps that a run gives.
module _ (run_is_instants : RunIsInstants) (states_of_run : StatesOfRun) (program : ProgramTree) (main : Identifier) (f : Flat) (of : IsObserved program main f)
    (starts : Sites → Value) (inputs : ℕ → ℕ → Value) (n : ℕ) (h : History) (run : IsRun program main starts inputs n h) where
  abbrev brought : ℕ → Brought
  brought t = (states_of_run.some program main starts h t of.well of.named).0

  brought_at : (t : ℕ) → IsStateAt program main starts (cells h) t (brought t)
  brought_at t = (states_of_run.some program main starts h t of.well of.named).1

  abbrev pub run_states : ℕ → State
  run_states t = flat_state f (brought t)

  abbrev pub run_rows : ℕ → Row
  run_rows t = row_of (places f) (get_or h t empty)

  instant_at : (t : ℕ) → t < n → IsInstant program main (brought t) (inputs t) (get_or h t empty)
  instant_at t lt = (run_is_instants.instant program main starts inputs n h t (brought t) run lt (brought_at t)).0

  is_start : IsFlatStart f (map starts (memory_places f)) (run_states 0)
  is_start =
      let first = (states_of_run.start program main starts h (brought 0)).0 (brought_at 0) in
      let ks = Nothing ∷ map (λ p. Some p) (tick_places f.variables) in
      record {
        ticks = length-map ks (brought 0).ticked
            ∙ omega (
              arith,
              length-map (tick_places f.variables) (λ (p : Sites). Some p),
              length-map (tick_places f.variables)
                  (λ (p : Sites). Some (index_of (places f) p)),
            );
        none = all_false (brought 0).ticked ks first.ticks;
        kept = same_kept (brought 0).kept starts f.memories (λ m w.
            let found = of.flat.memories.only m w in
            let at : m.place ≡ kept_place found.0 found.1.site found.1.operand = ap (λ x. x.place) found.5 in
            ap (brought 0).kept at ∙ first.memories found.0 found.1 found.2 found.4 ∙ ap starts (sym at));
      }

  pub run_steps : AreStepsOf program main f starts inputs n h run_states run_rows
  run_steps = record {
    well = of.well;
    named = of.named;
    flat = of.flat;
    run = run;
    start = is_start;
    instants = λ t lt. of.flat.instants (brought t) (inputs t) (get_or h t empty) (instant_at t lt);
    nexts = λ t lt. of.flat.next (brought t) (brought (t + 1)) (inputs t) (get_or h t empty) (instant_at t lt)
        (states_of_run.next program main starts h t (brought t) (brought (t + 1)) (brought_at t) (brought_at (t + 1)));
  }
