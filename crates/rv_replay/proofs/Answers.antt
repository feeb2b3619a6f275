-- What is played over a flat system is what the trace does to its program, and nothing else is.
use Rattle.std.proofs.Common.{◌≡◌, inl, inr, ℕ, zero, suc, ◌+◌, ◌<◌, ◌≤◌, true, false, List, [], map, length, get_or, refl, sym, ◌∙◌, ap, subst, arith, Some}
use Rattle.std.proofs.{lemmas.Bool.cases_order, lemmas.List.ext_get_or, lemmas.List.length-map, Math.Nat.eq-or-lt_of_le}
use Rattle.std.specs.Prelude.{Result, Ok, Err}
use Rattle.rv_base.specs.{declared.value.Place.Place, declared.value.Trace.Trace, declared.value.Value.Value, declared.value.Value.TheVariants.Flag}
use Rattle.rv_tree.specs.{Tree.ProgramTree, Places.Identifier, Places.Sites}
use Rattle.rv_types.specs.{Instances.IsNode, Instances.node_of, Lists.MemoryAt, Needs.IsSequence, WellFormed.AreWell}
use Rattle.rv_meaning.specs.Runs.{History, AreInputs, AreStarts, AssertionsHold, IsRun, observed}
use Rattle.rv_flat.specs.FlatInstants.{Row, memory_places, nth, places, IsFlatInstant, IsFlatNext}
use Rattle.rv_flat.specs.{declared.flat.Flat.Flat, declared.state.State.State, FlatOf.first_values, FlatOf.flat_inputs, FlatOf.IsFlatBroken}
use Rattle.rv_flat.specs.{FlatRuns.AreStepsOf, FlatRuns.IsBrokenAt, Steps.IsFlatStart, Steps.IsGrown, Steps.IsInRange, Steps.IsLeast, Systems.memory_of}
use Rattle.rv_flat.proofs.{OneRow.only_row, Running.RunIsInstants, Running.StatesOfRun, Running.one_next}
use Rattle.rv_replay.specs.declared.replayed.Replayed.TheVariants.{Falsified, AssertionFails, NeverFalse}
use Rattle.rv_replay.specs.declared.replayed.ReplayFault.TheVariants.{Outgrown, Memory}
use Rattle.rv_replay.specs.Playing.{IsEnd, outgrown, fails, falsified, IsPlayed, never, ends, goes_on, IsPlayedOf}
use Rattle.rv_replay.specs.Replays.{FailsAt, GoesOn, HasOutgrown, IsFalsifiedAt, IsReplay, OutgrowsAt, Plays, StaysWithin}
use Rattle.rv_replay.specs.Traces.{Fixes, IsFlatTrace, IsTrace, given}
use Rattle.rv_replay.specs.{declared.replayed.Replayed.Replayed, declared.replayed.ReplayFault.ReplayFault, Observers.IsObserved}
use Rattle.rv_replay.proofs.FlatSteps.{FlatPasses, KeepsWithin, StepsGiveRun, outgrown_here, outgrown_there, passes_here, passes_there, run_rows, run_states}
use Rattle.rv_replay.proofs.FlatSteps.{run_steps, stays_within}
use Rattle.rv_replay.proofs.FlatTraces.{InputsOfFlat, StatesOfFlat, are_inputs, are_starts, flat_trace, inputs_flat, starts_flat, starts_same, trace_fixes}
use Rattle.rv_replay.proofs.FlatTraces.{trace_inputs, trace_starts}
use Rattle.rv_replay.proofs.Orders.{one_least, one_listing}

-- Steps from the start values of a trace, with its inputs.
pub record Follows (f : Flat) (t : Trace) (states : ℕ → State) (rows : ℕ → Row) : Type 0 where
  pub start : IsFlatStart f t.starts (states 0)
  pub instants : (k : ℕ) → k < length t.instants → IsFlatInstant f (states k) (given t k) (rows k)
  pub nexts : (k : ℕ) → k < length t.instants → IsFlatNext f (states k) (given t k) (rows k) (states (k + 1))

-- a state from these start values is the start
one_start : (f : Flat) (starts : List Value) (a b : State) → IsFlatStart f starts a → IsFlatStart f starts b → a ≡ b
one_start f starts a b p q =
    let ticked = ext_get_or false a.ticked b.ticked (p.ticks ∙ sym q.ticks) (λ k lt. p.none k ∙ sym (q.none k)) in
    let kept = p.kept ∙ sym q.kept in
    λ i. record { ticked = ticked i; kept = kept i }

moved : (P : State → List Value → Row → Type 0) (a b : State) (x y : List Value) (r s : Row) → a ≡ b → x ≡ y → r ≡ s → P a x r → P b y s
moved P a b x y r s e d c h = subst (λ r. P b y r) c (subst (λ x. P b x r) d (subst (λ a. P a x r) e h))

module _ (f : Flat) (t : Trace) (states : ℕ → State) (rows : ℕ → Row) where
  abbrev n : ℕ
  n = length t.instants

  abbrev Passes : ℕ → Type 0
  Passes k = FlatPasses f (states k) (given t k) (rows k)

  abbrev Before : ℕ → Type 0
  Before k = (s : ℕ) → s < k → Passes s

  abbrev Grown : ℕ → Sites → Type 0
  Grown k = IsGrown f (states k) (given t k) (rows k)

  abbrev Broken : ℕ → Sites → Type 0
  Broken k = IsFlatBroken f (states k) (given t k) (rows k)

  abbrev FlatEnd : Result Replayed ReplayFault → Type 0
  FlatEnd (Ok (Falsified k)) = (k < n) × Before k × ((q : Sites) → Grown k q → ⊥) × ((q : Sites) → Broken k q → ⊥)
      × (nth (rows k) f.observer ≡ Some (Flag false))
  FlatEnd (Ok (AssertionFails k p)) = (k < n) × Before k × ((q : Sites) → Grown k q → ⊥) × IsLeast (Broken k) p.sites
  FlatEnd (Ok NeverFalse) = Before n
  FlatEnd (Err (Outgrown k p)) = (k < n) × Before k × IsLeast (Grown k) p.sites
  FlatEnd (Err Memory) = ⊥

  -- There is one end.
  same_number : (j k : ℕ) → Before j → Before k → (Passes j → ⊥) → (Passes k → ⊥) → j ≡ k
  same_number j k before earlier first second = elim (cases_order j k) [
    | inl same ↦ same
    | inr other ↦ elim other [ inl less ↦ absurd (first (earlier j less)) | inr more ↦ absurd (second (before k more)) ]
  ]

  no_falsified : (k : ℕ) → nth (rows k) f.observer ≡ Some (Flag false) → Passes k → ⊥
  no_falsified k e passes = let is = passes.observed in let bad : true ≡ false = cc in absurd (grind arith)

  one_end : (a b : Result Replayed ReplayFault) → FlatEnd a → FlatEnd b → a ≡ b
  one_end (Ok NeverFalse) (Ok NeverFalse) x y = refl
  one_end (Ok NeverFalse) (Ok (Falsified k)) x y = absurd (no_falsified k y.4 (x k y.0))
  one_end (Ok NeverFalse) (Ok (AssertionFails k p)) x y = absurd ((x k y.0).allowed p.sites y.3.0)
  one_end (Ok NeverFalse) (Err (Outgrown k p)) x y = absurd ((x k y.0).within p.sites y.2.0)
  one_end (Ok (Falsified k)) (Ok NeverFalse) y x = absurd (no_falsified k y.4 (x k y.0))
  one_end (Ok (AssertionFails k p)) (Ok NeverFalse) y x = absurd ((x k y.0).allowed p.sites y.3.0)
  one_end (Err (Outgrown k p)) (Ok NeverFalse) y x = absurd ((x k y.0).within p.sites y.2.0)
  one_end (Ok (Falsified j)) (Ok (Falsified k)) x y = ap (λ m. Ok (Falsified m)) (same_number j k x.1 y.1 (no_falsified j x.4) (no_falsified k y.4))
  one_end (Ok (Falsified j)) (Ok (AssertionFails k p)) x y =
      let same = same_number j k x.1 y.1 (no_falsified j x.4) (λ passes. passes.allowed p.sites y.3.0) in
      absurd (x.3 p.sites (subst (λ m. Broken m p.sites) (sym same) y.3.0))
  one_end (Ok (Falsified j)) (Err (Outgrown k p)) x y =
      let same = same_number j k x.1 y.1 (no_falsified j x.4) (λ passes. passes.within p.sites y.2.0) in
      absurd (x.2 p.sites (subst (λ m. Grown m p.sites) (sym same) y.2.0))
  one_end (Ok (AssertionFails k p)) (Ok (Falsified j)) y x =
      let same = same_number j k x.1 y.1 (no_falsified j x.4) (λ passes. passes.allowed p.sites y.3.0) in
      absurd (x.3 p.sites (subst (λ m. Broken m p.sites) (sym same) y.3.0))
  one_end (Err (Outgrown k p)) (Ok (Falsified j)) y x =
      let same = same_number j k x.1 y.1 (no_falsified j x.4) (λ passes. passes.within p.sites y.2.0) in
      absurd (x.2 p.sites (subst (λ m. Grown m p.sites) (sym same) y.2.0))
  one_end (Ok (AssertionFails j p)) (Ok (AssertionFails k q)) x y =
      let same = same_number j k x.1 y.1 (λ passes. passes.allowed p.sites x.3.0) (λ passes. passes.allowed q.sites y.3.0) in
      let place = one_least (Broken k) p q (subst (λ m. IsLeast (Broken m) p.sites) same x.3) y.3 in
      λ i. Ok (AssertionFails (same i) (place i))
  one_end (Ok (AssertionFails j p)) (Err (Outgrown k q)) x y =
      let same = same_number j k x.1 y.1 (λ passes. passes.allowed p.sites x.3.0) (λ passes. passes.within q.sites y.2.0) in
      absurd (x.2 q.sites (subst (λ m. Grown m q.sites) (sym same) y.2.0))
  one_end (Err (Outgrown k q)) (Ok (AssertionFails j p)) y x =
      let same = same_number j k x.1 y.1 (λ passes. passes.allowed p.sites x.3.0) (λ passes. passes.within q.sites y.2.0) in
      absurd (x.2 q.sites (subst (λ m. Grown m q.sites) (sym same) y.2.0))
  one_end (Err (Outgrown j p)) (Err (Outgrown k q)) x y =
      let same = same_number j k x.1 y.1 (λ passes. passes.within p.sites x.2.0) (λ passes. passes.within q.sites y.2.0) in
      let place = one_least (Grown k) p q (subst (λ m. IsLeast (Grown m) p.sites) same x.2) y.2 in
      λ i. Err (Outgrown (same i) (place i))
  one_end (Err Memory) b x y = absurd x
  one_end a (Err Memory) x y = absurd y

  module _ (follows : Follows f t states rows) where
    -- what is played ends so
    one_more : (k : ℕ) → Before k → Passes k → Before (k + 1)
    one_more k before here s lt = elim (cases_order s k) [
      | inl same ↦ subst Passes (sym same) here
      | inr other ↦ elim other [ inl less ↦ before s less | inr more ↦ absurd (omega arith) ]
    ]

    played_end : (k : ℕ) (now : State) (xs : List (List Value)) (a : Result Replayed ReplayFault) → IsPlayed f k now xs a → now ≡ states k → k + length xs ≡ n
        → ((j : ℕ) → j < length xs → get_or xs j [] ≡ given t (k + j)) → Before k → FlatEnd a
    played_end _ _ _ _ (never k now) same long each before = λ s lt. before s (omega (arith, long))
    played_end _ _ _ _ (ends k now x xs a e) same long each before = by a e
      where
        lt : k < n
        lt = omega (arith, long)

        inputs : x ≡ given t k
        inputs = each 0 (omega arith) ∙ ap (given t) (let none : k + 0 ≡ k = omega arith in none)

        row_is : (row : Row) → IsFlatInstant f now x row → row ≡ rows k
        row_is row is = only_row f (states k) (given t k) (rows k) row (follows.instants k lt)
            (moved (IsFlatInstant f) now (states k) x (given t k) row row same inputs refl is)

        by : (a : Result Replayed ReplayFault) → IsEnd f k now x a → FlatEnd a
        by _ (outgrown row p is least) = (
          lt,
          before,
          moved (λ s y r. IsLeast (IsGrown f s y r) p.sites) now (states k) x (given t k) row (rows k) same inputs
              (row_is row is) least,
        )
        by _ (fails row p is within least) = (
          lt,
          before,
          moved (λ s y r. (q : Sites) → IsGrown f s y r q → ⊥) now (states k) x (given t k) row (rows k) same inputs (row_is row is) within,
          moved (λ s y r. IsLeast (IsFlatBroken f s y r) p.sites) now (states k) x (given t k) row (rows k) same inputs (row_is row is) least,
        )
        by _ (falsified row is within allowed observed) = (
          lt,
          before,
          moved (λ s y r. (q : Sites) → IsGrown f s y r q → ⊥) now (states k) x (given t k) row (rows k) same inputs (row_is row is) within,
          moved (λ s y r. (q : Sites) → IsFlatBroken f s y r q → ⊥) now (states k) x (given t k) row (rows k) same inputs (row_is row is) allowed,
          subst (λ r. nth r f.observer ≡ Some (Flag false)) (row_is row is) observed,
        )
    played_end _ _ _ _ (goes_on k now next x xs a passed rest) same long each before =
        played_end (k + 1) next xs a rest next_is (omega (arith, long))
        (λ j less. each (suc j) (omega (arith, less)) ∙ ap (given t) (let shifted : k + suc j ≡ (k + 1) + j = omega arith in shifted))
        (one_more k before passes)
      where
        lt : k < n
        lt = omega (arith, long)

        inputs : x ≡ given t k
        inputs = each 0 (omega arith) ∙ ap (given t) (let none : k + 0 ≡ k = omega arith in none)

        row_is : passed.row ≡ rows k
        row_is = only_row f (states k) (given t k) (rows k) passed.row (follows.instants k lt)
            (moved (IsFlatInstant f) now (states k) x (given t k) passed.row passed.row same inputs refl passed.instant)

        next_is : next ≡ states (k + 1)
        next_is = one_next f (states k) (given t k) (rows k) next (states (k + 1))
            (moved (λ s y r. IsFlatNext f s y r next) now (states k) x (given t k) passed.row (rows k) same inputs row_is passed.next) (follows.nexts k lt)

        passes : Passes k
        passes = moved (λ s y r. FlatPasses f s y r) now (states k) x (given t k) passed.row (rows k) same inputs row_is
            (record { within = passed.within; allowed = passed.allowed; observed = passed.observed })

-- What is taken from the meaning: each trace has its run.
abbrev pub SomeRun : Type 0
SomeRun = (program : ProgramTree) (main : Identifier) (sequence : List Sites) (starts : Sites → Value) (inputs : ℕ → ℕ → Value) (n : ℕ)
    → AreWell program → IsNode program main → IsSequence program main sequence → AreStarts program main starts → AreInputs program main n inputs
    → (h : History) × IsRun program main starts inputs n h

module _ (run_is_instants : RunIsInstants) (states_of_run : StatesOfRun) (some_run : SomeRun) (steps_give_run : StepsGiveRun) (states_of_flat : StatesOfFlat)
    (inputs_of_flat : InputsOfFlat)
    (program : ProgramTree) (main : Identifier) (f : Flat) (of : IsObserved program main f) (t : Trace) (trace : IsTrace program main t) where
  abbrev count : ℕ
  count = length t.instants

  abbrev starts : Sites → Value
  starts = trace_starts program main t trace

  abbrev inputs : ℕ → ℕ → Value
  inputs = trace_inputs program main t trace

  run_to : (m : ℕ) → m ≤ count → (h : History) × IsRun program main starts inputs m h
  run_to m le = some_run program main (places f) starts inputs m of.well of.named of.flat.sequence (are_starts program main t trace)
      (are_inputs program main t trace m le)

  whole : (h : History) × IsRun program main starts inputs count h
  whole = run_to count (omega arith)

  abbrev states : ℕ → State
  states = run_states run_is_instants states_of_run program main f of starts inputs count whole.0 whole.1

  abbrev rows : ℕ → Row
  rows = run_rows run_is_instants states_of_run program main f of starts inputs count whole.0 whole.1

  is_flat : IsFlatTrace f t
  is_flat = flat_trace program main t trace states_of_flat inputs_of_flat f of.well of.named of.flat

  follows : Follows f t states rows
  follows =
      let steps = run_steps run_is_instants states_of_run program main f of starts inputs count whole.0 whole.1 in
      let given_same = inputs_flat program main t trace states_of_flat inputs_of_flat f of.well of.named of.flat in
      record {
        start = subst (λ vs. IsFlatStart f vs (states 0)) (starts_flat program main t trace states_of_flat inputs_of_flat f of.well of.named of.flat)
            steps.start;
        instants = λ k lt. subst (λ x. IsFlatInstant f (states k) x (rows k)) (given_same k lt) (steps.instants k lt);
        nexts = λ k lt. subst (λ x. IsFlatNext f (states k) x (rows k) (states (k + 1))) (given_same k lt) (steps.nexts k lt);
      }

  -- what is fixed by the trace has these steps
  module _ (m : ℕ) (starts' : Sites → Value) (inputs' : ℕ → ℕ → Value) (fixed : Fixes program main t m starts' inputs') where
    fixed_inputs : (k : ℕ) → k < m → flat_inputs f (inputs' k) ≡ given t k
    fixed_inputs k lt = ap (first_values (inputs' k)) inputs_long ∙ fixed.fed k lt
      where
        inputs_long : length f.inputs ≡ length (node_of program main).inputs
        inputs_long = sym (length-map f.inputs (λ i. i.name)) ∙ ap length of.flat.inputs ∙ length-map (node_of program main).inputs (λ d. d.name.text)

    fixed_starts : map starts' (memory_places f) ≡ t.starts
    fixed_starts =
        sym (starts_same starts' f.memories)
        ∙ ap (map (λ (m : MemoryAt). starts' m.place)) (sym (one_listing program main fixed.memories (map memory_of f.memories) fixed.listed of.flat.memories))
        ∙ fixed.started

    module _ (h : History) (run : IsRun program main starts' inputs' m h) where
      steps_of : AreStepsOf program main f starts' inputs' m h states rows
      steps_of = record {
        well = of.well;
        named = of.named;
        flat = of.flat;
        run = run;
        start = subst (λ vs. IsFlatStart f vs (states 0)) (sym fixed_starts) follows.start;
        instants = λ k lt. subst (λ x. IsFlatInstant f (states k) x (rows k)) (sym (fixed_inputs k lt))
            (follows.instants k (let le = fixed.count in omega (arith, le, lt)));
        nexts = λ k lt. subst (λ x. IsFlatNext f (states k) x (rows k) (states (k + 1))) (sym (fixed_inputs k lt))
            (follows.nexts k (let le = fixed.count in omega (arith, le, lt)));
      }

      module _ (k : ℕ) (lt : k < m) (keeps : KeepsWithin f (states k)) where
        there : Passes f t states rows k → GoesOn program main starts' h k
        there passes = passes_there steps_give_run program main f starts' inputs' m h states rows steps_of k lt keeps
            (subst (λ x. FlatPasses f (states k) x (rows k)) (sym (fixed_inputs k lt)) passes)

        here : GoesOn program main starts' h k → Passes f t states rows k
        here goes = subst (λ x. FlatPasses f (states k) x (rows k)) (fixed_inputs k lt)
            (passes_here steps_give_run program main f starts' inputs' m h states rows steps_of k lt keeps goes)

  keeps_first : KeepsWithin f (states 0)
  keeps_first j lt =
      let size = is_flat.starts.size in
      let long = length-map f.memories (λ m. m.kind) in
      subst (λ vs. IsInRange (get_or vs j (Flag false))) (sym follows.start.kept) (is_flat.starts.within j (omega (arith, lt, size, long)))

  keeps_before : (k : ℕ) → k ≤ count → Before f t states rows k → KeepsWithin f (states k)
  keeps_before zero le before = keeps_first
  keeps_before (suc k) le before =
      let one : k + 1 ≡ suc k = omega arith in
      subst (λ j. KeepsWithin f (states j)) one
      (stays_within f (states k) (given t k) (rows k) (states (k + 1)) (keeps_before k (omega (arith, le)) (λ s lt. before s (omega (arith, lt))))
      (before k (omega arith)).within (follows.nexts k (omega (arith, le))))

  -- the first instants of a run pass where those of the flat system do
  module _ (m : ℕ) (starts' : Sites → Value) (inputs' : ℕ → ℕ → Value) (fixed : Fixes program main t m starts' inputs') (h : History)
      (run : IsRun program main starts' inputs' m h) where
    goes_there : (k : ℕ) → k ≤ m → Before f t states rows k → (s : ℕ) → s < k → GoesOn program main starts' h s
    goes_there k le before s lt =
        there m starts' inputs' fixed h run s (omega (arith, le, lt)) (keeps_before s (let most = fixed.count in omega (arith, le, lt, most))
        (λ r less. before r (omega (arith, less, lt)))) (before s lt)

    goes_here : (k : ℕ) → k ≤ m → ((s : ℕ) → s < k → GoesOn program main starts' h s) → Before f t states rows k
    goes_here zero le goes s lt = absurd (omega (arith, lt))
    goes_here (suc k) le goes s lt =
        let before = goes_here k (omega (arith, le)) (λ r less. goes r (omega (arith, less))) in
        let now = here m starts' inputs' fixed h run k (omega (arith, le)) (keeps_before k (let most = fixed.count in omega (arith, le, most)) before)
        (goes k (omega arith)) in
        one_more f t states rows follows k before now s (omega (arith, lt))

  -- What an instant gives, in the flat system and in the run.
  module _ (m : ℕ) (starts' : Sites → Value) (inputs' : ℕ → ℕ → Value) (fixed : Fixes program main t m starts' inputs') (h : History)
      (run : IsRun program main starts' inputs' m h)
      (k : ℕ) (lt : k < m) (before : Before f t states rows k) where
    steps : AreStepsOf program main f starts' inputs' m h states rows
    steps = steps_of m starts' inputs' fixed h run

    keeps : KeepsWithin f (states k)
    keeps = keeps_before k (let most = fixed.count in omega (arith, lt, most)) before

    same : flat_inputs f (inputs' k) ≡ given t k
    same = fixed_inputs m starts' inputs' fixed k lt

    grown_here : (q : Sites) → HasOutgrown program main starts' h k q → Grown f t states rows k q
    grown_here q is = subst (λ x. IsGrown f (states k) x (rows k) q) same
        (outgrown_here steps_give_run program main f starts' inputs' m h states rows steps k lt keeps q is)

    grown_there : (q : Sites) → Grown f t states rows k q → HasOutgrown program main starts' h k q
    grown_there q is = outgrown_there steps_give_run program main f starts' inputs' m h states rows steps k lt keeps q
        (subst (λ x. IsGrown f (states k) x (rows k) q) (sym same) is)

    broken_here : (q : Sites) → IsBrokenAt program main starts' h k q → Broken f t states rows k q
    broken_here q is = subst (λ x. IsFlatBroken f (states k) x (rows k) q) same
        ((steps_give_run.broken program main f starts' inputs' m h states rows steps k lt q).1 is)

    broken_there : (q : Sites) → Broken f t states rows k q → IsBrokenAt program main starts' h k q
    broken_there q is = (steps_give_run.broken program main f starts' inputs' m h states rows steps k lt q).0
        (subst (λ x. IsFlatBroken f (states k) x (rows k) q) (sym same) is)

    holds_there : ((q : Sites) → Broken f t states rows k q → ⊥) → AssertionsHold program main starts' h k
    holds_there none = (steps_give_run.allowed program main f starts' inputs' m h states rows steps k lt).1
        (λ q is. none q (subst (λ x. IsFlatBroken f (states k) x (rows k) q) same is))

    holds_here : AssertionsHold program main starts' h k → (q : Sites) → Broken f t states rows k q → ⊥
    holds_here holds q is = (steps_give_run.allowed program main f starts' inputs' m h states rows steps k lt).0 holds q
        (subst (λ x. IsFlatBroken f (states k) x (rows k) q) (sym same) is)

    observed_same : nth (rows k) f.observer ≡ observed program main h k
    observed_same = steps_give_run.observer program main f starts' inputs' m h states rows steps k lt

  least_both : (A B : Sites → Type 0) (p : Place) → ((q : Sites) → A q → B q) → ((q : Sites) → B q → A q) → IsLeast A p.sites → IsLeast B p.sites
  least_both A B p to from least = (to p.sites least.0, λ q is. least.1 q (from q is))

  -- What the flat system ends with is so of the program.
  module _ (k : ℕ) (lt : k < count) (before : Before f t states rows k) where
    le : k + 1 ≤ count
    le = omega (arith, lt)

    ran : (h : History) × IsRun program main starts inputs (k + 1) h
    ran = run_to (k + 1) le

    fixes : Fixes program main t (k + 1) starts inputs
    fixes = trace_fixes program main t trace (k + 1) le

    goes : (s : ℕ) → s < k → GoesOn program main starts ran.0 s
    goes = goes_there (k + 1) starts inputs fixes ran.0 ran.1 k (omega arith) before

    abbrev played : Plays program main t (k + 1) k
    played = record { starts = starts; inputs = inputs; fixed = fixes; history = ran.0; run = ran.1; goes_on = goes }

    falsified_there : ((q : Sites) → Grown f t states rows k q → ⊥) → ((q : Sites) → Broken f t states rows k q → ⊥)
        → nth (rows k) f.observer ≡ Some (Flag false) → IsFalsifiedAt program main t k
    falsified_there within allowed observed = record {
      starts = starts;
      inputs = inputs;
      fixed = fixes;
      falsifies = (
        ran.0,
        ran.1,
        λ s le. elim (eq-or-lt_of_le {n = s} {m = k} le) [
          | inl same ↦ subst (AssertionsHold program main starts ran.0) (sym same)
              (holds_there (k + 1) starts inputs fixes ran.0 ran.1 k (omega arith) before allowed)
          | inr less ↦ (goes s less).allowed
        ],
        sym (observed_same (k + 1) starts inputs fixes ran.0 ran.1 k (omega arith) before) ∙ observed,
        λ s less. (goes s less).observed,
      );
      within = λ s le. elim (eq-or-lt_of_le {n = s} {m = k} le) [
        | inl same ↦ subst (StaysWithin program main starts ran.0) (sym same)
            (λ q is. within q (grown_here (k + 1) starts inputs fixes ran.0 ran.1 k (omega arith) before q is))
        | inr less ↦ (goes s less).within
      ];
    }

    fails_there : (p : Place) → ((q : Sites) → Grown f t states rows k q → ⊥) → IsLeast (Broken f t states rows k) p.sites → FailsAt program main t k p
    fails_there p within least = record {
      plays = played;
      within = λ q is. within q (grown_here (k + 1) starts inputs fixes ran.0 ran.1 k (omega arith) before q is);
      least = least_both (Broken f t states rows k) (IsBrokenAt program main starts ran.0 k) p
          (broken_there (k + 1) starts inputs fixes ran.0 ran.1 k (omega arith) before)
          (broken_here (k + 1) starts inputs fixes ran.0 ran.1 k (omega arith) before) least;
    }

    outgrows_there : (p : Place) → IsLeast (Grown f t states rows k) p.sites → OutgrowsAt program main t k p
    outgrows_there p least = record {
      plays = played;
      least = least_both (Grown f t states rows k) (HasOutgrown program main starts ran.0 k) p
          (grown_there (k + 1) starts inputs fixes ran.0 ran.1 k (omega arith) before)
          (grown_here (k + 1) starts inputs fixes ran.0 ran.1 k (omega arith) before) least;
    }

  to_replay : (a : Result Replayed ReplayFault) → FlatEnd f t states rows a → IsReplay program main t a
  to_replay (Ok (Falsified k)) w = falsified_there k w.0 w.1 w.2 w.3 w.4
  to_replay (Ok (AssertionFails k p)) w = fails_there k w.0 w.1 p w.2 w.3
  to_replay (Ok NeverFalse) w =
      let fixes = trace_fixes program main t trace count (omega arith) in
      record {
        starts = starts;
        inputs = inputs;
        fixed = fixes;
        history = whole.0;
        run = whole.1;
        goes_on = goes_there count starts inputs fixes whole.0 whole.1 count (omega arith) w;
      }
  to_replay (Err (Outgrown k p)) w = outgrows_there k w.0 w.1 p w.2
  to_replay (Err Memory) w = w

  -- And what is so of the program the flat system ends with.
  from_replay : (a : Result Replayed ReplayFault) → IsReplay program main t a → FlatEnd f t states rows a
  from_replay (Ok (Falsified k)) w =
      let m = k + 1 in
      let h = w.falsifies.0 in
      let run = w.falsifies.1 in
      let before = goes_here m w.starts w.inputs w.fixed h run k (omega arith) (λ s lt. record {
        within = w.within s (omega (arith, lt));
        allowed = w.falsifies.2 s (omega (arith, lt));
        observed = w.falsifies.4 s lt;
      }) in (
        (let le = w.fixed.count in omega (arith, le)),
        before,
        λ q is. w.within k (omega arith) q (grown_there m w.starts w.inputs w.fixed h run k (omega arith) before q is),
        holds_here m w.starts w.inputs w.fixed h run k (omega arith) before (w.falsifies.2 k (omega arith)),
        observed_same m w.starts w.inputs w.fixed h run k (omega arith) before ∙ w.falsifies.3,
      )
  from_replay (Ok (AssertionFails k p)) w =
      let m = k + 1 in
      let v = w.plays in
      let before = goes_here m v.starts v.inputs v.fixed v.history v.run k (omega arith) v.goes_on in (
        (let le = v.fixed.count in omega (arith, le)),
        before,
        λ q is. w.within q (grown_there m v.starts v.inputs v.fixed v.history v.run k (omega arith) before q is),
        least_both (IsBrokenAt program main v.starts v.history k) (Broken f t states rows k) p
            (broken_here m v.starts v.inputs v.fixed v.history v.run k (omega arith) before)
            (broken_there m v.starts v.inputs v.fixed v.history v.run k (omega arith) before) w.least,
      )
  from_replay (Ok NeverFalse) w = goes_here count w.starts w.inputs w.fixed w.history w.run count (omega arith) w.goes_on
  from_replay (Err (Outgrown k p)) w =
      let m = k + 1 in
      let v = w.plays in
      let before = goes_here m v.starts v.inputs v.fixed v.history v.run k (omega arith) v.goes_on in (
        (let le = v.fixed.count in omega (arith, le)),
        before,
        least_both (HasOutgrown program main v.starts v.history k) (Grown f t states rows k) p
            (grown_here m v.starts v.inputs v.fixed v.history v.run k (omega arith) before)
            (grown_there m v.starts v.inputs v.fixed v.history v.run k (omega arith) before) w.least,
      )
  from_replay (Err Memory) w = w

  -- What is played is what the trace does, and there is nothing else that it does.
  module _ (a : Result Replayed ReplayFault) (w : IsPlayedOf f t a) where
    its_end : FlatEnd f t states rows a
    its_end = played_end f t states rows follows 0 w.first t.instants a w.played (one_start f t.starts w.first (states 0) w.start follows.start)
        (omega arith) (λ j lt. ap (given t) (let none : j ≡ 0 + j = omega arith in none)) (λ s lt. absurd (omega (arith, lt)))

    pub is_replay : IsReplay program main t a
    is_replay = to_replay a its_end

    pub only_replay : (b : Result Replayed ReplayFault) → IsReplay program main t b → a ≡ b
    only_replay b v = one_end f t states rows a b its_end (from_replay b v)
