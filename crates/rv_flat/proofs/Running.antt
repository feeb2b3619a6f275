-- Steps of a flat system from the start give the run of its program.
use Rattle.std.proofs.Common.{◌≡◌, ◌⊎◌, inl, inr, ℕ, zero, suc, ◌+◌, ◌<◌, ◌≤◌, ◌↔◌, Bool, true, false, List, [], ◌∷◌, ◌++◌, length, map, get_or, refl, sym, ◌∙◌}
use Rattle.std.proofs.Common.{ap, subst, arith, Option, None as Nothing, Some}
use Rattle.std.proofs.{lemmas.List.ext_get_or, lemmas.List.get_or-map, Math.ListN.length-map}
use Rattle.std.specs.{FinMap.empty, List.Contains}
use Rattle.rv_base.specs.declared.value.Value.TheVariants.{Flag}
use Rattle.rv_base.specs.{declared.value.Value.Value, declared.value.Place.Place}
use Rattle.rv_tree.specs.{Tree.AssertionTree, Tree.ProgramTree, Places.Identifier, Places.Sites, Places.index_of}
use Rattle.rv_types.specs.Instances.{Instance, node_of, IsInstance, IsNode}
use Rattle.rv_types.specs.{declared.typed.Clock.TheVariants.Base, Lists.MemoryAt, WellFormed.AreWell}
use Rattle.rv_meaning.specs.Runs.{History, cell, cells, observed, AssertionsHold, IsRun}
use Rattle.rv_meaning.specs.Instants.{State as Brought, IsInstant, IsNext, IsStart, AllowsAt, value_now}
use Rattle.rv_meaning.specs.{Meaning.is_true, Meaning.kept_place, Meaning.value, Following.IsStateAt}
use Rattle.rv_flat.specs.FlatInstants.{Row, nth, places, memory_places, tick_clocks, IsFlatInstant, IsFlatNext}
use Rattle.rv_flat.specs.FlatOf.{IsBroken, IsFlatBroken, IsFlatOf, flat_state, flat_inputs, row_of}
use Rattle.rv_flat.specs.{declared.flat.Flat.Flat, declared.parts.FlatMemory.FlatMemory, declared.state.State.State, FlatRuns.AreStepsOf, FlatRuns.IsBrokenAt}
use Rattle.rv_flat.specs.{Lists.tick_places, Steps.IsFlatStart, Steps.IsLeastOf, Systems.memory_of}
use Rattle.rv_flat.proofs.{Earliest.least_same, OneRow.only_row}

-- What is taken from the meaning: the states and the instants of a run.

pub record RunIsInstants : Type 0 where
  pub instant : (program : ProgramTree) (main : Identifier) (starts : Sites → Value) (inputs : ℕ → ℕ → Value) (n : ℕ) (h : History) (t : ℕ) (state : Brought)
      → IsRun program main starts inputs n h → t < n → IsStateAt program main starts (cells h) t state
      → IsInstant program main state (inputs t) (get_or h t empty)
      × (AssertionsHold program main starts h t ↔ AllowsAt program main state (get_or h t empty))
  pub assertions : (program : ProgramTree) (main : Identifier) (starts : Sites → Value) (h : History) (t : ℕ) (state : Brought) (i : Instance)
      (a : AssertionTree)
      → IsStateAt program main starts (cells h) t state → IsInstance program main i → Contains i.node.assertions a
      → value program starts (cells h) i Base a.body t ≡ value_now program state (get_or h t empty) i Base a.body

pub record StatesOfRun : Type 0 where
  pub some : (program : ProgramTree) (main : Identifier) (starts : Sites → Value) (h : History) (t : ℕ) → AreWell program → IsNode program main
      → (state : Brought) × IsStateAt program main starts (cells h) t state
  pub start : (program : ProgramTree) (main : Identifier) (starts : Sites → Value) (h : History) (state : Brought)
      → IsStateAt program main starts (cells h) 0 state ↔ IsStart program main starts state
  pub next : (program : ProgramTree) (main : Identifier) (starts : Sites → Value) (h : History) (t : ℕ) (state next : Brought)
      → IsStateAt program main starts (cells h) t state → IsStateAt program main starts (cells h) (t + 1) next
      → IsNext program main state (get_or h t empty) next

-- how many ticks the flat form of a state has
pub ticks_long : (f : Flat) (state : Brought) → length (flat_state f state).ticked ≡ length (tick_clocks f)
ticks_long f state =
    let ticks = tick_places f.variables in
    length-map (Nothing ∷ map (λ p. Some p) ticks) state.ticked
    ∙ omega (arith, length-map ticks (λ (p : Sites). Some p), length-map ticks (λ (p : Sites). Some (index_of (places f) p)))

-- Two states with the same ticks and memories, one by one, are the same.
same_state : (a b : State) → length a.ticked ≡ length b.ticked → ((k : ℕ) → k < length a.ticked → get_or a.ticked k false ≡ get_or b.ticked k false)
    → length a.kept ≡ length b.kept → ((m : ℕ) → m < length a.kept → get_or a.kept m (Flag false) ≡ get_or b.kept m (Flag false)) → a ≡ b
same_state a b ticks ticked memories kept =
    let p = ext_get_or false a.ticked b.ticked ticks ticked in
    let q = ext_get_or (Flag false) a.kept b.kept memories kept in
    λ i. record { ticked = p i; kept = q i }

-- an instant has one state after it
pub one_next : (f : Flat) (now : State) (inputs : List Value) (row : Row) (a b : State) → IsFlatNext f now inputs row a → IsFlatNext f now inputs row b → a ≡ b
one_next f now inputs row a b p q = same_state a b
    (p.ticks ∙ sym q.ticks)
    (λ k lt. p.ticked k (omega (arith, p.ticks)) ∙ sym (q.ticked k (omega (arith, p.ticks))))
    (p.memories ∙ sym q.memories)
    (λ m lt. p.kept m (omega (arith, p.memories)) ∙ sym (q.kept m (omega (arith, p.memories))))

-- two functions that agree on the places of memories give the same values
pub same_kept : (g h : Sites → Value) (ms : List FlatMemory) → ((m : MemoryAt) → Contains (map memory_of ms) m → g m.place ≡ h m.place)
    → map g (map (λ m. m.place.sites) ms) ≡ map h (map (λ m. m.place.sites) ms)
same_kept g h [] all = refl
same_kept g h (x ∷ ms) all =
    let head = all (memory_of x) (0, omega arith, refl) in
    let rest = same_kept g h ms (λ m w. all m (suc w.0, omega (arith, w.1), w.2)) in
    λ i. head i ∷ rest i

pub all_false : (g : Option Sites → Bool) (ks : List (Option Sites)) → ((k : Option Sites) → g k ≡ false) → (k : ℕ) → get_or (map g ks) k false ≡ false
all_false g [] none k = refl
all_false g (x ∷ ks) none zero = none x
all_false g (x ∷ ks) none (suc k) = all_false g ks none k

-- the flat form of a state at the start is one at the start
pub first_flat : (program : ProgramTree) (main : Identifier) (f : Flat) (starts : Sites → Value) (state : Brought) → IsFlatOf program main f
    → IsStart program main starts state → IsFlatStart f (map starts (memory_places f)) (flat_state f state)
first_flat program main f starts state flat first = record {
  ticks = ticks_long f state;
  none = all_false state.ticked (Nothing ∷ map (λ p. Some p) (tick_places f.variables)) first.ticks;
  kept = same_kept state.kept starts f.memories (λ m w.
      let found = flat.memories.only m w in
      let at : m.place ≡ kept_place found.0 found.1.site found.1.operand = ap (λ x. x.place) found.5 in
      ap state.kept at ∙ first.memories found.0 found.1 found.2 found.4 ∙ ap starts (sym at));
}

-- an assertion that is not false holds
not_false : (o : Option Value) → ((v : Value) → o ≡ Some v → is_true v ≡ false → ⊥) → (o ≡ Nothing) ⊎ (o ≡ Some (Flag true))
not_false Nothing h = inl refl
not_false (Some (Flag true)) h = inr refl
not_false (Some v) h = absurd (h v refl refl)

not_both : (o : Option Value) (v : Value) → (o ≡ Nothing) ⊎ (o ≡ Some (Flag true)) → o ≡ Some v → is_true v ≡ false → ⊥
not_both o v (inl none) is h = cc
not_both o (Flag true) (inr holds) is h = cc
not_both o v (inr holds) is h = cc

-- what stands at a number is something only below the end
pub within_places : (ps : List Sites) (k s : ℕ) → get_or ps k [] ≡ s ∷ [] → k < length ps
within_places [] k s e = cc
within_places (p ∷ ps) zero s e = omega arith
within_places (p ∷ ps) (suc k) s e = let h = within_places ps k s e in omega (arith, h)

module _ (run_is_instants : RunIsInstants) (states_of_run : StatesOfRun)
    (program : ProgramTree) (main : Identifier) (f : Flat) (starts : Sites → Value) (inputs : ℕ → ℕ → Value) (n : ℕ) (h : History) (states : ℕ → State)
    (rows : ℕ → Row) (are : AreStepsOf program main f starts inputs n h states rows) where
  -- the state that the run brings to an instant
  abbrev brought : ℕ → Brought
  brought t = (states_of_run.some program main starts h t are.well are.named).0

  brought_at : (t : ℕ) → IsStateAt program main starts (cells h) t (brought t)
  brought_at t = (states_of_run.some program main starts h t are.well are.named).1

  instant_at : (t : ℕ) → t < n → IsInstant program main (brought t) (inputs t) (get_or h t empty)
  instant_at t lt = (run_is_instants.instant program main starts inputs n h t (brought t) are.run lt (brought_at t)).0

  start_same : states 0 ≡ flat_state f (brought 0)
  start_same =
      let first = first_flat program main f starts (brought 0) are.flat ((states_of_run.start program main starts h (brought 0)).0 (brought_at 0)) in
      let ticked = ext_get_or false (states 0).ticked (flat_state f (brought 0)).ticked (are.start.ticks ∙ sym first.ticks)
      (λ k lt. are.start.none k ∙ sym (first.none k)) in
      λ i. record { ticked = ticked i; kept = (are.start.kept ∙ sym first.kept) i }

  row_same : (t : ℕ) → t < n → states t ≡ flat_state f (brought t) → rows t ≡ row_of (places f) (get_or h t empty)
  row_same t lt same =
      only_row f (states t) (flat_inputs f (inputs t)) (row_of (places f) (get_or h t empty)) (rows t)
      (subst (λ s. IsFlatInstant f s (flat_inputs f (inputs t)) (row_of (places f) (get_or h t empty))) (sym same)
      (are.flat.instants (brought t) (inputs t) (get_or h t empty) (instant_at t lt)))
      (are.instants t lt)

  pub state_same : (t : ℕ) → t ≤ n → states t ≡ flat_state f (brought t)
  state_same zero le = start_same
  state_same (suc t) le =
      let before : t < n = omega arith in
      let same = state_same t (omega (arith, before)) in
      let row = row_same t before same in
      let one : t + 1 ≡ suc t = omega arith in
      let after = are.flat.next (brought t) (brought (t + 1)) (inputs t) (get_or h t empty) (instant_at t before)
      (states_of_run.next program main starts h t (brought t) (brought (t + 1)) (brought_at t) (brought_at (t + 1))) in
      let mine = subst (λ s. IsFlatNext f s (flat_inputs f (inputs t)) (row_of (places f) (get_or h t empty)) (states (t + 1))) same
      (subst (λ r. IsFlatNext f (states t) (flat_inputs f (inputs t)) r (states (t + 1))) row (are.nexts t before)) in
      subst (λ j. states j ≡ flat_state f (brought j)) one
      (one_next f (flat_state f (brought t)) (flat_inputs f (inputs t)) (row_of (places f) (get_or h t empty)) (states (t + 1)) (flat_state f (brought (t + 1)))
      mine after)

  pub rows_of_run : (t : ℕ) → t < n → rows t ≡ row_of (places f) (get_or h t empty)
  rows_of_run t lt = row_same t lt (state_same t (omega arith))

  -- the state that the run brings to each instant
  pub states_brought : (t : ℕ) → t ≤ n → (state : Brought) × IsStateAt program main starts (cells h) t state × (states t ≡ flat_state f state)
  states_brought t le = (brought t, brought_at t, state_same t le)

  -- the observer
  pub observer_of_run : (t : ℕ) → t < n → nth (rows t) f.observer ≡ observed program main h t
  observer_of_run t lt =
      let within = within_places (places f) f.observer (length (node_of program main).inputs) are.flat.observer in
      ap (λ r. nth r f.observer) (rows_of_run t lt)
      ∙ get_or-map (cell (get_or h t empty)) (places f) f.observer [] Nothing within ∙ ap (cell (get_or h t empty)) are.flat.observer

  -- the assertions that are false
  module _ (t : ℕ) (lt : t < n) where
    abbrev IsFalse : Sites → Type 0
    IsFalse = IsFlatBroken f (states t) (flat_inputs f (inputs t)) (rows t)

    alike : (i : Instance) (a : AssertionTree) → IsInstance program main i → Contains i.node.assertions a
        → value program starts (cells h) i Base a.body t ≡ value_now program (brought t) (get_or h t empty) i Base a.body
    alike i a inst w = run_is_instants.assertions program main starts h t (brought t) i a (brought_at t) inst w

    both_broken : (q : Sites) → IsBroken program main (brought t) (get_or h t empty) q ↔ IsFalse q
    both_broken q =
        subst (λ s. IsBroken program main (brought t) (get_or h t empty) q ↔ IsFlatBroken f s (flat_inputs f (inputs t)) (rows t) q)
        (sym (state_same t (omega arith)))
        (subst (λ r. IsBroken program main (brought t) (get_or h t empty) q ↔ IsFlatBroken f (flat_state f (brought t)) (flat_inputs f (inputs t)) r q)
        (sym (rows_of_run t lt))
        (are.flat.assertions (brought t) (inputs t) (get_or h t empty) q (instant_at t lt)))

    pub broken_of_run : (q : Sites) → IsFalse q ↔ IsBrokenAt program main starts h t q
    broken_of_run q = (
      λ w. let b = (both_broken q).1 w in (b.0, b.1, b.2, b.3, b.4, b.5, alike b.0 b.1 b.3 b.4 ∙ b.6, b.7),
      λ b. (both_broken q).0 (b.0, b.1, b.2, b.3, b.4, b.5, sym (alike b.0 b.1 b.3 b.4) ∙ b.6, b.7),
    )

    pub least_of_run : (p : Option Place) → IsLeastOf IsFalse p → IsLeastOf (IsBrokenAt program main starts h t) p
    least_of_run p least = least_same IsFalse (IsBrokenAt program main starts h t) p (λ q w. (broken_of_run q).0 w) (λ q w. (broken_of_run q).1 w) least

    pub allowed_of_run : AssertionsHold program main starts h t ↔ ((q : Sites) → IsFalse q → ⊥)
    allowed_of_run = (
      λ holds q w. let b = (broken_of_run q).0 w in not_both (value program starts (cells h) b.0 Base b.1.body t) b.2 (holds b.0 b.1 b.3 b.4) b.6 b.7,
      λ none i a inst w. not_false (value program starts (cells h) i Base a.body t)
          (λ v is false_v. none (i.path ++ a.site ∷ []) ((broken_of_run (i.path ++ a.site ∷ [])).1 (i, a, v, inst, w, refl, is, false_v))),
    )
