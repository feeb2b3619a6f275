-- The instants of a run of a program, and what is inductive over the valuations of its flat system.
use Rattle.std.proofs.Common.{◌≡◌, ℕ, suc, ◌+◌, ◌<◌, ◌≤◌, ℤ, Bool, true, false, ◌||◌, cond, List, [], map, length, sym, ◌∙◌, ap, subst, arith, Option, Some}
use Rattle.std.proofs.Common.{None as Nothing}
use Rattle.std.proofs.lemmas.Option.{slice_get-get_or}
use Rattle.std.specs.{Prelude.slice_index_or, FinMap.empty}
use Rattle.rv_base.specs.{declared.value.Value.Value, declared.value.Value.TheVariants.Flag}
use Rattle.rv_tree.specs.{Tree.ProgramTree, Places.Identifier, Places.Sites}
use Rattle.rv_types.specs.{declared.typed.Kind.Kind, declared.typed.Clock.TheVariants.Base, Values.operand_kind, Instances.Instance, Instances.main_instance}
use Rattle.rv_types.specs.{Instances.clock_in, Instances.IsNode, WellFormed.AreWell}
use Rattle.rv_types.specs.declared.typed.Kind.TheVariants as kind
use Rattle.rv_types.specs.Values as types
use Rattle.rv_meaning.specs.Runs.{History, Instant, cell, cells, AssertionsHold, AreStarts, IsRun, IsAllowed, observer_place}
use Rattle.rv_meaning.specs.Instants.{State, IsInstant, IsNext, AllowsAt, AreGiven, is_on_in, now}
use Rattle.rv_meaning.specs.{Meaning.is_true, Following.IsStateAt, Givers.AreDefined}
use Rattle.rv_rows.specs.Forms as forms
use Rattle.rv_agreement.specs.Trees.{System, nth_item, memory_items, kind_at}
use Rattle.rv_agreement.specs.ProgramAgreement.{IsCodedOf, IsInitialOf, SpellsOf, IsAgreedOf, IsAllowedOf, GivesOf, LeadsTo, AreAlikeOf, AreUpdated, updates_of}
use Rattle.rv_agreement.specs.ProgramAgreement.{integers_of, point_of, HaveProducts, KeepsProducts, IsSystemOf, memories_of}
use Rattle.rv_agreement.specs.{Evaluation.integers, Valuations.Valuation, Valuations.Reading, Valuations.IsCodedAs, Agreement.found_in, Agreement.HasKind}
use Rattle.rv_agreement.specs.{Agreement.IsSpelled, FlatRuns.IsFlatRun, FlatRuns.AreMetIn, FlatRuns.IsInductive, Programs.input_kinds, Programs.kinds_of}
use Rattle.rv_agreement.specs.{Translation.Numbers, Translation.clock_number, Translation.delay_item}
use Rattle.rv_agreement.specs.Evaluation as by
use Rattle.rv_agreement.specs.Agreement as flats
use Rattle.rv_agreement.proofs.Witnessed.{has_kind, memory_of, own_number, clock_of_tick}
use Rattle.rv_agreement.proofs.ProgramAgreed.{allowed, flat_state, flat_given, row_of, long_kinds, kept_at, never_ticked, ticked_at, long_kept, long_ticked}
use Rattle.rv_agreement.proofs.ProgramAgreed.{agrees_row, whole_instant, whole_read, whole_there, typed_state, assertion_given, some_agreed_of, alike_of}
use Rattle.rv_agreement.proofs.ProgramAgreed.{gives_of, leads_to_of, updates_are_of}
use Rattle.rv_agreement.proofs.Inductive.{observer_true}
use Rattle.rv_meaning.proofs.TypedStates
use Rattle.rv_meaning.proofs.{Defined.are_defined, Following.instant_of_run, Following.allowed_alike, Steps.next_state, Brought.state_at, Brought.is_state_at}

-- a value of a type that bits spell has a code that names a label
coded_as : (labels : List ℕ) (k : Kind) (bits : ℕ → Bool) (v : Value) → HasKind labels k v → IsSpelled labels k bits v → IsCodedAs labels k bits
coded_as labels (kind.Labels i) bits v has is = subst (HasKind labels (kind.Labels i)) is has
coded_as labels _ bits v has is = tt

module _ (program : ProgramTree) (main : Identifier) (numbers : Numbers) (s : System)
    (witness : IsSystemOf program main numbers s) (sound : AreWell program) (node : IsNode program main) where
  -- each flow has one giver
  defined : AreDefined program main
  defined = are_defined program main sound node

  abbrev state_of : State → flats.State
  state_of state = flat_state program main numbers s witness defined state

  abbrev given_of : (ℕ → Value) → List Value
  given_of inputs = flat_given program main numbers s witness defined inputs

  abbrev flat_row : Instant → List (Option Value)
  flat_row row = row_of program main numbers s witness defined (cell row)

  module _ (state : State) (inputs : ℕ → Value) (row : Instant) (instant : IsInstant program main state inputs row)
      (products : HaveProducts program main state row) where
    there : (i : Instance) (k : Option Sites) → by.is_there Value integers (flat_row row) (clock_number numbers k) ≡ is_on_in row k
    there i k = whole_there program main numbers s witness defined state inputs row instant products i k

    flat_next : (next : State) → IsNext program main state row next → flats.IsNext s (state_of state) (given_of inputs) (flat_row row) (state_of next)
    flat_next next is_next = record {
      ticks = long_ticked program main numbers s witness defined next ∙ sym witness.well.ticks;
      ticked = λ k lt.
          let less : k < length s.ticks = omega (arith, lt, witness.well.ticks) in
          let first : Instance = main_instance program main in
          ticked_at program main numbers s witness defined next k less
          ∙ is_next.ticks (slice_index_or s.ticks k Nothing)
          ∙ (λ t. sym (ticked_at program main numbers s witness defined state k less) t || sym (there first (slice_index_or s.ticks k Nothing)) t)
          ∙ ap (λ c. slice_index_or (state_of state).ticked k false || by.is_there Value integers (flat_row row) c)
          (sym (clock_of_tick program main numbers s witness k less));
      memories = long_kept program main numbers s witness defined next ∙ long_kinds program main numbers s witness defined;
      kept = memory_next;
    }
      where
        memory_next : (m : ℕ) → m < length s.memories → slice_index_or (state_of next).kept m (Flag false) ≡ by.after Value integers
            (found_in (state_of state) (given_of inputs)) (flat_row row) (nth_item (memory_items s) m) m
        memory_next m lt =
            let o = memory_of program main numbers s witness m lt in
            let own = own_number program main numbers s witness m o.0 o.1 o.2 lt o.3 in
            let names = witness.named.memories o.0 o.1 o.2.0 o.2.1 in
            let item : nth_item (memory_items s) m ≡ delay_item program numbers o.0 o.1 = ap (nth_item (memory_items s)) (sym own)
            ∙ witness.translated.memory o.0 o.1 o.2.0 o.2.1 in
            kept_at program main numbers s witness defined next m lt
            ∙ ap next.kept o.3
            ∙ is_next.memories o.0 o.1 o.2.0 o.2.1
            ∙ (λ t. cond (sym (there o.0 (clock_in o.0 Base o.1.operand)) t)
            (sym (whole_read program main numbers s witness defined state inputs row instant products o.0 o.1.operand names (products.memories o.0 o.1 o.2)) t)
            (sym (kept_at program main numbers s witness defined state m lt ∙ ap state.kept o.3) t))
            ∙ ap (λ y. by.after Value integers (found_in (state_of state) (given_of inputs)) (flat_row row) y m) (sym item)

    flat_met : AllowsAt program main state row → AreMetIn s (state_of state) (given_of inputs) (flat_row row)
    flat_met allows k lt =
        let o = witness.translated.asserted k lt in
        let names = witness.named.assertions o.0 o.1 o.2 o.3 in
        ap (by.is_met Value integers (found_in (state_of state) (given_of inputs)) (flat_row row)) o.4
        ∙ (λ t. cond (there o.0 (clock_in o.0 Base o.1.body) t)
        (is_true (whole_read program main numbers s witness defined state inputs row instant products o.0 o.1.body names (products.assertions o.0 o.1 o.2 o.3)
        t)) true)
        ∙ (allowed (is_on_in row (clock_in o.0 Base o.1.body)) (now program state row o.0 o.1.body)).0 (allows o.0 o.1 o.2 o.3)

    flat_observer : by.nth Value integers (flat_row row) s.observer ≡ cell row (observer_place program main)
    flat_observer =
        ap (by.nth Value integers (flat_row row)) witness.observer
        ∙ agrees_row program main numbers s witness defined state inputs row instant products (observer_place program main)

  -- A run.
  module _ (starts : Sites → Value) (inputs : ℕ → ℕ → Value) (n : ℕ) (h : History) (run : IsRun program main starts inputs n h) where
    abbrev row_at : ℕ → Instant
    row_at t = slice_index_or h t empty

    given_typed : (t : ℕ) → t < n → AreGiven program main (inputs t)
    given_typed t lt = λ j k is. run.inputs_typed t j k lt is

    pub instant_at : (t : ℕ) → t < n → (state : State) → IsStateAt program main starts (cells h) t state → IsInstant program main state (inputs t) (row_at t)
    instant_at t lt state is = instant_of_run program main starts inputs h t state is n run lt

    -- what the memories hold has its type
    pub typed_at : (t : ℕ) → t ≤ n → (state : State) → IsStateAt program main starts (cells h) t state → AreStarts program main state.kept
    typed_at = TypedStates.typed_at program main sound node numbers.flows witness.translated.sequence starts inputs n h run

    abbrev brought : ℕ → State
    brought t = state_at program starts (cells h) t main sound node

    brought_is : (t : ℕ) → IsStateAt program main starts (cells h) t (brought t)
    brought_is t = is_state_at program starts (cells h) t main sound node sound.numbered

    products_at : KeepsProducts program main → (t : ℕ) → t < n → HaveProducts program main (brought t) (row_at t)
    products_at keeps t lt = keeps (brought t) (inputs t) (row_at t) (typed_at t (omega (arith, lt)) (brought t) (brought_is t)) (given_typed t lt)
        (instant_at t lt (brought t) (brought_is t))

    -- a run of the program is one of the flat system
    flat_run : KeepsProducts program main → IsFlatRun s n (λ t. state_of (brought t)) (λ t. given_of (inputs t)) (λ t. flat_row (row_at t))
    flat_run keeps = record {
      start = never_ticked program main numbers s witness defined (brought 0) (brought_is 0).ticks;
      typed = λ t lt. typed_state program main numbers s witness defined (brought t) (inputs t) (typed_at t (omega (arith, lt)) (brought t) (brought_is t))
          (given_typed t lt);
      instant = λ t lt. whole_instant program main numbers s witness defined (brought t) (inputs t) (row_at t) (instant_at t lt (brought t) (brought_is t))
          (products_at keeps t lt);
      next = λ t lt.
          let more : t + 1 ≡ suc t = omega arith in
          flat_next (brought t) (inputs t) (row_at t) (instant_at t lt (brought t) (brought_is t)) (products_at keeps t lt) (brought (suc t))
          (next_state program main starts h t (brought t) (brought (suc t)) (brought_is t)
          (subst (λ u. IsStateAt program main starts (cells h) u (brought (suc t))) (sym more) (brought_is (suc t))));
    }

    pub safe_at : KeepsProducts program main → (holds : Valuation → List ℤ → Bool) → IsInductive s holds → (t : ℕ) → t < n → IsAllowed program main starts h t
        → cells h t (observer_place program main) ≡ Some (Flag true)
    safe_at keeps holds inductive t lt met =
        let at : (u : ℕ) → u < n → IsInstant program main (brought u) (inputs u) (row_at u) = λ u less. instant_at u less (brought u) (brought_is u) in
        sym (flat_observer (brought t) (inputs t) (row_at t) (at t lt) (products_at keeps t lt))
        ∙ observer_true s witness.well holds inductive n (λ u. state_of (brought u)) (λ u. given_of (inputs u)) (λ u. flat_row (row_at u))
        (flat_run keeps) t lt
        (λ u le.
        let less : u < n = omega (arith, le, lt) in
        flat_met (brought u) (inputs u) (row_at u) (at u less) (products_at keeps u less)
        ((allowed_alike program main starts inputs h u (brought u) (brought_is u)).0 (met u le)))

    -- An instant of the run.
    module _ (t : ℕ) (lt : t < n) (state : State) (is : IsStateAt program main starts (cells h) t state) where
      -- a valuation that spells the state and the inputs has codes of labels
      pub coded_of : (v : Valuation) → SpellsOf program main (memories_of s) v state (inputs t) → IsCodedOf program main (memories_of s) v
      coded_of v spells = record {
        memories = λ i d delay. coded_as _ (operand_kind program i.node d.operand) _ _
            (has_kind program _ _ (typed_at t (omega (arith, lt)) state is i d delay.0 delay.1)) (spells.memories i d delay);
        inputs = λ j less.
            let k = kind_at (input_kinds program main (memories_of s)) j in
            coded_as _ k _ _ (has_kind program k _ (given_typed t lt j k (slice_get-get_or (input_kinds program main (memories_of s)) j kind.Bool less)))
            (spells.given j less);
      }

      -- where the assertions hold, a valuation that agrees is allowed
      pub allowed_of : (v : Valuation) (symbolic : Sites → Option Reading) → HaveProducts program main state (row_at t) → AssertionsHold program main starts h t
          → IsAgreedOf program main (memories_of s) v symbolic state (inputs t) → IsAllowedOf program main (memories_of s) v symbolic
      allowed_of v symbolic products hold agreed =
          let allows = (allowed_alike program main starts inputs h t state is).0 hold in (
            coded_of v agreed.0,
            λ i a inst w.
                sym (assertion_given program main numbers s witness defined state (inputs t) (row_at t) (typed_at t (omega (arith, lt)) state is)
                (given_typed t lt) (instant_at t lt state is) products v symbolic agreed i a inst w)
                ∙ (allowed (is_on_in (row_at t) (clock_in i Base a.body)) (now program state (row_at t) i a.body)).0 (allows i a inst w),
          )

    -- at the first instant the control state is initial
    pub initial_of : (lt : 0 < n) (state : State) (is : IsStateAt program main starts (cells h) 0 state) (v : Valuation) (symbolic : Sites → Option Reading)
        → IsAgreedOf program main (memories_of s) v symbolic state (inputs 0) → IsInitialOf program main (memories_of s) v
    initial_of lt state is v symbolic agreed = record {
      ticks = λ k tick. sym (agreed.0.ticks k tick) ∙ is.ticks k;
      memories = (coded_of 0 lt state is v agreed.0).memories;
    }

    -- What is said of the instants of a program, at an instant of the run.
    module _ (keeps : KeepsProducts program main) (t : ℕ) (lt : t < n) (state : State) (is : IsStateAt program main starts (cells h) t state) where
      abbrev symbolic_of : Type 0
      symbolic_of = Sites → Option Reading

      abbrev agrees_at : Valuation → symbolic_of → Type 0
      agrees_at v symbolic = IsAgreedOf program main (memories_of s) v symbolic state (inputs t)

      typed_here : AreStarts program main state.kept
      typed_here = typed_at t (omega (arith, lt)) state is

      at_instant : IsInstant program main state (inputs t) (row_at t)
      at_instant = instant_at t lt state is

      pub products_here : HaveProducts program main state (row_at t)
      products_here = keeps state (inputs t) (row_at t) typed_here (given_typed t lt) at_instant

      pub some_at : (v : Valuation) × (symbolic : symbolic_of) × IsCodedOf program main (memories_of s) v × agrees_at v symbolic
      some_at = some_agreed_of program main numbers s witness defined state (inputs t) (row_at t) typed_here (given_typed t lt) at_instant products_here

      pub alike_at : (v w : Valuation) (first second : symbolic_of) → agrees_at v first → agrees_at w second → AreAlikeOf program main (memories_of s) v first w
      alike_at = alike_of program main numbers s witness defined state (inputs t) (row_at t) typed_here (given_typed t lt) at_instant products_here

      module _ (next : State) (next_is : IsStateAt program main starts (cells h) (t + 1) next) (v : Valuation) (symbolic : symbolic_of)
          (agreed : agrees_at v symbolic) where
        is_next : IsNext program main state (row_at t) next
        is_next = next_state program main starts h t state next is next_is

        pub gives_at : GivesOf program main (memories_of s) v symbolic state (inputs t) (row_at t) next
        gives_at = gives_of program main numbers s witness defined state (inputs t) (row_at t) typed_here (given_typed t lt) at_instant products_here v
            symbolic agreed next is_next

        pub leads_at : (w : Valuation) (after : symbolic_of) (later : ℕ → Value) → IsAgreedOf program main (memories_of s) w after next later
            → LeadsTo program main (memories_of s) v symbolic w
        leads_at = leads_to_of program main numbers s witness defined state (inputs t) (row_at t) typed_here (given_typed t lt) at_instant products_here v
            symbolic agreed next is_next

        pub updates_at : (after : Sites → Reading) → AreUpdated program main (memories_of s) v symbolic after
            → integers_of (kinds_of program main (memories_of s)) (λ m. next.kept (slice_index_or (map (λ m. m.place) (memories_of s)) m [])) ≡ forms.values
            (updates_of program main (memories_of s) v symbolic after) (point_of program main (memories_of s) state (inputs t))
        updates_at = updates_are_of program main numbers s witness defined state (inputs t) (row_at t) typed_here (given_typed t lt) at_instant
            products_here v symbolic agreed next is_next
