-- What holds of the instants of a flat system holds of those of the program that it is read from, by places.
use Rattle.std.proofs.Common.{◌≡◌, zero, ◌↔◌, ◌⊎◌, inl, inr, ℕ, suc, ◌+◌, ◌<◌, ℤ, Bool, true, false, ◌||◌, cond, List, [], ◌∷◌, ◌++◌, map, length, get_or, refl}
use Rattle.std.proofs.Common.{sym, ◌∙◌, ap, subst, arith, Option, Some, IsSome, None as Nothing}
use Rattle.std.proofs.{lemmas.List.length-map, lemmas.List.get_or-map, lemmas.List.get_or_past, lemmas.Bool.cases_lt, lemmas.Option.slice_get-get_or}
use Rattle.std.specs.{Prelude.slice_index_or, List.Contains}
use Rattle.std.specs.FinMap as finite
use Rattle.rv_base.specs.{declared.value.Value.Value, declared.value.Value.TheVariants.Flag}
use Rattle.rv_tree.specs.{Tree.Tree, Tree.AssertionTree, Tree.ProgramTree, Places.Identifier, Places.Sites, Places.index_of, Delays.Delay}
use Rattle.rv_types.specs.Instances.{Body, Output, Right, Instance, main_instance, absolute, clock_in, clock_of, clock_of_arguments, output_place, node_of}
use Rattle.rv_types.specs.Instances.{IsInstance, IsFlow}
use Rattle.rv_types.specs.Needs.{Of, Gives, given, by_equation, by_call}
use Rattle.rv_types.specs.{declared.typed.Kind.Kind, declared.typed.Clock.Clock, declared.typed.Clock.TheVariants.Base, Values.operand_kind}
use Rattle.rv_types.specs.{Kinds.kind_in_program, Lists.MemoryAt, Lists.delay_place}
use Rattle.rv_types.specs.declared.typed.Kind.TheVariants as kind
use Rattle.rv_meaning.specs.Instants.{State, IsInstant, IsNext, AreGiven, is_on_in, now, value_now, right_now}
use Rattle.rv_meaning.specs.{Meaning.is_true, Meaning.number, Runs.Instant, Runs.cell, Runs.flat, Runs.observer_place, Runs.AreStarts, Givers.AreDefined}
use Rattle.rv_rows.specs.Arithmetic.{column_form}
use Rattle.rv_rows.specs.Forms as forms
use Rattle.rv_agreement.specs.Valuations.{Valuation, Reading, at_point, holds_true, form_of, rank, whole_count, readings, spelled, width, reads_at, found_at}
use Rattle.rv_agreement.specs.Valuations.{IsSymbolic, Comparison, all_comparisons, IsPresent, IsRowOf, read, tested, Agrees, updated, next_tick, IsCoded}
use Rattle.rv_agreement.specs.Valuations.{IsCodedAs, IsAllowed}
use Rattle.rv_agreement.specs.Agreement.{point, IsSpelledAs, Leads, found_in, IsWholeInstant, IsTyped, IsSpelled, Spells, IsAgreed, value_there}
use Rattle.rv_agreement.specs.Programs.{FoundAt, is_there, meant, given_by, IsInstantOf, Compared, IsComparison, in_flow, in_memory, in_assertion, label_counts}
use Rattle.rv_agreement.specs.Programs.{kinds_of, input_kinds, columns_of, found_by, IsSymbolicOf, tested_in, AgreesWith, found_of, HasProducts}
use Rattle.rv_agreement.specs.Translation.{Numbers, Names, AreNamed, clock_number, tick_number, flat_of, delay_item, assertion_item, flat_compared, IsClockOf}
use Rattle.rv_agreement.specs.ProgramAgreement.{integers_of, IsDelay, point_of, IsCodedOf, SpellsOf, IsSymbolicAt, IsAgreedOf, is_there_at, meant_at, is_met_at}
use Rattle.rv_agreement.specs.ProgramAgreement.{IsAllowedOf, next_tick_at, updated_at, AreUpdated, updates_of, LeadsTo, GivesOf, AreAlikeOf, HaveProducts}
use Rattle.rv_agreement.specs.ProgramAgreement.{IsSystemOf, memories_of}
use Rattle.rv_agreement.specs.{Trees.System, Trees.nth_item, Trees.memory_items, Trees.memory_kinds, Trees.memory_places, Trees.kind_at, Evaluation.integers}
use Rattle.rv_agreement.specs.Evaluation as by
use Rattle.rv_agreement.specs.Agreement as flats
use Rattle.rv_agreement.proofs.Matching.{IsFound, IsTold, read_in, flow_same, assertion_same, memory_same}
use Rattle.rv_agreement.proofs.Systems.{forward, backward, comparison_there, comparison_from}
use Rattle.rv_agreement.proofs.Meanings.{held_same, on_same, meant_same, there_same}
use Rattle.rv_agreement.proofs.Witnessed.{numbered, length-numbered, numbered_at, has_kind, kinds_same, places_same, width_same, memory_of, number_of}
use Rattle.rv_agreement.proofs.Witnessed.{by_number, by_place, in_system, in_program, place_numbered, clock_of_tick, tick_at, tick_numbered, is_tick}
use Rattle.rv_agreement.proofs.{Operators.on_at, Operators.number_at, OneRow.one_row, Found.is_found, Agreed.tell_agreed, Agreed.some_agreed, Agreed.alike}
use Rattle.rv_agreement.proofs.{Spelled.same_bits, Translated.on_clock, Translated.value_read}
use Rattle.rv_agreement.proofs.Stepped.{wholes_are, integers_are, spelled_as}
use Rattle.rv_agreement.proofs.{Indexed.index_is, Indexed.indexed, Indexed.row_agrees, NamedParts.names_more, NamedParts.operands_named, NamedParts.AreNamedIn}

-- a row has nothing at a place that it does not have
no_cell : (row : Instant) (q : Sites) → (IsSome (finite.get row q) → ⊥) → cell row q ≡ Nothing
no_cell row q none = elim (finite.get row q) as (λ o. (IsSome o → ⊥) → flat o ≡ Nothing) [ Nothing ↦ λ no. refl | Some v ↦ λ no. absurd (no refl) ] none

-- a value is absent or true where it is not there or true
pub allowed : (b : Bool) (v : Value) → ((cond b (Some v) Nothing ≡ Nothing) ⊎ (cond b (Some v) Nothing ≡ Some (Flag true))) ↔ (cond b (is_true v) true ≡ true)
allowed false v = (λ h. refl, λ e. inl refl)
allowed true v = (to, from v)
  where
    to : (Some v ≡ Nothing) ⊎ (Some v ≡ Some (Flag true)) → is_true v ≡ true
    to (inl e) = absurd (cc)
    to (inr e) = let f : v ≡ Flag true = cc in ap is_true f

    from : (v : Value) → is_true v ≡ true → (Some v ≡ Nothing) ⊎ (Some v ≡ Some (Flag true))
    from (Flag b) e = inr (ap (λ t. Some (Flag t)) e)
    from _ e = absurd (grind arith)

-- where nothing has ticked, nothing has in the list
none_ticked : (g : Option Sites → Bool) (ks : List (Option Sites)) → ((o : Option Sites) → g o ≡ false) → (k : ℕ) → slice_index_or (map g ks) k false ≡ false
none_ticked g [] none k = refl
none_ticked g (o ∷ ks) none zero = none o
none_ticked g (o ∷ ks) none (suc k) = none_ticked g ks none k

module _ (program : ProgramTree) (main : Identifier) (numbers : Numbers) (s : System) (witness : IsSystemOf program main numbers s)
    (defined : AreDefined program main) where
  abbrev listed : List MemoryAt
  listed = memories_of s

  abbrev counts : List ℕ
  counts = label_counts program main (memories_of s)

  abbrev given_kinds : List Kind
  given_kinds = input_kinds program main (memories_of s)

  -- the state, the inputs and the row of a flat system
  pub flat_state : State → flats.State
  flat_state state = record { ticked = map state.ticked s.ticks; kept = map state.kept (memory_places s) }

  pub flat_given : (ℕ → Value) → List Value
  flat_given inputs = numbered (length s.inputs) inputs

  abbrev pub row_of : {V : Type 0} → (Sites → Option V) → List (Option V)
  row_of cells = map cells numbers.flows

  pub long_kinds : length (memory_kinds s) ≡ length s.memories
  long_kinds = length-map s.memories (λ m. m.kind)

  pub long_places : length (memory_places s) ≡ length s.memories
  long_places = length-map s.memories (λ m. m.place)

  pub kept_at : (state : State) (m : ℕ) → m < length s.memories → slice_index_or (flat_state state).kept m (Flag false) ≡ state.kept
      (slice_index_or (memory_places s) m [])
  unfolding flat_state
  kept_at state m lt = get_or-map state.kept (memory_places s) m [] (Flag false) (omega (arith, lt, long_places))

  pub ticked_at : (state : State) (m : ℕ) → m < length s.ticks → slice_index_or (flat_state state).ticked m false ≡ state.ticked
      (slice_index_or s.ticks m Nothing)
  unfolding flat_state
  ticked_at state m lt = get_or-map state.ticked s.ticks m Nothing false lt

  pub never_ticked : (state : State) → ((o : Option Sites) → state.ticked o ≡ false) → (m : ℕ) → slice_index_or (flat_state state).ticked m false ≡ false
  unfolding flat_state
  never_ticked state none m = none_ticked state.ticked s.ticks none m

  given_at : (inputs : ℕ → Value) (j : ℕ) → j < length s.inputs → slice_index_or (flat_given inputs) j (Flag false) ≡ inputs j
  unfolding flat_given
  given_at inputs j lt = numbered_at (length s.inputs) inputs j (Flag false) lt

  long_given : (inputs : ℕ → Value) → length (flat_given inputs) ≡ length s.inputs
  unfolding flat_given
  long_given inputs = length-numbered (length s.inputs) inputs

  pub long_ticked : (state : State) → length (flat_state state).ticked ≡ length s.ticks
  unfolding flat_state
  long_ticked state = length-map s.ticks state.ticked

  pub long_kept : (state : State) → length (flat_state state).kept ≡ length (memory_kinds s)
  unfolding flat_state
  long_kept state = length-map (memory_places s) state.kept ∙ long_places ∙ sym long_kinds

  point_same : (state : State) (inputs : ℕ → Value) → point s (flat_state state) (flat_given inputs) ≡ point_of program main listed state inputs
  point_same state inputs =
      (λ t. wholes_are (memory_kinds s) (flat_state state).kept (λ m. state.kept (slice_index_or (memory_places s) m [])) (long_kept state)
      (λ m lt. kept_at state m (omega (arith, lt, long_kinds))) t
      ++ wholes_are s.inputs (flat_given inputs) inputs (long_given inputs) (given_at inputs) t)
      ∙ (λ t. integers_of (kinds_same program main numbers s witness t) (λ m. state.kept (slice_index_or (places_same program main numbers s witness t) m []))
      ++ integers_of (witness.inputs t) inputs)

  -- what an instant finds, by number as by place
  abbrev place_in : Sites → Type 0
  place_in q = Contains numbers.memories q

  abbrev tick_in : Option Sites → Type 0
  tick_in k = Contains s.ticks k

  abbrev pub given_there : (ℕ → Value) → ℕ → Value
  given_there inputs j = slice_index_or (flat_given inputs) j (Flag false)

  within_places : (q : Sites) → place_in q → (index_of numbers.memories q < length s.memories)
      × (slice_index_or (memory_places s) (index_of numbers.memories q) [] ≡ q)
  within_places q w =
      let n = indexed numbers.memories q w in
      let e = ap length witness.translated.memory_numbers in
      (omega (arith, n.0, e, long_places), ap (λ ps. slice_index_or ps (index_of numbers.memories q) []) (sym witness.translated.memory_numbers) ∙ n.1)

  pub kept_found : (state : State) (inputs : ℕ → Value) (q : Sites) → place_in q
      → (found_in (flat_state state) (flat_given inputs)).kept (index_of numbers.memories q) ≡ state.kept q
  kept_found state inputs q w = let n = within_places q w in kept_at state (index_of numbers.memories q) n.0 ∙ ap state.kept n.1

  ticked_found : (state : State) (inputs : ℕ → Value) (k : Option Sites) → tick_in k
      → (found_in (flat_state state) (flat_given inputs)).ticked (tick_number numbers k) ≡ state.ticked k
  ticked_found state inputs k w = let n = tick_at program main numbers s witness k w in ticked_at state (tick_number numbers k) n.0 ∙ ap state.ticked n.1

  kept_read : (v : Valuation) (q : Sites) → place_in q → (found_at s v).kept (index_of numbers.memories q) ≡ (found_by program main listed v).kept q
  kept_read v q w =
      let n = within_places q w in
      let m = index_of numbers.memories q in
      let other : index_of numbers.memories q ≡ index_of (map (λ m. m.place) listed) q = ap (λ ps. index_of ps q)
      (witness.translated.memory_numbers ∙ places_same program main numbers s witness) in
      (λ t. spelled (witness.labels t) (kind_at (kinds_same program main numbers s witness t) m) (v.kept (n.1 t))
      (column_form (width_same program main numbers s witness t) (rank (kinds_same program main numbers s witness t) m)))
      ∙ ap (λ m. spelled counts (kind_at (kinds_of program main listed) m) (v.kept q)
      (column_form (columns_of program main listed) (rank (kinds_of program main listed) m))) other

  ticked_read : (v : Valuation) (k : Option Sites) → tick_in k → (found_at s v).ticked (tick_number numbers k) ≡ (found_by program main listed v).ticked k
  ticked_read v k w = ap v.ticked (tick_at program main numbers s witness k w).1

  given_read : (v : Valuation) (j : ℕ) → (found_at s v).given j ≡ (found_by program main listed v).given j
  given_read v j = λ t. spelled (witness.labels t) (kind_at (witness.inputs t) j) (v.input j)
      (column_form (width_same program main numbers s witness t) (whole_count (kinds_same program main numbers s witness t) + rank (witness.inputs t) j))

  -- the cells of what is no flow
  past_flows : {V : Type 0} (row : List (Option V)) → length row ≡ length s.flows → (q : Sites) → (IsFlow program main q → ⊥)
      → get_or row (index_of numbers.flows q) Nothing ≡ Nothing
  past_flows row long q none = elim (cases_lt (index_of numbers.flows q) (length numbers.flows)) [
    | inl lt ↦ absurd (none (subst (IsFlow program main) (index_is numbers.flows q lt) (witness.translated.sequence.only (index_of numbers.flows q) lt)))
    | inr le ↦ get_or_past row (index_of numbers.flows q) Nothing (let many = witness.translated.many in omega (arith, le, long, many))
  ]

  pub agreeing : {V : Type 0} (cells : Sites → Option V) → ((q : Sites) → (IsFlow program main q → ⊥) → cells q ≡ Nothing) → (q : Sites)
      → get_or (row_of cells) (index_of numbers.flows q) Nothing ≡ cells q
  agreeing cells only = row_agrees cells numbers.flows (λ q none. only q (λ f. none (witness.translated.sequence.flows q f)))

  module _ (state : State) (inputs : ℕ → Value) (row : Instant) (instant : IsInstant program main state inputs row)
      (products : HaveProducts program main state row) where
    abbrev found_there : FoundAt Value
    found_there = found_of state (given_there inputs)

    absent : (q : Sites) → (IsFlow program main q → ⊥) → cell row q ≡ Nothing
    absent q none = no_cell row q (λ some. none ((instant.places q).0 some))

    pub agrees_row : (q : Sites) → by.nth Value integers (row_of (cell row)) (index_of numbers.flows q) ≡ cell row q
    agrees_row = agreeing (cell row) absent

    -- what gives a flow its value over the integers
    body_given : (i : Instance) (k : Clock) (e : Tree) → HasProducts program state row i e
        → value_now program state row i k e ≡ given_by Value integers program found_there (cell row) (Of i k (Body e))
    body_given i k e product = λ t.
        cond (sym (there_same program state (given_there inputs) row i (clock_in i k e)) t)
        (Some (sym (meant_same program state (given_there inputs) row i e product) t)) Nothing

    right_given : (i : Instance) (k : Clock) (r : Right) → ((e : Tree) → r ≡ Body e → HasProducts program state row i e)
        → right_now program state row i k r ≡ given_by Value integers program found_there (cell row) (Of i k r)
    right_given i k (Body e) product = body_given i k e (product e refl)
    right_given i k (Output c j) product = λ t.
        cond (sym (there_same program state (given_there inputs) row i (absolute i (clock_of_arguments i c.args))) t)
        (Some (sym (held_same (cell row (output_place program i c.site c.name j))) t)) Nothing

    instant_of : IsInstantOf Value integers program main found_there (cell row)
    instant_of q _ (given j lt is) =
        let many : length s.inputs ≡ length (node_of program main).inputs = ap length witness.inputs
        ∙ length-map (node_of program main).inputs (λ d. kind_in_program program d.kind) in
        ap (cell row) (sym is) ∙ instant.given j lt ∙ ap Some (sym (given_at inputs j (omega (arith, lt, many))))
    instant_of q _ (by_equation i x r inst right is) =
        ap (cell row) (sym is) ∙ instant.equations i x r inst right
        ∙ right_given i (clock_of i.node x) r (λ e body. products.flows q i (clock_of i.node x) e
        (subst (λ u. Gives program main q (Of i (clock_of i.node x) u)) body (by_equation i x r inst right is)))
    instant_of q _ (by_call i c j e inst call argument is) =
        ap (cell row) (sym is) ∙ instant.arguments i c j e inst call argument
        ∙ body_given i (clock_of_arguments i c.args) e (products.flows q i (clock_of_arguments i c.args) e (by_call i c j e inst call argument is))

    -- the names of an expression are found over the integers
    whole_names : (i : Instance) (e : Tree) → Names i place_in tick_in (IsClockOf numbers s i) e
        → Names i (λ q. (found_in (flat_state state) (flat_given inputs)).kept (index_of numbers.memories q) ≡ found_there.kept q)
        (λ k. (found_in (flat_state state) (flat_given inputs)).ticked (tick_number numbers k) ≡ found_there.ticked k) (λ x. Unit {0}) e
    whole_names i e names = names_more i _ _ _ _ _ _ (kept_found state inputs) (ticked_found state inputs) (λ x is. tt) e names

    pub whole_instant : IsWholeInstant s (flat_state state) (flat_given inputs) (row_of (cell row))
    whole_instant = forward Value integers (λ b. refl) program main numbers s witness.translated (found_in (flat_state state) (flat_given inputs)) found_there
        (λ j. refl)
        (λ q i k e gives. whole_names i e (witness.named.flows q i k e gives)) (cell row) agrees_row instant_of

    -- what an expression has in the flat system and in the program
    pub whole_read : (i : Instance) (e : Tree) → Names i place_in tick_in (IsClockOf numbers s i) e → HasProducts program state row i e
        → by.value Value integers (found_in (flat_state state) (flat_given inputs)) (row_of (cell row)) (flat_of program numbers i e) ≡ now program state row i
        e
    whole_read i e names product =
        value_read Value integers (λ b. refl) program numbers (found_in (flat_state state) (flat_given inputs)) (row_of (cell row)) found_there
        (cell row) agrees_row i e (whole_names i e names)
        ∙ meant_same program state (given_there inputs) row i e product

    pub whole_there : (i : Instance) (k : Option Sites) → by.is_there Value integers (row_of (cell row)) (clock_number numbers k) ≡ is_on_in row k
    whole_there i k =
        on_clock Value integers (λ b. refl) program numbers (found_in (flat_state state) (flat_given inputs)) (row_of (cell row)) found_there
        (cell row) agrees_row i k
        ∙ there_same program state (given_there inputs) row i k

  pub typed_state : (state : State) (inputs : ℕ → Value) → AreStarts program main state.kept → AreGiven program main inputs
      → IsTyped s (flat_state state) (flat_given inputs)
  typed_state state inputs starts given_typed = record {
    memories = record {
      many = long_kept state;
      each = λ m lt.
          let less : m < length s.memories = omega (arith, lt, long_kinds) in
          subst (flats.HasKind s.labels (kind_at (memory_kinds s) m)) (sym (kept_at state m less))
          (by_number program main numbers s witness (λ ls j q n. flats.HasKind ls j (state.kept q))
          (λ i d is. has_kind program (operand_kind program i.node d.operand) (state.kept (delay_place i d)) (starts i d is.0 is.1)) m less);
    };
    given = record {
      many = long_given inputs;
      each = λ j lt.
          let less : j < length given_kinds = omega (arith, lt, ap length witness.inputs) in
          let k = kind_at given_kinds j in
          subst (flats.HasKind s.labels (kind_at s.inputs j)) (sym (given_at inputs j lt))
          (in_system program main numbers s witness (λ ls k. flats.HasKind ls k (inputs j)) j
          (has_kind program k (inputs j) (given_typed j k (slice_get-get_or given_kinds j kind.Bool less))));
    };
  }

  clocks : AreNamed program main (λ q. Unit {0}) (λ k. Unit {0}) (IsClockOf numbers s)
  clocks = record {
    flows = λ q i k e gives. clock_names i e (witness.named.flows q i k e gives);
    memories = λ i d inst w. clock_names i d.operand (witness.named.memories i d inst w);
    assertions = λ i a inst w. clock_names i a.body (witness.named.assertions i a inst w);
  }
    where
      clock_names : (i : Instance) (e : Tree) → Names i place_in tick_in (IsClockOf numbers s i) e
          → Names i (λ q. Unit {0}) (λ k. Unit {0}) (IsClockOf numbers s i) e
      clock_names i e names = names_more i place_in _ tick_in _ (IsClockOf numbers s i) _ (λ q w. tt) (λ k w. tt) (λ x is. is) e names

  -- A valuation.
  module _ (v : Valuation) where
    -- what is spelled by places is spelled by numbers, and the other way round
    spells_flat : (state : State) (inputs : ℕ → Value) → SpellsOf program main listed v state inputs → Spells s v (flat_state state) (flat_given inputs)
    spells_flat state inputs spells = record {
      ticks = λ m lt. ticked_at state m lt ∙ spells.ticks (slice_index_or s.ticks m Nothing) (is_tick program main numbers s witness m lt);
      memories = λ m lt.
          subst (IsSpelled s.labels (kind_at (memory_kinds s) m) (v.kept (slice_index_or (memory_places s) m []))) (sym (kept_at state m lt))
          (by_number program main numbers s witness (λ ls j q n. IsSpelled ls j (v.kept q) (state.kept q)) spells.memories m lt);
      given = λ j lt.
          subst (IsSpelled s.labels (kind_at s.inputs j) (v.input j)) (sym (given_at inputs j lt))
          (in_system program main numbers s witness (λ ls k. IsSpelled ls k (v.input j) (inputs j)) j
          (spells.given j (omega (arith, lt, ap length witness.inputs))));
    }

    spells_places : (state : State) (inputs : ℕ → Value) → Spells s v (flat_state state) (flat_given inputs) → SpellsOf program main listed v state inputs
    spells_places state inputs spells = record {
      ticks = λ k is.
          let n = tick_at program main numbers s witness k (tick_numbered program main numbers s witness k is) in
          ap state.ticked (sym n.1) ∙ sym (ticked_at state (tick_number numbers k) n.0) ∙ spells.ticks (tick_number numbers k) n.0 ∙ ap v.ticked n.1;
      memories = by_place program main numbers s witness (λ ls j q n. IsSpelled ls j (v.kept q) (state.kept q))
          (λ m lt. subst (IsSpelled s.labels (kind_at (memory_kinds s) m) (v.kept (slice_index_or (memory_places s) m []))) (kept_at state m lt)
          (spells.memories m lt));
      given = λ j lt.
          let less : j < length s.inputs = omega (arith, lt, ap length witness.inputs) in
          in_program program main numbers s witness (λ ls k. IsSpelled ls k (v.input j) (inputs j)) j
          (subst (IsSpelled s.labels (kind_at s.inputs j) (v.input j)) (given_at inputs j less) (spells.given j less));
    }

    coded_places : IsCoded s v → IsCodedOf program main listed v
    coded_places coded = record {
      memories = by_place program main numbers s witness (λ ls j q n. IsCodedAs ls j (v.kept q)) coded.memories;
      inputs = λ j lt. in_program program main numbers s witness (λ ls k. IsCodedAs ls k (v.input j)) j
          (coded.inputs j (omega (arith, lt, ap length witness.inputs)));
    }

    coded_flat : IsCodedOf program main listed v → IsCoded s v
    coded_flat coded = record {
      memories = by_number program main numbers s witness (λ ls j q n. IsCodedAs ls j (v.kept q)) coded.memories;
      inputs = λ j lt. in_system program main numbers s witness (λ ls k. IsCodedAs ls k (v.input j)) j
          (coded.inputs j (omega (arith, lt, ap length witness.inputs)));
    }

    -- the names of an expression are found at the valuation
    symbolic_names : (i : Instance) (e : Tree) → Names i place_in tick_in (λ x. Unit {0}) e
        → Names i (λ q. (found_at s v).kept (index_of numbers.memories q) ≡ (found_by program main listed v).kept q)
        (λ k. (found_at s v).ticked (tick_number numbers k) ≡ (found_by program main listed v).ticked k) (λ x. Unit {0}) e
    symbolic_names i e names = names_more i _ _ _ _ _ _ (kept_read v) (ticked_read v) (λ x is. tt) e names

    unclocked : (i : Instance) (e : Tree) → Names i place_in tick_in (IsClockOf numbers s i) e → Names i place_in tick_in (λ x. Unit {0}) e
    unclocked i e names = names_more i place_in _ tick_in _ (IsClockOf numbers s i) _ (λ q w. w) (λ k w. w) (λ x is. tt) e names

    -- the symbolic instant of the flat system is that of the program
    pub symbolic_places : (symbolic : List (Option Reading)) → IsSymbolic s v symbolic
        → IsSymbolicOf program main listed v (λ q. by.nth Reading (reads_at s v) symbolic (index_of numbers.flows q))
    symbolic_places symbolic instant =
        subst (λ n. IsInstantOf Reading (readings n v.test) program main (found_by program main listed v)
        (λ q. by.nth Reading (reads_at s v) symbolic (index_of numbers.flows q))) (width_same program main numbers s witness)
        (backward Reading (reads_at s v) (λ b. refl) program main numbers s witness.translated (found_at s v) (found_by program main listed v) (given_read v)
        (λ q i k e gives. symbolic_names i e (unclocked i e (witness.named.flows q i k e gives))) defined (indexed numbers.flows) symbolic instant)

    pub symbolic_at : (symbolic : List (Option Reading)) → IsSymbolic s v symbolic
        → IsSymbolicAt program main listed v (λ q. by.nth Reading (reads_at s v) symbolic (index_of numbers.flows q))
    symbolic_at symbolic instant = (symbolic_places symbolic instant, past_flows symbolic instant.flows)

    module _ (cells : Sites → Option Reading) (agrees : (q : Sites) → get_or (row_of cells) (index_of numbers.flows q) Nothing ≡ cells q) where
      pub symbolic_flat : IsSymbolicOf program main listed v cells → IsSymbolic s v (row_of cells)
      symbolic_flat instant =
          forward Reading (reads_at s v) (λ b. refl) program main numbers s witness.translated (found_at s v) (found_by program main listed v) (given_read v)
          (λ q i k e gives. symbolic_names i e (unclocked i e (witness.named.flows q i k e gives))) cells agrees
          (subst (λ n. IsInstantOf Reading (readings n v.test) program main (found_by program main listed v) cells)
          (sym (width_same program main numbers s witness)) instant)

    module _ (symbolic : List (Option Reading)) (cells : Sites → Option Reading)
        (agrees : (q : Sites) → by.nth Reading (reads_at s v) symbolic (index_of numbers.flows q) ≡ cells q) where
      -- what an expression has there
      symbolic_read : (i : Instance) (e : Tree) → Names i place_in tick_in (λ x. Unit {0}) e
          → read s v symbolic (flat_of program numbers i e) ≡ meant_at program main listed v cells i e
      symbolic_read i e names =
          value_read Reading (reads_at s v) (λ b. refl) program numbers (found_at s v) symbolic (found_by program main listed v) cells agrees i e
          (symbolic_names i e names)
          ∙ (λ t. meant Reading (readings (width_same program main numbers s witness t) v.test) program (found_by program main listed v) cells i e)

      symbolic_there : (i : Instance) (k : Option Sites) → by.is_there Reading (reads_at s v) symbolic (clock_number numbers k) ≡ is_there_at program main
          listed v cells k
      symbolic_there i k =
          on_clock Reading (reads_at s v) (λ b. refl) program numbers (found_at s v) symbolic (found_by program main listed v) cells agrees i k
          ∙ (λ t. is_there Reading (readings (width_same program main numbers s witness t) v.test) program (found_by program main listed v) cells k)

      -- the operands of a comparison of the program are named
      compared_names : (c : Compared) → IsComparison program main c → AreNamedIn program place_in tick_in c
      compared_names c (in_flow q i k e gives w) = operands_named program place_in tick_in i (clock_in i k e) e
          (unclocked i e (witness.named.flows q i k e gives)) c w
      compared_names c (in_memory i d inst there w) = operands_named program place_in tick_in i (clock_in i Base d.operand) d.operand
          (unclocked i d.operand (witness.named.memories i d inst there)) c w
      compared_names c (in_assertion i a inst there w) = operands_named program place_in tick_in i (clock_in i Base a.body) a.body
          (unclocked i a.body (witness.named.assertions i a inst there)) c w

      tested_same : (c : Compared) → IsComparison program main c → tested s v symbolic (flat_compared program numbers c) ≡ tested_in program main listed v cells
          c
      tested_same c is =
          let names = compared_names c is in
          λ t. record {
            at = c.at;
            operator = c.operator;
            there = symbolic_there c.within c.clock t;
            left = symbolic_read c.within c.left names.0 t;
            right = symbolic_read c.within c.right names.1 t;
          }

      -- what a memory has after the instant
      pub updated_same : (i : Instance) (d : Delay) → IsDelay program main i d
          → updated s v symbolic (index_of numbers.memories (delay_place i d)) ≡ updated_at program main listed v cells i d
      updated_same i d is =
          let names = witness.named.memories i d is.0 is.1 in
          let among = place_numbered program main numbers s witness i d is in
          ap (λ y. by.after Reading (reads_at s v) (found_at s v) symbolic y (index_of numbers.memories (delay_place i d)))
          (witness.translated.memory i d is.0 is.1)
          ∙ (λ t. cond (symbolic_there i (clock_in i Base d.operand) t) (symbolic_read i d.operand (unclocked i d.operand names) t)
          (kept_read v (delay_place i d) among t))

      -- whether an assertion is met
      met_same : (i : Instance) (a : AssertionTree) → IsInstance program main i → Contains i.node.assertions a
          → by.is_met Reading (reads_at s v) (found_at s v) symbolic (assertion_item program numbers i a) ≡ is_met_at program main listed v cells i a
      met_same i a inst w =
          λ t. cond (symbolic_there i (clock_in i Base a.body) t) (holds_true
          (symbolic_read i a.body (unclocked i a.body (witness.named.assertions i a inst w)) t)) true

      -- the ticks after it
      tick_same : (m : ℕ) → m < length s.ticks → next_tick s v symbolic m ≡ next_tick_at program main listed v cells (slice_index_or s.ticks m Nothing)
      tick_same m lt =
          ap (λ k. v.ticked (slice_index_or s.ticks m Nothing) || by.is_there Reading (reads_at s v) symbolic k)
          (clock_of_tick program main numbers s witness m lt)
          ∙ ap (λ b. v.ticked (slice_index_or s.ticks m Nothing) || b) (symbolic_there (main_instance program main) (slice_index_or s.ticks m Nothing))

      pub allowed_same : IsAllowedOf program main listed v cells ↔ IsAllowed s v symbolic
      allowed_same = (
        λ allowed_there. (
          coded_flat allowed_there.0,
          λ k lt.
              let o = witness.translated.asserted k lt in
              ap (by.is_met Reading (reads_at s v) (found_at s v) symbolic) o.4 ∙ met_same o.0 o.1 o.2 o.3 ∙ allowed_there.1 o.0 o.1 o.2 o.3,
        ),
        λ allowed_there. (
          coded_places allowed_there.0,
          λ i a inst w.
              let there = witness.translated.asserts i a inst w in
              sym (met_same i a inst w) ∙ ap (by.is_met Reading (reads_at s v) (found_at s v) symbolic)
              (sym (read_in s.assertions (assertion_item program numbers i a) there)) ∙ allowed_there.1 there.0 there.1,
        ),
      )

      pub leads_same : (w : Valuation) → LeadsTo program main listed v cells w ↔ Leads s v symbolic w
      leads_same w = (
        λ leads. record {
          ticks = λ k lt. leads.ticks (slice_index_or s.ticks k Nothing) (is_tick program main numbers s witness k lt) ∙ sym (tick_same k lt);
          memories = by_number program main numbers s witness (λ ls j q m. IsSpelledAs ls j (w.kept q) (updated s v symbolic m))
              (λ i d is. subst (IsSpelledAs counts (operand_kind program i.node d.operand) (w.kept (delay_place i d))) (sym (updated_same i d is))
              (leads.memories i d is));
        },
        λ leads. record {
          ticks = λ k is.
              let n = tick_at program main numbers s witness k (tick_numbered program main numbers s witness k is) in
              ap w.ticked (sym n.1) ∙ leads.ticks (tick_number numbers k) n.0 ∙ tick_same (tick_number numbers k) n.0
              ∙ ap (next_tick_at program main listed v cells) n.1;
          memories = λ i d is.
              subst (IsSpelledAs counts (operand_kind program i.node d.operand) (w.kept (delay_place i d))) (updated_same i d is)
              (by_place program main numbers s witness (λ ls j q m. IsSpelledAs ls j (w.kept q) (updated s v symbolic m)) leads.memories i d is);
        },
      )

      pub agrees_places : (x : List ℤ) → Agrees s v symbolic x → AgreesWith program main listed v cells x
      agrees_places x holds c side r is row =
          holds (flat_compared program numbers c) side r (comparison_there program main numbers s witness.translated defined (indexed numbers.flows) clocks c
          is)
          (subst (λ n. IsRowOf n v.test (tested s v symbolic (flat_compared program numbers c)) side r) (sym (width_same program main numbers s witness))
          (subst (λ a. IsRowOf (columns_of program main listed) v.test a side r) (sym (tested_same c is)) row))

      pub agrees_flat : (x : List ℤ) → AgreesWith program main listed v cells x → Agrees s v symbolic x
      agrees_flat x holds d side r w row =
          let f = comparison_from program main numbers s witness.translated defined (indexed numbers.flows) clocks d w in
          holds f.0 side r f.1
          (subst (λ n. IsRowOf n v.test (tested_in program main listed v cells f.0) side r) (width_same program main numbers s witness)
          (subst (λ a. IsRowOf (width s) v.test a side r) (tested_same f.0 f.1)
          (subst (λ c. IsRowOf (width s) v.test (tested s v symbolic c) side r) f.2 row)))

    -- there is one symbolic instant by places
    pub one_of : (first second : Sites → Option Reading) → IsSymbolicAt program main listed v first → IsSymbolicAt program main listed v second → (q : Sites)
        → first q ≡ second q
    one_of first second one other q =
        let only = one_row Reading (reads_at s v) s (found_at s v) witness.well in
        let left = only.2 (row_of first) (symbolic_flat first (agreeing first one.1) one.0) in
        let right = only.2 (row_of second) (symbolic_flat second (agreeing second other.1) other.0) in
        sym (agreeing first one.1 q) ∙ ap (λ row. get_or row (index_of numbers.flows q) Nothing) (left ∙ sym right) ∙ agreeing second other.1 q

  -- A state, inputs and their instant.
  module _ (state : State) (inputs : ℕ → Value) (row : Instant) (starts : AreStarts program main state.kept) (given_typed : AreGiven program main inputs)
      (instant : IsInstant program main state inputs row) (products : HaveProducts program main state row) where
    typed : IsTyped s (flat_state state) (flat_given inputs)
    typed = typed_state state inputs starts given_typed

    rows : IsWholeInstant s (flat_state state) (flat_given inputs) (row_of (cell row))
    rows = whole_instant state inputs row instant products

    -- some valuation agrees
    pub some_agreed_of : (v : Valuation) × (cells : Sites → Option Reading) × IsCodedOf program main listed v
        × IsAgreedOf program main listed v cells state inputs
    some_agreed_of =
        let a = some_agreed s (flat_state state) (flat_given inputs) (row_of (cell row)) witness.well typed rows in
        let v = a.0 in
        let cells : Sites → Option Reading = λ q. by.nth Reading (reads_at s v) a.1 (index_of numbers.flows q) in
        let agrees = agrees_places v a.1 cells (λ q. refl) (point s (flat_state state) (flat_given inputs)) a.3.2 in
        let here = subst (AgreesWith program main listed v cells) (point_same state inputs) agrees in
        (v, cells, coded_places v a.2, (spells_places v state inputs a.3.0, symbolic_at v a.1 a.3.1, here))

    -- A valuation that agrees.
    module _ (v : Valuation) (cells : Sites → Option Reading) (agreed : IsAgreedOf program main listed v cells state inputs) where
      agrees_cells : (q : Sites) → get_or (row_of cells) (index_of numbers.flows q) Nothing ≡ cells q
      agrees_cells = agreeing cells agreed.1.1

      flat_symbolic : IsSymbolic s v (row_of cells)
      flat_symbolic = symbolic_flat v cells agrees_cells agreed.1.0

      flat_agreed : IsAgreed s v (row_of cells) (flat_state state) (flat_given inputs)
      flat_agreed =
          let agrees = agrees_flat v (row_of cells) cells agrees_cells (point_of program main listed state inputs) agreed.2 in
          (spells_flat v state inputs agreed.0, flat_symbolic, subst (Agrees s v (row_of cells)) (sym (point_same state inputs)) agrees)

      abbrev x : List ℤ
      x = point s (flat_state state) (flat_given inputs)

      found : IsFound s v (flat_state state) (flat_given inputs) (row_of (cell row)) (row_of cells) x
      found = is_found s v (flat_state state) (flat_given inputs) typed flat_agreed.0 (row_of (cell row)) (row_of cells)

      tell : (c : Comparison) → Contains (all_comparisons s) c → IsTold s v (flat_state state) (flat_given inputs) (row_of (cell row)) (row_of cells) x c
      tell = tell_agreed s v (flat_state state) (flat_given inputs) (row_of (cell row)) (row_of cells) flat_agreed.2

      -- the flows have the same
      flow_given : (q : Sites) → cell row q ≡ value_there (point_of program main listed state inputs) (cells q)
      flow_given q = elim (cases_lt (index_of numbers.flows q) (length numbers.flows)) [
        | inl lt ↦
            sym (agrees_row state inputs row instant products q)
            ∙ flow_same s v _ _ _ _ _ witness.well found flat_symbolic tell rows (index_of numbers.flows q) (omega (arith, lt, witness.translated.many))
            ∙ (λ t. value_there (point_same state inputs t) (agrees_cells q t))
        | inr le ↦
            let none : IsFlow program main q → ⊥ = λ f. let w = indexed numbers.flows q (witness.translated.sequence.flows q f) in
            absurd (omega (arith, w.0, le)) in
            absent state inputs row instant products q none ∙ sym (ap (value_there (point_of program main listed state inputs)) (agreed.1.1 q none))
      ]

      there_given : (k : Option Sites) → is_on_in row k ≡ is_there_at program main listed v cells k
      there_given Nothing = refl
      there_given (Some q) = sym (on_same (cell row q)) ∙ ap (by.is_on Value integers) (flow_given q)
          ∙ on_at (point_of program main listed state inputs) (columns_of program main listed) v.test (cells q)

      pub assertion_given : (i : Instance) (a : AssertionTree) → IsInstance program main i → Contains i.node.assertions a
          → cond (is_on_in row (clock_in i Base a.body)) (is_true (now program state row i a.body)) true ≡ is_met_at program main listed v cells i a
      assertion_given i a inst w =
          let there = witness.translated.asserts i a inst w in
          let same = assertion_same s v _ _ _ _ _ witness.well found flat_symbolic tell rows there.0 there.1 in
          let item : nth_item s.assertions there.0 ≡ assertion_item program numbers i a = read_in s.assertions (assertion_item program numbers i a) there in
          let names = witness.named.assertions i a inst w in
          (λ t. cond (sym (whole_there state inputs row instant products i (clock_in i Base a.body)) t)
          (is_true (sym (whole_read state inputs row instant products i a.body names (products.assertions i a inst w)) t)) true)
          ∙ ap (by.is_met Value integers (found_in (flat_state state) (flat_given inputs)) (row_of (cell row))) (sym item)
          ∙ same
          ∙ ap (by.is_met Reading (reads_at s v) (found_at s v) (row_of cells)) item
          ∙ (λ t. cond (symbolic_there v (row_of cells) cells agrees_cells i (clock_in i Base a.body) t)
          (holds_true (symbolic_read v (row_of cells) cells agrees_cells i a.body (unclocked v i a.body names) t)) true)

      -- what a memory has after the instant
      memory_given : (i : Instance) (d : Delay) → IsDelay program main i d
          → cond (is_on_in row (clock_in i Base d.operand)) (now program state row i d.operand) (state.kept (delay_place i d)) ≡ at_point
          (point_of program main listed state inputs) (updated_at program main listed v cells i d)
      memory_given i d is =
          let m = index_of numbers.memories (delay_place i d) in
          let n = number_of program main numbers s witness i d is in
          let among = place_numbered program main numbers s witness i d is in
          let same = memory_same s v _ _ _ _ _ witness.well found flat_symbolic tell rows m n.0 in
          let item : nth_item (memory_items s) m ≡ delay_item program numbers i d = witness.translated.memory i d is.0 is.1 in
          let names = witness.named.memories i d is.0 is.1 in
          (λ t. cond (sym (whole_there state inputs row instant products i (clock_in i Base d.operand)) t)
          (sym (whole_read state inputs row instant products i d.operand names (products.memories i d is)) t)
          (sym (kept_found state inputs (delay_place i d) among) t))
          ∙ ap (λ y. by.after Value integers (found_in (flat_state state) (flat_given inputs)) (row_of (cell row)) y m) (sym item)
          ∙ same
          ∙ ap (λ y. at_point x (by.after Reading (reads_at s v) (found_at s v) (row_of cells) y m)) item
          ∙ (λ t. at_point (point_same state inputs t) (cond (symbolic_there v (row_of cells) cells agrees_cells i (clock_in i Base d.operand) t)
          (symbolic_read v (row_of cells) cells agrees_cells i d.operand (unclocked v i d.operand names) t) (kept_read v (delay_place i d) among t)))

      module _ (next : State) (is_next : IsNext program main state row next) where
        pub gives_of : GivesOf program main listed v cells state inputs row next
        gives_of = record {
          flows = flow_given;
          assertions = λ i a inst w.
              subst (λ b. ((value_now program state row i Base a.body ≡ Nothing) ⊎ (value_now program state row i Base a.body ≡ Some (Flag true))) ↔ (b ≡ true))
              (assertion_given i a inst w)
              (allowed (is_on_in row (clock_in i Base a.body)) (now program state row i a.body));
          observer = flow_given (observer_place program main);
          ticks = λ k is. is_next.ticks k ∙ (λ t. agreed.0.ticks k is t || there_given k t);
          memories = λ i d is. is_next.memories i d is.0 is.1 ∙ memory_given i d is;
        }

        -- the integer memories after the instant
        pub updates_are_of : (after : Sites → Reading) → AreUpdated program main listed v cells after
            → integers_of (kinds_of program main listed) (λ m. next.kept (slice_index_or (map (λ m. m.place) listed) m [])) ≡ forms.values
            (updates_of program main listed v cells after) (point_of program main listed state inputs)
        updates_are_of after updated =
            integers_are (point_of program main listed state inputs) (kinds_of program main listed)
            (λ m. next.kept (slice_index_or (map (λ m. m.place) listed) m []))
            (λ m. form_of (columns_of program main listed) v.test (after (slice_index_or (map (λ m. m.place) listed) m []))) each
          where
            at_place : (q : Sites) (i : Instance) (d : Delay) → IsDelay program main i d → q ≡ delay_place i d
                → number (next.kept q) ≡ forms.value (form_of (columns_of program main listed) v.test (after q)) (point_of program main listed state inputs)
            at_place q i d is at =
                ap (λ p. number (next.kept p)) at
                ∙ ap number (is_next.memories i d is.0 is.1 ∙ memory_given i d is
                ∙ ap (at_point (point_of program main listed state inputs)) (sym (updated i d is)))
                ∙ number_at (point_of program main listed state inputs) (columns_of program main listed) v.test (after (delay_place i d))
                ∙ ap (λ p. forms.value (form_of (columns_of program main listed) v.test (after p)) (point_of program main listed state inputs)) (sym at)

            each : (m : ℕ) → m < length (kinds_of program main listed)
                → number (next.kept (slice_index_or (map (λ m. m.place) listed) m [])) ≡ forms.value
                (form_of (columns_of program main listed) v.test (after (slice_index_or (map (λ m. m.place) listed) m [])))
                (point_of program main listed state inputs)
            each m lt =
                let same = ap length (kinds_same program main numbers s witness) in
                let o = memory_of program main numbers s witness m (omega (arith, lt, same, long_kinds)) in
                at_place (slice_index_or (map (λ m. m.place) listed) m []) o.0 o.1 o.2
                (ap (λ ps. slice_index_or ps m []) (sym (places_same program main numbers s witness)) ∙ o.3)

        -- the control state after it
        pub leads_to_of : (w : Valuation) (after : Sites → Option Reading) (later : ℕ → Value) → IsAgreedOf program main listed w after next later
            → LeadsTo program main listed v cells w
        leads_to_of w after later other = record {
          ticks = λ k is. sym (other.0.ticks k is) ∙ is_next.ticks k ∙ (λ t. agreed.0.ticks k is t || there_given k t);
          memories = λ i d is. spelled_as _ counts (operand_kind program i.node d.operand) _ _ _
              (is_next.memories i d is.0 is.1 ∙ memory_given i d is) (other.0.memories i d is);
        }

      -- there is what each memory has
      pub some_updated : (after : Sites → Reading) × AreUpdated program main listed v cells after
      some_updated = (λ q. updated s v (row_of cells) (index_of numbers.memories q), updated_same v (row_of cells) cells agrees_cells)

    -- two valuations that agree are alike
    pub alike_of : (v w : Valuation) (first second : Sites → Option Reading) → IsAgreedOf program main listed v first state inputs
        → IsAgreedOf program main listed w second state inputs
        → AreAlikeOf program main listed v first w
    alike_of v w first second one other =
        let flat_one = flat_agreed v first one in
        let both = alike s (flat_state state) (flat_given inputs) (row_of (cell row)) v w (row_of first) (row_of second) witness.well typed rows flat_one
        (flat_agreed w second other) in
        record {
          ticks = λ k is. sym (one.0.ticks k is) ∙ other.0.ticks k is;
          memories = λ i d b is less. same_bits counts (operand_kind program i.node d.operand) _ _ _ (one.0.memories i d is) (other.0.memories i d is) b less;
          inputs = λ j b lt less. same_bits counts (kind_at given_kinds j) _ _ _ (one.0.given j lt) (other.0.given j lt) b less;
          tests = λ c side is present.
              both.tests (flat_compared program numbers c) side (comparison_there program main numbers s witness.translated defined
              (indexed numbers.flows) clocks c is)
              (subst (λ a. IsPresent a side) (sym (tested_same v (row_of first) first (agrees_cells v first one) c is)) present);
        }
