-- Two systems that are read from one program are one system of valuations: at each valuation both have the program's symbolic instant.
use Rattle.std.proofs.Common.{◌≡◌, ◌↔◌, inl, inr, ℕ, zero, suc, ◌+◌, ◌-◌, ◌<◌, ◌≤◌, pos, Bool, true, false, ◌&&◌, ◌||◌, List, [], ◌∷◌, length, map, refl, sym}
use Rattle.std.proofs.Common.{◌∙◌, ap, subst, arith, Option, Some, None as Nothing}
use Rattle.std.proofs.{lemmas.Bool.cases_lt, lemmas.List.length-map, lemmas.List.get_or_past}
use Rattle.std.specs.{Prelude.slice_index_or, List.Contains}
use Rattle.rv_tree.specs.{Tree.Tree, Tree.ProgramTree, Places.Identifier, Places.Sites, Places.index_of, Delays.Delay}
use Rattle.rv_types.specs.Lists.{Side, MemoryAt, delay_place, Variable, MainTick, Tick, Kept, Next, Test}
use Rattle.rv_types.specs.{declared.typed.Clock.TheVariants.Base, Instances.Instance, Instances.clock_in}
use Rattle.rv_types.specs.Lists as lists
use Rattle.rv_meaning.specs.Runs.{observer_place}
use Rattle.rv_rows.specs.Arithmetic.{constant_form, column_form}
use Rattle.rv_agreement.specs.Trees.{Kept as KeptMemory, System, no_item, memory_items, memory_kinds, memory_places, kind_at}
use Rattle.rv_agreement.specs.Evaluation.{Found, is_on, is_there, value, after}
use Rattle.rv_agreement.specs.Valuations.{Valuation, Reading, Truth, form_of, whole_count, width, rank, readings, spelled, reads_at, found_at, IsSymbolic}
use Rattle.rv_agreement.specs.Valuations.{Comparison, all_comparisons, read, tested, updated, next_tick, observed, IsAllowed}
use Rattle.rv_agreement.specs.Agreement.{forms_from, updates, IsWell}
use Rattle.rv_agreement.specs.Programs.{FoundAt, meant, Compared, IsComparison, in_flow, in_memory, in_assertion}
use Rattle.rv_agreement.specs.Translation.{Numbers, Names, clock_number, tick_number, flat_of, flat_compared, IsClockOf}
use Rattle.rv_agreement.specs.ProgramAgreement.{IsDelay, IsSymbolicAt, IsAllowedOf, updated_at, IsSystemOf, memories_of}
use Rattle.rv_agreement.proofs.NamedParts.{names_more, operands_named, AreNamedIn}
use Rattle.rv_agreement.proofs.Witnessed.{kinds_same, places_same, memory_of, own_number}
use Rattle.rv_control.specs.Control.{state_bits, order_tests, names_label, memories_named, none_ticked, is_initial, tick_index, bit_of, is_allowed, row_of}
use Rattle.rv_control.specs.Control.{next_truth, control_over}
use Rattle.rv_control.specs.{Named.by_names, Symbolic.symbolic}
use Rattle.rv_control.proofs.{Abstract.allowed_there, Abstract.allowed_told, Readings.is_symbolic}
use Rattle.rv_alike.proofs.{Lists.one_memories, Lists.one_ticks, Rows.TightensOnce, Rows.HaveTested, Rows.same_rows}
use Rattle.rv_diagram.proofs.Several.{same_truth}

-- What is taken from the symbolic instants of a program.
pub record Laws (program : ProgramTree) (main : Identifier) : Type 0 where
  pub from_program : (numbers : Numbers) (s : System) (v : Valuation) (cells : Sites → Option Reading)
      → IsSystemOf program main numbers s → IsSymbolicAt program main (memories_of s) v cells
      → IsSymbolic s v (map cells numbers.flows) × ((q : Sites) → slice_index_or (map cells numbers.flows) (index_of numbers.flows q) Nothing ≡ cells q)
  pub from_system : (numbers : Numbers) (s : System) (v : Valuation) (row : List (Option Reading))
      → IsSystemOf program main numbers s → IsSymbolic s v row
      → IsSymbolicAt program main (memories_of s) v (λ q. slice_index_or row (index_of numbers.flows q) Nothing)
  pub allowed : (numbers : Numbers) (s : System) (v : Valuation) (cells : Sites → Option Reading)
      → IsSystemOf program main numbers s → IsSymbolicAt program main (memories_of s) v cells
      → IsAllowedOf program main (memories_of s) v cells ↔ IsAllowed s v (map cells numbers.flows)
  pub updates : (numbers : Numbers) (s : System) (v : Valuation) (cells : Sites → Option Reading) (i : Instance) (d : Delay)
      → IsSystemOf program main numbers s → IsSymbolicAt program main (memories_of s) v cells → IsDelay program main i d
      → updated s v (map cells numbers.flows) (index_of numbers.memories (delay_place i d)) ≡ updated_at program main (memories_of s) v cells i d
  pub one : (s : System) (v : Valuation) → IsWell s → (row : List (Option Reading)) × IsSymbolic s v row
      × ((other : List (Option Reading)) → IsSymbolic s v other → other ≡ row)
  pub read : (numbers : Numbers) (columns : ℕ) (test : Sites → Side → Bool) (found : Found Reading) (row : List (Option Reading)) (at_place : FoundAt Reading)
      (cells : Sites → Option Reading) → ((q : Sites) → slice_index_or row (index_of numbers.flows q) Nothing ≡ cells q) → (i : Instance) (e : Tree)
      → Names i (λ q. found.kept (index_of numbers.memories q) ≡ at_place.kept q) (λ k. found.ticked (tick_number numbers k) ≡ at_place.ticked k)
      (λ x. Unit {0}) e
      → value Reading (readings columns test) found row (flat_of program numbers i e) ≡ meant Reading (readings columns test) program at_place cells i e
  pub tight : TightensOnce

-- What two systems have in common at a valuation, at the rows of their flows there.
pub record AreSameAt (s t : System) (w : Valuation) (row other : List (Option Reading)) : Type 0 where
  pub allowed : is_allowed s w row ≡ is_allowed t w other
  pub rows : (x : Variable) → row_of s w row x ≡ row_of t w other x
  pub forms : updates s w row ≡ updates t w other
  pub observer : is_on Reading (reads_at s w) (observed s w row) ≡ is_on Reading (reads_at t w) (observed t w other)
  pub next : (x : Variable) → next_truth s w row x ≡ next_truth t w other x

-- the memories' codes by places and types
abbrev all_named : List ℕ → Valuation → List MemoryAt → Bool
all_named labels w [] = true
all_named labels w (m ∷ ms) = names_label labels m.kind (w.kept m.place) && all_named labels w ms

named_all : (labels : List ℕ) (w : Valuation) (ms : List KeptMemory)
    → memories_named labels w ms ≡ all_named labels w (map (λ (m : KeptMemory). let a : MemoryAt = record { place = m.place; kind = m.kind } in a) ms)
unfolding memories_named
named_all labels w [] = refl
named_all labels w (m ∷ ms) = ap (λ b. names_label labels m.kind (w.kept m.place) && b) (named_all labels w ms)

-- the clock of a tick by its number is that of its flow
clock_of : (numbers : Numbers) (ps : List Sites) (k : ℕ)
    → slice_index_or (map (λ q. Some (index_of numbers.flows q)) ps) k Nothing ≡ clock_number numbers (slice_index_or (map (λ q. Some q) ps) k Nothing)
clock_of numbers [] k = refl
clock_of numbers (p ∷ ps) zero = refl
clock_of numbers (p ∷ ps) (suc k) = clock_of numbers ps k

first_clock_of : (numbers : Numbers) (ps : List Sites) (k : ℕ)
    → slice_index_or (Nothing ∷ map (λ q. Some (index_of numbers.flows q)) ps) k Nothing ≡ clock_number numbers
    (slice_index_or (Nothing ∷ map (λ q. Some q) ps) k Nothing)
first_clock_of numbers ps zero = refl
first_clock_of numbers ps (suc k) = clock_of numbers ps k

clock_at : (program : ProgramTree) (main : Identifier) (numbers : Numbers) (s : System) → IsSystemOf program main numbers s → (k : ℕ)
    → slice_index_or s.tick_clocks k Nothing ≡ clock_number numbers (slice_index_or s.ticks k Nothing)
clock_at program main numbers s is k =
    ap (λ cs. slice_index_or cs k Nothing) is.translated.tick_clocks
    ∙ first_clock_of numbers numbers.ticks k
    ∙ ap (λ ts. clock_number numbers (slice_index_or ts k Nothing)) (sym is.translated.tick_places)

-- past the last memory nothing is kept
updated_past : (s : System) (w : Valuation) (row : List (Option Reading)) (m : ℕ) → length s.memories ≤ m → updated s w row m ≡ Truth false
updated_past s w row m le = ap (λ x. after Reading (reads_at s w) (found_at s w) row x m)
    (get_or_past (memory_items s) m no_item (let long = length-map s.memories (λ x. x.item) in omega (arith, long, le)))

module _ (program : ProgramTree) (main : Identifier) (laws : Laws program main) (numbers others : Numbers) (s t : System)
    (first : IsSystemOf program main numbers s) (second : IsSystemOf program main others t) where
  same_memories : memories_of s ≡ memories_of t
  same_memories = one_memories program main (memories_of s) (memories_of t) first.translated.memories second.translated.memories

  same_kinds : memory_kinds s ≡ memory_kinds t
  same_kinds = kinds_same program main numbers s first ∙ ap (map (λ (m : MemoryAt). m.kind)) same_memories ∙ sym (kinds_same program main others t second)

  same_places : memory_places s ≡ memory_places t
  same_places = places_same program main numbers s first ∙ ap lists.memory_places same_memories ∙ sym (places_same program main others t second)

  same_inputs : s.inputs ≡ t.inputs
  same_inputs = first.inputs ∙ sym second.inputs

  same_labels : s.labels ≡ t.labels
  same_labels = first.labels ∙ sym second.labels

  same_tick_places : numbers.ticks ≡ others.ticks
  same_tick_places = one_ticks program main numbers.ticks others.ticks first.translated.ticks second.translated.ticks

  same_ticks : s.ticks ≡ t.ticks
  same_ticks = first.translated.tick_places ∙ ap (λ ps. Nothing ∷ map (λ q. Some q) ps) same_tick_places ∙ sym second.translated.tick_places

  same_numbers : numbers.memories ≡ others.memories
  same_numbers = first.translated.memory_numbers ∙ same_places ∙ sym second.translated.memory_numbers

  same_width : width s ≡ width t
  same_width = λ i. whole_count (same_kinds i) + whole_count (same_inputs i)

  same_tick_number : (k : Option Sites) → tick_number numbers k ≡ tick_number others k
  same_tick_number Nothing = refl
  same_tick_number (Some q) = ap (λ ps. index_of ps q + 1) same_tick_places

  module _ (w : Valuation) where
    same_reads : reads_at s w ≡ reads_at t w
    same_reads = λ i. readings (same_width i) w.test

    same_found : found_at s w ≡ found_at t w
    same_found = λ i. record {
      ticked = λ k. w.ticked (slice_index_or (same_ticks i) k Nothing);
      kept = λ m. spelled (same_labels i) (kind_at (same_kinds i) m) (w.kept (slice_index_or (same_places i) m []))
          (column_form (same_width i) (rank (same_kinds i) m));
      given = λ j. spelled (same_labels i) (kind_at (same_inputs i) j) (w.input j)
          (column_form (same_width i) (whole_count (same_kinds i) + rank (same_inputs i) j));
    }

    pub same_initial : is_initial s w ≡ is_initial t w
    unfolding is_initial
    same_initial =
        let named : memories_named s.labels w s.memories ≡ memories_named t.labels w t.memories =
        named_all s.labels w s.memories ∙ (λ i. all_named (same_labels i) w (same_memories i)) ∙ sym (named_all t.labels w t.memories) in
        λ i. none_ticked w (same_ticks i) && named i

    -- A symbolic instant of the program, by places.
    module _ (cells : Sites → Option Reading) (at : IsSymbolicAt program main (memories_of s) w cells) where
      at_other : IsSymbolicAt program main (memories_of t) w cells
      at_other = subst (λ ms. IsSymbolicAt program main ms w cells) same_memories at

      abbrev row : List (Option Reading)
      row = map cells numbers.flows

      abbrev other : List (Option Reading)
      other = map cells others.flows

      agrees : (q : Sites) → slice_index_or row (index_of numbers.flows q) Nothing ≡ cells q
      agrees = (laws.from_program numbers s w cells first at).1

      agrees_other : (q : Sites) → slice_index_or other (index_of others.flows q) Nothing ≡ cells q
      agrees_other = (laws.from_program others t w cells second at_other).1

      same_allowed : is_allowed s w row ≡ is_allowed t w other
      same_allowed = same_truth (is_allowed s w row) (is_allowed t w other)
          (λ e. allowed_there t w other ((laws.allowed others t w cells second at_other).0
          (subst (λ ms. IsAllowedOf program main ms w cells) same_memories ((laws.allowed numbers s w cells first at).1 (allowed_told s w row e)))))
          (λ e. allowed_there s w row ((laws.allowed numbers s w cells first at).0
          (subst (λ ms. IsAllowedOf program main ms w cells) (sym same_memories)
          ((laws.allowed others t w cells second at_other).1 (allowed_told t w other e)))))

      updated_within : (m : ℕ) → m < length s.memories → updated s w row m ≡ updated t w other m
      updated_within m lt =
          let o = memory_of program main numbers s first m lt in
          let mine : index_of numbers.memories (delay_place o.0 o.1) ≡ m = own_number program main numbers s first m o.0 o.1 o.2 lt o.3 in
          let theirs : index_of others.memories (delay_place o.0 o.1) ≡ m = ap (λ ps. index_of ps (delay_place o.0 o.1)) (sym same_numbers) ∙ mine in
          ap (updated s w row) (sym mine)
          ∙ laws.updates numbers s w cells o.0 o.1 first at o.2
          ∙ ap (λ ms. updated_at program main ms w cells o.0 o.1) same_memories
          ∙ sym (laws.updates others t w cells o.0 o.1 second at_other o.2)
          ∙ ap (updated t w other) theirs

      same_updated : (m : ℕ) → updated s w row m ≡ updated t w other m
      same_updated m = elim (cases_lt m (length s.memories)) [
        | inl lt ↦ updated_within m lt
        | inr le ↦ updated_past s w row m le ∙ sym (updated_past t w other m (let many = same_count in omega (arith, many, le)))
      ]
        where
          same_count : length s.memories ≡ length t.memories
          same_count = sym (length-map s.memories (λ x. x.place)) ∙ ap length same_places ∙ length-map t.memories (λ x. x.place)

      same_there : (k : Option Sites) → is_there Reading (reads_at s w) row (clock_number numbers k) ≡ is_there Reading (reads_at t w) other
          (clock_number others k)
      same_there Nothing = refl
      same_there (Some q) = let both = agrees q ∙ sym (agrees_other q) in λ i. is_on Reading (same_reads i) (both i)

      same_tick : (k : ℕ) → next_tick s w row k ≡ next_tick t w other k
      same_tick k =
          let there : is_there Reading (reads_at s w) row (slice_index_or s.tick_clocks k Nothing) ≡ is_there Reading (reads_at t w) other
          (slice_index_or t.tick_clocks k Nothing) =
          ap (is_there Reading (reads_at s w) row) (clock_at program main numbers s first k)
          ∙ same_there (slice_index_or s.ticks k Nothing)
          ∙ ap (λ ts. is_there Reading (reads_at t w) other (clock_number others (slice_index_or ts k Nothing))) same_ticks
          ∙ ap (is_there Reading (reads_at t w) other) (sym (clock_at program main others t second k)) in
          λ i. w.ticked (slice_index_or (same_ticks i) k Nothing) || there i

      same_observed : is_on Reading (reads_at s w) (observed s w row) ≡ is_on Reading (reads_at t w) (observed t w other)
      same_observed =
          let o = observer_place program main in
          let both : observed s w row ≡ observed t w other =
          ap (λ n. slice_index_or row n Nothing) first.observer ∙ agrees o ∙ sym (agrees_other o)
          ∙ ap (λ n. slice_index_or other n Nothing) (sym second.observer) in
          λ i. is_on Reading (same_reads i) (both i)

      -- What a comparison of the program has in both.
      abbrev IsKept : Sites → Type 0
      IsKept q = Contains numbers.memories q

      abbrev IsTick : Option Sites → Type 0
      IsTick k = Contains s.ticks k

      abbrev at_place : FoundAt Reading
      at_place = record {
        ticked = λ k. (found_at s w).ticked (tick_number numbers k);
        kept = λ q. (found_at s w).kept (index_of numbers.memories q);
        given = (found_at s w).given;
      }

      same_meant : (i : Instance) (e : Tree) → Names i IsKept IsTick (λ x. Unit {0}) e
          → read s w row (flat_of program numbers i e) ≡ read t w other (flat_of program others i e)
      same_meant i e names =
          laws.read numbers (width s) w.test (found_at s w) row at_place cells agrees i e
          (names_more i IsKept (λ q. (found_at s w).kept (index_of numbers.memories q) ≡ at_place.kept q)
          IsTick (λ k. (found_at s w).ticked (tick_number numbers k) ≡ at_place.ticked k) (λ x. Unit {0}) (λ x. Unit {0})
          (λ q is. refl) (λ k is. refl) (λ x is. tt) e names)
          ∙ (λ j. meant Reading (same_reads j) program at_place cells i e)
          ∙ sym (laws.read others (width t) w.test (found_at t w) other at_place cells agrees_other i e
          (names_more i IsKept (λ q. (found_at t w).kept (index_of others.memories q) ≡ at_place.kept q)
          IsTick (λ k. (found_at t w).ticked (tick_number others k) ≡ at_place.ticked k) (λ x. Unit {0}) (λ x. Unit {0})
          (λ q is. sym (λ j. (same_found j).kept (index_of (same_numbers j) q)))
          (λ k is. sym (λ j. (same_found j).ticked (same_tick_number k j))) (λ x is. tt) e names))

      unclocked : (i : Instance) (e : Tree) → Names i IsKept IsTick (IsClockOf numbers s i) e → Names i IsKept IsTick (λ x. Unit {0}) e
      unclocked i e names = names_more i IsKept IsKept IsTick IsTick (IsClockOf numbers s i) (λ x. Unit {0}) (λ q is. is) (λ k is. is) (λ x is. tt) e names

      compared_names : (c : Compared) → IsComparison program main c → AreNamedIn program IsKept IsTick c
      compared_names c (in_flow q i k e gives v) = operands_named program IsKept IsTick i (clock_in i k e) e (unclocked i e (first.named.flows q i k e gives)) c
          v
      compared_names c (in_memory i d inst there v) = operands_named program IsKept IsTick i (clock_in i Base d.operand) d.operand
          (unclocked i d.operand (first.named.memories i d inst there)) c v
      compared_names c (in_assertion i a inst there v) = operands_named program IsKept IsTick i (clock_in i Base a.body) a.body
          (unclocked i a.body (first.named.assertions i a inst there)) c v

      same_tested : (c : Compared) → IsComparison program main c → tested s w row (flat_compared program numbers c) ≡ tested t w other
          (flat_compared program others c)
      same_tested c is =
          let names = compared_names c is in
          λ j. record {
            at = c.at;
            operator = c.operator;
            there = same_there c.clock j;
            left = same_meant c.within c.left names.0 j;
            right = same_meant c.within c.right names.1 j;
          }

      module _ (have : (c : Compared) → IsComparison program main c → Contains (all_comparisons s) (flat_compared program numbers c))
          (only : (d : Comparison) → Contains (all_comparisons s) d → (c : Compared) × IsComparison program main c × (d ≡ flat_compared program numbers c))
          (have_too : (c : Compared) → IsComparison program main c → Contains (all_comparisons t) (flat_compared program others c))
          (only_too : (d : Comparison) → Contains (all_comparisons t) d → (c : Compared) × IsComparison program main c × (d ≡ flat_compared program others c))
        where
          tested_to : HaveTested s t w row other
          tested_to d there =
              let r = only d there in (
                flat_compared program others r.0,
                have_too r.0 r.1,
                ap (λ (x : Comparison). x.at) (sym r.2),
                ap (tested s w row) r.2 ∙ same_tested r.0 r.1,
              )

          tested_from : HaveTested t s w other row
          tested_from d there =
              let r = only_too d there in (
                flat_compared program numbers r.0,
                have r.0 r.1,
                ap (λ (x : Comparison). x.at) (sym r.2),
                ap (tested t w other) r.2 ∙ sym (same_tested r.0 r.1),
              )

          same_row : (x : Variable) → row_of s w row x ≡ row_of t w other x
          same_row (Test p side) = same_rows laws.tight s t w row other same_width first.well.apart second.well.apart tested_to tested_from p side
          same_row _ = refl

          same_next : (x : Variable) → next_truth s w row x ≡ next_truth t w other x
          same_next MainTick = same_tick (tick_index s.ticks Nothing) ∙ ap (λ ts. next_tick t w other (tick_index ts Nothing)) same_ticks
          same_next (Tick p) = same_tick (tick_index s.ticks (Some p)) ∙ ap (λ ts. next_tick t w other (tick_index ts (Some p))) same_ticks
          same_next (Kept p b) = ap (λ a. bit_of a b) (same_updated (index_of (memory_places s) p) ∙ ap (λ ps. updated t w other (index_of ps p)) same_places)
          same_next _ = refl

          pub same_at : AreSameAt s t w row other
          same_at = record {
            allowed = same_allowed;
            rows = same_row;
            forms = λ j. forms_from (same_kinds j) (λ m. form_of (same_width j) w.test (same_updated m j));
            observer = same_observed;
            next = same_next;
          }

  module _ (have : (c : Compared) → IsComparison program main c → Contains (all_comparisons s) (flat_compared program numbers c))
      (only : (d : Comparison) → Contains (all_comparisons s) d → (c : Compared) × IsComparison program main c × (d ≡ flat_compared program numbers c))
      (have_too : (c : Compared) → IsComparison program main c → Contains (all_comparisons t) (flat_compared program others c))
      (only_too : (d : Comparison) → Contains (all_comparisons t) d → (c : Compared) × IsComparison program main c × (d ≡ flat_compared program others c)) where
    -- the computed rows are those of the program's symbolic instant
    computed_row : (numbers : Numbers) (s : System) (w : Valuation) (cells : Sites → Option Reading) → IsSystemOf program main numbers s
        → IsSymbolicAt program main (memories_of s) w cells → map cells numbers.flows ≡ symbolic s w
    computed_row numbers s w cells is at =
        let only = laws.one s w is.well in
        only.2 (map cells numbers.flows) (laws.from_program numbers s w cells is at).0 ∙ sym (only.2 (symbolic s w) (is_symbolic s w is.well))

    same_symbolic : (w : Valuation) → AreSameAt s t w (symbolic s w) (symbolic t w)
    same_symbolic w =
        let cells : Sites → Option Reading = λ q. slice_index_or (symbolic s w) (index_of numbers.flows q) Nothing in
        let at : IsSymbolicAt program main (memories_of s) w cells = laws.from_system numbers s w (symbolic s w) first (is_symbolic s w first.well) in
        subst (AreSameAt s t w (symbolic s w)) (computed_row others t w cells second (at_other w cells at))
        (subst (λ r. AreSameAt s t w r (map cells others.flows)) (computed_row numbers s w cells first at)
        (same_at w cells at have only have_too only_too))

    -- The two systems of valuations are one, whatever variables there are.
    pub same_control : (names : List Variable) → control_over s names ≡ control_over t names
    same_control names = λ i. record {
      states = state_bits names;
      variables = length names;
      memories = whole_count (same_kinds i);
      columns = same_width i;
      tests = order_tests names;
      initial = λ v. same_initial (by_names names v) i;
      allowed = λ v. (same_symbolic (by_names names v)).allowed i;
      row = λ v j. (same_symbolic (by_names names v)).rows (slice_index_or names (length names - order_tests names + j) Next) i;
      update = λ v k. slice_index_or ((same_symbolic (by_names names v)).forms i) k (constant_form (same_width i) (pos 0));
      observer = λ v. (same_symbolic (by_names names v)).observer i;
      next = λ v x. (same_symbolic (by_names names v)).next (slice_index_or names x Next) i;
    }
