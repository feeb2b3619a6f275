-- A flat system that is read from its program has the program's symbolic instants, and its comparisons on their clocks.
use Rattle.std.proofs.Common.{◌≡◌, inl, inr, ◌⊎◌, ℕ, suc, ◌+◌, ◌<◌, Bool, true, false, List, [], ◌∷◌, map, length, get_or, refl, sym, ◌∙◌, ap, subst}
use Rattle.std.proofs.Common.{arith, Option, Some, None as Nothing}
use Rattle.std.proofs.{lemmas.List.length-map, lemmas.Simd.map-map}
use Rattle.std.specs.List.{Contains}
use Rattle.rv_tree.specs.Places.{Identifier, Sites, flows as flows_of, is_among, index_of}
use Rattle.rv_tree.specs.{declared.tree.TypeDecl.TypeDecl, Tree.Tree, Tree.ProgramTree, Delays.Delay, Delays.node_delays}
use Rattle.rv_types.specs.Instances.{Instance, clock_in, IsInstance, IsFlow, IsNode}
use Rattle.rv_types.specs.{declared.typed.Clock.TheVariants.Base, Names.labels_of, Names.texts, Values.label_count, Lists.MemoryAt, Lists.delay_place}
use Rattle.rv_types.specs.{Variables.node_parts, Variables.is_arrow, WellFormed.AreWell}
use Rattle.rv_meaning.specs.{Runs.observer_place, Givers.AreDefined}
use Rattle.rv_agreement.specs.Programs.{label_counts, kinds_of, columns_of, found_by, IsSymbolicOf, Compared, IsComparison}
use Rattle.rv_agreement.specs.Translation.{Numbers, tick_number, flat_compared, IsTranslated, IsClockOf}
use Rattle.rv_agreement.specs.Valuations.{Valuation, Reading, Comparison, all_comparisons, IsSymbolic, whole_count, width, readings, found_at}
use Rattle.rv_agreement.specs.{Agreement.IsWell, Evaluation.IsInstant, ProgramAgreement.IsSystemOf, Trees.System, Trees.memory_kinds, Trees.memory_places}
use Rattle.rv_flat.specs.Systems.{places_of, memory_places_of, memory_of, kept_of, system_from}
use Rattle.rv_flat.specs.{declared.parts.Bit.Bit, declared.parts.FlatExpr.FlatExpr, declared.parts.FlatFlow.FlatFlow, declared.parts.FlatInput.FlatInput}
use Rattle.rv_flat.specs.{declared.parts.FlatMemory.FlatMemory, Lists.tick_places}
use Rattle.rv_flatten.specs.Readings.{numbers_of, IsRead, AreKinds}
use Rattle.rv_flatten.proofs.{AgreedLaws.Laws, AgreedLaws.AreAllFound, AgreedLaws.AreClocked, NamedParts.are_named, Translated.memory_there as memory_placed}
use Rattle.rv_flatten.proofs.ItemClocks.{clock_is}
use Rattle.rv_flat.proofs.PlaceNumbers.{its_number, made_at, made_past}
use Rattle.rv_agreement.proofs.Indexed.{indexed}
use Rattle.rv_types.proofs.{Members.among_from, Members.at_head, Members.in_map, Members.in_tail, ChainLaws.no_flag}

-- the labels of an enumeration as they are counted
labels_counted : (ds : List TypeDecl) → map (λ (ls : List (List ℕ)). length ls) (map (λ d. texts (labels_of d)) ds) ≡ map (λ d. label_count d) ds
labels_counted [] = refl
labels_counted (d ∷ ds) = λ j. length-map (labels_of d) (λ x. x.text) j ∷ labels_counted ds j

module _ (laws : Laws) (program : ProgramTree) (main : Identifier) (well : AreWell program) (named : IsNode program main) (defined : AreDefined program main)
    (flows : List FlatFlow) (memories : List FlatMemory) (inputs : List FlatInput) (variables : List Bit) (assertions : List FlatExpr)
    (labels : List (List (List ℕ))) (observer : ℕ)
    (read : IsRead program main flows memories inputs variables assertions) (types : AreKinds program main flows inputs labels)
  where
    abbrev numbers : Numbers
    numbers = numbers_of flows memories variables

    abbrev s : System
    s = system_from flows memories inputs assertions variables labels observer

    abbrev kept : List MemoryAt
    kept = map memory_of memories

    module _ (translated : IsTranslated program main numbers s) where
      -- the flow of each clock is on its own
      is_clock : (i : Instance) (x : Identifier) → IsInstance program main i → Contains (flows_of i.node) x → IsClockOf numbers s i x
      is_clock = clock_is program main well named numbers s translated

      are_clocked : AreClocked program main numbers s
      are_clocked = are_named program main well named (λ q. Unit {0}) (λ t. Unit {0}) (IsClockOf numbers s) (λ i d of w. tt) (λ i e of w arrow. tt) is_clock

      -- The comparisons are those of the program.
      pub comparison_there : (c : Compared) → IsComparison program main c → Contains (all_comparisons s) (flat_compared program numbers c)
      comparison_there c is = laws.comparisons program main numbers s c translated defined (indexed (places_of flows)) are_clocked is

      pub comparison_only : (d : Comparison) → Contains (all_comparisons s) d
          → (c : Compared) × IsComparison program main c × (d ≡ flat_compared program numbers c)
      comparison_only d w = laws.only program main numbers s d translated defined (indexed (places_of flows)) are_clocked w

      -- What an instant finds at a valuation is found in the program.
      kinds_same : memory_kinds s ≡ kinds_of program main kept
      kinds_same = map-map (λ m. m.kind) (kept_of memories) memories ∙ sym (map-map (λ m. m.kind) memory_of memories)

      places_same : memory_places_of memories ≡ map (λ (m : MemoryAt). m.place) kept
      places_same = sym (map-map (λ m. m.place) memory_of memories)

      labels_same : s.labels ≡ label_counts program main kept
      labels_same = ap (map (λ (ls : List (List ℕ)). length ls)) types.label ∙ labels_counted program.types

      width_same : width s ≡ columns_of program main kept
      width_same = λ j. whole_count (kinds_same j) + whole_count (types.input j)

      memory_there : (i : Instance) (d : Delay) → IsInstance program main i → Contains (node_delays i.node) d
          → Contains (memory_places_of memories) (delay_place i d)
      memory_there = memory_placed program main memories read.list

      module _ (v : Valuation) where
        given_same : (j : ℕ) → (found_at s v).given j ≡ (found_by program main kept v).given j
        given_same j = rw (labels_same, types.input, kinds_same)

        kept_same : (i : Instance) (d : Delay) → IsInstance program main i → Contains (node_delays i.node) d
            → (found_at s v).kept (index_of (memory_places_of memories) (delay_place i d)) ≡ (found_by program main kept v).kept (delay_place i d)
        kept_same i d of w =
            let q : Sites = delay_place i d in
            let n : ℕ = index_of (memory_places_of memories) q in
            let own : get_or (memory_places s) n [] ≡ q =
            ap (λ l. get_or l n []) (map-map (λ m. m.place) (kept_of memories) memories) ∙ (indexed (memory_places_of memories) q (memory_there i d of w)).1 in
            let same : n ≡ index_of (map (λ (m : MemoryAt). m.place) kept) q = ap (λ l. index_of l q) places_same in
            rw (own, same, labels_same, types.input, kinds_same)

        tick_same : (k : Option Sites) → ((q : Sites) → k ≡ Some q → Contains (tick_places variables) q)
            → (found_at s v).ticked (tick_number numbers k) ≡ v.ticked k
        tick_same Nothing there = refl
        tick_same (Some q) there =
            let next : index_of (tick_places variables) q + 1 ≡ suc (index_of (tick_places variables) q) = omega arith in
            ap (λ n. v.ticked (get_or s.ticks n Nothing)) next
            ∙ ap v.ticked (made_at (λ p. Some p) (tick_places variables) q Nothing (among_from (tick_places variables) q (there q refl)))

        all_found : AreAllFound Reading program main numbers (found_at s v) (found_by program main kept v)
        all_found =
            are_named program main well named (λ q. (found_at s v).kept (index_of numbers.memories q) ≡ (found_by program main kept v).kept q)
            (λ k. (found_at s v).ticked (tick_number numbers k) ≡ (found_by program main kept v).ticked k) (λ i x. Unit {0})
            kept_same (λ i e of w arrow. tick_same (clock_in i Base e) (λ q is. read.ticks.all i e q of w arrow is)) (λ i x of w. tt)

        row_same : (cells : Sites → Option Reading) → ((q : Sites) → IsFlow program main q ⊎ (cells q ≡ Nothing)) → (q : Sites)
            → get_or (map cells (places_of flows)) (index_of (places_of flows) q) Nothing ≡ cells q
        row_same cells none q = by (is_among (places_of flows) q) refl
          where
            by : (b : Bool) → is_among (places_of flows) q ≡ b → get_or (map cells (places_of flows)) (index_of (places_of flows) q) Nothing ≡ cells q
            by true e = made_at cells (places_of flows) q Nothing e
            by false e = made_past cells (places_of flows) q Nothing e ∙ (elim (none q) [
              | inl flow ↦ no_flag (sym e ∙ among_from (places_of flows) q (read.sequence.flows q flow))
              | inr absent ↦ sym absent
            ])

        -- Each symbolic instant of the program is one of the flat system, and the other way round.
        pub symbolic_there : (cells : Sites → Option Reading) → IsSymbolicOf program main kept v cells
            → ((q : Sites) → IsFlow program main q ⊎ (cells q ≡ Nothing)) → IsSymbolic s v (map cells (places_of flows))
        symbolic_there cells is none =
            subst (λ n. IsInstant Reading (readings n v.test) s (found_at s v) (map cells (places_of flows))) (sym width_same)
            (laws.instants program main numbers s (columns_of program main kept) v.test (found_at s v) (found_by program main kept v) cells translated
            given_same all_found (row_same cells none) is)

        pub symbolic_back : (row : List (Option Reading)) → IsSymbolic s v row
            → IsSymbolicOf program main kept v (λ q. get_or row (index_of (places_of flows) q) Nothing)
        symbolic_back row is =
            laws.rows program main numbers s (columns_of program main kept) v.test (found_at s v) (found_by program main kept v) row translated given_same
            all_found defined (indexed (places_of flows)) (subst (λ n. IsInstant Reading (readings n v.test) s (found_at s v) row) width_same is)

      -- The ticks, and the observer, by their numbers.
      tick_there : (i : Instance) (e : Tree) → IsInstance program main i → Contains (node_parts i.node) e → is_arrow e ≡ true
          → Contains s.ticks (clock_in i Base e)
      tick_there i e of w arrow = by (clock_in i Base e) refl
        where
          by : (k : Option Sites) → clock_in i Base e ≡ k → Contains s.ticks k
          by Nothing is = at_head Nothing (map (λ p. Some p) (tick_places variables))
          by (Some q) is = in_tail Nothing (map (λ p. Some p) (tick_places variables)) (Some q)
              (in_map (λ p. Some p) (tick_places variables) q (read.ticks.all i e q of w arrow is))

      number_is : (q : Sites) → IsFlow program main q → (k : ℕ) → k < length (places_of flows) → get_or (places_of flows) k [] ≡ q
          → k ≡ index_of (places_of flows) q
      number_is q flow k lt is = sym (its_number (places_of flows) read.sequence.once k lt) ∙ ap (index_of (places_of flows)) is

      -- The system is read from the program, with all that it names.
      pub system_read : IsWell s → IsFlow program main (observer_place program main) → observer < length (places_of flows)
          → get_or (places_of flows) observer [] ≡ observer_place program main → IsSystemOf program main numbers s
      system_read is_well flow within at = record {
        translated = translated;
        well = is_well;
        labels = ap (map (λ (ls : List (List ℕ)). length ls)) types.label ∙ labels_counted program.types;
        inputs = types.input;
        observer = number_is (observer_place program main) flow observer within at;
        named = are_named program main well named (Contains numbers.memories) (Contains s.ticks) (IsClockOf numbers s) memory_there tick_there is_clock;
      }
