-- A flat system that is read from its program has the instants of the program, and the same states after them.
use Rattle.std.proofs.Common.{◌≡◌, ℕ, zero, suc, ◌+◌, ◌<◌, ◌≤◌, ◌↔◌, Bool, true, false, ◌||◌, cond, List, [], ◌∷◌, ◌++◌, map, length, get_or, refl, sym, ◌∙◌}
use Rattle.std.proofs.Common.{ap, subst, arith, Option, Some, IsSome, None as Nothing}
use Rattle.std.proofs.lemmas.List.{length-map, get_or-map, get_or_default}
use Rattle.std.proofs.{lemmas.Option.none-some, lemmas.Option.same_Some, lemmas.Simd.map-map}
use Rattle.std.specs.List.{Contains}
use Rattle.std.specs.FinMap as finite
use Rattle.rv_base.specs.{declared.value.Value.Value, declared.value.Value.TheVariants.Flag, Limits.heaviest}
use Rattle.rv_tree.specs.Places.{Identifier, Sites, flows, is_among, index_of}
use Rattle.rv_tree.specs.{Tree.Tree, Tree.AssertionTree, Tree.ProgramTree, Delays.Delay, Delays.node_delays}
use Rattle.rv_types.specs.Variables.{node_parts, is_arrow}
use Rattle.rv_types.specs.Instances.{Body, Output, Instance, place, absolute, clock_of, clock_in, clock_of_arguments, output_place, IsInstance, IsFlow, IsNode}
use Rattle.rv_types.specs.Needs.{Giver, Given, Of, Gives, given, by_equation, by_call}
use Rattle.rv_types.specs.{declared.typed.Clock.Clock, declared.typed.Clock.TheVariants.Base, declared.typed.Kind.Kind, Lists.delay_place, WellFormed.AreWell}
use Rattle.rv_types.specs.declared.typed.Kind.TheVariants as kind
use Rattle.rv_meaning.specs.Meaning.{held, is_on, is_true}
use Rattle.rv_meaning.specs.Instants.{State as Brought, is_on_in, now, value_now, right_now, IsInstant, IsNext}
use Rattle.rv_meaning.specs.{Runs.Instant, Runs.flat, Runs.cell, Givers.AreDefined}
use Rattle.rv_instances.specs.Weights.{weight, AreLight}
use Rattle.rv_agreement.specs.Translation.{Numbers, clock_number, tick_number, flat_of, giver_item, IsTranslated}
use Rattle.rv_agreement.specs.{Evaluation.form_value, Evaluation.integers, Programs.found_of, Trees.FlatTree, Trees.Item}
use Rattle.rv_agreement.specs.Evaluation as evaluation
use Rattle.rv_flat.specs.FlatInstants.{Row, nth, is_on_at, value_at, found_at, nth_item, flow_items, memory_items, assertion_trees, places, memory_places}
use Rattle.rv_flat.specs.FlatInstants.{tick_clocks, system_of, IsFlatInstant, IsFlatNext}
use Rattle.rv_flat.specs.FlatOf.{numbers_of, flat_state, flat_inputs, row_of, instant_of, IsBroken, IsFlatBroken, no_assertion}
use Rattle.rv_flat.specs.Inlined.{IsTable, form_inlined, table_of, inlined, tree_among}
use Rattle.rv_flat.specs.{declared.flat.Flat.Flat, declared.parts.FlatExpr.FlatExpr, declared.parts.FlatForm.TheFolds.fold_out-FlatExpr}
use Rattle.rv_flat.specs.{declared.state.State.State, Lists.tick_places, RawTree.RawTree, RawTree.RawForm, RawTree.raw_tree, RawTree.form_of}
use Rattle.rv_flat.specs.RawTree as raw
use Rattle.rv_flatten.specs.Readings.{IsRead, presence, assertion_of, no_assumption}
use Rattle.rv_flatten.proofs.Standing.{Stands, body_stands, as_assertion, argument_stands, operand_stands}
use Rattle.rv_flatten.proofs.Translated.{AreAlike, is_translated, memory_is, whole_shown, mapped_at, memory_there}
use Rattle.rv_flatten.proofs.{AgreedLaws.Laws, ItemClocks.clock_is, NamedParts.names_in, NamedParts.products_in, WellInstances.is_light}
use Rattle.rv_flat.proofs.PlaceNumbers.{made_at, row_agrees, instant_agrees, instant_places}
use Rattle.rv_flat.proofs.{TypedParts.some_is, TypedParts.IsTyped, Typing.value_kth}
use Rattle.rv_agreement.proofs.Meanings.{held_same, on_same}
use Rattle.rv_types.proofs.{Members.among_from, Members.index_there, ChainLaws.no_flag}
use Rattle.rv_base.proofs.Lists.{item_at}
use Rattle.rv_meaning.proofs.Acceptable.{typed}

-- what a giver makes of an instant
abbrev pub expected_now : ProgramTree → Brought → (ℕ → Value) → Instant → Giver → Option Value
expected_now program state inputs instant (Given j) = Some (inputs j)
expected_now program state inputs instant (Of i k r) = right_now program state instant i k r

held_on : (o : Option Value) → is_true (evaluation.held Value integers o) ≡ is_on o
held_on Nothing = refl
held_on (Some v) = refl

-- the place of a flat expression
abbrev root : RawTree → Sites
root (raw.Node at form) = at

place_at : (es : List FlatExpr) (k : ℕ) → k < length es → get_or (map (λ e. e.at.sites) es) k [] ≡ root (get_or (map raw_tree es) k no_assumption)
place_at [] k lt = absurd (omega (arith, lt))
place_at (e ∷ es) zero lt = sym (ap root (fold_out-FlatExpr RawForm RawTree form_of (λ e. raw.Node e.at.sites e.form) e))
place_at (e ∷ es) (suc k) lt = place_at es k (omega (arith, lt))

module _ (laws : Laws) (program : ProgramTree) (main : Identifier) (well : AreWell program) (named : IsNode program main) (weights : AreLight program main)
    (f : Flat)
    (read : IsRead program main f.flows f.memories f.inputs f.variables f.assertions) (table : IsTable f.memories)
    (alike : AreAlike program main (numbers_of f))
  where
    abbrev numbers : Numbers
    numbers = numbers_of f

    translated : IsTranslated program main (numbers_of f) (system_of f)
    translated = is_translated program main f.flows f.memories f.inputs f.variables f.assertions read table alike f.labels f.observer

    light : (i : Instance) (e : Tree) → IsInstance program main i → Stands i.node e → weight program weights.0 i e ≤ heaviest
    light = is_light program main weights.0 weights.2

    pub flow_count : length (places f) ≡ length f.flows
    flow_count = length-map f.flows (λ x. x.place.sites)

    memory_count : length (memory_places f) ≡ length f.memories
    memory_count = length-map f.memories (λ m. m.place.sites)

    module _ (state : Brought) (inputs : ℕ → Value) where
      abbrev here : State
      here = flat_state f state

      -- a memory by its number
      remembers : (i : Instance) (d : Delay) → IsInstance program main i → Contains (node_delays i.node) d
          → get_or here.kept (index_of (memory_places f) (delay_place i d)) (Flag false) ≡ state.kept (delay_place i d)
      remembers i d of w = made_at state.kept (memory_places f) (delay_place i d) (Flag false)
          (among_from (memory_places f) (delay_place i d) (memory_there program main f.memories read.list i d of w))

      -- a tick by its number
      tick_is : (k : Option Sites) → ((q : Sites) → k ≡ Some q → Contains (tick_places f.variables) q)
          → get_or here.ticked (tick_number numbers k) false ≡ state.ticked k
      tick_is Nothing there = refl
      tick_is (Some q) there =
          let next : index_of (tick_places f.variables) q + 1 ≡ suc (index_of (tick_places f.variables) q) = omega arith in
          ap (λ n. get_or here.ticked n false) next
          ∙ ap (λ l. get_or l (index_of (tick_places f.variables) q) false) (map-map state.ticked (λ p. Some p) (tick_places f.variables))
          ∙ made_at (λ p. state.ticked (Some p)) (tick_places f.variables) q false (among_from (tick_places f.variables) q (there q refl))

      ticks : (i : Instance) (e : Tree) → IsInstance program main i → Contains (node_parts i.node) e → is_arrow e ≡ true
          → get_or here.ticked (tick_number numbers (clock_in i Base e)) false ≡ state.ticked (clock_in i Base e)
      ticks i e of w arrow = tick_is (clock_in i Base e) (λ q is. read.ticks.all i e q of w arrow is)

      module _ (row : Row) (instant : Instant) (agrees : (p : Sites) → nth row (index_of (places f) p) ≡ cell instant p) where
        abbrev has : FlatTree → Value
        has = value_at here (flat_inputs f inputs) row

        abbrev masked : Item → Option Value
        masked item = cond (is_on_at row item.clock) (Some (has item.body)) Nothing

        -- whether a clock is there
        on : (k : Option Sites) → is_on_at row (clock_number numbers k) ≡ is_on_in instant k
        on Nothing = refl
        on (Some q) = on_same (nth row (index_of (places f) q)) ∙ ap is_on (agrees q)

        present : (k : Option Sites) → is_true (form_value Value integers (found_at here (flat_inputs f inputs)) row []
            (form_inlined (table_of f.memories) (presence (clock_number numbers k)))) ≡ is_on_in instant k
        present Nothing = refl
        present (Some q) = held_on (nth row (index_of (places f) q)) ∙ ap is_on (agrees q)

        -- what is read of an expression
        reads : (i : Instance) (e : Tree) (k : Kind) → IsInstance program main i → Stands i.node e → IsTyped program i.node e k
            → has (flat_of program numbers i e) ≡ now program state instant i e
        reads i e k of s t =
            laws.whole program numbers (found_at here (flat_inputs f inputs)) row (found_of state inputs) (cell instant) agrees i e
            (names_in program main well named (λ q. get_or here.kept (index_of numbers.memories q) (Flag false) ≡ state.kept q)
            (λ u. get_or here.ticked (tick_number numbers u) false ≡ state.ticked u) (λ j x. Unit {0}) remembers ticks (λ j x v w. tt) i of e k s t)
            ∙ laws.meaning program state inputs instant i e (products_in program main weights.0 light state instant i of e k s t)

        -- an expression on a clock
        body_read : (i : Instance) (c : Clock) (e : Tree) (k : Kind) → IsInstance program main i → Stands i.node e → IsTyped program i.node e k
            → masked (giver_item program numbers (Of i c (Body e))) ≡ value_now program state instant i c e
        body_read i c e k of s t = λ j. cond (on (clock_in i c e) j) (Some (reads i e k of s t j)) Nothing

        -- what gives a flow
        giver_read : (p : Sites) (g : Giver) → Gives program main p g → masked (giver_item program numbers g) ≡ expected_now program state inputs instant g
        giver_read p _ (given j lt at) = ap Some (value_kth inputs (length f.inputs) j (omega (arith, lt, read.as_many)))
        giver_read p _ (by_equation i x (Body e) of right at) =
            let t = (typed program main well named i of).body x e right in
            body_read i (clock_of i.node x) e t.0 of (body_stands i.node x e right) t.1
        giver_read p _ (by_equation i x (Output c n) of right at) =
            let q : Sites = output_place program i c.site c.name n in
            λ j. cond (on (absolute i (clock_of_arguments i c.args)) j) (Some ((held_same (nth row (index_of (places f) q)) ∙ ap held (agrees q)) j)) Nothing
        giver_read p _ (by_call i c j e of called arg at) =
            let t = (typed program main well named i of).argument c j e called arg in
            body_read i (clock_of_arguments i c.args) e t.0 of (argument_stands i.node c j e called arg) t.1

        -- the flow with a number
        flow_read : (k : ℕ) → k < length f.flows → (g : Giver) × Gives program main (get_or (places f) k []) g
            × (masked (nth_item (flow_items f) k) ≡ expected_now program state inputs instant g)
        flow_read k lt =
            let r = translated.flow k (omega (arith, lt, translated.many, flow_count)) in
            (r.0, r.1, ap masked r.2 ∙ giver_read (get_or (places f) k []) r.0 r.1)

      -- Each instant of the program is one of the flat system.
      module _ (instant : Instant) (is : IsInstant program main state inputs instant) where
        -- what is no flow is absent
        no_flow : (p : Sites) → is_among (places f) p ≡ false → cell instant p ≡ Nothing
        no_flow p e = by (finite.get instant p) refl
          where
            by : (o : Option (Option Value)) → finite.get instant p ≡ o → flat o ≡ Nothing
            by Nothing e' = refl
            by (Some v) e' = no_flag (sym e ∙ among_from (places f) p (read.sequence.flows p ((is.places p).0 (subst IsSome (sym e') refl))))

        agrees_here : (p : Sites) → nth (row_of (places f) instant) (index_of (places f) p) ≡ cell instant p
        agrees_here = row_agrees (places f) instant no_flow

        -- each flow has what gives it
        given_here : (p : Sites) (g : Giver) → Gives program main p g → cell instant p ≡ expected_now program state inputs instant g
        given_here p _ (given j lt at) = ap (cell instant) (sym at) ∙ is.given j lt
        given_here p _ (by_equation i x r of right at) = ap (cell instant) (sym at) ∙ is.equations i x r of right
        given_here p _ (by_call i c j e of called arg at) = ap (cell instant) (sym at) ∙ is.arguments i c j e of called arg

        pub instant_read : IsFlatInstant f here (flat_inputs f inputs) (row_of (places f) instant)
        instant_read = record {
          flows = length-map (places f) (cell instant) ∙ flow_count;
          holds = λ k lt.
              let r = flow_read (row_of (places f) instant) instant agrees_here k lt in
              get_or-map (cell instant) (places f) k [] Nothing (omega (arith, lt, flow_count)) ∙ given_here (get_or (places f) k []) r.0 r.1 ∙ sym r.2;
        }

        -- The state after it is that of the program.
        module _ (next : Brought) (is_next : IsNext program main state instant next) where
          abbrev row_here : Row
          row_here = row_of (places f) instant

          on_here : (k : Option Sites) → is_on_at row_here (clock_number numbers k) ≡ is_on_in instant k
          on_here = on row_here instant agrees_here

          tick_next : (k : ℕ) → k < length (tick_clocks f)
              → get_or (flat_state f next).ticked k false ≡ (get_or here.ticked k false || is_on_at row_here (get_or (tick_clocks f) k Nothing))
          tick_next zero lt = is_next.ticks Nothing
          tick_next (suc k) lt =
              let ps : List Sites = tick_places f.variables in
              let many = length-map ps (λ p. Some (index_of (places f) p)) in
              let less : k < length ps = omega (arith, lt, many) in
              let p : Sites = get_or ps k [] in
              let each : (s : Brought) → get_or (map s.ticked (map (λ p. Some p) ps)) k false ≡ s.ticked (Some p) = λ s.
              ap (λ l. get_or l k false) (map-map s.ticked (λ p. Some p) ps) ∙ get_or-map (λ p. s.ticked (Some p)) ps k [] false less in
              each next ∙ is_next.ticks (Some p)
              ∙ (λ j. sym (each state) j || sym (ap (is_on_at row_here) (get_or-map (λ p. Some (index_of (places f) p)) ps k [] Nothing less)
              ∙ on_here (Some p)) j)

          memory_next : (m : ℕ) → m < length f.memories → get_or (flat_state f next).kept m (Flag false)
              ≡ cond (is_on_at row_here (nth_item (memory_items f) m).clock) (value_at here (flat_inputs f inputs) row_here (nth_item (memory_items f) m).body)
              (get_or here.kept m (Flag false))
          memory_next m lt =
              let r = read.memory m lt in
              let i : Instance = r.0 in
              let d : Delay = r.1 in
              let less : m < length (memory_places f) = omega (arith, lt, memory_count) in
              let each : (s : Brought) → get_or (map s.kept (memory_places f)) m (Flag false) ≡ s.kept (delay_place i d) = λ s.
              get_or-map s.kept (memory_places f) m [] (Flag false) less ∙ ap s.kept r.4 in
              let t = some_is ((typed program main well named i r.2).delay d r.3) in
              each next ∙ is_next.memories i d r.2 r.3
              ∙ sym (ap (λ item. cond (is_on_at row_here item.clock) (value_at here (flat_inputs f inputs) row_here item.body)
              (get_or here.kept m (Flag false))) (memory_is program main f.flows f.memories f.inputs f.variables f.assertions read table alike m lt)
              ∙ (λ j. cond (on_here (clock_in i Base d.operand) j) (reads row_here instant agrees_here i d.operand t.0 r.2 (operand_stands i.node d r.3) t.1 j)
              (each state j)))

          pub next_read : IsFlatNext f here (flat_inputs f inputs) row_here (flat_state f next)
          next_read = record {
            ticks = (let many : length (map (λ (p : Sites). Some p) (tick_places f.variables)) ≡ length (tick_places f.variables) =
                length-map (tick_places f.variables) (λ p. Some p) in
                let clocks = length-map (tick_places f.variables) (λ p. Some (index_of (places f) p)) in
                omega (arith, clocks, length-map (map (λ p. Some p) (tick_places f.variables)) next.ticked, many));
            ticked = tick_next;
            memories = length-map (memory_places f) next.kept ∙ memory_count;
            kept = memory_next;
          }

        -- An assertion is broken in the flat system where it is in the program.
        broken_both : (b : Bool) (v : Value) → (is_true (cond b v (Flag true)) ≡ false) → (cond b (Some v) Nothing ≡ Some v) × (is_true v ≡ false)
        broken_both true v e = (refl, e)
        broken_both false v e = no_flag (sym e)

        both_broken : (b : Bool) (v w : Value) → cond b (Some v) Nothing ≡ Some w → is_true w ≡ false → is_true (cond b v (Flag true)) ≡ false
        both_broken true v w e t = ap is_true (same_Some v w e) ∙ t
        both_broken false v w e t = absurd (none-some w e)

        abbrev shown : RawTree → FlatTree
        shown = inlined (table_of f.memories)

        assertion_read : (i : Instance) (a : AssertionTree) → IsInstance program main i → Contains i.node.assertions a
            → value_at here (flat_inputs f inputs) (row_of (places f) instant) (shown (assertion_of program numbers i a)) ≡ cond
            (is_on_in instant (clock_in i Base a.body)) (now program state instant i a.body) (Flag true)
        assertion_read i a of w =
            ap (value_at here (flat_inputs f inputs) (row_of (places f) instant))
            (whole_shown program main f.flows f.memories f.inputs f.variables f.assertions read table alike i of a w) ∙ (λ j. cond
            (present (row_of (places f) instant) instant agrees_here (clock_in i Base a.body) j)
            (reads (row_of (places f) instant) instant agrees_here i a.body kind.Bool of (as_assertion a w) ((typed program main well named i of).assertion a w)
            j) (Flag true))

        -- the whole expression of the assertion with a number
        tree_is : (k : ℕ) → k < length f.assertions → get_or (assertion_trees f) k no_assertion ≡ shown (get_or (map raw_tree f.assertions) k no_assumption)
        tree_is k lt =
            let x = item_at f.assertions k lt in
            mapped_at (tree_among f.memories) f.assertions k x.0 no_assertion x.1 ∙ ap shown (sym (mapped_at raw_tree f.assertions k x.0 no_assumption x.1))

        pub assertions_read : (q : Sites) → IsBroken program main state instant q ↔ IsFlatBroken f here (flat_inputs f inputs) (row_of (places f) instant) q
        assertions_read q = (there, back)
          where
            there : IsBroken program main state instant q → IsFlatBroken f here (flat_inputs f inputs) (row_of (places f) instant) q
            there (i, a, v, of, w, at, value, broken) =
                let r = read.asserts i a of w in
                let here_is : get_or (map raw_tree f.assertions) r.0 no_assumption ≡ assertion_of program numbers i a = get_or_default
                (map raw_tree f.assertions) r.0 no_assumption (assertion_of program numbers i a) r.1 ∙ r.2 in
                let lt : r.0 < length f.assertions = omega (arith, r.1, length-map f.assertions raw_tree) in
                let is_false = ap (λ e. is_true (value_at here (flat_inputs f inputs) (row_of (places f) instant) e)) (tree_is r.0 lt ∙ ap shown here_is)
                ∙ ap is_true (assertion_read i a of w)
                ∙ both_broken (is_on_in instant (clock_in i Base a.body)) (now program state instant i a.body) v value broken in
                (r.0, lt, at ∙ sym (place_at f.assertions r.0 lt ∙ ap root here_is), is_false)

            back : IsFlatBroken f here (flat_inputs f inputs) (row_of (places f) instant) q → IsBroken program main state instant q
            back (k, lt, at, broken) =
                let r = read.asserted k lt in
                let i : Instance = r.0 in
                let a : AssertionTree = r.1 in
                let b = broken_both (is_on_in instant (clock_in i Base a.body)) (now program state instant i a.body)
                (sym (ap (λ e. is_true (value_at here (flat_inputs f inputs) (row_of (places f) instant) e)) (tree_is k lt ∙ ap shown r.4)
                ∙ ap is_true (assertion_read i a r.2 r.3)) ∙ broken) in
                (i, a, now program state instant i a.body, r.2, r.3, at ∙ place_at f.assertions k lt ∙ ap root r.4, b.0, b.1)

      -- Each instant of the flat system is one of the program.
      module _ (defined : AreDefined program main) (row : Row) (is : IsFlatInstant f here (flat_inputs f inputs) row) where
        abbrev instant : Instant
        instant = instant_of (places f) row

        as_many : length row ≡ length (places f)
        as_many = is.flows ∙ sym flow_count

        agrees_there : (p : Sites) → nth row (index_of (places f) p) ≡ cell instant p
        agrees_there = instant_agrees (places f) row as_many

        is_flow_there : (p : Sites) → IsFlow program main p → is_among (places f) p ≡ true
        is_flow_there p w = among_from (places f) p (read.sequence.flows p w)

        given_there : (p : Sites) (g : Giver) → Gives program main p g → cell instant p ≡ expected_now program state inputs instant g
        given_there p g gives =
            let at = index_there (places f) p (is_flow_there p (defined.flow p g gives)) in
            let k : ℕ = index_of (places f) p in
            let lt : k < length f.flows = omega (arith, at.0, flow_count) in
            let r = flow_read row instant agrees_there k lt in
            sym (agrees_there p) ∙ is.holds k lt ∙ r.2
            ∙ ap (expected_now program state inputs instant) (defined.one p r.0 g (subst (λ q. Gives program main q r.0) at.1 r.1) gives)

        -- a flow that is told is there
        told_flow : (p : Sites) → is_among (places f) p ≡ true → IsFlow program main p
        told_flow p e = let at = index_there (places f) p e in subst (IsFlow program main) at.1 (read.sequence.only (index_of (places f) p) at.0)

        -- what is masked by its clock is there with that
        some_masked : (b : Bool) (v : Value) → IsSome (cond b (Some v) Nothing) ↔ (b ≡ true)
        some_masked true v = (λ h. refl, λ h. refl)
        some_masked false v = (λ h. h, λ h. h)

        clocked_there : (i : Instance) (x : Identifier) → IsInstance program main i → Contains (flows i.node) x
            → IsSome (cell instant (place i x)) ↔ (is_on_in instant (absolute i (clock_of i.node x)) ≡ true)
        clocked_there i x of w =
            let q : Sites = place i x in
            let k : ℕ = index_of (places f) q in
            let lt : k < length f.flows = omega (arith, (index_there (places f) q (is_flow_there q (i, x, of, w, refl))).0, flow_count) in
            let item : Item = nth_item (flow_items f) k in
            let v : Value = value_at here (flat_inputs f inputs) row item.body in
            let filled : cell instant q ≡ cond (is_on_at row item.clock) (Some v) Nothing = sym (agrees_there q) ∙ is.holds k lt in
            let there = some_masked (is_on_at row item.clock) v in
            let on_clock : is_on_at row item.clock ≡ is_on_in instant (absolute i (clock_of i.node x)) =
            ap (is_on_at row) (clock_is program main well named numbers (system_of f) translated i x of w)
            ∙ on row instant agrees_there (absolute i (clock_of i.node x)) in
            (λ h. sym on_clock ∙ there.0 (subst IsSome filled h), λ h. subst IsSome (sym filled) (there.1 (on_clock ∙ h)))

        pub row_read : IsInstant program main state inputs (instant_of (places f) row)
        row_read = record {
          places = λ p. let places = instant_places (places f) row as_many p in (λ h. told_flow p (places.0 h), λ h. places.1 (is_flow_there p h));
          given = λ j lt. given_there (j ∷ []) (Given j) (given j lt refl);
          equations = λ i x r of right. given_there (place i x) (Of i (clock_of i.node x) r) (by_equation i x r of right refl);
          arguments = λ i c j e of called arg. given_there (i.path ++ c.site ∷ j ∷ []) (Of i (clock_of_arguments i c.args) (Body e))
              (by_call i c j e of called arg refl);
          clocks = clocked_there;
        }
