-- What is read of a program fits: it names earlier flows alone, each on its clock, and its types fit.
use Rattle.std.proofs.Common.{◌≡◌, ℕ, suc, ◌+◌, ◌<◌, Bool, true, false, not, ◌&&◌, ◌||◌, cond, nat_eq, ℤ, pos, List, [], ◌∷◌, ◌++◌, map, length, get_or}
use Rattle.std.proofs.Common.{slice_get, refl, sym, ◌∙◌, ap, subst, arith, unwrap_or, Option, Some, None as Nothing}
use Rattle.std.proofs.lemmas.List.Elements.{Contains-append_left, Contains-append_right}
use Rattle.std.proofs.lemmas.Option.{none-some, same_Some, slice_get-get_or, slice_get-map, slice_get_within, get_or_from_slice_get}
use Rattle.std.proofs.{lemmas.List.length-map, lemmas.List.get_or-map, lemmas.Simd.map-map, lemmas.Bool.eq-eqb, lemmas.Bool.and_from, lemmas.Bool.or_right}
use Rattle.std.specs.{Option.option_map, List.Contains}
use Rattle.rv_base.specs.{declared.value.Value.Value, declared.value.Value.TheVariants.Flag}
use Rattle.rv_base.specs.declared.value.Value.TheVariants as value
use Rattle.rv_tree.specs.Places.{Identifier, Sites, flows as flows_of, is_flow, index_of, site_of}
use Rattle.rv_tree.specs.{declared.tree.Op.Op, Sites.is_comparison, Tree.Tree, Tree.Trees, Tree.ProgramTree, Delays.Delay, Delays.node_delays}
use Rattle.rv_tree.specs.declared.tree.Op.TheVariants as op
use Rattle.rv_tree.specs.Tree as tree
use Rattle.rv_types.specs.Clocks.{seen, meet, pace, pace_of_all}
use Rattle.rv_types.specs.Types.{kind_in, same_kind, where_met, both_are, binary_rule, is_constant}
use Rattle.rv_types.specs.Instances.{CallTree, Body, Output, clock_of_arguments, Instance, place, absolute, clock_of, clock_taken as taken_clock, clock_in}
use Rattle.rv_types.specs.Instances.{output_place, node_of, IsInstance, IsFlow, IsNode, IsArgument, head, tail}
use Rattle.rv_types.specs.Needs.{flow_of, needs, form_needs, needs_all, needs_of, Giver, Of, Gives, given, by_equation, by_call}
use Rattle.rv_types.specs.{declared.typed.Kind.Kind, declared.typed.Clock.Clock, declared.typed.Clock.TheVariants.Base, declared.fault.Pace.TheVariants.Free}
use Rattle.rv_types.specs.{declared.fault.Pace.TheVariants.At, Kinds.kind_in_program, Kinds.decl_kinds, Kinds.flow_kind, Kinds.flow_kinds}
use Rattle.rv_types.specs.{Names.labels_of, Names.texts, Scopes.node_scope, Scopes.constant_kind, Scopes.constant_value, Values.HasKind, Variables.is_arrow}
use Rattle.rv_types.specs.{Variables.is_integer, Lists.AreRising, Lists.MemoryAt, Lists.memory_at, Lists.delay_place, Lists.sides_of, WellFormed.Suits}
use Rattle.rv_types.specs.{WellFormed.AreWell}
use Rattle.rv_types.specs.declared.typed.Kind.TheVariants as kind
use Rattle.rv_agreement.specs.Checks.{same_clock, is_of, any_of, all_kinds, constant_fits, is_placed_for, clock_fits, fits, form_fits, all_fit, item_fits}
use Rattle.rv_agreement.specs.Checks.{flows_fit, memories_fit, assertions_fit, clocks_fit}
use Rattle.rv_agreement.specs.Translation.{Numbers, clock_number, tick_number, unplaced, flat_of, flats_of, giver_item, delay_item, assertion_item}
use Rattle.rv_agreement.specs.Translation.{IsTranslated}
use Rattle.rv_agreement.specs.Trees.{FlatTree, Constant, Flow, Ticked, Scale, If, Binary, Item, Kept, System, no_item, nth_item, memory_items, memory_kinds}
use Rattle.rv_agreement.specs.Trees.{memory_places, kind_at}
use Rattle.rv_agreement.specs.{Programs.spot, Programs.operator_place, Programs.coefficient, Programs.operation, Valuations.is_placed}
use Rattle.rv_flatten.specs.Kinded.{IsKinded}
use Rattle.rv_flatten.proofs.Standing.{Stands, as_child, of_not, of_minus, of_current, of_when, of_left, of_right, of_condition, of_first, of_second}
use Rattle.rv_flatten.proofs.Standing.{of_operand, stands_in, own_delay, own_current, own_call, body_stands, argument_stands, operand_stands, as_assertion}
use Rattle.rv_flatten.proofs.Standing.{output_call}
use Rattle.rv_flatten.proofs.ClockKinds.{IsTrueClock, clock_taken, clock_taken_on, clock_is_true, pace_is_true, paces_are_true}
use Rattle.rv_flatten.proofs.FlowKinds.{HasFlow, is_flow as flow_there, signature_is, flow_of_site, clock_flow, output_flow, input_flow, main_input}
use Rattle.rv_flatten.proofs.KindNumbers.{IsBelow, kind_declared, kind_itself, among_kinds, product_rule, value_fits}
use Rattle.rv_flatten.proofs.ItemClocks.{among_first, number_at, number_within, item_clock, output_clock, place_number}
use Rattle.rv_flatten.proofs.{ArrowClocks.arrow_true, ComparedParts.has_site, ComparedParts.sides_told}
use Rattle.rv_flat.proofs.TypedParts.{some_is, IsTyped, named_typed, not_typed, minus_typed, pre_typed, current_typed, when_typed, binary_typed, if_typed}
use Rattle.rv_flat.proofs.TypedParts.{most_typed, call_typed}
use Rattle.rv_flat.proofs.TickList.{number_at as number_of_place}
use Rattle.rv_types.proofs.Verdicts.{met_kind}
use Rattle.rv_types.proofs.Suiting.{ground_taken, suits_both, suits_seen, suits_when, taken_suits, suits_operands, suits_parts}
use Rattle.rv_meaning.proofs.{Acceptable.node_in, Acceptable.formed, Acceptable.typed, FlowSites.kinds_many}
use Rattle.rv_types.proofs.Members.{among_contains, among_from, at_head, in_map, in_tail, index_there}
use Rattle.rv_types.proofs.{Verdicts.kind_same}
use Rattle.rv_base.proofs.Truths.{both_of, less_told, of_not_false}

-- a clock is itself
same_told : (c d : Option ℕ) → d ≡ c → same_clock c d ≡ true
same_told c d e = subst (λ (k : Option ℕ). same_clock c k ≡ true) (sym e) (itself c)
  where
    itself : (k : Option ℕ) → same_clock k k ≡ true
    itself Nothing = refl
    itself (Some n) = eq-eqb n n refl

-- Where a comparison has a place.

no_sides : (o : Op) → is_comparison o ≡ false → nat_eq (length (sides_of o)) 0 ≡ true
no_sides o e = of_not_false (nat_eq (length (sides_of o)) 0) (sym (sides_told o) ∙ e)

spot_there : (path : Sites) (site : Option ℕ) (m : ℕ) → site ≡ Some m → is_placed (spot path site) ≡ true
spot_there path site m e = ap (λ (o : Option ℕ). is_placed (spot path o)) e ∙ by path
  where
    by : (path : Sites) → is_placed (path ++ m ∷ []) ≡ true
    by [] = refl
    by (x ∷ xs) = refl

placed_by : (path : Sites) (site : Option ℕ) (o : Op) (l : Kind) (c d : Bool) → is_comparison o ≡ c → is_integer l ≡ d → (c ≡ true → (m : ℕ) × (site ≡ Some m))
    → is_placed_for (cond (c && d) (spot path site) []) o l ≡ true
placed_by path site o l false d is e sited = ap (λ (b : Bool). b || cond (is_placed []) (is_integer l) (not (is_integer l))) (no_sides o is)
placed_by path site o l true false is e sited = or_right (nat_eq (length (sides_of o)) 0) (not (is_integer l)) (ap not e)
placed_by path site o l true true is e sited =
    let r = sited refl in
    or_right (nat_eq (length (sides_of o)) 0) (cond (is_placed (spot path site)) (is_integer l) (not (is_integer l)))
    (ap (λ (b : Bool). cond b (is_integer l) (not (is_integer l))) (spot_there path site r.0 r.1) ∙ e)

module _ (program : ProgramTree) (main : Identifier) (well : AreWell program) (named : IsNode program main) (numbers : Numbers) (s : System)
    (read : IsTranslated program main numbers s) (types : IsKinded program main numbers s)
  where
    abbrev number : Sites → ℕ
    number q = index_of numbers.flows q

    -- a flow has a number, and its type
    within : (q : Sites) → IsFlow program main q → number q < length s.flows
    within = number_within program main well named numbers s read

    kind_there : (q : Sites) (k : Kind) → HasFlow program main q k → slice_get s.kinds (number q) ≡ Some k
    kind_there q k h =
        types.flow h.instance h.name (number q) h.of h.within (within q (flow_there h)) ((number_at program main well named numbers s read q (flow_there h)).1
        ∙ h.at) ∙ h.kind

    flow_fits : (before : ℕ) (c : Option ℕ) (q : Sites) (k : Kind) (at : Sites) → HasFlow program main q k → number q < before
        → (nth_item s.flows (number q)).clock ≡ c → form_fits s before c k at (Flow (number q)) ≡ true
    flow_fits before c q k at h lt clock =
        and_from _ _ (less_told (number q) before lt) (and_from _ _ (ap (is_of k) (kind_there q k h) ∙ kind_itself k)
        (same_told c (nth_item s.flows (number q)).clock clock))

    -- The memories by place and type.
    abbrev as_listed : Kept → MemoryAt
    as_listed m = record { place = m.place; kind = m.kind }

    abbrev listed : List MemoryAt
    listed = map as_listed s.memories

    places_are : map (λ (m : MemoryAt). m.place) listed ≡ numbers.memories
    places_are = map-map (λ (m : MemoryAt). m.place) as_listed s.memories ∙ sym read.memory_numbers

    memory_count : length numbers.memories ≡ length s.memories
    memory_count = ap length read.memory_numbers ∙ length-map s.memories (λ (m : Kept). m.place)

    memories_rise : AreRising numbers.memories
    memories_rise = subst AreRising places_are read.memories.rising

    -- a memory has the type of what it holds
    memory_kind_at : (i : Instance) (d : Delay) (k : Kind) → IsInstance program main i → Contains (node_delays i.node) d → IsTyped program i.node d.operand k
        → slice_get (memory_kinds s) (index_of numbers.memories (delay_place i d)) ≡ Some k
    memory_kind_at i d k of w t =
        let own : MemoryAt = memory_at program i d in
        let r = read.memories.all i d of tt w in
        let many : length listed ≡ length s.memories = length-map s.memories as_listed in
        let lt : r.0 < length numbers.memories = omega (arith, r.1, many, memory_count) in
        let at_place : get_or numbers.memories r.0 [] ≡ delay_place i d =
        ap (λ (l : List Sites). get_or l r.0 []) (sym places_are) ∙ get_or-map (λ (m : MemoryAt). m.place) listed r.0 own [] r.1
        ∙ ap (λ (m : MemoryAt). m.place) r.2 in
        let place : index_of numbers.memories (delay_place i d) ≡ r.0 = ap (index_of numbers.memories) (sym at_place)
        ∙ number_of_place numbers.memories memories_rise r.0 lt in
        let kinds_as_listed : map (λ (m : MemoryAt). m.kind) listed ≡ memory_kinds s = map-map (λ (m : MemoryAt). m.kind) as_listed s.memories in
        ap (slice_get (memory_kinds s)) place ∙ ap (λ (l : List Kind). slice_get l r.0) (sym kinds_as_listed)
        ∙ slice_get-map (λ (m : MemoryAt). m.kind) listed r.0 ∙ ap (option_map (λ (m : MemoryAt). m.kind)) (slice_get-get_or listed r.0 own r.1 ∙ ap Some r.2)
        ∙ ap (λ (o : Option Kind). Some (unwrap_or o kind.Bool)) t

    -- a tick is one of them
    tick_many : length s.ticks ≡ suc (length numbers.ticks)
    tick_many = ap length read.tick_places ∙ ap suc (length-map numbers.ticks (λ (q : Sites). Some q))

    tick_fits : (before : ℕ) (c : Option ℕ) (k : Option Sites) → ((q : Sites) → k ≡ Some q → Contains numbers.ticks q)
        → fits s before c kind.Bool (unplaced (Ticked (tick_number numbers k))) ≡ true
    tick_fits before c Nothing there = less_told 0 (length s.ticks) (omega (arith, tick_many))
    tick_fits before c (Some q) there =
        let at = index_there numbers.ticks q (among_from numbers.ticks q (there q refl)) in
        less_told (index_of numbers.ticks q + 1) (length s.ticks) (omega (arith, at.0, tick_many))

    constant_is_of : (before : ℕ) (c : Option ℕ) (k : Kind) (at : Sites) (v : Value) → HasKind program k v → form_fits s before c k at (Constant v) ≡ true
    constant_is_of before c k at v h = ap (λ (ls : List ℕ). constant_fits ls k v) types.label ∙ value_fits program k v h

    types_declared : length s.labels ≡ length program.types
    types_declared = ap length types.label ∙ length-map (map (λ d. texts (labels_of d)) program.types) (λ ls. length ls)
        ∙ length-map program.types (λ d. texts (labels_of d))

    -- An operator between operands of types that suit.
    module _ (before : ℕ) (c : Option ℕ) (at : Sites) where
      abbrev OperandsFit : Op → FlatTree → FlatTree → Kind → Bool
      OperandsFit o f g = λ i. is_placed_for at o i && (fits s before c i f && fits s before c i g)

      operands_fit : (o : Op) (j : Kind) (f g : FlatTree) → is_placed_for at o j ≡ true → fits s before c j f ≡ true → fits s before c j g ≡ true
          → OperandsFit o f g j ≡ true
      operands_fit o j f g placed p q = and_from _ _ placed
          (and_from _ _ p q)

      one_kind : (o : Op) (j : Kind) (f g : FlatTree) → is_placed_for at o j ≡ true → fits s before c j f ≡ true → fits s before c j g ≡ true
          → any_of (OperandsFit o f g) (j ∷ []) ≡ true
      one_kind o j f g placed p q = ap (λ (b : Bool). b || false) (operands_fit o j f g placed p q)

      -- under a rule that is met by two operands of one type
      alike_fit : (j : Kind) (o : Op) (l r made k : Kind) (f g : FlatTree) → kind_in (where_met (both_are j l r) made) ≡ Some k → is_placed_for at o l ≡ true
          → fits s before c l f ≡ true → fits s before c r g ≡ true → (same_kind k made && any_of (OperandsFit o f g) (j ∷ [])) ≡ true
      alike_fit j o l r made k f g e placed p q =
          let m = met_kind (both_are j l r) made k e in let t = both_of (same_kind l j) (same_kind r j) m.0 in
          and_from _ _ (ap (λ (i : Kind). same_kind i made) (sym m.1) ∙ kind_itself made)
          (one_kind o j f g (subst (λ (i : Kind). is_placed_for at o i ≡ true) (kind_same l j t.0) placed)
          (subst (λ (i : Kind). fits s before c i f ≡ true) (kind_same l j t.0) p) (subst (λ (i : Kind). fits s before c i g ≡ true) (kind_same r j t.1) q))

      equals_fit : (o : Op) (l r k : Kind) (f g : FlatTree) → IsBelow (length program.types) l → kind_in (where_met (same_kind l r) kind.Bool) ≡ Some k
          → is_placed_for at o l ≡ true → fits s before c l f ≡ true → fits s before c r g ≡ true
          → (same_kind k kind.Bool && any_of (OperandsFit o f g) (all_kinds s.labels)) ≡ true
      equals_fit o l r k f g h e placed p q =
          let m = met_kind (same_kind l r) kind.Bool k e in
          and_from _ _ (ap (λ (j : Kind). same_kind j kind.Bool) (sym m.1))
          (among_kinds s.labels (OperandsFit o f g) l (subst (λ (n : ℕ). IsBelow n l) (sym types_declared) h)
          (operands_fit o l f g placed p (subst (λ (j : Kind). fits s before c j g ≡ true) (sym (kind_same l r m.0)) q)))

      -- a product, whose operands are integers
      product_fits : (scaled left : Bool) (l r k : Kind) (y z : ℤ) (f g : FlatTree) → kind_in (binary_rule true scaled op.Times l r) ≡ Some k
          → fits s before c l f ≡ true → fits s before c r g ≡ true → form_fits s before c k at (cond left (Scale y g) (Scale z f)) ≡ true
      product_fits scaled left l r k y z f g e p q =
          let m = product_rule (both_are kind.Int l r) scaled k e in
          let t = both_of (same_kind l kind.Int) (same_kind r kind.Int) m.0 in
          by left (ap (λ (j : Kind). same_kind j kind.Int) (sym m.2)) (subst (λ (j : Kind). fits s before c j f ≡ true) (kind_same l kind.Int t.0) p)
          (subst (λ (j : Kind). fits s before c j g ≡ true) (kind_same r kind.Int t.1) q)
        where
          by : (left : Bool) → same_kind k kind.Int ≡ true → fits s before c kind.Int f ≡ true → fits s before c kind.Int g ≡ true
              → form_fits s before c k at (cond left (Scale y g) (Scale z f)) ≡ true
          by true t p q = and_from _ _ t q
          by false t p q = and_from _ _ t p

      operator_fits : (scaled left : Bool) (o : Op) (l r k : Kind) (y z : ℤ) (tick f g : FlatTree) → IsBelow (length program.types) l
          → kind_in (binary_rule true scaled o l r) ≡ Some k → is_placed_for at o l ≡ true
          → (o ≡ op.Arrow → fits s before c kind.Bool tick ≡ true) → fits s before c l f ≡ true → fits s before c r g ≡ true
          → form_fits s before c k at (operation o (If tick g f) (cond left (Scale y g) (Scale z f)) (Binary o f g)) ≡ true
      operator_fits scaled left op.Arrow l r k y z tick f g h e placed t p q =
          let m = met_kind (same_kind l r) l k e in
          and_from _ _ (t refl) (and_from _ _ (subst (λ (j : Kind). fits s before c j g ≡ true) (sym (kind_same l r m.0) ∙ m.1) q)
          (subst (λ (j : Kind). fits s before c j f ≡ true) m.1 p))
      operator_fits scaled left op.Times l r k y z tick f g h e placed t p q = product_fits scaled left l r k y z f g e p q
      operator_fits scaled left op.Implies l r k y z tick f g h e placed t p q = alike_fit kind.Bool op.Implies l r kind.Bool k f g e placed p q
      operator_fits scaled left op.Or l r k y z tick f g h e placed t p q = alike_fit kind.Bool op.Or l r kind.Bool k f g e placed p q
      operator_fits scaled left op.Xor l r k y z tick f g h e placed t p q = alike_fit kind.Bool op.Xor l r kind.Bool k f g e placed p q
      operator_fits scaled left op.And l r k y z tick f g h e placed t p q = alike_fit kind.Bool op.And l r kind.Bool k f g e placed p q
      operator_fits scaled left op.Equal l r k y z tick f g h e placed t p q = equals_fit op.Equal l r k f g h e placed p q
      operator_fits scaled left op.Differs l r k y z tick f g h e placed t p q = equals_fit op.Differs l r k f g h e placed p q
      operator_fits scaled left op.Less l r k y z tick f g h e placed t p q = alike_fit kind.Int op.Less l r kind.Bool k f g e placed p q
      operator_fits scaled left op.AtMost l r k y z tick f g h e placed t p q = alike_fit kind.Int op.AtMost l r kind.Bool k f g e placed p q
      operator_fits scaled left op.Greater l r k y z tick f g h e placed t p q = alike_fit kind.Int op.Greater l r kind.Bool k f g e placed p q
      operator_fits scaled left op.AtLeast l r k y z tick f g h e placed t p q = alike_fit kind.Int op.AtLeast l r kind.Bool k f g e placed p q
      operator_fits scaled left op.Plus l r k y z tick f g h e placed t p q = alike_fit kind.Int op.Plus l r kind.Int k f g e placed p q
      operator_fits scaled left op.Minus l r k y z tick f g h e placed t p q = alike_fit kind.Int op.Minus l r kind.Int k f g e placed p q
      operator_fits scaled left _ l r k y z tick f g h e placed t p q = absurd (none-some k e)

    module _ (i : Instance) (of : IsInstance program main i) where
      -- what an expression names has earlier numbers
      abbrev IsEarly : ℕ → Clock → Tree → Type 0
      IsEarly before c e = (q : Sites) → Contains (needs program i c e) q → IsFlow program main q → number q < before

      -- the number of the flow of a clock
      abbrev clock : Clock → Option ℕ
      clock c = clock_number numbers (absolute i c)

      -- an expression needs the flow of its clock
      clock_needed : (c : Clock) (e : Tree) (q : Sites) → absolute i c ≡ Some q → Contains (needs program i c e) q
      clock_needed c (tree.Node at site form) q e = Contains-append_left (flow_of (absolute i c)) (form_needs program i c site form) q
          (subst (λ (o : Option Sites). Contains (flow_of o) q) (sym e) (at_head q []))

      clock_fits_at : (before : ℕ) (k : Option Sites) → ((q : Sites) → k ≡ Some q → HasFlow program main q kind.Bool)
          → ((q : Sites) → k ≡ Some q → number q < before) → clock_fits s before (clock_number numbers k) ≡ true
      clock_fits_at before Nothing flow early = refl
      clock_fits_at before (Some q) flow early =
          and_from _ _ (less_told (number q) before (early q refl)) (ap (is_of kind.Bool) (kind_there q kind.Bool (flow q refl)) ∙ kind_itself kind.Bool)

      -- the clock of an expression that has a type
      pub own_clock : (e : Tree) (k : Kind) → IsTyped program i.node e k → (q : Sites) → clock_in i Base e ≡ Some q → HasFlow program main q kind.Bool
      own_clock e k t q at =
          clock_flow program main well named i (taken_clock i Base e) q of
          (clock_taken program i.node (pace i.node e) (pace_is_true program i.node (typed program main well named i of) e k t)) at

      -- a name
      name_fits : (before : ℕ) (c : Clock) (at : ℕ) (site : Option ℕ) (x : Identifier) (k : Kind) (b : Bool) → is_flow i.node x ≡ b
          → IsTyped program i.node (tree.Node at site (tree.Named x)) k
          → Suits c (cond b (At (clock_of i.node x)) Free) → IsEarly before c (tree.Node at site (tree.Named x))
          → form_fits s before (clock c) k [] (cond b (Flow (number (place i x))) (Constant (constant_value program x))) ≡ true
      name_fits before c at site x k true is t h early =
          let q : Sites = place i x in
          let f : HasFlow program main q k = record {
            instance = i;
            name = x;
            of = of;
            within = among_contains (flows_of i.node) x is;
            at = refl;
            kind = ap (λ (b : Bool). cond b (flow_kind program i.node x) (constant_kind program x)) (sym is) ∙ named_typed program i.node at site x k t;
          } in
          let needed = Contains-append_right (flow_of (absolute i c)) (form_needs program i c site (tree.Named x)) q
          (subst (λ (b : Bool). Contains (cond b (q ∷ []) []) q) (sym is) (at_head q [])) in
          flow_fits before (clock c) q k [] f (early q needed (flow_there f))
          (item_clock program main well named numbers s read i (site_of i.node x) of (index_there (flows_of i.node) x is).0 ∙ ap clock h)
      name_fits before c at site x k false is t h early =
          constant_is_of before (clock c) k [] (constant_value program x)
          (well.values x k (ap (λ (b : Bool). cond b (flow_kind program i.node x) (constant_kind program x)) (sym is)
          ∙ named_typed program i.node at site x k t))

      memory_fits : (site : Option ℕ) (e : Tree) (k : Kind) → Contains (node_delays i.node) (record { site = site; operand = e }) → IsTyped program i.node e k
          → is_of k (slice_get (memory_kinds s) (index_of numbers.memories (delay_place i (record { site = site; operand = e })))) ≡ true
      memory_fits site e k w t = ap (is_of k) (memory_kind_at i (record { site = site; operand = e }) k of w t) ∙ kind_itself k

      -- a comparison that stands in the instance has a site
      sited_there : (at : ℕ) (site : Option ℕ) (o : Op) (a b : Tree) → Stands i.node (tree.Node at site (tree.Binary o a b)) → is_comparison o ≡ true
          → (m : ℕ) × (site ≡ Some m)
      sited_there at site o a b t is =
          has_site i.node (well.numbered i.node (node_in program main well named i of)) at site o a b
          (stands_in i.node (tree.Node at site (tree.Binary o a b)) t) is

      placed_there : (at : ℕ) (site : Option ℕ) (o : Op) (a b : Tree) (l : Kind) → Stands i.node (tree.Node at site (tree.Binary o a b))
          → IsTyped program i.node a l → is_placed_for (operator_place program i site o a) o l ≡ true
      placed_there at site o a b l t is =
          subst (λ (k : Option Kind). is_placed_for (cond (is_comparison o && is_integer (unwrap_or k kind.Bool)) (spot i.path site) []) o l ≡ true) (sym is)
          (placed_by i.path site o l (is_comparison o) (is_integer l) refl refl (sited_there at site o a b t))

      mutual
        -- an expression that stands in the instance, on a clock, and whose flows have earlier numbers
        pub expression_fits : (before : ℕ) (c : Clock) (e : Tree) (k : Kind) → Stands i.node e → IsTyped program i.node e k → Suits c (pace i.node e)
            → IsEarly before c e → fits s before (clock_number numbers (absolute i c)) k (flat_of program numbers i e) ≡ true
        expression_fits before c (tree.Node at site tree.True) k t is h early =
            subst (λ (j : Kind). constant_fits s.labels j (Flag true) ≡ true) (same_Some kind.Bool k is) refl
        expression_fits before c (tree.Node at site tree.False) k t is h early =
            subst (λ (j : Kind). constant_fits s.labels j (Flag false) ≡ true) (same_Some kind.Bool k is) refl
        expression_fits before c (tree.Node at site (tree.Number n)) k t is h early =
            subst (λ (j : Kind). constant_fits s.labels j (value.Whole (pos n)) ≡ true) (same_Some kind.Int k is) refl
        expression_fits before c (tree.Node at site (tree.Named x)) k t is h early = name_fits before c at site x k (is_flow i.node x) refl is h early
        expression_fits before c (tree.Node at site (tree.Not e)) k t is h early =
            let r = not_typed program i.node at site e k is in
            and_from _ _ (ap (λ (j : Kind). same_kind j kind.Bool) (sym r.1))
            (expression_fits before c e kind.Bool (as_child t of_not) r.0 (suits_seen c (pace i.node e) h)
            (λ q w. early q (Contains-append_right (flow_of (absolute i c)) (needs program i c e) q w)))
        expression_fits before c (tree.Node at site (tree.Minus e)) k t is h early =
            let r = minus_typed program i.node at site e k is in
            and_from _ _ (ap (λ (j : Kind). same_kind j kind.Int) (sym r.1))
            (expression_fits before c e kind.Int (as_child t of_minus) r.0 (suits_seen c (pace i.node e) h)
            (λ q w. early q (Contains-append_right (flow_of (absolute i c)) (needs program i c e) q w)))
        expression_fits before c (tree.Node at site (tree.Pre e)) k t is h early = memory_fits site e k (own_delay i.node at site e t)
            (pre_typed program i.node at site e k is)
        expression_fits before c (tree.Node at site (tree.Current e)) k t is h early =
            let r = current_typed program i.node at site e k is in let own = own_current i.node at site e t in
            let on = taken_clock i Base e in
            let inside = λ (q : Sites) (w : Contains (needs program i on e) q). Contains-append_right (flow_of (absolute i c)) (needs program i on e) q w in
            let flow = own_clock e k r in
            and_from _ _ (memory_fits site e k own r) (and_from _ _
            (clock_fits_at before (clock_in i Base e) flow (λ q at. early q (inside q (clock_needed on e q at)) (flow_there (flow q at))))
            (expression_fits before on e k (as_child t of_current) r
            ((formed program main well named i of).delay_clock (record { site = site; operand = e }) own) (λ q w. early q (inside q w))))
        expression_fits before c (tree.Node at site (tree.When e x)) k t is h early =
            let r = when_typed program i.node at site e x k is in
            let m : ℕ = site_of i.node x.text in
            let q : Sites = place i x.text in
            let there : HasFlow program main q kind.Bool = flow_of_site program main well named i m kind.Bool of r.1 in
            let suits = suits_when i.node c (pace i.node e) m h in
            let lt : m < length (flows_of i.node) = (omega (arith, slice_get_within (flow_kinds program i.node) m kind.Bool r.1, kinds_many program i.node)) in
            let needed : Contains (needs program i c (tree.Node at site (tree.When e x))) q = clock_needed c (tree.Node at site (tree.When e x)) q
            (ap (absolute i) (sym suits.1)) in
            and_from _ _ (same_told (clock c) (Some (number q)) (ap clock suits.1)) (and_from _ _
            (clock_fits_at before (Some q) (λ p e. subst (λ (p : Sites). HasFlow program main p kind.Bool) (same_Some q p e) there)
            (λ p e. subst (λ (p : Sites). number p < before) (same_Some q p e) (early q needed (flow_there there))))
            (subst (λ (n : Option ℕ). fits s before n k (flat_of program numbers i e) ≡ true)
            (sym (item_clock program main well named numbers s read i m of lt))
            (expression_fits before (clock_of i.node x.text) e k (as_child t (of_when x)) r.0 suits.0
            (λ q w. early q (Contains-append_right (flow_of (absolute i c)) (needs program i (clock_of i.node x.text) e) q w)))))
        expression_fits before c (tree.Node at site (tree.Binary o a b)) k t is h early =
            let r = binary_typed program i.node at site o a b k is in
            let suits = suits_operands c o (pace i.node a) (pace i.node b) h in
            let inside = λ (q : Sites) (w : Contains (needs program i c a ++ needs program i c b) q). Contains-append_right (flow_of (absolute i c))
            (needs program i c a ++ needs program i c b) q w in
            let on = clock_in i Base (tree.Node 0 site (tree.Binary o a b)) in
            operator_fits before (clock c) (operator_place program i site o a) _ (is_constant (node_scope program i.node) a) o r.left r.right k
            (coefficient program a) (coefficient program b)
            (unplaced (Ticked (tick_number numbers on))) (flat_of program numbers i a) (flat_of program numbers i b)
            (kind_declared program well i.node a r.left r.left_is) r.rule (placed_there at site o a b r.left t r.left_is)
            (λ arrow. tick_fits before (clock c) on
            (λ q is. read.ticks.all i (tree.Node at site (tree.Binary o a b)) q of (stands_in i.node (tree.Node at site (tree.Binary o a b)) t)
            (ap (λ (u : Op). is_arrow (tree.Node at site (tree.Binary u a b))) arrow) is))
            (expression_fits before c a r.left (as_child t of_left) r.left_is suits.0
            (λ q w. early q (inside q (Contains-append_left (needs program i c a) (needs program i c b) q w))))
            (expression_fits before c b r.right (as_child t of_right) r.right_is suits.1
            (λ q w. early q (inside q (Contains-append_right (needs program i c a) (needs program i c b) q w))))
        expression_fits before c (tree.Node at site (tree.If a b d)) k t is h early =
            let r = if_typed program i.node at site a b d k is in
            let first = suits_both c (seen (pace i.node a)) (meet (seen (pace i.node b)) (seen (pace i.node d))) h in
            let rest = suits_parts c (pace i.node b) (pace i.node d) first.1 in
            let last = needs program i c b ++ needs program i c d in
            let inside = λ (q : Sites) (w : Contains (needs program i c a ++ last) q). Contains-append_right (flow_of (absolute i c))
            (needs program i c a ++ last) q w in
            and_from _ _ (expression_fits before c a kind.Bool (as_child t of_condition) r.0 (suits_seen c (pace i.node a) first.0)
            (λ q w. early q (inside q (Contains-append_left (needs program i c a) last q w)))) (and_from _ _
            (expression_fits before c b k (as_child t of_first) r.1 rest.0
            (λ q w. early q (inside q (Contains-append_right (needs program i c a) last q
            (Contains-append_left (needs program i c b) (needs program i c d) q w)))))
            (expression_fits before c d k (as_child t of_second) r.2 rest.1
            (λ q w. early q (inside q (Contains-append_right (needs program i c a) last q
            (Contains-append_right (needs program i c b) (needs program i c d) q w))))))
        expression_fits before c (tree.Node at site (tree.AtMostOne es)) k t is h early =
            let r = most_typed program i.node at site es k is in
            and_from _ _ (ap (λ (j : Kind). same_kind j kind.Bool) (sym r.1)) (all_fit_too before c es (λ j e arg. as_child t (of_operand j arg)) r.0 h
            (λ q w. early q (Contains-append_right (flow_of (absolute i c)) (needs_all program i c es) q w)))
        expression_fits before c (tree.Node at site (tree.Call f args)) k t is h early =
            let r = call_typed program i.node at site f args k is in
            let own : CallTree = record { at = at; site = unwrap_or site 0; name = f; args = args } in
            let called = own_call i.node at site f args t in
            let gives = ap (λ (l : List Kind). slice_get l 0) (signature_is program f r.signature r.known ∙ r.gives) in
            let q : Sites = output_place program i (unwrap_or site 0) f 0 in
            let there : HasFlow program main q k = output_flow program main well named i own 0 k of called gives in
            flow_fits before (clock c) q k [] there (early q (Contains-append_right (flow_of (absolute i c)) (q ∷ []) q (at_head q [])) (flow_there there))
            (output_clock program main well named numbers s read i own 0 k of called gives ∙ ap clock (ground_taken c (pace_of_all i.node args) h))

        all_fit_too : (before : ℕ) (c : Clock) (es : Trees) → ((j : ℕ) (e : Tree) → IsArgument es j e → Stands i.node e)
            → ((j : ℕ) (e : Tree) → IsArgument es j e → IsTyped program i.node e kind.Bool)
            → Suits c (pace_of_all i.node es) → ((q : Sites) → Contains (needs_all program i c es) q → IsFlow program main q → number q < before)
            → all_fit s before (clock_number numbers (absolute i c)) (flats_of program numbers i es) ≡ true
        all_fit_too before c tree.None t is h early = refl
        all_fit_too before c (tree.More e es) t is h early =
            let suits = suits_both c (seen (pace i.node e)) (pace_of_all i.node es) h in
            and_from _ _ (expression_fits before c e kind.Bool (t 0 e head) (is 0 e head) (suits_seen c (pace i.node e) suits.0)
            (λ q w. early q (Contains-append_left (needs program i c e) (needs_all program i c es) q w)))
            (all_fit_too before c es (λ j a arg. t (suc j) a (tail arg)) (λ j a arg. is (suc j) a (tail arg)) suits.1
            (λ q w. early q (Contains-append_right (needs program i c e) (needs_all program i c es) q w)))

    -- What gives a flow fits.
    pub record GiverFits (before : ℕ) (p : Sites) (g : Giver) : Type 0 where
      pub kind : Kind
      pub flow : HasFlow program main p kind
      pub clock : clock_fits s before (giver_item program numbers g).clock ≡ true
      pub body : fits s before (giver_item program numbers g).clock kind (giver_item program numbers g).body ≡ true

    -- a right side or argument that is an expression on a clock
    body_fits : (before : ℕ) (i : Instance) (c : Clock) (e : Tree) (k : Kind) → IsInstance program main i → Stands i.node e → IsTyped program i.node e k
        → IsTrueClock program i.node c → Suits c (pace i.node e)
        → ((q : Sites) → Contains (needs_of program (Of i c (Body e))) q → IsFlow program main q → number q < before) → (p : Sites) → HasFlow program main p k
        → GiverFits before p (Of i c (Body e))
    body_fits before i c e k of t is true_clock suits early p h =
        let own = clock_taken_on program i.node c (pace i.node e) true_clock (pace_is_true program i.node (typed program main well named i of) e k is) in
        let flow = λ (q : Sites) (at : clock_in i c e ≡ Some q). clock_flow program main well named i (taken_clock i c e) q of own at in
        record {
          kind = k;
          flow = h;
          clock = clock_fits_at i of before (clock_in i c e) flow (λ q at. early q (clock_needed i of (taken_clock i c e) e q at) (flow_there (flow q at)));
          body = expression_fits i of before (taken_clock i c e) e k t is (taken_suits c (pace i.node e) suits) early;
        }

    pub giver_fits : (before : ℕ) (p : Sites) (g : Giver) → Gives program main p g
        → ((q : Sites) → Contains (needs_of program g) q → IsFlow program main q → number q < before) → GiverFits before p g
    giver_fits before p _ (given j lt at) early =
        let ks : List Kind = decl_kinds program (node_of program main).inputs in
        let k : Kind = get_or ks j kind.Bool in
        let e : slice_get ks j ≡ Some k = slice_get-get_or ks j kind.Bool
        (omega (arith, lt, length-map (node_of program main).inputs (λ d. kind_in_program program d.kind))) in
        record {
          kind = k;
          flow = subst (λ (q : Sites). HasFlow program main q k) at (main_input program main well named j k e);
          clock = refl;
          body = ap (is_of k) (ap (λ (l : List Kind). slice_get l j) types.input ∙ e) ∙ kind_itself k;
        }
    giver_fits before p _ (by_equation i x (Body e) of right at) early =
        let t = (typed program main well named i of).body x e right in
        body_fits before i (clock_of i.node x) e t.0 of (body_stands i.node x e right) t.1
        (clock_is_true program i.node (typed program main well named i of) (site_of i.node x))
        ((formed program main well named i of).body_clock x e right) early p
        (record { instance = i; name = x; of = of; within = ((formed program main well named i of).left x (Body e) right).0; at = sym at; kind = t.2 })
    giver_fits before p _ (by_equation i x (Output c j) of right at) early =
        let t = (typed program main well named i of).output x c j right in
        let called = output_call i.node x c j right in
        let q : Sites = output_place program i c.site c.name j in
        let h : HasFlow program main q t.0 = output_flow program main well named i c j t.0 of called t.1 in
        let clock : Clock = clock_of_arguments i c.args in
        let own = clock_taken program i.node (pace_of_all i.node c.args) (paces_are_true program i.node (typed program main well named i of) c.args
        (λ n a arg. let u = (typed program main well named i of).argument c n a called arg in (u.0, u.1))) in
        let flow = λ (r : Sites) (on : absolute i clock ≡ Some r). clock_flow program main well named i clock r of own on in
        record {
          kind = t.0;
          flow = record {
            instance = i;
            name = x;
            of = of;
            within = ((formed program main well named i of).left x (Output c j) right).0;
            at = sym at;
            kind = t.2;
          };
          clock = clock_fits_at i of before (absolute i clock) flow
              (λ r on. early r (Contains-append_left (flow_of (absolute i clock)) (q ∷ []) r
              (subst (λ (o : Option Sites). Contains (flow_of o) r) (sym on) (at_head r []))) (flow_there (flow r on)));
          body = flow_fits before (clock_number numbers (absolute i clock)) q t.0 [] h
              (early q (Contains-append_right (flow_of (absolute i clock)) (q ∷ []) q (at_head q [])) (flow_there h))
              (output_clock program main well named numbers s read i c j t.0 of called t.1);
        }
    giver_fits before p _ (by_call i c j e of called arg at) early =
        let t = (typed program main well named i of).argument c j e called arg in
        body_fits before i (clock_of_arguments i c.args) e t.0 of (argument_stands i.node c j e called arg) t.1
        (clock_taken program i.node (pace_of_all i.node c.args) (paces_are_true program i.node (typed program main well named i of) c.args
        (λ n a there. let u = (typed program main well named i of).argument c n a called there in (u.0, u.1))))
        ((formed program main well named i of).argument_clock c j e called arg) early p
        (subst (λ (q : Sites). HasFlow program main q t.0) at (input_flow program main well named i c j t.0 of called t.2))

    -- each flow
    flow_item_fits : (k : ℕ) (x : Item) → slice_get s.flows k ≡ Some x → item_fits s k (kind_at s.kinds k) x ≡ true
    flow_item_fits k x at =
        let lt : k < length s.flows = slice_get_within s.flows k x at in
        let less : k < length numbers.flows = omega (arith, lt, read.many) in
        let p : Sites = get_or numbers.flows k [] in
        let r = read.flow k lt in
        let is : x ≡ giver_item program numbers r.0 = sym (get_or_from_slice_get s.flows k x no_item at) ∙ r.2 in
        let h = giver_fits k p r.0 r.1
        (among_first program main well named numbers s read k (needs_of program r.0) less (read.sequence.after k r.0 less r.1)) in
        let same = place_number program main well named numbers s read k less in
        let kind_is : kind_at s.kinds k ≡ h.kind =
        get_or_from_slice_get s.kinds k h.kind kind.Bool (ap (slice_get s.kinds) (sym same) ∙ kind_there p h.kind h.flow) in
        and_from _ _ (ap (λ (item : Item). clock_fits s k item.clock) is ∙ h.clock) ((λ j. fits s k (is j).clock (kind_is j) (is j).body) ∙ h.body)

    flows_fit_from : (before : ℕ) (xs : List Item) → ((j : ℕ) (x : Item) → slice_get xs j ≡ Some x → slice_get s.flows (before + j) ≡ Some x)
        → flows_fit s before xs ≡ true
    flows_fit_from before [] from = refl
    flows_fit_from before (x ∷ xs) from =
        let here : before + 0 ≡ before = omega arith in
        and_from _ _ (flow_item_fits before x (ap (slice_get s.flows) (sym here) ∙ from 0 x refl))
        (flows_fit_from (before + 1) xs (λ j g e. let next : (before + 1) + j ≡ before + suc j = omega arith in ap (slice_get s.flows) next ∙ from (suc j) g e))

    -- The flows fit.
    pub all_flows_fit : flows_fit s 0 s.flows ≡ true
    all_flows_fit = flows_fit_from 0 s.flows (λ j x e. let same : 0 + j ≡ j = omega arith in ap (slice_get s.flows) same ∙ e)

    -- each memory
    memory_item_fits : (m : ℕ) (x : Kept) → slice_get s.memories m ≡ Some x → item_fits s (length s.flows) x.kind x.item ≡ true
    memory_item_fits m x at =
        let lt : m < length s.memories = slice_get_within s.memories m x at in
        let less : m < length numbers.memories = omega (arith, lt, memory_count) in
        let r = read.memories.only (as_listed x) (in_map as_listed s.memories x (m, lt, get_or_from_slice_get s.memories m x x at)) in
        let i : Instance = r.0 in
        let d : Delay = r.1 in
        let at_place : get_or numbers.memories m [] ≡ delay_place i d = ap (λ (l : List Sites). get_or l m []) read.memory_numbers
        ∙ get_or_from_slice_get (memory_places s) m x.place [] (slice_get-map (λ (k : Kept). k.place) s.memories m ∙ ap (option_map (λ (k : Kept). k.place)) at)
        ∙ ap (λ (k : MemoryAt). k.place) r.5 in
        let own : index_of numbers.memories (delay_place i d) ≡ m = ap (index_of numbers.memories) (sym at_place)
        ∙ number_of_place numbers.memories memories_rise m less in
        let is : x.item ≡ delay_item program numbers i d =
        sym (get_or_from_slice_get (memory_items s) m x.item no_item (slice_get-map (λ (k : Kept). k.item) s.memories m
        ∙ ap (option_map (λ (k : Kept). k.item)) at)) ∙ ap (nth_item (memory_items s)) (sym own) ∙ read.memory i d r.2 r.4 in
        let t = some_is ((typed program main well named i r.2).delay d r.4) in
        let kind_is : x.kind ≡ t.0 = ap (λ (k : MemoryAt). k.kind) r.5 ∙ ap (λ (o : Option Kind). unwrap_or o kind.Bool) t.1 in
        let flow = own_clock i r.2 d.operand t.0 t.1 in
        and_from _ _ (ap (λ (item : Item). clock_fits s (length s.flows) item.clock) is
        ∙ clock_fits_at i r.2 (length s.flows) (clock_in i Base d.operand) flow (λ q e. within q (flow_there (flow q e))))
        ((λ j. fits s (length s.flows) (is j).clock (kind_is j) (is j).body)
        ∙ expression_fits i r.2 (length s.flows) (taken_clock i Base d.operand) d.operand t.0 (operand_stands i.node d r.4) t.1
        ((formed program main well named i r.2).delay_clock d r.4) (λ q w e. within q e))

    memories_fit_all : (ms : List Kept) → ((x : Kept) → Contains ms x → item_fits s (length s.flows) x.kind x.item ≡ true) → memories_fit s ms ≡ true
    memories_fit_all [] each = refl
    memories_fit_all (x ∷ xs) each = and_from _ _ (each x (at_head x xs))
        (memories_fit_all xs (λ y w. each y (in_tail x xs y w)))

    -- The memories fit.
    pub all_memories_fit : memories_fit s s.memories ≡ true
    all_memories_fit = memories_fit_all s.memories (λ x w. memory_item_fits w.0 x (slice_get-get_or s.memories w.0 x w.1 ∙ ap Some w.2))

    -- each assertion
    assertion_fits : (k : ℕ) (x : Item) → slice_get s.assertions k ≡ Some x → item_fits s (length s.flows) kind.Bool x ≡ true
    assertion_fits k x at =
        let r = read.asserted k (slice_get_within s.assertions k x at) in
        let i : Instance = r.0 in
        let t : IsTyped program i.node r.1.body kind.Bool = (typed program main well named i r.2).assertion r.1 r.3 in
        let is : x ≡ assertion_item program numbers i r.1 = sym (get_or_from_slice_get s.assertions k x no_item at) ∙ r.4 in
        let flow = own_clock i r.2 r.1.body kind.Bool t in
        and_from _ _ (ap (λ (item : Item). clock_fits s (length s.flows) item.clock) is
        ∙ clock_fits_at i r.2 (length s.flows) (clock_in i Base r.1.body) flow (λ q e. within q (flow_there (flow q e))))
        ((λ j. fits s (length s.flows) (is j).clock kind.Bool (is j).body)
        ∙ expression_fits i r.2 (length s.flows) (taken_clock i Base r.1.body) r.1.body kind.Bool (as_assertion r.1 r.3) t
        ((formed program main well named i r.2).assertion_clock r.1 r.3) (λ q w e. within q e))

    assertions_fit_all : (xs : List Item) → ((x : Item) → Contains xs x → item_fits s (length s.flows) kind.Bool x ≡ true) → assertions_fit s xs ≡ true
    assertions_fit_all [] each = refl
    assertions_fit_all (x ∷ xs) each = and_from _ _ (each x (at_head x xs))
        (assertions_fit_all xs (λ y w. each y (in_tail x xs y w)))

    -- The assertions fit.
    pub all_assertions_fit : assertions_fit s s.assertions ≡ true
    all_assertions_fit = assertions_fit_all s.assertions (λ x w. assertion_fits w.0 x (slice_get-get_or s.assertions w.0 x w.1 ∙ ap Some w.2))

    -- the flow of a tick is Boolean
    tick_flow : (q : Sites) → Contains numbers.ticks q → HasFlow program main q kind.Bool
    tick_flow q w =
        let r = read.ticks.only q w in
        let i : Instance = r.0 in
        let e : Tree = r.1 in
        clock_flow program main well named i (taken_clock i Base e) q r.2
        (arrow_true program i.node (typed program main well named i r.2) (formed program main well named i r.2) e r.3 r.4) r.5

    ticks_fit : (qs : List Sites) → ((q : Sites) → Contains qs q → Contains numbers.ticks q) → clocks_fit s (map (λ q. Some (number q)) qs) ≡ true
    ticks_fit [] into = refl
    ticks_fit (q ∷ qs) into =
        let h = tick_flow q (into q (at_head q qs)) in
        and_from _ _ (and_from _ _
        (less_told (number q) (length s.flows) (within q (flow_there h))) (ap (is_of kind.Bool) (kind_there q kind.Bool h) ∙ kind_itself kind.Bool))
        (ticks_fit qs (λ p w. into p (in_tail q qs p w)))

    -- The clocks of the ticks fit.
    pub all_clocks_fit : clocks_fit s s.tick_clocks ≡ true
    all_clocks_fit = ap (clocks_fit s) read.tick_clocks ∙ ticks_fit numbers.ticks (λ q w. w)

    -- There are as many as ticks.
    pub clock_many : length s.tick_clocks ≡ length s.ticks
    clock_many = ap length read.tick_clocks ∙ ap suc (length-map numbers.ticks (λ (q : Sites). Some (number q))) ∙ sym tick_many
