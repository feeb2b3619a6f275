-- What is made of a program is its flat system, where each `current` shows its memory.
use Rattle.std.proofs.Common.{◌≡◌, ℕ, suc, ◌<◌, ℤ, negsuc, Bool, true, false, cond, List, [], ◌∷◌, ◌++◌, map, length, get_or, slice_get, refl, sym, ◌∙◌, ap}
use Rattle.std.proofs.Common.{subst, arith, Option, Some, None as Nothing}
use Rattle.std.proofs.{lemmas.List.length-map, lemmas.Option.slice_get-map, lemmas.Option.get_or_from_slice_get, lemmas.Simd.map-map}
use Rattle.std.specs.{List.Contains, Option.option_map}
use Rattle.rv_base.specs.declared.value.Value.TheVariants.{Flag}
use Rattle.rv_tree.specs.Tree.{Tree, Trees, AssertionTree, ProgramTree}
use Rattle.rv_tree.specs.{declared.tree.Op.Op, Places.Identifier, Places.Sites, Places.is_flow, Places.index_of, Delays.Delay, Delays.node_delays}
use Rattle.rv_tree.specs.declared.tree.Op.TheVariants as op
use Rattle.rv_tree.specs.Tree as tree
use Rattle.rv_types.specs.Instances.{Body, Instance, place, clock_of, clock_in, clock_of_arguments, IsInstance, IsArgument, head, tail}
use Rattle.rv_types.specs.Needs.{Giver, Of, Gives, by_equation, by_call}
use Rattle.rv_types.specs.Lists.{AreMemories, IsAny, delay_place, memory_at}
use Rattle.rv_types.specs.{declared.typed.Clock.Clock, declared.typed.Clock.TheVariants.Base, Types.is_constant, Scopes.node_scope, Scopes.constant_value}
use Rattle.rv_agreement.specs.Programs.{operator_place, coefficient, operation}
use Rattle.rv_agreement.specs.Translation.{Numbers, clock_number, tick_number, flat_of, flats_of, giver_item, delay_item, IsTranslated}
use Rattle.rv_agreement.specs.Trees.{FlatTree, TreeForm, Item, System, no_item}
use Rattle.rv_agreement.specs.Translation as translation
use Rattle.rv_agreement.specs.Trees as flat
use Rattle.rv_flat.specs.RawTree.{RawTree, Node, RawForm, Constant, Flow, Ticked, If, raw_tree}
use Rattle.rv_flat.specs.Systems.{memory_places_of, memory_of, flow_item, memory_item, asserted, assertion_item, kept_of, system_from}
use Rattle.rv_flat.specs.{declared.parts.Bit.Bit, declared.parts.FlatExpr.FlatExpr, declared.parts.FlatFlow.FlatFlow, declared.parts.FlatInput.FlatInput}
use Rattle.rv_flat.specs.{declared.parts.FlatMemory.FlatMemory, Inlined.inlined, Inlined.form_inlined, Inlined.all_inlined, Inlined.table_of, Inlined.IsTable}
use Rattle.rv_flatten.specs.Readings.{numbers_of, unplaced, presence, product, operator, raw_of, raws_of, RawItem, raw_flow, raw_memory, no_raw}
use Rattle.rv_flatten.specs.Readings.{raw_giver, raw_delay, assertion_of, no_assumption, IsRead}
use Rattle.rv_flatten.proofs.Standing.{Stands, as_child, of_not, of_minus, of_current, of_when, of_left, of_right, of_condition, of_first, of_second}
use Rattle.rv_flatten.proofs.Standing.{of_operand, own_current, body_stands, argument_stands, as_assertion, operand_stands}
use Rattle.rv_types.proofs.Members.{among_from, in_map, index_there}
use Rattle.rv_base.proofs.Lists.{item_at}

pub mapped_at : {X Y : Type 0} (f : X → Y) (xs : List X) (k : ℕ) (x : X) (d : Y) → slice_get xs k ≡ Some x → get_or (map f xs) k d ≡ f x
mapped_at f xs k x d e = get_or_from_slice_get (map f xs) k (f x) d (slice_get-map f xs k ∙ ap (option_map f) e)

-- an assertion is on the clock that it is wrapped with
wrapped : (k : Option ℕ) (at : Sites) (body : RawTree) → asserted (Node at (If (unplaced (presence k)) body (unplaced (Constant (Flag true))))) ≡ (k, body)
wrapped Nothing at body = refl
wrapped (Some n) at body = refl

-- Two delays at one place take the same.
abbrev pub AreAlike : ProgramTree → Identifier → Numbers → Type 0
AreAlike program main numbers = (i j : Instance) (d e : Delay) → IsInstance program main i → IsInstance program main j → Contains (node_delays i.node) d
    → Contains (node_delays j.node) e
    → delay_place i d ≡ delay_place j e → raw_delay program numbers i d ≡ raw_delay program numbers j e

-- Each delay has a memory.
pub memory_there : (program : ProgramTree) (main : Identifier) (memories : List FlatMemory) → AreMemories program main IsAny (map memory_of memories)
    → (i : Instance) (d : Delay) → IsInstance program main i → Contains (node_delays i.node) d → Contains (memory_places_of memories) (delay_place i d)
memory_there program main memories list i d of w =
    subst (λ l. Contains l (delay_place i d)) (map-map (λ m. m.place) memory_of memories)
    (in_map (λ m. m.place) (map memory_of memories) (memory_at program i d) (list.all i d of tt w))

module _ (program : ProgramTree) (main : Identifier) (flows : List FlatFlow) (memories : List FlatMemory) (inputs : List FlatInput) (variables : List Bit)
    (assertions : List FlatExpr)
    (read : IsRead program main flows memories inputs variables assertions) (table : IsTable memories)
    (alike : AreAlike program main (numbers_of flows memories variables))
  where
    abbrev numbers : Numbers
    numbers = numbers_of flows memories variables

    abbrev shown : RawTree → FlatTree
    shown = inlined (table_of memories)

    abbrev form_shown : RawForm → TreeForm
    form_shown = form_inlined (table_of memories)

    abbrev item_shown : RawItem → Item
    item_shown x = record { clock = x.clock; body = shown x.body }

    abbrev asserted_shown : RawTree → Item
    asserted_shown t = record { clock = (asserted t).0; body = shown (asserted t).1 }

    memory_count : length (memory_places_of memories) ≡ length memories
    memory_count = length-map memories (λ m. m.place.sites)

    -- the number of the memory of a delay
    memory_number : (i : Instance) (d : Delay) → IsInstance program main i → Contains (node_delays i.node) d
        → (index_of (memory_places_of memories) (delay_place i d) < length (memory_places_of memories))
        × (get_or (memory_places_of memories) (index_of (memory_places_of memories) (delay_place i d)) [] ≡ delay_place i d)
    memory_number i d of w =
        let there = memory_there program main memories read.list i d of w in
        index_there (memory_places_of memories) (delay_place i d) (among_from (memory_places_of memories) (delay_place i d) there)

    pub number_within : (i : Instance) (d : Delay) → IsInstance program main i → Contains (node_delays i.node) d
        → index_of (memory_places_of memories) (delay_place i d) < length memories
    number_within i d of w = let at = memory_number i d of w in omega (arith, at.0, memory_count)

    -- what that memory takes
    memory_raw : (i : Instance) (d : Delay) → IsInstance program main i → Contains (node_delays i.node) d
        → get_or (map raw_memory memories) (index_of (memory_places_of memories) (delay_place i d)) no_raw ≡ raw_delay program numbers i d
    memory_raw i d of w =
        let r = read.memory (index_of (memory_places_of memories) (delay_place i d)) (number_within i d of w) in
        r.5 ∙ alike r.0 i r.1 d r.2 of r.3 w (sym r.4 ∙ (memory_number i d of w).1)

    -- and the table has it
    table_at : (m : ℕ) → m < length memories → table_of memories m ≡ item_shown (get_or (map raw_memory memories) m no_raw)
    table_at m lt = let x = item_at memories m lt in table m x.0 x.1 ∙ ap item_shown (sym (mapped_at raw_memory memories m x.0 no_raw x.1))

    operator_shown : (o : Op) (choice times : RawForm) (f g : RawTree)
        → form_shown (operator o choice times f g) ≡ operation o (form_shown choice) (form_shown times) (flat.Binary o (shown f) (shown g))
    operator_shown op.Arrow choice times f g = refl
    operator_shown _ choice times f g = refl

    product_shown : (left : Bool) (y z : ℤ) (f g : RawTree) → form_shown (product left y z f g) ≡ cond left (flat.Scale y (shown g)) (flat.Scale z (shown f))
    product_shown true y z f g = refl
    product_shown false y z f g = refl

    module _ (i : Instance) (of : IsInstance program main i) where
      name_shown : (x : Identifier) (b : Bool) → form_shown (cond b (Flow (index_of numbers.flows (place i x))) (Constant (constant_value program x))) ≡ cond b
          (flat.Flow (index_of numbers.flows (place i x))) (flat.Constant (constant_value program x))
      name_shown x true = refl
      name_shown x false = refl

      mutual
        -- an expression that stands in the instance
        pub expression_shown : (e : Tree) → Stands i.node e → shown (raw_of program numbers i e) ≡ flat_of program numbers i e
        expression_shown (tree.Node at site (tree.Named x)) s = ap (flat.Node []) (name_shown x (is_flow i.node x))
        expression_shown (tree.Node at site (tree.Not e)) s = ap (λ t. flat.Node [] (flat.Not t)) (expression_shown e (as_child s of_not))
        expression_shown (tree.Node at site (tree.Minus e)) s = ap (λ t. flat.Node [] (flat.Scale (negsuc 0) t))
            (expression_shown e (as_child s of_minus))
        expression_shown (tree.Node at site (tree.Current e)) s =
            let d : Delay = record { site = site; operand = e } in
            let w = own_current i.node at site e s in
            let m : ℕ = index_of (memory_places_of memories) (delay_place i d) in
            let operand = expression_shown e (as_child s of_current) in
            let own : table_of memories m ≡ record { clock = clock_number numbers (clock_in i Base e); body = flat_of program numbers i e } =
            table_at m (number_within i d of w) ∙ ap item_shown (memory_raw i d of w)
            ∙ (λ j. record { clock = clock_number numbers (clock_in i Base e); body = operand j }) in
            ap (λ (x : Item). flat.Node [] (flat.Current m x.clock x.body)) own
        expression_shown (tree.Node at site (tree.When e c)) s = ap (λ t. flat.Node [] (flat.When (index_of numbers.flows (place i c.text)) t))
            (expression_shown e (as_child s (of_when c)))
        expression_shown (tree.Node at site (tree.Binary o a b)) s =
            let p = expression_shown a (as_child s of_left) in let q = expression_shown b (as_child s of_right) in
            let f : RawTree = raw_of program numbers i a in
            let g : RawTree = raw_of program numbers i b in
            let left : Bool = is_constant (node_scope program i.node) a in
            let y : ℤ = coefficient program a in
            let z : ℤ = coefficient program b in
            let n : ℕ = tick_number numbers (clock_in i Base (tree.Node 0 site (tree.Binary o a b))) in
            ap (flat.Node (operator_place program i site o a)) (operator_shown o (If (unplaced (Ticked n)) g f) (product left y z f g) f g
            ∙ (λ j. operation o (flat.If (flat.Node [] (flat.Ticked n)) (q j) (p j))
            ((product_shown left y z f g ∙ (λ k. cond left (flat.Scale y (q k)) (flat.Scale z (p k)))) j) (flat.Binary o (p j) (q j))))
        expression_shown (tree.Node at site (tree.If a b c)) s =
            let p = expression_shown a (as_child s of_condition) in let q = expression_shown b (as_child s of_first) in
            let r = expression_shown c (as_child s of_second) in
            λ j. flat.Node [] (flat.If (p j) (q j) (r j))
        expression_shown (tree.Node at site (tree.AtMostOne es)) s = ap (λ t. flat.Node [] (flat.AtMostOne t))
            (all_shown es (λ j e arg. as_child s (of_operand j arg)))
        expression_shown (tree.Node at site _) s = refl

        all_shown : (es : Trees) → ((j : ℕ) (e : Tree) → IsArgument es j e → Stands i.node e)
            → all_inlined (table_of memories) (raws_of program numbers i es) ≡ flats_of program numbers i es
        all_shown tree.None s = refl
        all_shown (tree.More e es) s =
            let p = expression_shown e (s 0 e head) in
            let rest = all_shown es (λ j a arg. s (suc j) a (tail arg)) in
            λ j. flat.More (p j) (rest j)

      -- an expression on a clock
      body_shown : (k : Clock) (e : Tree) → Stands i.node e → item_shown (raw_giver program numbers (Of i k (Body e))) ≡ giver_item program numbers
          (Of i k (Body e))
      body_shown k e s = let p = expression_shown e s in λ j. record { clock = clock_number numbers (clock_in i k e); body = p j }

      delay_shown : (d : Delay) → Contains (node_delays i.node) d → item_shown (raw_delay program numbers i d) ≡ delay_item program numbers i d
      delay_shown d w = let p = expression_shown d.operand (operand_stands i.node d w) in
          λ j. record { clock = clock_number numbers (clock_in i Base d.operand); body = p j }

      -- an assertion, as it is asked of and as a whole
      assertion_shown : (a : AssertionTree) → Contains i.node.assertions a
          → asserted_shown (assertion_of program numbers i a) ≡ translation.assertion_item program numbers i a
      assertion_shown a w =
          let k : Option ℕ = clock_number numbers (clock_in i Base a.body) in
          let p = expression_shown a.body (as_assertion a w) in
          ap (λ (t : Option ℕ × RawTree). record { clock = t.0; body = shown t.1 }) (wrapped k (i.path ++ a.site ∷ []) (raw_of program numbers i a.body))
          ∙ (λ j. record { clock = k; body = p j })

      pub whole_shown : (a : AssertionTree) → Contains i.node.assertions a → shown (assertion_of program numbers i a)
          ≡ flat.Node (i.path ++ a.site ∷ []) (flat.If (flat.Node [] (form_shown (presence (clock_number numbers (clock_in i Base a.body)))))
          (flat_of program numbers i a.body) (flat.Node [] (flat.Constant (Flag true))))
      whole_shown a w =
          let k : Option ℕ = clock_number numbers (clock_in i Base a.body) in
          let p = expression_shown a.body (as_assertion a w) in
          λ j. flat.Node (i.path ++ a.site ∷ []) (flat.If (flat.Node [] (form_shown (presence k))) (p j) (flat.Node [] (flat.Constant (Flag true))))

    -- what gives a flow
    giver_shown : (q : Sites) (g : Giver) → Gives program main q g → item_shown (raw_giver program numbers g) ≡ giver_item program numbers g
    giver_shown q _ (by_equation i x (Body e) of right at) = body_shown i of (clock_of i.node x) e (body_stands i.node x e right)
    giver_shown q _ (by_call i c j e of called arg at) = body_shown i of (clock_of_arguments i c.args) e (argument_stands i.node c j e called arg)
    giver_shown q _ _ = refl

    -- the memory with a number
    memory_shown : (m : ℕ) → m < length memories → get_or (map (λ k. k.item) (map (kept_of memories) memories)) m no_item ≡ item_shown
        (get_or (map raw_memory memories) m no_raw)
    memory_shown m lt =
        let x = item_at memories m lt in
        ap (λ l. get_or l m no_item) (map-map (λ k. k.item) (kept_of memories) memories) ∙ mapped_at (memory_item memories) memories m x.0 no_item x.1
        ∙ ap item_shown (sym (mapped_at raw_memory memories m x.0 no_raw x.1))

    pub memory_is : (m : ℕ) (lt : m < length memories) → get_or (map (memory_item memories) memories) m no_item ≡ delay_item program numbers
        (read.memory m lt).0 (read.memory m lt).1
    memory_is m lt =
        let x = item_at memories m lt in let r = read.memory m lt in
        mapped_at (memory_item memories) memories m x.0 no_item x.1 ∙ ap item_shown (sym (mapped_at raw_memory memories m x.0 no_raw x.1) ∙ r.5)
        ∙ delay_shown r.0 r.2 r.1 r.3

    module _ (labels : List (List (List ℕ))) (observer : ℕ) where
      abbrev s : System
      s = system_from flows memories inputs assertions variables labels observer

      -- The flat system is read from its program.
      pub is_translated : IsTranslated program main numbers s
      is_translated = record {
        sequence = read.sequence;
        ticks = read.ticks;
        memories = subst (AreMemories program main IsAny) (sym (map-map (λ m. record { place = m.place; kind = m.kind }) (kept_of memories) memories))
            read.list;
        memory_numbers = sym (map-map (λ m. m.place) (kept_of memories) memories);
        tick_places = refl;
        tick_clocks = refl;
        many = length-map flows (flow_item memories) ∙ sym (length-map flows (λ x. x.place.sites));
        flow = λ k lt.
            let less : k < length flows = omega (arith, lt, length-map flows (flow_item memories)) in
            let x = item_at flows k less in
            let r = read.flow k less in
            let item = mapped_at (flow_item memories) flows k x.0 no_item x.1 ∙ ap item_shown (sym (mapped_at raw_flow flows k x.0 no_raw x.1) ∙ r.2) in
            (r.0, r.1, item ∙ giver_shown _ r.0 r.1);
        memory = λ i d of w. memory_shown (index_of (memory_places_of memories) (delay_place i d)) (number_within i d of w)
            ∙ ap item_shown (memory_raw i d of w) ∙ delay_shown i of d w;
        memory_there = λ i d of w. omega (arith, number_within i d of w, length-map memories (kept_of memories));
        memory_only = λ m lt.
            let less : m < length memories = omega (arith, lt, length-map memories (kept_of memories)) in
            let r = read.memory m less in
            (r.0, r.1, r.2, r.3, memory_shown m less ∙ ap item_shown r.5 ∙ delay_shown r.0 r.2 r.1 r.3);
        asserts = λ i a of w.
            subst (λ l. Contains l (translation.assertion_item program numbers i a)) (map-map asserted_shown raw_tree assertions)
            (subst (Contains (map asserted_shown (map raw_tree assertions))) (assertion_shown i of a w)
            (in_map asserted_shown (map raw_tree assertions) (assertion_of program numbers i a) (read.asserts i a of w)));
        asserted = λ k lt.
            let less : k < length assertions = omega (arith, lt, length-map assertions (assertion_item memories)) in
            let x = item_at assertions k less in
            let r = read.asserted k less in
            let item = mapped_at (assertion_item memories) assertions k x.0 no_item x.1
            ∙ ap asserted_shown (sym (mapped_at raw_tree assertions k x.0 no_assumption x.1) ∙ r.4) in
            (r.0, r.1, r.2, r.3, item ∙ assertion_shown r.0 r.2 r.1 r.3);
      }
