-- What is made of an expression by the tables of a frame is the flat expression of the program.
use Rattle.std.proofs.Common.{◌≡◌, ℕ, suc, ◌+◌, ◌<◌, min, Bool, true, false, ◌||◌, cond, negsuc, List, [], ◌∷◌, map, length, refl, sym, ◌∙◌, ap, subst, arith}
use Rattle.std.proofs.Common.{unwrap_or, Option, Some, IsSome, None as Nothing}
use Rattle.std.proofs.{lemmas.List.length-map, lemmas.Option.slice_get_within}
use Rattle.std.specs.List.{Contains}
use Rattle.rv_tree.specs.Tree.{Tree, Trees, NodeTree, ProgramTree, tree_of, trees}
use Rattle.rv_tree.specs.Places.{Identifier, Sites, flows as flows_of, is_flow, site_of, index_of, memory_site}
use Rattle.rv_tree.specs.{declared.tree.Op.Op, declared.tree.Expr.Expr, Delays.node_delays}
use Rattle.rv_tree.specs.declared.tree.Op.TheVariants as op
use Rattle.rv_tree.specs.Tree as tree
use Rattle.rv_types.specs.Instances.{CallTree, calls, Instance, place, absolute, clock_in, taken, output_place, node_of, IsNode, IsArgument, head, tail}
use Rattle.rv_types.specs.{declared.typed.Kind.Kind, declared.typed.Clock.Clock, declared.typed.Clock.TheVariants.Base, declared.typed.Clock.TheVariants.On}
use Rattle.rv_types.specs.{declared.weighing.Weighed.Weighed, declared.fault.Pace.Pace, Clocks.pace, ToldPaces.IsTimed, ToldPaces.told_pace, Kinds.decl_kinds}
use Rattle.rv_types.specs.{Kinds.flow_kind, Kinds.flow_kinds, Kinds.kind_in_program, Types.kind_of}
use Rattle.rv_types.specs.{Types.is_constant, Constants.whole_in, Constants.value_of, Constants.weight_of, ConstantParts.constant_part, Scopes.node_scope}
use Rattle.rv_types.specs.{Scopes.constant_value, Lists.AreTicks, Variables.node_parts, Variables.is_arrow, WellFormed.AreWell}
use Rattle.rv_types.specs.declared.typed.Kind.TheVariants as kind
use Rattle.rv_types.proofs.{ToldPaces.told_is as told_pace_is, Members.among_from, Members.index_there, ChainLaws.no_flag, NamePlaces.output_within}
use Rattle.rv_base.specs.Limits.{too_heavy}
use Rattle.rv_instances.specs.Layouts.{Here, IsPlaced, IsClockPlaced, IsHere, all_places}
use Rattle.rv_instances.specs.NumberedNeeds.{flow_number, clock_number as number_of_clock, clock_of_expression, numbers_of}
use Rattle.rv_instances.specs.{declared.answer.Instance.Instance as Numbered, Callees.callee_in, Expanded.program_of, Expanded.main_of}
use Rattle.rv_flatten.specs.Readings.{unplaced, product, operator, flow_at, kept_number, named, raw_of, raws_of}
use Rattle.rv_flatten.specs.Tables.{product_read, path_read, operator_place_read, flow_read, clock_read, tick_read, clock_of_read, told_clock_read, kept_read}
use Rattle.rv_flatten.specs.Tables.{flow_named, named_read, constant_read, output_read, tree_read, trees_read}
use Rattle.rv_flatten.specs.{declared.frame.Frame.Frame, Compared.is_told_test, Frames.IsFrame}
use Rattle.rv_flat.specs.RawTree.{RawTree, Node, RawForm, Constant, Flow, Memory, Ticked, Not, Binary, Scale, If, AtMostOne, When, Current, More, raw_trees}
use Rattle.rv_agreement.specs.Programs.{spot, operator_place, coefficient}
use Rattle.rv_agreement.specs.Translation.{Numbers, clock_number, tick_number}
use Rattle.rv_flatten.proofs.Standing.{Stands, as_child, of_not, of_minus, of_when, of_left, of_right, of_condition, of_first, of_second, of_operand, own_delay}
use Rattle.rv_flatten.proofs.Standing.{own_current, own_call, stands_in}
use Rattle.rv_flatten.proofs.{Standing.standing, Standing.calling, Standing.part_is, TimedParts.stands_timed, ClockKinds.IsTrueClock, ClockKinds.clock_taken}
use Rattle.rv_flatten.proofs.{ClockKinds.pace_is_true, FlowKinds.signature_is, ToldTests.told_is, KindNumbers.product_scaled, MainNames.is_node}
use Rattle.rv_flat.proofs.TypedParts.{some_is, IsTyped, not_typed, minus_typed, when_typed, binary_typed, if_typed, most_typed, call_typed}
use Rattle.rv_meaning.proofs.{Acceptable.formed, Acceptable.typed, FlowSites.flow_there, FlowSites.kinds_many}

-- the expressions of a list, each made flat
pub each_read : (x : Frame) (es : List Expr) → raw_trees (map (λ e. tree_read x (tree_of e)) es) ≡ trees_read x (trees (map tree_of es))
each_read x [] = refl
each_read x (e ∷ es) = ap (More (tree_read x (tree_of e))) (each_read x es)

product_is : (b c : Bool) (v w : Weighed) (f g : RawTree) → (b || c) ≡ true
    → product_read (cond b (Some v) Nothing) (cond c (Some w) Nothing) f g ≡ product b (whole_in v.value) (whole_in w.value) f g
product_is true c v w f g e = refl
product_is false true v w f g e = refl
product_is false false v w f g e = no_flag e

operator_is : (o : Op) (c d m n : RawForm) (f g u v : RawTree) → (o ≡ op.Arrow → c ≡ d) → (o ≡ op.Times → m ≡ n) → f ≡ u → g ≡ v
    → operator o c m f g ≡ operator o d n u v
operator_is op.Arrow c d m n f g u v choice times p q = choice refl
operator_is op.Times c d m n f g u v choice times p q = times refl
operator_is o c d m n f g u v choice times p q = λ j. Binary o (p j) (q j)

at_place : (q r : Sites) (f g : RawForm) → q ≡ r → f ≡ g → Node q f ≡ Node r g
at_place q r f g p e = λ j. Node (p j) (e j)

-- a clock that is that of a flow is one of the node
pub clock_known : (p : ProgramTree) (n : NodeTree) (s : ℕ) → IsTrueClock p n (On s) → s < length (flows_of n)
clock_known p n s t = omega (arith, slice_get_within (flow_kinds p n) s kind.Bool t, kinds_many p n)

-- a name with the type of a flow is a flow
a_flow : (p : ProgramTree) (n : NodeTree) (y : Identifier) → flow_kind p n y ≡ Some kind.Bool → is_flow n y ≡ true
a_flow p n y t = among_from (flows_of n) y (flow_there p n y kind.Bool t)

module _ (numbers : Numbers) (i : Instance) (x : Frame) (is : IsFrame numbers i x)
    (here : IsHere (program_of x.expanded.now) (all_places (program_of x.expanded.now) x.expanded.now.instances.now) i (numbers_of x.reader))
  where
    abbrev program : ProgramTree
    program = program_of x.expanded.now

    abbrev places : List Sites
    places = all_places program x.expanded.now.instances.now

    abbrev h : Here
    h = numbers_of x.reader

    well : AreWell program
    well = is.known.expanded.well

    is_main : IsNode program (main_of x.expanded.now)
    is_main = is_node program (main_of x.expanded.now) is.known.expanded.declared

    pub path_is : path_read x ≡ i.path
    path_is = ap (λ (m : Numbered). m.path) is.number.1

    -- the place of an operator, whose left operand has a type
    place_is : (site : Option ℕ) (o : Op) (a : Tree) (k : Kind) → IsTyped program i.node a k
        → operator_place_read x site o a ≡ operator_place program i site o a
    place_is site o a k t =
        (λ j. cond (is_told_test (is.scope j) o a) (spot (path_is j) site) [])
        ∙ ap (λ (b : Bool). cond b (spot i.path site) []) (told_is (node_scope program i.node) o a k t)

    flow_is : (k : ℕ) (q : Sites) → IsPlaced places k q → flow_read x k ≡ index_of numbers.flows q
    flow_is k q w = is.numbering.flows k w.0 ∙ ap (index_of numbers.flows) w.1

    clock_is : (m : Option ℕ) (o : Option Sites) → IsClockPlaced places m o → clock_read x m ≡ clock_number numbers o
    clock_is Nothing Nothing w = refl
    clock_is (Some k) (Some q) w = ap Some (flow_is k q w)
    clock_is Nothing (Some q) w = absurd w
    clock_is (Some k) Nothing w = absurd w

    tick_is : (m : Option ℕ) (o : Option Sites) → IsClockPlaced places m o → ((q : Sites) → o ≡ Some q → Contains numbers.ticks q)
        → tick_read x m ≡ tick_number numbers o
    tick_is Nothing Nothing w ticks = refl
    tick_is (Some k) (Some q) w ticks = is.numbering.ticks k w.0 (subst (Contains numbers.ticks) (sym w.1) (ticks q refl))
        ∙ ap (λ r. index_of numbers.ticks r + 1) w.1
    tick_is Nothing (Some q) w ticks = absurd w
    tick_is (Some k) Nothing w ticks = absurd w

    -- the flow of a clock
    clock_placed : (c : Clock) → IsTrueClock program i.node c → IsClockPlaced places (number_of_clock h c) (absolute i c)
    clock_placed Base t = here.base
    clock_placed (On s) t = here.flow s (clock_known program i.node s t)

    pub clock_read_is : (c : Clock) → IsTrueClock program i.node c → clock_read x (number_of_clock h c) ≡ clock_number numbers (absolute i c)
    clock_read_is c t = clock_is (number_of_clock h c) (absolute i c) (clock_placed c t)

    -- and of the clock of an expression that has a type
    own_placed : (e : Tree) (k : Kind) → IsTyped program i.node e k → IsClockPlaced places (clock_of_read x e) (clock_in i Base e)
    own_placed e k t =
        subst (λ n. IsClockPlaced places (number_of_clock h (clock_of_expression n e)) (clock_in i Base e)) (sym is.node)
        (clock_placed (taken Base (pace i.node e)) (clock_taken program i.node (pace i.node e)
        (pace_is_true program i.node (typed program (main_of x.expanded.now) well is_main i is.instance) e k t)))

    -- the same of the clock that is told of an expression that is free or on a clock
    told_placed : (e : Tree) (k : Kind) → IsTyped program i.node e k → IsTimed (pace i.node e) → IsClockPlaced places (told_clock_read x e) (clock_in i Base e)
    told_placed e k t timed =
        subst (λ (p : Pace). IsClockPlaced places (number_of_clock h (taken Base p)) (clock_in i Base e))
        (sym (subst (λ (n : NodeTree). told_pace n e ≡ pace n e) (sym is.node) (told_pace_is i.node e timed))) (own_placed e k t)

    pub own_clock_is : (e : Tree) (k : Kind) → IsTyped program i.node e k → clock_read x (clock_of_read x e) ≡ clock_number numbers (clock_in i Base e)
    own_clock_is e k t = clock_is (clock_of_read x e) (clock_in i Base e) (own_placed e k t)

    -- an output of a call
    pub output_is : (c : CallTree) (j : ℕ) → Contains (calls i.node) c → j < length (node_of program c.name).outputs
        → flow_read x (h.output c.site + j) ≡ index_of numbers.flows (output_place program i c.site c.name j)
    output_is c j w lt =
        let first = here.output c w in
        let same : h.callee c.site + (length (node_of program c.name).inputs + j) ≡ h.output c.site + j = omega (arith, first) in
        ap (flow_read x) (sym same) ∙ flow_is (h.callee c.site + (length (node_of program c.name).inputs + j)) (output_place program i c.site c.name j)
        (here.callee c (length (node_of program c.name).inputs + j) w (output_within (node_of program c.name) j lt))

    call_is : (at : ℕ) (site : Option ℕ) (f : Identifier) (args : Trees) (k : Kind)
        → Contains (calls i.node) (record { at = at; site = unwrap_or site 0; name = f; args = args })
        → IsTyped program i.node (tree.Node at site (tree.Call f args)) k
        → Flow (output_read x site) ≡ flow_at program numbers i (output_place program i (unwrap_or site 0) f 0)
    call_is at site f args k w t =
        let r = call_typed program i.node at site f args k t in
        let one : decl_kinds program (node_of program f).outputs ≡ k ∷ [] = signature_is program f r.signature r.known ∙ r.gives in
        let many = length-map (node_of program f).outputs (λ d. kind_in_program program d.kind) in
        let long : length (decl_kinds program (node_of program f).outputs) ≡ 1 = ap length one in
        let lt : 0 < length (node_of program f).outputs = omega (arith, many, long) in
        let same : h.output (unwrap_or site 0) ≡ h.output (unwrap_or site 0) + 0 = omega arith in
        ap Flow (ap (flow_read x) same ∙ output_is (record { at = at; site = unwrap_or site 0; name = f; args = args }) 0 w lt)

    name_is : (y : Identifier) → named_read x y ≡ named program numbers i y
    name_is y =
        (λ j. cond (is_flow (is.node j) y) (Flow (flow_read x (h.offset + site_of (is.node j) y))) (Constant (is.values j y))) ∙ by (is_flow i.node y) refl
      where
        by : (b : Bool) → is_flow i.node y ≡ b → cond b (Flow (flow_read x (h.offset + site_of i.node y))) (Constant (constant_value program y)) ≡ cond b
            (flow_at program numbers i (place i y)) (Constant (constant_value program y))
        by true e = ap Flow (flow_is (h.offset + site_of i.node y) (place i y) (here.flow (site_of i.node y) (index_there (flows_of i.node) y e).0))
        by false e = refl

    kept_is : (site : Option ℕ) (e : Tree) → Contains (node_delays i.node) (record { site = site; operand = e })
        → kept_read x site e ≡ kept_number program numbers i site e
    kept_is site e w =
        (λ j. unwrap_or (callee_in x.numbering.now.memories x.reader.instance (memory_site (is.node j) site e)) 0)
        ∙ ap (λ o. unwrap_or o 0) (is.numbering.memories x.reader.instance i (record { site = site; operand = e }) is.instance is.number w)

    -- the flow of a `when`
    named_flow_is : (y : Identifier) → flow_kind program i.node y ≡ Some kind.Bool → flow_named x y ≡ index_of numbers.flows (place i y)
    named_flow_is y t =
        (λ j. flow_read x (unwrap_or (flow_number (is.node j) h y) 0))
        ∙ ap (λ b. flow_read x (unwrap_or (cond b (Some (h.offset + site_of i.node y)) Nothing) 0)) (a_flow program i.node y t)
        ∙ flow_is (h.offset + site_of i.node y) (place i y) (here.flow (site_of i.node y) (clock_known program i.node (site_of i.node y) t))

    -- what is known of an expression where it is constant
    abbrev weighed : Tree → Weighed
    weighed e = record { value = value_of (constant_value program) e; weight = min (weight_of (constant_value program) e) too_heavy }

    constant_is : (e : Tree) → constant_read x e ≡ cond (is_constant (node_scope program i.node) e) (Some (weighed e)) Nothing
    constant_is (tree.Node at site form) = λ j. constant_part (node_scope program (is.node j)) (is.values j) (tree.Node at site form)

    product_read_is : (a b : Tree) (f g u v : RawTree) → (is_constant (node_scope program i.node) a || is_constant (node_scope program i.node) b) ≡ true → f ≡ u
        → g ≡ v → product_read (constant_read x a) (constant_read x b) f g ≡ product (is_constant (node_scope program i.node) a) (coefficient program a)
        (coefficient program b) u v
    product_read_is a b f g u v e p q =
        (λ j. product_read (constant_is a j) (constant_is b j) (p j) (q j))
        ∙ product_is (is_constant (node_scope program i.node) a) (is_constant (node_scope program i.node) b) (weighed a) (weighed b) u v e

    module _ (ticks : AreTicks (program_of x.expanded.now) (main_of x.expanded.now) numbers.ticks) where
      arrow_is : (at : ℕ) (site : Option ℕ) (o : Op) (a b : Tree) (k : Kind) → Stands i.node (tree.Node at site (tree.Binary o a b))
          → IsTyped program i.node (tree.Node at site (tree.Binary o a b)) k → o ≡ op.Arrow
          → tick_read x (told_clock_read x (tree.Node 0 site (tree.Binary o a b))) ≡ tick_number numbers
          (clock_in i Base (tree.Node 0 site (tree.Binary o a b)))
      arrow_is at site o a b k s t arrow =
          let e : Tree = tree.Node at site (tree.Binary o a b) in
          tick_is (told_clock_read x e) (clock_in i Base e) (told_placed e k t
          (stands_timed program i.node (formed program (main_of x.expanded.now) well is_main i is.instance) e s))
          (λ q there. ticks.all i e q is.instance (stands_in i.node e s) (ap (λ p. is_arrow (tree.Node at site (tree.Binary p a b))) arrow) there)

      mutual
        -- an expression that stands in the instance and has a type
        pub expression_is : (e : Tree) (k : Kind) → Stands i.node e → IsTyped program i.node e k → tree_read x e ≡ raw_of program numbers i e
        expression_is (tree.Node at site (tree.Named y)) k s t = ap unplaced (name_is y)
        expression_is (tree.Node at site (tree.Not e)) k s t =
            ap (λ f. unplaced (Not f)) (expression_is e kind.Bool (as_child s of_not) (not_typed program i.node at site e k t).0)
        expression_is (tree.Node at site (tree.Minus e)) k s t =
            ap (λ f. unplaced (Scale (negsuc 0) f)) (expression_is e kind.Int (as_child s of_minus) (minus_typed program i.node at site e k t).0)
        expression_is (tree.Node at site (tree.Pre e)) k s t = ap (λ m. unplaced (Memory m)) (kept_is site e (own_delay i.node at site e s))
        expression_is (tree.Node at site (tree.Current e)) k s t = ap (λ m. unplaced (Current m)) (kept_is site e (own_current i.node at site e s))
        expression_is (tree.Node at site (tree.When e y)) k s t =
            let r = when_typed program i.node at site e y k t in let clock = named_flow_is y.text r.1 in
            let body = expression_is e k (as_child s (of_when y)) r.0 in
            λ j. unplaced (When (clock j) (body j))
        expression_is (tree.Node at site (tree.Binary o a b)) k s t =
            let r = binary_typed program i.node at site o a b k t in
            let left = expression_is a r.left (as_child s of_left) r.left_is in
            let right = expression_is b r.right (as_child s of_right) r.right_is in
            at_place _ _ _ _ (place_is site o a r.left r.left_is) (operator_is o _ _ _ _ (tree_read x a) (tree_read x b) (raw_of program numbers i a)
            (raw_of program numbers i b) (λ arrow. let tick = arrow_is at site o a b k s t arrow in λ j. If (unplaced (Ticked (tick j))) (right j) (left j))
            (λ times. product_read_is a b (tree_read x a) (tree_read x b) (raw_of program numbers i a) (raw_of program numbers i b)
            (product_scaled _ o r.left r.right k r.rule times) left right) left right)
        expression_is (tree.Node at site (tree.If a b c)) k s t =
            let r = if_typed program i.node at site a b c k t in
            let condition = expression_is a kind.Bool (as_child s of_condition) r.0 in
            let first = expression_is b k (as_child s of_first) r.1 in let second = expression_is c k (as_child s of_second) r.2 in
            λ j. unplaced (If (condition j) (first j) (second j))
        expression_is (tree.Node at site (tree.AtMostOne es)) k s t =
            ap (λ fs. unplaced (AtMostOne fs)) (all_are es (λ j e arg. as_child s (of_operand j arg)) (most_typed program i.node at site es k t).0)
        expression_is (tree.Node at site (tree.Call f args)) k s t = ap unplaced (call_is at site f args k (own_call i.node at site f args s) t)
        expression_is (tree.Node at site _) k s t = refl

        all_are : (es : Trees) → ((j : ℕ) (e : Tree) → IsArgument es j e → Stands i.node e)
            → ((j : ℕ) (e : Tree) → IsArgument es j e → IsTyped program i.node e kind.Bool) → trees_read x es ≡ raws_of program numbers i es
        all_are tree.None s t = refl
        all_are (tree.More e es) s t =
            let first = expression_is e kind.Bool (s 0 e head) (t 0 e head) in
            let rest = all_are es (λ j a arg. s (suc j) a (tail arg)) (λ j a arg. t (suc j) a (tail arg)) in
            λ j. More (first j) (rest j)

      -- So is each expression of the instance that has a type.
      pub part_read_is : (e : Tree) → Contains (node_parts i.node) e → IsSome (kind_of (node_scope program i.node) e)
          → tree_read x e ≡ raw_of program numbers i e
      part_read_is e w some =
          let t = some_is some in
          elim (part_is i.node e w) [
            | standing s ↦ expression_is e t.0 s t.1
            | calling at site f args same there inside ↦
                subst (λ u. tree_read x u ≡ raw_of program numbers i u) (sym same)
                (ap unplaced (call_is at site f args t.0 there (subst (λ u. IsTyped program i.node u t.0) same t.1)))
          ]
