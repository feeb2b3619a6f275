-- What is read of a program has the weights of the program, so no part of it is above the limit.
use Rattle.std.proofs.Common.{◌≡◌, ℕ, zero, suc, ◌+◌, ◌*◌, ◌<◌, ◌≤◌, max, Bool, true, false, cond, nat_lt, nat_le, negsuc, nat_abs, List, [], ◌∷◌}
use Rattle.std.proofs.Common.{◌++◌, length, get_or, slice_get, refl, sym, ◌∙◌, ap, subst, arith, unwrap_or, Option, Some}
use Rattle.std.proofs.lemmas.List.{length-map, get_or_append_left, get_or_push, length_push}
use Rattle.std.proofs.{lemmas.Bool.le-leb, lemmas.Bool.Decides.nat_tests, lemmas.Int.ints, lemmas.List.Elements.Contains-append_left}
use Rattle.std.proofs.{lemmas.List.Elements.Contains-append_right, lemmas.Option.slice_get_within, lemmas.Option.get_or_from_slice_get, lemmas.Bool.and_from}
use Rattle.std.specs.List.{Contains}
use Rattle.rv_base.specs.declared.value.Value.TheVariants.{Flag, Label, Whole}
use Rattle.rv_base.specs.{declared.value.Value.Value, Limits.heaviest}
use Rattle.rv_tree.specs.Places.{Identifier, Sites, flows as flows_of, is_flow, index_of}
use Rattle.rv_tree.specs.{declared.tree.Op.Op, Tree.Tree, Tree.Form, Tree.Trees, Tree.ProgramTree}
use Rattle.rv_tree.specs.declared.tree.Op.TheVariants as op
use Rattle.rv_tree.specs.Tree as tree
use Rattle.rv_types.specs.Instances.{CallTree, Body, Output, Instance, place, absolute, clock_of, clock_taken as taken_clock, clock_in, clock_of_arguments}
use Rattle.rv_types.specs.Instances.{output_place, IsInstance, IsFlow, IsNode, IsArgument, head, tail}
use Rattle.rv_types.specs.Needs.{flow_of, needs, form_needs, needs_of, Giver, Gives, given, by_equation, by_call}
use Rattle.rv_types.specs.{declared.typed.Kind.Kind, declared.typed.Clock.Clock, declared.typed.Clock.TheVariants.Base}
use Rattle.rv_types.specs.{Types.is_constant, Constants.whole_in, Scopes.node_scope, Scopes.constant_value, WellFormed.AreWell}
use Rattle.rv_types.specs.declared.typed.Kind.TheVariants as kind
use Rattle.rv_instances.specs.Weights.{constant_size, weight, form_weight, weight_of_giver, IsTooWide, AreWeights}
use Rattle.rv_agreement.specs.Programs.{coefficient, operation}
use Rattle.rv_agreement.specs.Translation.{Numbers, tick_number, unplaced, flat_of, flat_form, flats_of, giver_item, IsTranslated}
use Rattle.rv_agreement.specs.Trees.{FlatTree, TreeForm, Constant, Flow, Ticked, Scale, If, Binary, Item, Kept, System, no_item, memory_items}
use Rattle.rv_flat.specs.Facts.{constant_weight, flat_weight, form_flat_weight, is_light, form_is_light, all_light, weights_after, flow_weights, items_light}
use Rattle.rv_flatten.proofs.Standing.{Stands, as_child, of_not, of_minus, of_current, of_when, of_left, of_right, of_condition, of_first, of_second}
use Rattle.rv_flatten.proofs.Standing.{of_operand, own_call, body_stands, argument_stands, operand_stands, as_assertion, output_call}
use Rattle.rv_flatten.proofs.FlowKinds.{HasFlow, is_flow as flow_there, signature_is, output_flow}
use Rattle.rv_flatten.proofs.{ApartComparisons.at_number, ItemClocks.among_first, ItemClocks.number_at, ItemClocks.number_within, ConstantOperands.weighs}
use Rattle.rv_flatten.proofs.{KindNumbers.product_scaled, NamedParts.other_constant, WellInstances.is_light as stands_light}
use Rattle.rv_types.proofs.{Members.among_contains, Members.at_head, Members.in_tail, ConstantValues.constants_small, ConstantValues.value_small}
use Rattle.rv_flat.proofs.TypedParts.{some_is, IsTyped, not_typed, minus_typed, current_typed, when_typed, binary_typed, if_typed, most_typed, call_typed}
use Rattle.rv_meaning.proofs.Acceptable.{typed}

constant_weighs : (v : Value) → constant_weight v ≡ nat_abs (whole_in v)
constant_weighs (Flag b) = refl
constant_weighs (Label l) = refl
constant_weighs (Whole z) = refl

module _ (program : ProgramTree) (main : Identifier) (well : AreWell program) (named : IsNode program main)
    (numbers : Numbers) (s : System) (read : IsTranslated program main numbers s)
    (wf : Sites → ℕ) (are_weights : AreWeights program main wf) (none_wide : (at : ℕ) → IsTooWide program main wf at → ⊥)
  where
    abbrev number : Sites → ℕ
    number q = index_of numbers.flows q

    within : (q : Sites) → IsFlow program main q → number q < length s.flows
    within = number_within program main well named numbers s read

    light : (i : Instance) (e : Tree) → IsInstance program main i → Stands i.node e → weight program wf i e ≤ heaviest
    light = stands_light program main wf none_wide

    -- where the first flows have their weights
    module _ (before : ℕ) (ws : List ℕ) (weighed : (q : Sites) → IsFlow program main q → number q < before → get_or ws (number q) 0 ≡ wf q) (i : Instance)
        (of : IsInstance program main i) where
      abbrev IsEarly : Clock → Tree → Type 0
      IsEarly c e = (q : Sites) → Contains (needs program i c e) q → IsFlow program main q → number q < before

      name_weighs : (c : Clock) (at : ℕ) (site : Option ℕ) (x : Identifier) (b : Bool) → is_flow i.node x ≡ b → IsEarly c (tree.Node at site (tree.Named x))
          → form_flat_weight ws (cond b (Flow (number (place i x))) (Constant (constant_value program x))) ≡ cond b (wf (place i x))
          (nat_abs (whole_in (constant_value program x)))
      name_weighs c at site x true is early =
          let q : Sites = place i x in
          let flow : IsFlow program main q = (i, x, of, among_contains (flows_of i.node) x is, refl) in
          weighed q flow (early q (Contains-append_right (flow_of (absolute i c)) (form_needs program i c site (tree.Named x)) q
          (subst (λ b. Contains (cond b (q ∷ []) []) q) (sym is) (at_head q []))) flow)
      name_weighs c at site x false is early = constant_weighs (constant_value program x)

      product_weighs : (left : Bool) (a b : Tree) (f g : FlatTree) → flat_weight ws f ≡ weight program wf i a → flat_weight ws g ≡ weight program wf i b
          → form_flat_weight ws (cond left (Scale (coefficient program a) g) (Scale (coefficient program b) f)) ≡ cond left
          (constant_size program a * weight program wf i b) (constant_size program b * weight program wf i a)
      product_weighs true a b f g p q = ap (λ w. constant_size program a * w) q
      product_weighs false a b f g p q = ap (λ w. constant_size program b * w) p

      turned : (m n : ℕ) → max n m ≡ max m n
      turned m n = omega arith

      operator_weighs : (site : Option ℕ) (o : Op) (a b : Tree) (tick : TreeForm) (f g : FlatTree) → flat_weight ws f ≡ weight program wf i a
          → flat_weight ws g ≡ weight program wf i b
          → form_flat_weight ws (operation o (If (unplaced tick) g f) (cond (is_constant (node_scope program i.node) a) (Scale (coefficient program a) g)
          (Scale (coefficient program b) f)) (Binary o f g)) ≡ form_weight program wf i site (tree.Binary o a b)
      operator_weighs site op.Arrow a b tick f g p q = (λ j. max (q j) (p j)) ∙ turned (weight program wf i a) (weight program wf i b)
      operator_weighs site op.Times a b tick f g p q = product_weighs (is_constant (node_scope program i.node) a) a b f g p q
      operator_weighs site op.Plus a b tick f g p q = λ j. p j + q j
      operator_weighs site op.Minus a b tick f g p q = λ j. p j + q j
      operator_weighs site _ a b tick f g p q = refl

      mutual
        -- what is read of an expression weighs the same
        pub expression_weighs : (c : Clock) (e : Tree) (k : Kind) → Stands i.node e → IsTyped program i.node e k → IsEarly c e
            → flat_weight ws (flat_of program numbers i e) ≡ weight program wf i e
        expression_weighs c (tree.Node at site (tree.Named x)) k s t early = name_weighs c at site x (is_flow i.node x) refl early
        expression_weighs c (tree.Node at site (tree.Minus e)) k s t early =
            (let one : nat_abs (negsuc 0) * flat_weight ws (flat_of program numbers i e) ≡ flat_weight ws (flat_of program numbers i e) = omega (arith, ints) in
            one) ∙ expression_weighs c e kind.Int (as_child s of_minus) (minus_typed program i.node at site e k t).0
            (λ q w. early q (Contains-append_right (flow_of (absolute i c)) (needs program i c e) q w))
        expression_weighs c (tree.Node at site (tree.Current e)) k s t early =
            turned 1 (flat_weight ws (flat_of program numbers i e)) ∙ ap (max 1) (expression_weighs (taken_clock i Base e) e k (as_child s of_current)
            (current_typed program i.node at site e k t)
            (λ q w. early q (Contains-append_right (flow_of (absolute i c)) (needs program i (taken_clock i Base e) e) q w)))
        expression_weighs c (tree.Node at site (tree.When e x)) k s t early =
            expression_weighs (clock_of i.node x.text) e k (as_child s (of_when x)) (when_typed program i.node at site e x k t).0
            (λ q w. early q (Contains-append_right (flow_of (absolute i c)) (needs program i (clock_of i.node x.text) e) q w))
        expression_weighs c (tree.Node at site (tree.Binary o a b)) k s t early =
            let r = binary_typed program i.node at site o a b k t in
            let inside = λ (q : Sites) (w : Contains (needs program i c a ++ needs program i c b) q). Contains-append_right (flow_of (absolute i c))
            (needs program i c a ++ needs program i c b) q w in
            operator_weighs site o a b (Ticked (tick_number numbers (clock_in i Base (tree.Node 0 site (tree.Binary o a b))))) (flat_of program numbers i a)
            (flat_of program numbers i b) (expression_weighs c a r.left (as_child s of_left) r.left_is
            (λ q w. early q (inside q (Contains-append_left (needs program i c a) (needs program i c b) q w))))
            (expression_weighs c b r.right (as_child s of_right) r.right_is
            (λ q w. early q (inside q (Contains-append_right (needs program i c a) (needs program i c b) q w))))
        expression_weighs c (tree.Node at site (tree.If a b d)) k s t early =
            let r = if_typed program i.node at site a b d k t in let last = needs program i c b ++ needs program i c d in
            let inside = λ (q : Sites) (w : Contains (needs program i c a ++ last) q). Contains-append_right (flow_of (absolute i c))
            (needs program i c a ++ last) q w in
            let p = expression_weighs c b k (as_child s of_first) r.1 (λ q w. early q (inside q (Contains-append_right (needs program i c a) last q
            (Contains-append_left (needs program i c b) (needs program i c d) q w)))) in
            let u = expression_weighs c d k (as_child s of_second) r.2 (λ q w. early q (inside q (Contains-append_right (needs program i c a) last q
            (Contains-append_right (needs program i c b) (needs program i c d) q w)))) in
            λ j. max (p j) (u j)
        expression_weighs c (tree.Node at site (tree.Call f args)) k s t early =
            let r = call_typed program i.node at site f args k t in
            let own : CallTree = record { at = at; site = unwrap_or site 0; name = f; args = args } in
            let q : Sites = output_place program i (unwrap_or site 0) f 0 in
            let h : HasFlow program main q k = output_flow program main well named i own 0 k of (own_call i.node at site f args s)
            (ap (λ l. slice_get l 0) (signature_is program f r.signature r.known ∙ r.gives)) in
            weighed q (flow_there h) (early q (Contains-append_right (flow_of (absolute i c)) (q ∷ []) q (at_head q [])) (flow_there h))
        expression_weighs c (tree.Node at site _) k s t early = refl

    -- what gives a flow weighs what the flow does
    giver_weighs : (before : ℕ) (ws : List ℕ) → ((q : Sites) → IsFlow program main q → number q < before → get_or ws (number q) 0 ≡ wf q)
        → (p : Sites) (g : Giver) → Gives program main p g → ((q : Sites) → Contains (needs_of program g) q → IsFlow program main q → number q < before)
        → flat_weight ws (giver_item program numbers g).body ≡ weight_of_giver program wf g
    giver_weighs before ws weighed p _ (given j lt at) early = refl
    giver_weighs before ws weighed p _ (by_equation i x (Body e) of right at) early =
        let t = (typed program main well named i of).body x e right in
        expression_weighs before ws weighed i of (taken_clock i (clock_of i.node x) e) e t.0 (body_stands i.node x e right) t.1 early
    giver_weighs before ws weighed p _ (by_equation i x (Output c j) of right at) early =
        let t = (typed program main well named i of).output x c j right in
        let q : Sites = output_place program i c.site c.name j in
        let h : HasFlow program main q t.0 = output_flow program main well named i c j t.0 of (output_call i.node x c j right) t.1 in
        weighed q (flow_there h) (early q (Contains-append_right (flow_of (absolute i (clock_of_arguments i c.args))) (q ∷ []) q (at_head q [])) (flow_there h))
    giver_weighs before ws weighed p _ (by_call i c j e of called arg at) early =
        let t = (typed program main well named i of).argument c j e called arg in
        expression_weighs before ws weighed i of (taken_clock i (clock_of_arguments i c.args) e) e t.0 (argument_stands i.node c j e called arg) t.1 early

    -- what gives the flow with a number
    giver_at : (k : ℕ) (x : Item) → slice_get s.flows k ≡ Some x → (g : Giver) × Gives program main (get_or numbers.flows k []) g
        × (x ≡ giver_item program numbers g) × ((q : Sites) → Contains (needs_of program g) q → IsFlow program main q → number q < k)
    giver_at k x at =
        let lt : k < length s.flows = slice_get_within s.flows k x at in
        let less : k < length numbers.flows = omega (arith, lt, read.many) in
        let r = read.flow k lt in
        let early = among_first program main well named numbers s read k (needs_of program r.0) less (read.sequence.after k r.0 less r.1) in
        (r.0, r.1, sym (get_or_from_slice_get s.flows k x no_item at) ∙ r.2, early)

    -- one flow more has its weight
    one_weighed : (k : ℕ) (ws : List ℕ) (f : Item) → length ws ≡ k → ((q : Sites) → IsFlow program main q → number q < k → get_or ws (number q) 0 ≡ wf q)
        → slice_get s.flows k ≡ Some f → (q : Sites) → IsFlow program main q → number q < k + 1 → get_or (ws ++ flat_weight ws f.body ∷ []) (number q) 0 ≡ wf q
    one_weighed k ws f long weighed at q is lt = by (nat_lt (number q) k) refl
      where
        by : (b : Bool) → nat_lt (number q) k ≡ b → get_or (ws ++ flat_weight ws f.body ∷ []) (number q) 0 ≡ wf q
        by true e =
            let less : number q < k = lesser (number q) k e in
            get_or_append_left ws (flat_weight ws f.body ∷ []) 0 (number q) (omega (arith, less, long)) ∙ weighed q is less
          where
            lesser : (m n : ℕ) → nat_lt m n ≡ true → m < n
            lesser m n e = grind (arith, nat_tests, e)
        by false e =
            let same : number q ≡ k = equal (number q) k e lt in
            let at_place : get_or numbers.flows k [] ≡ q = ap (λ n. get_or numbers.flows n []) (sym same)
            ∙ (number_at program main well named numbers s read q is).1 in
            let r = giver_at k f at in
            get_or_push ws (flat_weight ws f.body) 0 (number q) (long ∙ sym same) ∙ ap (λ item. flat_weight ws item.body) r.2
            ∙ giver_weighs k ws weighed (get_or numbers.flows k []) r.0 r.1 r.3 ∙ sym (are_weights (get_or numbers.flows k []) r.0 r.1) ∙ ap wf at_place
          where
            equal : (m n : ℕ) → nat_lt m n ≡ false → m < n + 1 → m ≡ n
            equal m n e lt = grind (arith, nat_tests, e, lt)

    weighed_from : (before : ℕ) (ws : List ℕ) (fs : List Item) → length ws ≡ before
        → ((q : Sites) → IsFlow program main q → number q < before → get_or ws (number q) 0 ≡ wf q)
        → ((j : ℕ) (f : Item) → slice_get fs j ≡ Some f → slice_get s.flows (before + j) ≡ Some f)
        → (q : Sites) → IsFlow program main q → number q < before + length fs → get_or (weights_after ws fs) (number q) 0 ≡ wf q
    weighed_from before ws [] long weighed from q is lt = weighed q is (omega (arith, lt))
    weighed_from before ws (f ∷ fs) long weighed from q is lt =
        let here : before + 0 ≡ before = omega arith in
        let at : slice_get s.flows before ≡ Some f = ap (slice_get s.flows) (sym here) ∙ from 0 f refl in
        weighed_from (before + 1) (ws ++ flat_weight ws f.body ∷ []) fs (length_push ws (flat_weight ws f.body) ∙ ap (λ n. n + 1) long)
        (one_weighed before ws f long weighed at)
        (λ j g e. let next : (before + 1) + j ≡ before + suc j = omega arith in ap (slice_get s.flows) next ∙ from (suc j) g e) q is (omega (arith, lt))

    abbrev all_weights : List ℕ
    all_weights = flow_weights s.flows

    -- The flows have the weights of the program.
    pub flow_weighs : (q : Sites) → IsFlow program main q → get_or all_weights (number q) 0 ≡ wf q
    flow_weighs q is =
        weighed_from 0 [] s.flows refl (λ p w lt. absurd (omega (arith, lt))) (λ j f e. let same : 0 + j ≡ j = omega arith in ap (slice_get s.flows) same ∙ e) q
        is (omega (arith, within q is))

    -- No flow is above the limit.
    flow_light_below : (n : ℕ) (q : Sites) → IsFlow program main q → number q < n → wf q ≤ heaviest
    flow_light_below zero q is lt = absurd (omega (arith, lt))
    flow_light_below (suc n) q is lt =
        let at = number_at program main well named numbers s read q is in
        let r = read.flow (number q) (within q is) in
        let gives : Gives program main q r.0 = subst (λ p. Gives program main p r.0) at.1 r.1 in
        let early = among_first program main well named numbers s read (number q) (needs_of program r.0) at.0 (read.sequence.after (number q) r.0 at.0 r.1) in
        subst (λ w. w ≤ heaviest) (sym (are_weights q r.0 gives)) (by r.0 gives (λ p w there. flow_light_below n p there (omega (arith, early p w there, lt))))
      where
        by : (g : Giver) → Gives program main q g → ((p : Sites) → Contains (needs_of program g) p → IsFlow program main p → wf p ≤ heaviest)
            → weight_of_giver program wf g ≤ heaviest
        by _ (given j less at) below = omega arith
        by _ (by_equation i x (Body e) of right at) below = light i e of (body_stands i.node x e right)
        by _ (by_equation i x (Output c j) of right at) below =
            let t = (typed program main well named i of).output x c j right in
            let p : Sites = output_place program i c.site c.name j in
            let h : HasFlow program main p t.0 = output_flow program main well named i c j t.0 of (output_call i.node x c j right) t.1 in
            below p (Contains-append_right (flow_of (absolute i (clock_of_arguments i c.args))) (p ∷ []) p (at_head p [])) (flow_there h)
        by _ (by_call i c j e of called arg at) below = light i e of (argument_stands i.node c j e called arg)

    flow_light : (q : Sites) → IsFlow program main q → wf q ≤ heaviest
    flow_light q is = flow_light_below (length s.flows) q is (within q is)

    module _ (i : Instance) (of : IsInstance program main i) where
      abbrev IsLightHere : FlatTree → Type 0
      IsLightHere f = is_light all_weights f ≡ true

      root_light : (e : Tree) (k : Kind) → Stands i.node e → IsTyped program i.node e k
          → nat_le (flat_weight all_weights (flat_of program numbers i e)) heaviest ≡ true
      root_light e k there t =
          le-leb _ heaviest (subst (λ w. w ≤ heaviest)
          (sym (expression_weighs (length s.flows) all_weights (λ q is lt. flow_weighs q is) i of Base e k there t (λ q w is. within q is)))
          (light i e of there))

      -- the constant operand of a product
      coefficient_light : (e : Tree) → Stands i.node e → is_constant (node_scope program i.node) e ≡ true
          → nat_le (nat_abs (coefficient program e)) heaviest ≡ true
      coefficient_light e s c =
          let size = value_small (constant_value program) (constants_small program) e in let weight_is = weighs program wf i e c in let le = light i e of s in
          le-leb (nat_abs (coefficient program e)) heaviest (omega (arith, size, weight_is, le))

      product_light : (left : Bool) (a b : Tree) (f g : FlatTree) → (left ≡ true → nat_le (nat_abs (coefficient program a)) heaviest ≡ true)
          → (left ≡ false → nat_le (nat_abs (coefficient program b)) heaviest ≡ true)
          → IsLightHere f → IsLightHere g → form_is_light all_weights (cond left (Scale (coefficient program a) g) (Scale (coefficient program b) f)) ≡ true
      product_light true a b f g l r p q = and_from _ _ (l refl) q
      product_light false a b f g l r p q = and_from _ _ (r refl) p

      operator_light : (o : Op) (t : ℕ) (times : TreeForm) (f g : FlatTree) → (o ≡ op.Times → form_is_light all_weights times ≡ true) → IsLightHere f
          → IsLightHere g → form_is_light all_weights (operation o (If (unplaced (Ticked t)) g f) times (Binary o f g)) ≡ true
      operator_light op.Arrow t times f g h p q = and_from _ _ q p
      operator_light op.Times t times f g h p q = h refl
      operator_light _ t times f g h p q = and_from _ _ p q

      name_light : (x : Identifier) (b : Bool) → form_is_light all_weights (cond b (Flow (number (place i x))) (Constant (constant_value program x))) ≡ true
      name_light x true = refl
      name_light x false = refl

      mutual
        -- an expression that stands in the instance
        pub expression_light : (e : Tree) (k : Kind) → Stands i.node e → IsTyped program i.node e k → IsLightHere (flat_of program numbers i e)
        expression_light (tree.Node at site form) k s t = form_light at site form k s t (root_light (tree.Node at site form) k s t)

        form_light : (at : ℕ) (site : Option ℕ) (form : Form) (k : Kind) → Stands i.node (tree.Node at site form)
            → IsTyped program i.node (tree.Node at site form) k
            → nat_le (flat_weight all_weights (flat_form program numbers i site form)) heaviest ≡ true → IsLightHere (flat_form program numbers i site form)
        form_light at site (tree.Number n) k s t root = and_from _ true root refl
        form_light at site (tree.Named x) k s t root = and_from _ (form_is_light all_weights
            (cond (is_flow i.node x) (Flow (number (place i x))) (Constant (constant_value program x)))) root (name_light x (is_flow i.node x))
        form_light at site (tree.Not e) k s t root = expression_light e kind.Bool (as_child s of_not)
            (not_typed program i.node at site e k t).0
        form_light at site (tree.Minus e) k s t root =
            and_from _ (is_light all_weights (flat_of program numbers i e)) root
            (expression_light e kind.Int (as_child s of_minus) (minus_typed program i.node at site e k t).0)
        form_light at site (tree.Current e) k s t root =
            and_from _ (is_light all_weights (flat_of program numbers i e)) root
            (expression_light e k (as_child s of_current) (current_typed program i.node at site e k t))
        form_light at site (tree.When e x) k s t root =
            and_from _ (is_light all_weights (flat_of program numbers i e)) root
            (expression_light e k (as_child s (of_when x)) (when_typed program i.node at site e x k t).0)
        form_light at site (tree.Binary o a b) k s t root =
            let r = binary_typed program i.node at site o a b k t in let left = as_child s of_left in let right = as_child s of_right in
            let p = expression_light a r.left left r.left_is in let q = expression_light b r.right right r.right_is in
            and_from _ _ root (operator_light o (tick_number numbers (clock_in i Base (tree.Node 0 site (tree.Binary o a b))))
            (cond (is_constant (node_scope program i.node) a) (Scale (coefficient program a) (flat_of program numbers i b))
            (Scale (coefficient program b) (flat_of program numbers i a))) (flat_of program numbers i a) (flat_of program numbers i b)
            (λ times. product_light (is_constant (node_scope program i.node) a) a b (flat_of program numbers i a) (flat_of program numbers i b)
            (λ c. coefficient_light a left c)
            (λ c. coefficient_light b right (other_constant (is_constant (node_scope program i.node) a) (is_constant (node_scope program i.node) b)
            (product_scaled _ o r.left r.right k r.rule times) c)) p q) p q)
        form_light at site (tree.If a b d) k s t root =
            let r = if_typed program i.node at site a b d k t in
            and_from _ _ root (and_from _ _ (expression_light a kind.Bool (as_child s of_condition) r.0)
            (and_from _ _ (expression_light b k (as_child s of_first) r.1) (expression_light d k (as_child s of_second) r.2)))
        form_light at site (tree.AtMostOne es) k s t root = all_are_light es (λ j e arg. as_child s (of_operand j arg))
            (most_typed program i.node at site es k t).0
        form_light at site (tree.Call f args) k s t root = and_from _ true root refl
        form_light at site _ k s t root = refl

        all_are_light : (es : Trees) → ((j : ℕ) (e : Tree) → IsArgument es j e → Stands i.node e)
            → ((j : ℕ) (e : Tree) → IsArgument es j e → IsTyped program i.node e kind.Bool) → all_light all_weights (flats_of program numbers i es) ≡ true
        all_are_light tree.None s t = refl
        all_are_light (tree.More e es) s t =
            and_from _ _ (expression_light e kind.Bool (s 0 e head) (t 0 e head))
            (all_are_light es (λ j a arg. s (suc j) a (tail arg)) (λ j a arg. t (suc j) a (tail arg)))

    -- what gives a flow
    giver_light : (p : Sites) (g : Giver) → Gives program main p g → is_light all_weights (giver_item program numbers g).body ≡ true
    giver_light p _ (given j lt at) = refl
    giver_light p _ (by_equation i x (Body e) of right at) = let t = (typed program main well named i of).body x e right in
        expression_light i of e t.0 (body_stands i.node x e right) t.1
    giver_light p _ (by_equation i x (Output c j) of right at) =
        let t = (typed program main well named i of).output x c j right in
        let q : Sites = output_place program i c.site c.name j in
        let is = flow_there (output_flow program main well named i c j t.0 of (output_call i.node x c j right) t.1) in
        and_from _ true (le-leb _ heaviest (subst (λ w. w ≤ heaviest) (sym (flow_weighs q is)) (flow_light q is))) refl
    giver_light p _ (by_call i c j e of called arg at) = let t = (typed program main well named i of).argument c j e called arg in
        expression_light i of e t.0 (argument_stands i.node c j e called arg) t.1

    items_light_from : (xs : List Item) → ((x : Item) → Contains xs x → is_light all_weights x.body ≡ true) → items_light all_weights xs ≡ true
    items_light_from [] each = refl
    items_light_from (x ∷ xs) each = and_from _ _ (each x (at_head x xs))
        (items_light_from xs (λ y w. each y (in_tail x xs y w)))

    -- The flows are light.
    pub all_flows_light : items_light all_weights s.flows ≡ true
    all_flows_light = items_light_from s.flows (λ x w.
        let a = at_number s.flows x w in let r = read.flow a.0 a.1 in
        ap (λ (item : Item). is_light all_weights item.body) (sym a.2 ∙ r.2) ∙ giver_light (get_or numbers.flows a.0 []) r.0 r.1)

    -- The memories are light.
    pub all_memories_light : items_light all_weights (memory_items s) ≡ true
    all_memories_light = items_light_from (memory_items s) (λ x w.
        let a = at_number (memory_items s) x w in
        let many = length-map s.memories (λ (m : Kept). m.item) in
        let r = read.memory_only a.0 (omega (arith, a.1, many)) in
        let t = some_is ((typed program main well named r.0 r.2).delay r.1 r.3) in
        ap (λ (item : Item). is_light all_weights item.body) (sym a.2 ∙ r.4) ∙ expression_light r.0 r.2 r.1.operand t.0 (operand_stands r.0.node r.1 r.3) t.1)

    -- The assertions are light.
    pub all_assertions_light : items_light all_weights s.assertions ≡ true
    all_assertions_light = items_light_from s.assertions (λ x w.
        let a = at_number s.assertions x w in let r = read.asserted a.0 a.1 in
        ap (λ (item : Item). is_light all_weights item.body) (sym a.2 ∙ r.4)
        ∙ expression_light r.0 r.2 r.1.body kind.Bool (as_assertion r.1 r.3) ((typed program main well named r.0 r.2).assertion r.1 r.3))
