-- The flows of a program that has a sequence have weights, each of them one.
use Rattle.std.proofs.Common.{◌≡◌, ℕ, zero, suc, ◌+◌, ◌<◌, ◌≤◌, ◌⊎◌, inl, inr, true, false, ◌&&◌, cond, List, [], ◌∷◌, ◌++◌, length, get_or, refl, sym, ◌∙◌, ap}
use Rattle.std.proofs.Common.{subst, arith, Option, unwrap_or}
use Rattle.std.proofs.lemmas.List.{append_assoc, get_or_default}
use Rattle.std.proofs.lemmas.List.Elements.{All-contains, Contains-get_or, Contains-append_left, Contains-append_right}
use Rattle.std.proofs.{lemmas.Option.slice_get_within, lemmas.Bool.cases_eq, lemmas.Bool.Decides.eqb_tells}
use Rattle.std.specs.List.{Contains, All}
use Rattle.rv_tree.specs.Tree.{Tree, Node, Form, Named, Minus, Current, When, Binary, If, Call, EquationTree, NodeTree, ProgramTree}
use Rattle.rv_tree.specs.{declared.tree.Decl.Decl, declared.tree.Op.Op, Places.Identifier, Places.Sites, Places.flows, Places.is_flow}
use Rattle.rv_tree.specs.declared.tree.Op.TheVariants as op
use Rattle.rv_types.specs.Instances.{CallTree, calls, calls_in, form_calls, calls_in_equations, calls_in_assertions, Right, Body, Output, IsRight, alone}
use Rattle.rv_types.specs.Instances.{in_order, Instance, place, callee, clock_taken, clock_of, clock_of_arguments, absolute, output_place, node_of, IsInstance}
use Rattle.rv_types.specs.Instances.{is_callee, IsFlow}
use Rattle.rv_types.specs.{declared.typed.Clock.Clock, declared.typed.Clock.TheVariants.Base, Kinds.kind_in_program, Kinds.decl_kinds, Needs.flow_of}
use Rattle.rv_types.specs.{Needs.needs, Needs.form_needs, Needs.Giver, Needs.Given, Needs.Of, Needs.Gives, Needs.given, Needs.by_equation, Needs.by_call}
use Rattle.rv_types.specs.{Needs.needs_of, Needs.needs_of_right, Needs.IsAmongFirst, Needs.IsSequence, Scopes.node_scope, Variables.same_place}
use Rattle.rv_instances.specs.Weights.{weight_of_giver, AreWeights}
use Rattle.rv_instances.specs.{declared.answer.Instance.Instance as Numbered, AllInstances.AreFed, Expanded.IsExpanded}
use Rattle.rv_instances.proofs.{CallsInside.calls_nested, ExpandedLaws.node_in, Flowing.site_itself, Flowing.flow_of_giver, GiverLaws.flow_giver}
use Rattle.rv_instances.proofs.{GiverLaws.one_giver, Lists.length_map, Lists.nat_split}
use Rattle.rv_types.proofs.TypedParts.{IsTyped, operands_typed, one_constant, branches_typed, minus_typed, current_typed, when_typed, call_output, right_calls}
use Rattle.rv_types.proofs.{Members.among_contains, CallsWithin.in_argument, DifferentPlaces.same_self, NamePlaces.output_within}
use Rattle.rv_sequence.proofs.WeightReads.{IsScaled, Reads, FormReads, same_weight}

-- Places.

place_other : (q r : Sites) → (q ≡ r → ⊥) → same_place q r ≡ false
place_other [] [] h = absurd (h refl)
place_other [] (y ∷ ys) h = refl
place_other (x ∷ xs) [] h = refl
place_other (x ∷ xs) (y ∷ ys) h = elim (eqb_tells x y) [
  | inl w ↦ (λ i. w.0 i && place_other xs ys (λ e. h (λ j. w.1 j ∷ e j)) i)
  | inr w ↦ (λ i. w.0 i && same_place xs ys)
]

-- What an expression that has a type reads.

module _ (p : ProgramTree) (i : Instance) (P : Sites → Type 0) where
  product_scaled : (at : ℕ) (site : Option ℕ) (o : Op) (a b : Tree) → IsTyped (node_scope p i.node) (Node at site (Binary o a b)) → IsScaled p i P o a b
  product_scaled at site op.Times a b w = one_constant (node_scope p i.node) at site a b w
  product_scaled at site _ a b w = tt

  -- the calls of an expression are calls of the node
  abbrev pub IsInside : List CallTree → Type 0
  IsInside cs = (c : CallTree) → Contains cs c → Contains (calls i.node) c

  -- the same of the first part of a list, and of the second
  on_left : {X : Type 0} {Q : X → Type 0} (xs ys : List X) → ((x : X) → Contains (xs ++ ys) x → Q x) → (x : X) → Contains xs x → Q x
  on_left xs ys all x w = all x (Contains-append_left xs ys x w)

  on_right : {X : Type 0} {Q : X → Type 0} (xs ys : List X) → ((x : X) → Contains (xs ++ ys) x → Q x) → (x : X) → Contains ys x → Q x
  on_right xs ys all x w = all x (Contains-append_right xs ys x w)

  -- what the expression needs has the property
  mutual
    pub needs_read : (k : Clock) (e : Tree) → IsTyped (node_scope p i.node) e → IsInside (calls_in e) → ((q : Sites) → Contains (needs p i k e) q → P q)
        → Reads p i P e
    needs_read k (Node at site form) w v all = form_read k at site form w v
        (on_right (flow_of (absolute i k)) (form_needs p i k site form) all)

    form_read : (k : Clock) (at : ℕ) (site : Option ℕ) (form : Form) → IsTyped (node_scope p i.node) (Node at site form) → IsInside (form_calls at site form)
        → ((q : Sites) → Contains (form_needs p i k site form) q → P q) → FormReads p i P at site form
    form_read k at site (Named x) w v all = λ e. all (place i x) (subst (λ b. Contains (cond b (place i x ∷ []) []) (place i x)) (sym e) (0, omega arith, refl))
    form_read k at site (Minus e) w v all = needs_read k e (minus_typed (node_scope p i.node) at site e w) v all
    form_read k at site (Current e) w v all = needs_read (clock_taken i Base e) e (current_typed (node_scope p i.node) at site e w) v all
    form_read k at site (When e c) w v all = needs_read (clock_of i.node c.text) e (when_typed (node_scope p i.node) at site e c w) v all
    form_read k at site (Binary o a b) w v all =
        let t = operands_typed (node_scope p i.node) at site o a b w in (
          product_scaled at site o a b w,
          needs_read k a t.0 (on_left (calls_in a) (calls_in b) v) (on_left (needs p i k a) (needs p i k b) all),
          needs_read k b t.1 (on_right (calls_in a) (calls_in b) v) (on_right (needs p i k a) (needs p i k b) all),
        )
    form_read k at site (If j a b) w v all =
        let t = branches_typed (node_scope p i.node) at site j a b w in
        let inside = on_right (calls_in j) (calls_in a ++ calls_in b) v in
        let rest = on_right (needs p i k j) (needs p i k a ++ needs p i k b) all in (
          needs_read k a t.0 (on_left (calls_in a) (calls_in b) inside) (on_left (needs p i k a) (needs p i k b) rest),
          needs_read k b t.1 (on_right (calls_in a) (calls_in b) inside) (on_right (needs p i k a) (needs p i k b) rest),
        )
    form_read k at site (Call f es) w v all = (
      v (record { at = at; site = unwrap_or site 0; name = f; args = es }) (0, omega arith, refl),
      call_output p i.node at site f es w,
      all (output_place p i (unwrap_or site 0) f 0) (0, omega arith, refl),
    )
    form_read k at site _ w v all = tt

  -- flows and the outputs of calls have it
  module _ (flow : (x : Identifier) → is_flow i.node x ≡ true → P (place i x))
      (output : (c : CallTree) → Contains (calls i.node) c → length (node_of p c.name).outputs ≡ 1 → P (output_place p i c.site c.name 0)) where
    mutual
      pub flows_read : (e : Tree) → IsTyped (node_scope p i.node) e → IsInside (calls_in e) → Reads p i P e
      flows_read (Node at site form) w v = form_flows at site form w v

      form_flows : (at : ℕ) (site : Option ℕ) (form : Form) → IsTyped (node_scope p i.node) (Node at site form) → IsInside (form_calls at site form)
          → FormReads p i P at site form
      form_flows at site (Named x) w v = flow x
      form_flows at site (Minus e) w v = flows_read e (minus_typed (node_scope p i.node) at site e w) v
      form_flows at site (Current e) w v = flows_read e (current_typed (node_scope p i.node) at site e w) v
      form_flows at site (When e c) w v = flows_read e (when_typed (node_scope p i.node) at site e c w) v
      form_flows at site (Binary o a b) w v =
          let t = operands_typed (node_scope p i.node) at site o a b w in (
            product_scaled at site o a b w,
            flows_read a t.0 (on_left (calls_in a) (calls_in b) v),
            flows_read b t.1 (on_right (calls_in a) (calls_in b) v),
          )
      form_flows at site (If j a b) w v =
          let t = branches_typed (node_scope p i.node) at site j a b w in
          let inside = on_right (calls_in j) (calls_in a ++ calls_in b) v in
          (flows_read a t.0 (on_left (calls_in a) (calls_in b) inside), flows_read b t.1 (on_right (calls_in a) (calls_in b) inside))
      form_flows at site (Call f es) w v =
          let c : CallTree = record { at = at; site = unwrap_or site 0; name = f; args = es } in
          let there = v c (0, omega arith, refl) in
          let one = call_output p i.node at site f es w in
          (there, one, output c there one)
      form_flows at site _ w v = tt

module _ (p : ProgramTree) (main : Identifier) (instances : List Numbered) (known : IsExpanded p main instances) where
  -- an output of a call is a flow
  pub output_flow : (i : Instance) (c : CallTree) (j : ℕ) → IsInstance p main i → Contains (calls i.node) c → j < length (node_of p c.name).outputs
      → IsFlow p main (output_place p i c.site c.name j)
  output_flow i c j is w lt =
      let n = node_of p c.name in
      let k = length n.inputs + j in
      let less : k < length (flows n) = output_within n j lt in
      let inst = is_callee c is w in
      let there = node_in p main instances known (callee p i c) inst in (
        callee p i c,
        get_or (flows n) k [],
        inst,
        Contains-get_or (flows n) k [] less,
        sym (append_assoc i.path (c.site ∷ []) (k ∷ [])) ∙ ap (λ m. (i.path ++ c.site ∷ []) ++ m ∷ []) (sym (site_itself p known.named n there k less)),
      )

  own_flow : (i : Instance) (x : Identifier) → IsInstance p main i → is_flow i.node x ≡ true → IsFlow p main (place i x)
  own_flow i x is e = (i, x, is, among_contains (flows i.node) x e, refl)

  -- what an expression reads are flows
  pub reads_flows : (i : Instance) (e : Tree) → IsInstance p main i → IsTyped (node_scope p i.node) e → IsInside p i (IsFlow p main) (calls_in e)
      → Reads p i (IsFlow p main) e
  reads_flows i e is w v = flows_read p i (IsFlow p main) (λ x e. own_flow i x is e) (λ c u one. output_flow i c 0 is u (omega (arith, one))) e w v

  fed : AreFed p
  fed n c j e there w arg = (known.well.formed n there).no_more c j e w arg

  -- what has a giver is a flow
  pub given_flow : (q : Sites) (g : Giver) → Gives p main q g → IsFlow p main q
  given_flow q g gives = flow_of_giver p known.named main known.declared fed q g gives

  -- The right side of a giver reads what the giver needs.
  abbrev pub ReadsRight : (P : Sites → Type 0) → Instance → Right → Type 0
  ReadsRight P i (Body e) = Reads p i P e
  ReadsRight P i (Output c j) = Contains (calls i.node) c × P (output_place p i c.site c.name j)

  abbrev pub ReadsGiver : (P : Sites → Type 0) → Giver → Type 0
  ReadsGiver P (Given j) = Unit {0}
  ReadsGiver P (Of i k r) = ReadsRight P i r

  equation_inside : (n : NodeTree) (q : EquationTree) (d : CallTree) → Contains n.equations q → Contains (calls_in q.right) d → Contains (calls n) d
  equation_inside n q d w v = Contains-append_left (calls_in_equations n.equations) (calls_in_assertions n.assertions) d (right_calls n.equations q d w v)

  pub giver_reads : (P : Sites → Type 0) (q : Sites) (g : Giver) → Gives p main q g → All P (needs_of p g) → ReadsGiver P g
  giver_reads P q _ (given j lt e) all = tt
  giver_reads P q _ (by_equation i x r is right e) all = of_right right all
    where
      of_right : {r : Right} → IsRight i.node x r → All P (needs_of_right p i (clock_of i.node x) r) → ReadsRight P i r
      of_right (alone s w named) all =
          let t = (known.well.typed i.node (node_in p main instances known i is)).body x s.right (alone s w named) in
          needs_read p i P (clock_taken i (clock_of i.node x) s.right) s.right (t.0, t.1) (λ d v. equation_inside i.node s d w v)
          (λ q u. All-contains P (needs p i (clock_taken i (clock_of i.node x) s.right) s.right) q all u)
      of_right (in_order s at site f args j w is_call many lt named) all =
          let c : CallTree = record { at = at; site = site; name = f; args = args } in (
            equation_inside i.node s c w (subst (λ (e : Tree). Contains (calls_in e) c) (sym is_call) (0, omega arith, refl)),
            All-contains P (needs_of_right p i (clock_of i.node x) (Output c j)) (output_place p i site f j) all
                (Contains-append_right (flow_of (absolute i (clock_of_arguments i args))) (output_place p i site f j ∷ []) (output_place p i site f j)
                (0, omega arith, refl)),
          )
  giver_reads P q _ (by_call i c j e is w arg same) all =
      let t = (known.well.typed i.node (node_in p main instances known i is)).argument c j e w arg in
      needs_read p i P (clock_taken i (clock_of_arguments i c.args) e) e (t.0, t.1) (λ d v. calls_nested i.node c d w (in_argument c.args j e d arg v))
      (λ q u. All-contains P (needs p i (clock_taken i (clock_of_arguments i c.args) e) e) q all u)

  -- an output that is given is one of its node
  abbrev pub IsOutput : Giver → Type 0
  IsOutput (Of i k (Output c j)) = j < length (node_of p c.name).outputs
  IsOutput _ = Unit {0}

  pub giver_output : (q : Sites) (g : Giver) → Gives p main q g → IsOutput g
  giver_output q _ (by_equation i x (Output c j) is right e) =
      let t = (known.well.typed i.node (node_in p main instances known i is)).output x c j right in
      let size = length_map (λ (d : Decl). kind_in_program p d.kind) (node_of p c.name).outputs in
      omega (arith, slice_get_within (decl_kinds p (node_of p c.name).outputs) j t.0 t.1, size)
  giver_output q _ _ = tt

  giver_instance : (q : Sites) (i : Instance) (k : Clock) (r : Right) (g : Giver) → g ≡ Of i k r → Gives p main q g → IsInstance p main i
  giver_instance q i k r _ is (given j lt e) = cc
  giver_instance q i k r _ is (by_equation a x s js right e) = subst (IsInstance p main) (let same : a ≡ i = cc in same) js
  giver_instance q i k r _ is (by_call a c j e js w arg same) = subst (IsInstance p main) (let same : a ≡ i = cc in same) js

  -- the instance of a giver
  pub instance_of : (q : Sites) (i : Instance) (k : Clock) (r : Right) → Gives p main q (Of i k r) → IsInstance p main i
  instance_of q i k r gives = giver_instance q i k r (Of i k r) refl gives

  -- what a giver reads are flows
  pub giver_flows : (q : Sites) (g : Giver) → Gives p main q g → ReadsGiver (IsFlow p main) g
  giver_flows q _ (given j lt e) = tt
  giver_flows q _ (by_equation i x r is right e) = of_right right
    where
      of_right : {r : Right} → IsRight i.node x r → ReadsRight (IsFlow p main) i r
      of_right (alone s w named) =
          let t = (known.well.typed i.node (node_in p main instances known i is)).body x s.right (alone s w named) in
          reads_flows i s.right is (t.0, t.1) (λ d v. equation_inside i.node s d w v)
      of_right (in_order s at site f args j w is_call many lt named) =
          let c : CallTree = record { at = at; site = site; name = f; args = args } in
          let there = equation_inside i.node s c w (subst (λ (e : Tree). Contains (calls_in e) c) (sym is_call) (0, omega arith, refl)) in (
            there,
            output_flow i c j is there (giver_output q (Of i (clock_of i.node x) (Output c j))
                (by_equation i x (Output c j) is (in_order s at site f args j w is_call many lt named) e)),
          )
  giver_flows q _ (by_call i c j e is w arg same) =
      let t = (known.well.typed i.node (node_in p main instances known i is)).argument c j e w arg in
      reads_flows i e is (t.0, t.1) (λ d v. calls_nested i.node c d w (in_argument c.args j e d arg v))

  -- the weight that a giver gives depends on what it reads
  pub same_given : (P : Sites → Type 0) (flows others : Sites → ℕ) → ((q : Sites) → P q → flows q ≡ others q) → (g : Giver) → ReadsGiver P g
      → weight_of_giver p flows g ≡ weight_of_giver p others g
  same_given P flows others same (Given j) r = refl
  same_given P flows others same (Of i k (Body e)) r = same_weight p i P flows others same e r
  same_given P flows others same (Of i k (Output c j)) r = same (output_place p i c.site c.name j) r.1

  module _ (sequence : List Sites) (ordered : IsSequence p main sequence) where
    -- where a flow stands
    stands : (q : Sites) → IsFlow p main q → (k : ℕ) × (k < length sequence) × (get_or sequence k [] ≡ q)
    stands q is = let w = ordered.flows q is in (w.0, w.1, get_or_default sequence w.0 [] q w.1 ∙ w.2)

    -- two functions that give all flows weights agree on the first flows
    agree_to : (flows others : Sites → ℕ) → AreWeights p main flows → AreWeights p main others → (n : ℕ) → n ≤ length sequence → (k : ℕ) → k < n
        → flows (get_or sequence k []) ≡ others (get_or sequence k [])
    agree_to flows others f g zero le k lt = absurd (omega (arith, lt))
    agree_to flows others f g (suc n) le k lt = elim (cases_eq k n) [
      | inr other ↦ agree_to flows others f g n (omega (arith, le)) k (omega (arith, lt, other))
      | inl same ↦
          let within : k < length sequence = omega (arith, le, lt) in
          let q = get_or sequence k [] in
          let v = flow_giver p main instances known q (ordered.only k within) in
          let reads = giver_reads (IsAmongFirst p main sequence k) q v.0 v.1 (ordered.after k v.0 within v.1) in
          let before : (r : Sites) → IsAmongFirst p main sequence k r → flows r ≡ others r =
          λ r w. subst (λ s. flows s ≡ others s) w.2 (agree_to flows others f g n (omega (arith, le)) w.0 (omega (arith, w.1, same))) in
          f q v.0 v.1 ∙ same_given (IsAmongFirst p main sequence k) flows others before v.0 reads ∙ sym (g q v.0 v.1)
    ]

    pub one_weight : (flows others : Sites → ℕ) → AreWeights p main flows → AreWeights p main others → (q : Sites) → IsFlow p main q → flows q ≡ others q
    one_weight flows others f g q is =
        let w = stands q is in
        subst (λ s. flows s ≡ others s) w.2 (agree_to flows others f g (length sequence) (omega arith) w.0 w.1)

    -- what gives the flow with a number in the sequence its value
    giver_chosen : (k : ℕ) → (k < length sequence) ⊎ (length sequence ≤ k) → Giver
    giver_chosen k (inl lt) = (flow_giver p main instances known (get_or sequence k []) (ordered.only k lt)).0
    giver_chosen k (inr ge) = Given 0

    giver_at : ℕ → Giver
    giver_at k = giver_chosen k (nat_split k (length sequence))

    gives_at : (k : ℕ) → k < length sequence → Gives p main (get_or sequence k []) (giver_at k)
    unfolding giver_chosen giver_at
    gives_at k lt = chosen (nat_split k (length sequence))
      where
        chosen : (s : (k < length sequence) ⊎ (length sequence ≤ k)) → Gives p main (get_or sequence k []) (giver_chosen k s)
        chosen (inl less) = (flow_giver p main instances known (get_or sequence k []) (ordered.only k less)).1
        chosen (inr ge) = absurd (omega (arith, lt, ge))

    -- the weights of the first flows, one after the other
    weights_to : ℕ → Sites → ℕ
    weights_to zero q = 0
    weights_to (suc k) q = cond (same_place (get_or sequence k []) q) (weight_of_giver p (weights_to k) (giver_at k)) (weights_to k q)

    -- the weight of a flow stays as it was
    stays : (n k : ℕ) → n ≤ length sequence → k < n → weights_to n (get_or sequence k []) ≡ weight_of_giver p (weights_to k) (giver_at k)
    unfolding weights_to
    stays zero k le lt = absurd (omega (arith, lt))
    stays (suc n) k le lt = elim (cases_eq k n) [
      | inl same ↦
          ap (λ b. cond b (weight_of_giver p (weights_to n) (giver_at n)) (weights_to n (get_or sequence k [])))
          (ap (λ m. same_place (get_or sequence n []) (get_or sequence m [])) same ∙ same_self (get_or sequence n []))
          ∙ ap (λ m. weight_of_giver p (weights_to m) (giver_at m)) (sym same)
      | inr other ↦
          let less : k < n = omega (arith, lt, other) in
          ap (λ b. cond b (weight_of_giver p (weights_to n) (giver_at n)) (weights_to n (get_or sequence k [])))
          (place_other (get_or sequence n []) (get_or sequence k []) (λ e. ordered.once k n less (omega (arith, le)) (sym e)))
          ∙ stays n k (omega (arith, le)) less
    ]

    pub are_weights : (flows : Sites → ℕ) × AreWeights p main flows
    are_weights = (weights_to (length sequence), λ q g gives. given_weight q g gives)
      where
        given_weight : (q : Sites) (g : Giver) → Gives p main q g → weights_to (length sequence) q ≡ weight_of_giver p (weights_to (length sequence)) g
        given_weight q g gives =
            let w = stands q (given_flow q g gives) in
            let k = w.0 in
            let at = gives_at k w.1 in
            let same : giver_at k ≡ g = one_giver p main instances known q (giver_at k) g (subst (λ r. Gives p main r (giver_at k)) w.2 at) gives in
            let here : Gives p main (get_or sequence k []) g = subst (λ r. Gives p main r g) (sym w.2) gives in
            let reads = giver_reads (IsAmongFirst p main sequence k) (get_or sequence k []) g here (ordered.after k g w.1 here) in
            let before : (r : Sites) → IsAmongFirst p main sequence k r → weights_to k r ≡ weights_to (length sequence) r =
            λ r v. subst (λ s. weights_to k s ≡ weights_to (length sequence) s) v.2
            (stays k v.0 (omega (arith, w.1)) v.1 ∙ sym (stays (length sequence) v.0 (omega arith) (omega (arith, w.1, v.1)))) in
            ap (weights_to (length sequence)) (sym w.2)
            ∙ stays (length sequence) k (omega arith) w.1 ∙ ap (weight_of_giver p (weights_to k)) same
            ∙ same_given (IsAmongFirst p main sequence k) (weights_to k) (weights_to (length sequence)) before g reads
