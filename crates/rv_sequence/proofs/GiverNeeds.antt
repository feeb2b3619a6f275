-- The numbers of what a flow needs, by what gives it its value.
use Rattle.std.proofs.Common.{◌≡◌, ℕ, ◌+◌, ◌<◌, ◌^◌, List, [], ◌∷◌, ◌++◌, length, Some, refl, sym, ap, subst, arith}
use Rattle.std.proofs.lemmas.List.Elements.{Contains-append_left}
use Rattle.std.specs.List.{Contains}
use Rattle.rv_tree.specs.Tree.{Tree, EquationTree, NodeTree, ProgramTree, tree_of}
use Rattle.rv_tree.specs.{Bounded.most, Places.Identifier, Places.Sites, Places.is_flow, Places.site_of}
use Rattle.rv_types.specs.Names.{is_declared, is_value, node_names, node_uses}
use Rattle.rv_types.specs.Instances.{CallTree, calls, calls_in, calls_in_equations, calls_in_assertions, Right, IsRight, alone, in_order, Instance, absolute}
use Rattle.rv_types.specs.Instances.{clock_of, clock_of_args, clock_taken, node_of, IsInstance}
use Rattle.rv_types.specs.Needs.{Giver, Given, Of, Gives, by_equation, by_call, flow_of, needs, needs_of}
use Rattle.rv_types.specs.{declared.typed.Clock.Clock, declared.typed.Kind.Kind, Clocks.pace, Kinds.decl_kinds, Kinds.kind_in_program}
use Rattle.rv_types.specs.{Scopes.node_scope, Types.kind_of, ToldPaces.IsTimed}
use Rattle.rv_types.specs.Instances as right
use Rattle.rv_instances.specs.declared.givers.Giver.TheVariants.{Input, Body, Output}
use Rattle.rv_instances.specs.Layouts.{IsPlaced, IsLayout, IsWithin, IsNumberOf, here_of, node_at, all_places}
use Rattle.rv_instances.specs.NumberedNeeds.{listed, clock_number, numbers_needed, site_in, giver_numbers, IsGiver}
use Rattle.rv_instances.specs.{declared.answer.Instance.Instance as Numbered, declared.givers.BodyOf.BodyOf, declared.givers.OutputOf.OutputOf}
use Rattle.rv_instances.specs.{declared.givers.Giver.Giver as Told, declared.layout.Laid.Laid, declared.layout.Layout.Layout, Expanded.IsExpanded}
use Rattle.rv_instances.specs.{Flowing.IsKnownClock, Flowing.flow_count, Givers.StandsFor}
use Rattle.rv_instances.proofs.CallsInside.{right_known, call_known, argument_known, calls_nested}
use Rattle.rv_instances.proofs.ExpandedLaws.{node_in, node_is, node_few}
use Rattle.rv_instances.proofs.{ArgumentClocks.flow_clock_known, ArgumentClocks.arguments_clock_known, BaseClocks.clock_within, LaidFlows.few_before}
use Rattle.rv_instances.proofs.{LaidFlows.places_size, LayoutLaws.laid_there, LayoutLaws.is_here, Lists.length_map}
use Rattle.rv_sequence.proofs.NumbersNeeded.{AreAt, at_append, needs_at, clock_flow, output_flow}
use Rattle.rv_sequence.proofs.TypedCalls.{typed_calls, sole_output}
use Rattle.rv_types.proofs.Suiting.{suits_taken, suits_timed}
use Rattle.rv_types.proofs.{TypedParts.right_calls, CallsWithin.in_argument}
use Rattle.rv_base.proofs.Lists.{within_got}

module _ (p : ProgramTree) (main : Identifier) (instances : List Numbered) (known : IsExpanded p main instances) where
  -- numbers of flows have 32 bits
  pub places_few : length (all_places p instances) < 2 ^ 32
  places_few =
      let count = few_before (flow_count p instances) most (length instances) (λ k lt. node_few p main instances known k lt) in
      omega (arith, places_size p instances, count, known.few)

  -- the clock of a giver is a flow of its instance
  pub giver_clock : (q : Sites) (i : Instance) (k : Clock) (r : Right) → Gives p main q (Of i k r) → IsInstance p main i × IsKnownClock i.node k
  giver_clock q _ _ _ (by_equation i x r is r_is e) = (is, flow_clock_known p known.named i.node (node_in p main instances known i is) (site_of i.node x))
  giver_clock q _ _ _ (by_call i c j e is w arg e_is) = (is, arguments_clock_known p known.named i.node (node_in p main instances known i is) c w)

  -- what is given by an output is given by that of a call of the instance
  pub record IsOutput (i : Instance) (k : Clock) (c : CallTree) (j : ℕ) : Type 0 where
    pub there : Contains (calls i.node) c
    pub within : j < length (node_of p c.name).outputs
    pub clock : right.clock_of_args i.node c.args ≡ k

  pub output_given : (q : Sites) (i : Instance) (k : Clock) (c : CallTree) (j : ℕ) → Gives p main q (Of i k (right.Output c j)) → IsOutput i k c j
  output_given q _ _ c j (by_equation i x _ is other e) =
      let n = i.node in
      let kinds = (known.well.typed n (node_in p main instances known i is)).output x c j other in
      let size = length_map (λ d. kind_in_program p d.kind) (node_of p c.name).outputs in
      record {
        there = of_order n x c j other;
        within = omega (arith, size, within_got (decl_kinds p (node_of p c.name).outputs) j kinds.0 kinds.1);
        clock = (known.well.formed n (node_in p main instances known i is)).output_clock x c j other;
      }
    where
      of_order : (n : NodeTree) (x : Identifier) (c : CallTree) (j : ℕ) → IsRight n x (right.Output c j) → Contains (calls n) c
      of_order n x _ _ (in_order q at site f args j w is more lt named) =
          Contains-append_left (calls_in_equations n.equations) (calls_in_assertions n.assertions) (record { at = at; site = site; name = f; args = args })
          (right_calls n.equations q (record { at = at; site = site; name = f; args = args }) w
          (subst (λ (t : Tree). Contains (calls_in t) (record { at = at; site = site; name = f; args = args })) (sym is) (0, omega arith, refl)))

  -- what is given by an expression
  pub record IsBody (i : Instance) (k : Clock) (e : Tree) : Type 0 where
    pub uses : node_uses p i.node e ≡ []
    pub calls_there : (c : CallTree) → Contains (calls_in e) c → Contains (calls i.node) c
    pub kind : (t : Kind) × (kind_of (node_scope p i.node) e ≡ Some t)
    pub clock : clock_taken i k e ≡ k
    pub timed : IsTimed (pace i.node e)

  pub body_given : (q : Sites) (i : Instance) (k : Clock) (e : Tree) → Gives p main q (Of i k (right.Body e)) → IsBody i k e
  body_given q _ _ e (by_equation i x _ is other place_is) =
      let n = i.node in
      let there = node_in p main instances known i is in
      let kinds = (known.well.typed n there).body x e other in
      let from = of_alone n x e other in
      record {
        uses = subst (λ (t : Tree). node_uses p n t ≡ []) from.2 (right_known p known.named n there from.0 from.1);
        calls_there = λ c w. Contains-append_left (calls_in_equations n.equations) (calls_in_assertions n.assertions) c
            (right_calls n.equations from.0 c from.1 (subst (λ (t : Tree). Contains (calls_in t) c) (sym from.2) w));
        kind = (kinds.0, kinds.1);
        clock = suits_taken (clock_of n x) (pace n e) ((known.well.formed n there).body_clock x e other);
        timed = suits_timed (clock_of n x) (pace n e) ((known.well.formed n there).body_clock x e other);
      }
    where
      of_alone : (n : NodeTree) (x : Identifier) (e : Tree) → IsRight n x (right.Body e) → (q : EquationTree) × Contains n.equations q × (q.right ≡ e)
      of_alone n x _ (alone q w named) = (q, w, refl)
  body_given q _ _ _ (by_call i c j e is w arg place_is) =
      let n = i.node in
      let there = node_in p main instances known i is in
      let kinds = (known.well.typed n there).argument c j e w arg in
      record {
        uses = argument_known (is_value p n) (is_flow n) (is_declared (node_names p)) c.args j e (call_known p known.named n there c w) arg;
        calls_there = λ d v. calls_nested n c d w (in_argument c.args j e d arg v);
        kind = (kinds.0, kinds.1);
        clock = suits_taken (clock_of_args n c.args) (pace n e) ((known.well.formed n there).argument_clock c j e w arg);
        timed = suits_timed (clock_of_args n c.args) (pace n e) ((known.well.formed n there).argument_clock c j e w arg);
      }

  -- what is told is free or on a clock
  pub body_timed : (b : BodyOf) → IsGiver p main instances (Body b) → IsTimed (pace (node_at p instances b.instance) (tree_of b.body.now))
  body_timed b (q, Of i k (right.Body e), gives, stands) =
      let from = body_given q i k e gives in
      let g = giver_clock q i k (right.Body e) gives in
      let node = node_is p main instances known b.instance i g.0 stands.0.1 in
      subst IsTimed (λ t. pace (sym node t) (sym stands.2 t)) from.timed
  body_timed b (q, _, gives, stands) = absurd stands

  module _ (l : Layout) (laid_out : IsLayout p main instances l) where
    -- the number of the flow of the clock of what is told has 32 bits
    told_within : (m : ℕ) (told : Clock) (q : Sites) (i : Instance) (k : Clock) (r : Right) → Gives p main q (Of i k r) → IsNumberOf p instances m i → told ≡ k
        → IsWithin (here_of l m).offset told
    told_within m told q i k r gives number is =
        let g = giver_clock q i k r gives in
        subst (λ n. IsWithin n told) (sym (ap (λ (x : Laid). x.first) (laid_there p main instances known l laid_out m number.0)))
        (subst (IsWithin _) (sym is) (clock_within p main instances known m i k number.0 g.0 number.1 g.1))

    pub body_within : (b : BodyOf) → IsGiver p main instances (Body b) → IsWithin (here_of l b.instance).offset b.clock
    body_within b (q, Of i k (right.Body e), gives, stands) = told_within b.instance b.clock q i k (right.Body e) gives stands.0 stands.1
    body_within b (q, _, gives, stands) = absurd stands

    pub output_clock_within : (o : OutputOf) → IsGiver p main instances (Output o) → IsWithin (here_of l o.instance).offset o.clock
    output_clock_within o (q, Of i k (right.Output c j), gives, stands) = told_within o.instance o.clock q i k (right.Output c j) gives stands.0 stands.1
    output_clock_within o (q, _, gives, stands) = absurd stands

    -- what is told has the number of an instance
    pub body_instance : (b : BodyOf) → IsGiver p main instances (Body b) → b.instance < length instances
    body_instance b (q, Given j, gives, stands) = absurd stands
    body_instance b (q, Of i k (right.Output c j), gives, stands) = absurd stands
    body_instance b (q, Of i k (right.Body e), gives, stands) = stands.0.0

    pub output_instance : (o : OutputOf) → IsGiver p main instances (Output o) → o.instance < length instances
    output_instance o (q, Given j, gives, stands) = absurd stands
    output_instance o (q, Of i k (right.Body e), gives, stands) = absurd stands
    output_instance o (q, Of i k (right.Output c j), gives, stands) = stands.0.0

    -- the output of a call
    output_at : (o : OutputOf) (q : Sites) (i : Instance) (k : Clock) (c : CallTree) (j : ℕ) → Gives p main q (Of i k (right.Output c j))
        → StandsFor p instances (Output o) (Of i k (right.Output c j))
        → IsPlaced (all_places p instances) ((here_of l o.instance).output (site_in (tree_of o.call.now)) + o.output)
        (i.path ++ c.site ∷ (length (node_of p c.name).inputs + j) ∷ [])
    output_at o q i k c j gives stands =
        let from = output_given q i k c j gives in
        let is = (giver_clock q i k (right.Output c j) gives).0 in
        let here = is_here p main instances known l laid_out o.instance i stands.0.0 is stands.0.1 in
        subst (λ n. IsPlaced (all_places p instances) n (i.path ++ c.site ∷ (length (node_of p c.name).inputs + j) ∷ []))
        (λ t. (here_of l o.instance).output (ap site_in (sym stands.2) t) + sym stands.3 t)
        (output_flow p i (all_places p instances) (here_of l o.instance) here c j from.there from.within)

    pub output_few : (o : OutputOf) → IsGiver p main instances (Output o) → (here_of l o.instance).output (site_in (tree_of o.call.now)) + o.output < 2 ^ 32
    output_few o (q, Of i k (right.Output c j), gives, stands) = omega (arith, (output_at o q i k c j gives stands).0, places_few)
    output_few o (q, _, gives, stands) = absurd stands

    -- the numbers of what a flow needs are those of the places
    pub giver_needs : (q : Sites) (g : Told) (f : Giver) → Gives p main q f → StandsFor p instances g f
        → AreAt (all_places p instances) (giver_numbers p instances l g) (needs_of p f)
    giver_needs q (Input j) (Given k) gives stands = tt
    giver_needs q (Body b) (Of i k (right.Body e)) gives stands =
        let from = body_given q i k e gives in
        let g = giver_clock q i k (right.Body e) gives in
        let there = node_in p main instances known i g.0 in
        let m = b.instance in
        let here = is_here p main instances known l laid_out m i stands.0.0 g.0 stands.0.1 in
        let node = node_is p main instances known m i g.0 stands.0.1 in
        let good : (c : CallTree) → Contains (calls_in e) c → Contains (calls i.node) c × (0 < length (node_of p c.name).outputs) = λ c w.
        (from.calls_there c w, sole_output p i.node c.name (typed_calls (node_scope p i.node) e from.kind c w)) in
        let at = needs_at p i (all_places p instances) (here_of l m) here (flow_clock_known p known.named i.node there) k e g.1 from.uses good in
        subst (λ js. AreAt (all_places p instances) js (needs p i (clock_taken i k e) e))
        (λ t. numbers_needed (sym node t) (here_of l m) (clock_number (here_of l m) (sym stands.1 t)) (sym stands.2 t))
        (subst (λ c. AreAt (all_places p instances) (numbers_needed i.node (here_of l m) (clock_number (here_of l m) k) e) (needs p i c e)) (sym from.clock) at)
    giver_needs q (Output o) (Of i k (right.Output c j)) gives stands =
        let from = output_given q i k c j gives in
        let g = giver_clock q i k (right.Output c j) gives in
        let here = is_here p main instances known l laid_out o.instance i stands.0.0 g.0 stands.0.1 in
        let clock = clock_flow p i (all_places p instances) (here_of l o.instance) here k g.1 in
        let seen : AreAt (all_places p instances) (listed (clock_number (here_of l o.instance) o.clock))
        (flow_of (absolute i (right.clock_of_args i.node c.args))) =
        subst (λ t. AreAt (all_places p instances) (listed (clock_number (here_of l o.instance) t)) (flow_of (absolute i (right.clock_of_args i.node c.args))))
        (sym stands.1)
        (subst (λ t. AreAt (all_places p instances) (listed (clock_number (here_of l o.instance) k)) (flow_of (absolute i t))) (sym from.clock) clock) in
        at_append (all_places p instances) (listed (clock_number (here_of l o.instance) o.clock))
        (((here_of l o.instance).output (site_in (tree_of o.call.now)) + o.output) ∷ [])
        (flow_of (absolute i (right.clock_of_args i.node c.args))) ((i.path ++ c.site ∷ (length (node_of p c.name).inputs + j) ∷ []) ∷ []) seen
        (output_at o q i k c j gives stands, tt)
    giver_needs q _ _ gives stands = absurd stands
