-- A flat system that is put together from its parts.
use Rattle.std.proofs.Common.{◌≡◌, ℕ, zero, suc, ◌+◌, ◌<◌, ◌≤◌, Bool, true, false, cond, List, [], ◌∷◌, ◌++◌, map, length, take, get_or, slice_get, refl}
use Rattle.std.proofs.Common.{sym, ◌∙◌, ap, subst, arith, unwrap_or, Option, Some, IsSome, append_assoc, length-append, None as Nothing}
use Rattle.std.proofs.lemmas.Option.{none-some, slice_get-map, slice_get-get_or, slice_get_within}
use Rattle.std.proofs.{Math.Seq.take-append_seam, lemmas.List.length-map, lemmas.List.map-append, lemmas.List.Elements.Contains-get_or, lemmas.Bool.and_from}
use Rattle.std.proofs.lemmas.Simd.{map-map}
use Rattle.std.specs.{List.Contains, Option.option_map}
use Rattle.rv_tree.specs.Places.{Identifier, Sites, flows, index_of}
use Rattle.rv_tree.specs.{declared.tree.Decl.Decl, Bounded.most, Tree.Tree, Tree.NodeTree, Tree.ProgramTree}
use Rattle.rv_types.specs.Instances.{Instance, no_node, node_of, main_instance, absolute, taken, clock_in, IsInstance, is_main, IsFlow, IsNode}
use Rattle.rv_types.specs.{declared.typed.Kind.Kind, declared.typed.Clock.Clock, declared.typed.Clock.TheVariants.Base, declared.typed.Clock.TheVariants.On}
use Rattle.rv_types.specs.{declared.fault.NameFault.NameFault, declared.fault.NameFault.TheVariants.NotObserver, Clocks.pace, Kinds.decl_kinds}
use Rattle.rv_types.specs.{Kinds.flow_kinds, Kinds.kind_in_program, Kinds.node_named, Names.texts, Names.labels_of, Scopes.is_observer}
use Rattle.rv_types.specs.{Scopes.observer_faults, Settled.node_number, Lists.AreTicks, Lists.AreMemories}
use Rattle.rv_types.specs.{Lists.IsAny, Lists.MemoryAt, Lists.sites_of, Needs.IsSequence, Needs.Gives, Variables.is_arrow, Variables.node_parts}
use Rattle.rv_types.specs.declared.typed.Kind.TheVariants as kind
use Rattle.rv_instances.specs.{declared.answer.Instance.Instance as Numbered, declared.layout.Laid.Laid, declared.layout.Layout.Layout, Expanded.IsExpanded}
use Rattle.rv_instances.specs.{Flowing.IsKnownClock, Layouts.IsLayout, Layouts.node_at, Layouts.here_of}
use Rattle.rv_flatten.specs.Building.{IsFoundOf, IsGiven, AreMade, AreRemembered, AreAsserted, main_given, numbers_of, program_given}
use Rattle.rv_flatten.specs.Readings.{IsRead, AreKinds, raw_flow, raw_memory, no_raw, raw_giver, raw_delay, assertion_of, no_assumption}
use Rattle.rv_flatten.specs.{declared.found.Found.Found, declared.given.Given.Given, declared.numbering.Numbering.Numbering, Frames.IsNumbering}
use Rattle.rv_flatten.specs.{Kept.kept_memory}
use Rattle.rv_flat.specs.Systems.{places_of, memory_places_of, memory_of}
use Rattle.rv_flat.specs.{declared.parts.Bit.Bit, declared.parts.FlatExpr.FlatExpr, declared.parts.FlatFlow.FlatFlow, declared.parts.FlatInput.FlatInput}
use Rattle.rv_flat.specs.{declared.parts.FlatMemory.FlatMemory, Facts.ticks_known, Lists.tick_places, RawTree.raw_tree}
use Rattle.rv_agreement.specs.{Checks.is_of, Translation.Numbers}
use Rattle.rv_flatten.specs.Readings as readings
use Rattle.rv_flatten.proofs.FlowKinds.{HasFlow, is_flow, flow_of_site, base_flow}
use Rattle.rv_flatten.proofs.ArrowClocks.{node_comes, arrow_known}
use Rattle.rv_flatten.proofs.{FlowTotals.some_instance, KindNumbers.kind_itself, FewInputs.few_inputs, MadeItems.HasNumbers, Translated.mapped_at}
use Rattle.rv_instances.proofs.{LaidFlows.laid_is, ExpandedLaws.main_at, ExpandedLaws.number_at, ExpandedLaws.node_is, ExpandedLaws.node_in, Known.called}
use Rattle.rv_flatten.proofs.MainNames as main_names
use Rattle.rv_meaning.proofs.{Acceptable.formed, Acceptable.some_among, Acceptable.typed, FlowSites.kinds_many, FlowSites.output_kind}
use Rattle.rv_types.proofs.{Verdicts.kind_same, Members.among_from, Members.at_head, Members.in_tail, Members.index_there, ChainLaws.no_flag}
use Rattle.rv_base.proofs.{Lists.item_at, Options.some_same}

-- Lists.

pub front : {X : Type 0} (xs ys : List X) (j : ℕ) (x : X) → slice_get xs j ≡ Some x → slice_get (xs ++ ys) j ≡ Some x
front [] ys j x e = absurd (none-some x e)
front (z ∷ xs) ys zero x e = e
front (z ∷ xs) ys (suc j) x e = front xs ys j x e

pub map_joined : {X Y : Type 0} (f : X → Y) (xs ys : List X) → map f (xs ++ ys) ≡ map f xs ++ map f ys
map_joined f xs ys = map-append f xs ys

-- The types of the first flows of a node are those of its inputs.
pub first_kinds : (p : ProgramTree) (n : NodeTree) → take (length n.inputs) (flow_kinds p n) ≡ decl_kinds p n.inputs
first_kinds p n =
    let f : Decl → Kind = λ d. kind_in_program p d.kind in
    let rest = map f n.outputs ++ map f n.locals in
    ap (take (length n.inputs)) (map_joined f (n.inputs ++ n.outputs) n.locals ∙ ap (λ l. l ++ map f n.locals) (map_joined f n.inputs n.outputs)
    ∙ append_assoc (map f n.inputs) (map f n.outputs) (map f n.locals)) ∙ ap (λ k. take k (map f n.inputs ++ rest)) (sym (length-map n.inputs f))
    ∙ take-append_seam (map f n.inputs) rest

pub taken_kinds : (p : ProgramTree) (n : NodeTree) (count : ℕ) (kinds : List Kind) → count ≡ length n.inputs → kinds ≡ flow_kinds p n
    → take count kinds ≡ decl_kinds p n.inputs
taken_kinds p n count kinds many are = (λ i. take (many i) (are i)) ∙ first_kinds p n

-- and no more than all
pub inputs_within : (p : ProgramTree) (n : NodeTree) → length n.inputs ≤ length (flow_kinds p n)
inputs_within p n =
    let all = length-map ((n.inputs ++ n.outputs) ++ n.locals) (λ (d : Decl). kind_in_program p d.kind) in
    omega (arith, all, length-append (n.inputs ++ n.outputs) n.locals, length-append n.inputs n.outputs)

-- The observer.

pub first_is_flag : (ks : List Kind) → is_observer ks ≡ true → slice_get ks 0 ≡ Some kind.Bool
first_is_flag (k ∷ []) e = ap Some (kind_same k kind.Bool e)
first_is_flag _ e = no_flag e

observed_output : (p : ProgramTree) (o : Option NodeTree) → elim o as (λ _. List NameFault)
    [ Nothing ↦ [] | Some m ↦ cond (is_observer (decl_kinds p m.outputs)) [] (NotObserver m.name.at ∷ []) ] ≡ [] → IsSome o
    → slice_get (decl_kinds p (unwrap_or o no_node).outputs) 0 ≡ Some kind.Bool
observed_output p Nothing h some = no_flag some
observed_output p (Some m) h some = by (is_observer (decl_kinds p m.outputs)) refl h
  where
    by : (b : Bool) → is_observer (decl_kinds p m.outputs) ≡ b → cond b [] (NotObserver m.name.at ∷ []) ≡ []
        → slice_get (decl_kinds p m.outputs) 0 ≡ Some kind.Bool
    by true e h = first_is_flag (decl_kinds p m.outputs) e
    by false e h = cc

output_first : (p : ProgramTree) (n : NodeTree) (k : Kind) → slice_get (decl_kinds p n.outputs) 0 ≡ Some k
    → slice_get (flow_kinds p n) (length n.inputs) ≡ Some k
output_first p n k e = (let start : length n.inputs ≡ length n.inputs + 0 = omega arith in ap (slice_get (flow_kinds p n)) start) ∙ output_kind p n 0 k e

-- The main node.

-- all of these are among some
all_known : (places ps : List Sites) → ((q : Sites) → Contains ps q → Contains places q) → ticks_known places ps ≡ true
all_known places [] all = refl
all_known places (q ∷ ps) all = and_from _ _ (among_from places q (all q (at_head q ps)))
    (all_known places ps (λ r w. all r (in_tail q ps r w)))

module _ (p : ProgramTree) (main : Identifier) (instances : List Numbered) (known : IsExpanded p main instances) where
  pub is_named : IsNode p main
  is_named = main_names.is_node p main known.declared

  -- it stands where its number says, and has its name
  main_called : (node_number p main < length p.nodes) × (node_of p main ≡ get_or p.nodes (node_number p main) no_node)
      × ((get_or p.nodes (node_number p main) no_node).name.text ≡ main)
  main_called = called p known.named main known.declared

  pub main_name : (node_of p main).name.text ≡ main
  main_name = ap (λ (n : NodeTree). n.name.text) main_called.1 ∙ main_called.2

  -- the types of its flows
  pub kinds_within : (kinds : List (List Kind)) (number : ℕ) → kinds ≡ map (flow_kinds p) p.nodes → number ≡ node_number p main → number < length kinds
  kinds_within kinds number are is = omega (arith, ap length are ∙ length-map p.nodes (flow_kinds p), is, main_called.0)

  pub main_kinds : (kinds : List (List Kind)) (number : ℕ) (own : List Kind) → kinds ≡ map (flow_kinds p) p.nodes → number ≡ node_number p main
      → slice_get kinds number ≡ Some own → own ≡ flow_kinds p (node_of p main)
  main_kinds kinds number own are is e =
      some_same own (flow_kinds p (node_of p main)) (sym e ∙ ap (λ ks. slice_get ks number) are ∙ ap (slice_get (map (flow_kinds p) p.nodes)) is
      ∙ slice_get-map (flow_kinds p) p.nodes (node_number p main)
      ∙ ap (option_map (flow_kinds p)) (slice_get-get_or p.nodes (node_number p main) no_node main_called.0)
      ∙ ap (λ n. Some (flow_kinds p n)) (sym main_called.1))

  -- it is the node of the first instance
  pub first_node : node_at p instances 0 ≡ node_of p main
  first_node = node_is p main instances known 0 (main_instance p main) is_main (main_at p main instances known).1

  -- its inputs are few
  pub few_given : length (decl_kinds p (node_of p main).inputs) ≤ most
  few_given = few_inputs p known.bounded (node_of p main) (node_in p main instances known (main_instance p main) is_main)

  -- the number of one of its flows in the sequence
  pub main_number : HasNumbers → (l : Layout) → IsLayout p main instances l → (numbers : Numbers) (n : Numbering) → IsNumbering p main instances numbers n
      → (s : ℕ) → s < length (flows (node_of p main)) → get_or n.flows s 0 ≡ index_of numbers.flows (s ∷ [])
  main_number law l laid numbers n are s lt =
      let here = law p main instances l 0 (main_instance p main) known laid is_main (main_at p main instances known) in
      let at = here.flow s lt in
      let first : (here_of l 0).offset ≡ 0 = ap (λ (ls : List Laid). (get_or ls 0 (record { first = 0; output = 0 })).first) laid.laid
      ∙ ap (λ (x : Laid). x.first) (laid_is p instances (length instances) 0 (record { first = 0; output = 0 }) (some_instance p main instances known)) in
      let same : (here_of l 0).offset + s ≡ s = omega (arith, first) in
      ap (λ k. get_or n.flows k 0) (sym same) ∙ are.flows ((here_of l 0).offset + s) at.0 ∙ ap (index_of numbers.flows) at.1

  -- the flow of its observer
  pub observer_flow : observer_faults p main ≡ [] → HasFlow p main (length (node_of p main).inputs ∷ []) kind.Bool
  observer_flow none =
      flow_of_site p main known.well is_named (main_instance p main) (length (node_of p main).inputs) kind.Bool is_main
      (output_first p (node_of p main) kind.Bool (observed_output p (node_named p main) none (some_among p.nodes main is_named)))

  pub observer_within : observer_faults p main ≡ [] → length (node_of p main).inputs < length (flows (node_of p main))
  observer_within none =
      let lt = slice_get_within (flow_kinds p (node_of p main)) (length (node_of p main).inputs) kind.Bool
      (output_first p (node_of p main) kind.Bool (observed_output p (node_named p main) none (some_among p.nodes main is_named))) in
      omega (arith, lt, kinds_many p (node_of p main))

  -- the clock of a tick is that of a flow
  tick_flow : (i : Instance) (e : Tree) (q : Sites) → IsInstance p main i → Contains (node_parts i.node) e → is_arrow e ≡ true → clock_in i Base e ≡ Some q
      → IsFlow p main q
  tick_flow i e q is w arrow at =
      by (taken Base (pace i.node e))
      (arrow_known p i.node (typed p main known.well is_named i is) (formed p main known.well is_named i is) (taken Base (pace i.node e))
      (node_comes i.node e w arrow)) at
    where
      by : (k : Clock) → IsKnownClock i.node k → absolute i k ≡ Some q → IsFlow p main q
      by Base within at = is_flow (base_flow p main known.well is_named i q is at)
      by (On s) within at =
          let many = kinds_many p i.node in
          let k = item_at (flow_kinds p i.node) s (omega (arith, within, many)) in
          subst (IsFlow p main) (some_same (i.path ++ s ∷ []) q at) (is_flow (flow_of_site p main known.well is_named i s k.0 is k.1))

  pub all_ticks_known : (sequence ticks : List Sites) → IsSequence p main sequence → AreTicks p main ticks → ticks_known sequence ticks ≡ true
  all_ticks_known sequence ticks are list = all_known sequence ticks (λ q w. let r = list.only q w in are.flows q (tick_flow r.0 r.1 q r.2 r.3 r.4 r.5))

same_places : (fs : List FlatFlow) (qs : List Sites) → length fs ≡ length qs
    → ((k : ℕ) (f : FlatFlow) → slice_get fs k ≡ Some f → f.place.sites ≡ get_or qs k []) → places_of fs ≡ qs
same_places [] [] many each = refl
same_places [] (q ∷ qs) many each = absurd (omega (arith, many))
same_places (f ∷ fs) [] many each = absurd (omega (arith, many))
same_places (f ∷ fs) (q ∷ qs) many each =
    let first : f.place.sites ≡ q = each 0 f refl in
    let rest = same_places fs qs (omega (arith, many)) (λ k h e. each (suc k) h e) in
    λ i. first i ∷ rest i

-- The main node of what is given: its number among the instances, the types of its flows, and its few inputs.
module _ (g : Given) (given : IsGiven g) where
  pub first_given : node_at (program_given g) g.expanded.now.instances.now 0 ≡ node_of (program_given g) (main_given g)
  first_given = first_node (program_given g) (main_given g) g.expanded.now.instances.now given.known.expanded

  pub given_kinds : (number : ℕ) (own : List Kind) → number ≡ node_number (program_given g) (main_given g) → slice_get g.kinds.now number ≡ Some own
      → own ≡ flow_kinds (program_given g) (node_of (program_given g) (main_given g))
  given_kinds number own is e =
      main_kinds (program_given g) (main_given g) g.expanded.now.instances.now given.known.expanded g.kinds.now number own given.kinds is e

  pub few_taken : (count : ℕ) (kinds : List Kind) → count ≡ length (node_of (program_given g) (main_given g)).inputs
      → kinds ≡ flow_kinds (program_given g) (node_of (program_given g) (main_given g)) → length (take count kinds) ≤ most
  few_taken count kinds many are =
      subst (λ ks. length ks ≤ most) (sym (taken_kinds (program_given g) (node_of (program_given g) (main_given g)) count kinds many are))
      (few_given (program_given g) (main_given g) g.expanded.now.instances.now given.known.expanded)

-- The flows, memories and assertions as they are made.
module _ (g : Given) (d : Found) (given : IsGiven g) (found : IsFoundOf g d)
    (flows : List FlatFlow) (memories : List FlatMemory) (inputs : List FlatInput) (variables : List Bit) (assertions : List FlatExpr)
    (made : AreMade (program_given g) (main_given g) (numbers_of g d) (sites_of g.sequence.now) flows)
    (kept : AreRemembered g.expanded.now (sites_of g.sequence.now) d memories)
    (asserted : AreAsserted g.expanded.now (numbers_of g d) (length g.expanded.now.instances.now) assertions)
    (kinds : map (λ i. i.kind) inputs ≡ decl_kinds (program_given g) (node_of (program_given g) (main_given g)).inputs)
    (ticks : tick_places variables ≡ sites_of d.ticks)
  where
    abbrev p : ProgramTree
    p = program_given g

    abbrev main : Identifier
    main = main_given g

    pub same_flows : places_of flows ≡ sites_of g.sequence.now
    same_flows = same_places flows (sites_of g.sequence.now) made.many (λ k f at. (made.each k f at).at)

    same_memories : memory_places_of memories ≡ map (λ k. k.place.sites) d.kept
    same_memories = sym (map-map (λ (m : MemoryAt). m.place) memory_of memories) ∙ ap (map (λ (m : MemoryAt). m.place)) kept.list
        ∙ map-map (λ (m : MemoryAt). m.place) kept_memory d.kept

    same_numbers : readings.numbers_of flows memories variables ≡ numbers_of g d
    same_numbers = λ i. record { flows = same_flows i; memories = same_memories i; ticks = ticks i }

    -- The flat system is read from its program.
    pub is_read : IsRead p main flows memories inputs variables assertions
    is_read = record {
      sequence = subst (IsSequence p main) (sym same_flows) given.sequence;
      list = subst (AreMemories p main IsAny) (sym kept.list) found.kept.list;
      ticks = subst (AreTicks p main) (sym ticks) found.ticks;
      as_many = sym (length-map inputs (λ (i : FlatInput). i.kind)) ∙ ap length kinds
          ∙ length-map (node_of p main).inputs (λ (d : Decl). kind_in_program p d.kind);
      flow = λ k lt.
          let f = item_at flows k lt in
          let r = made.each k f.0 f.1 in
          let gives = subst (λ qs. Gives p main (get_or qs k []) r.giver) (sym same_flows) r.gives in
          (r.giver, gives, mapped_at raw_flow flows k f.0 no_raw f.1 ∙ r.item ∙ ap (λ n. raw_giver p n r.giver) (sym same_numbers));
      memory = λ m lt.
          let f = item_at memories m lt in
          let r = kept.each m f.0 f.1 in
          let at = mapped_at (λ (x : FlatMemory). x.place.sites) memories m f.0 [] f.1 ∙ r.at in
          let item = mapped_at raw_memory memories m f.0 no_raw f.1 ∙ r.item ∙ ap (λ n. raw_delay p n r.i r.d) (sym same_numbers) in
          (r.i, r.d, r.is, r.there, at, item);
      asserts = λ i a is there.
          let w = number_at p main g.expanded.now.instances.now given.known.expanded i is in
          subst (λ n. Contains (map raw_tree assertions) (assertion_of p n i a)) (sym same_numbers) (asserted.all w.0 i a w.1 is (w.1, w.2) there);
      asserted = λ k lt.
          let many = length-map assertions raw_tree in
          let r = asserted.only (get_or (map raw_tree assertions) k no_assumption)
          (Contains-get_or (map raw_tree assertions) k no_assumption (omega (arith, lt, many))) in
          (r.0, r.1, r.2, r.3, r.4 ∙ ap (λ n. assertion_of p n r.0 r.1) (sym same_numbers));
    }

    -- with the types of its program
    pub are_kinds : (labels : List (List (List ℕ))) → labels ≡ map (λ d. texts (labels_of d)) p.types → AreKinds p main flows inputs labels
    are_kinds labels label = record {
      flow = λ i x k is there lt at.
          let f = item_at flows k lt in
          slice_get-map (λ (g : FlatFlow). g.kind) flows k ∙ ap (option_map (λ (g : FlatFlow). g.kind)) f.1
          ∙ (made.each k f.0 f.1).kind i x is there (ap (λ qs. get_or qs k []) (sym same_flows) ∙ at);
      input = kinds;
      label = label;
    }

    -- The observer is a Boolean flow, at its place.
    module _ (none : observer_faults p main ≡ []) (observer : ℕ) (number : observer ≡ index_of (sites_of g.sequence.now) (length (node_of p main).inputs ∷ []))
      where
        observer_at : (index_of (sites_of g.sequence.now) (length (node_of p main).inputs ∷ []) < length (sites_of g.sequence.now))
            × (get_or (sites_of g.sequence.now) (index_of (sites_of g.sequence.now) (length (node_of p main).inputs ∷ [])) [] ≡ length (node_of p main).inputs
            ∷ [])
        observer_at =
            index_there (sites_of g.sequence.now) (length (node_of p main).inputs ∷ [])
            (among_from (sites_of g.sequence.now) (length (node_of p main).inputs ∷ []) (given.sequence.flows (length (node_of p main).inputs ∷ [])
            (is_flow (observer_flow p main g.expanded.now.instances.now given.known.expanded none))))

        pub observer_there : get_or (places_of flows) observer [] ≡ length (node_of p main).inputs ∷ []
        observer_there = (λ i. get_or (same_flows i) (number i) []) ∙ observer_at.1

        pub observer_kind : is_of kind.Bool (slice_get (map (λ f. f.kind) flows) observer) ≡ true
        observer_kind =
            let h = observer_flow p main g.expanded.now.instances.now given.known.expanded none in
            let many = ap length (sym same_flows) in
            let size = length-map flows (λ (x : FlatFlow). x.place.sites) in
            let within = observer_at.0 in
            ap (is_of kind.Bool)
            ((are_kinds (map (λ d. texts (labels_of d)) p.types) refl).flow h.instance h.name observer h.of h.within (omega (arith, many, size, within, number))
            (observer_there ∙ h.at) ∙ h.kind) ∙ kind_itself kind.Bool
