-- The numbers of the flows of base clocks.
use Rattle.std.proofs.Common.{◌≡◌, ℕ, ◌+◌, ◌<◌, ◌≤◌, ◌^◌, ◌⊎◌, inl, inr, List, [], ◌∷◌, ◌++◌, length, get_or, set, Option, sym, ◌∙◌}
use Rattle.std.proofs.Common.{ap, subst, arith, None as Nothing, unwrap_or}
use Rattle.std.proofs.{lemmas.List.append_assoc, lemmas.List.get_or-set_other, lemmas.List.get_or-set_same, lemmas.Bool.cases_eq}
use Rattle.std.specs.List.{Contains}
use Rattle.rv_tree.specs.{Bounded.most, Tree.Tree, Tree.NodeTree, Tree.ProgramTree, Places.Identifier, Places.flows}
use Rattle.rv_types.specs.Instances.{CallTree, calls, Instance, absolute, clock_of_args, node_of, callee, IsArgument, IsInstance, is_main, is_callee}
use Rattle.rv_types.specs.{declared.typed.Clock.Clock, declared.typed.Clock.TheVariants.Base, declared.typed.Clock.TheVariants.On}
use Rattle.rv_instances.specs.Layouts.{path_at, flows_before, number_of, IsWithin, IsPlaced, IsClockPlaced, IsBaseOf, AreCallees, callee_or_main, all_places}
use Rattle.rv_instances.specs.{declared.answer.Instance.Instance as Numbered, AllInstances.numbered, Expanded.IsExpanded, Expanded.no_instance}
use Rattle.rv_instances.specs.{Flowing.IsKnownClock, Flowing.flow_count}
use Rattle.rv_instances.proofs.ExpandedLaws.{are_paths, instance_at, number_at, node_in, node_is, node_few, path_is, same, same_at}
use Rattle.rv_instances.proofs.FlowPlaces.{not_empty, snoc_parts, snoc_view}
use Rattle.rv_instances.proofs.LaidFlows.{few_before, flow_placed, inputs_among}
use Rattle.rv_instances.proofs.{ArgumentClocks.arguments_clock_known, Chained.caller_before}

module _ (p : ProgramTree) (main : Identifier) (instances : List Numbered) (known : IsExpanded p main instances) where
  -- how many flows an instance has
  pub count_is : (m : ℕ) (i : Instance) → IsInstance p main i → get_or instances m no_instance ≡ numbered p i → flow_count p instances m ≡ length (flows i.node)
  count_is m i is e = ap (λ (n : NodeTree). length (flows n)) (node_is p main instances known m i is e)

  -- numbers of flows are below 2^32
  pub first_few : (m : ℕ) → m < length instances → flows_before (flow_count p instances) m + most < 2 ^ 32
  first_few m lt =
      let h = few_before (flow_count p instances) most m (λ k less. node_few p main instances known k (omega (arith, less, lt))) in
      omega (arith, h, known.few, lt)

  pub clock_within : (m : ℕ) (i : Instance) (k : Clock) → m < length instances → IsInstance p main i → get_or instances m no_instance ≡ numbered p i
      → IsKnownClock i.node k → IsWithin (flows_before (flow_count p instances) m) k
  clock_within m i Base lt is e within = tt
  clock_within m i (On s) lt is e within = omega (arith, first_few m lt, node_few p main instances known m lt, count_is m i is e, within)

  -- a flow of an instance, by its number
  pub site_placed : (m : ℕ) (i : Instance) (s : ℕ) → m < length instances → IsInstance p main i → get_or instances m no_instance ≡ numbered p i
      → s < length (flows i.node) → IsPlaced (all_places p instances) (flows_before (flow_count p instances) m + s) (i.path ++ s ∷ [])
  site_placed m i s lt is e less =
      let at = flow_placed p instances m s lt (omega (arith, less, count_is m i is e)) in
      (at.0, at.1 ∙ ap (λ q. q ++ s ∷ []) (path_is p main instances known m i e))

  -- and the flow of a clock of it
  clock_placed : (m : ℕ) (i : Instance) (b : Option ℕ) (k : Clock) → m < length instances → IsInstance p main i
      → get_or instances m no_instance ≡ numbered p i → IsKnownClock i.node k
      → IsClockPlaced (all_places p instances) b i.base → IsClockPlaced (all_places p instances) (number_of (flows_before (flow_count p instances) m) b k)
      (absolute i k)
  clock_placed m i b Base lt is e within placed = placed
  clock_placed m i b (On s) lt is e within placed = site_placed m i s lt is e within

  module _ (table : List ((ℕ × ℕ) × ℕ)) (callees : AreCallees instances table) where
    -- the number of what a call gives
    pub callee_number : (m : ℕ) (i : Instance) (c : CallTree) → m < length instances → IsInstance p main i → get_or instances m no_instance ≡ numbered p i
        → Contains (calls i.node) c
        → (callee_or_main table m c.site < length instances) × (get_or instances (callee_or_main table m c.site) no_instance ≡ numbered p (callee p i c))
    callee_number m i c lt is e w =
        let k = number_at p main instances known (callee p i c) (is_callee c is w) in
        let told = callees.found m c.site k.0 lt k.1 (path_is p main instances known k.0 (callee p i c) k.2
        ∙ ap (λ q. q ++ c.site ∷ []) (sym (path_is p main instances known m i e))) in
        let is_k : callee_or_main table m c.site ≡ k.0 = ap (λ o. unwrap_or o 0) told in
        (omega (arith, is_k, k.1), ap (λ j. get_or instances j no_instance) is_k ∙ k.2)

    -- a flow of what a call gives, by its number
    pub callee_placed : (m : ℕ) (i : Instance) (c : CallTree) (j : ℕ) → m < length instances → IsInstance p main i
        → get_or instances m no_instance ≡ numbered p i → Contains (calls i.node) c → j < length (flows (node_of p c.name))
        → IsPlaced (all_places p instances) (flows_before (flow_count p instances) (callee_or_main table m c.site) + j) (i.path ++ c.site ∷ j ∷ [])
    callee_placed m i c j lt is e w less =
        let to = callee_number m i c lt is e w in
        let at = site_placed (callee_or_main table m c.site) (callee p i c) j to.0 (is_callee c is w) to.1 less in
        (at.0, at.1 ∙ append_assoc i.path (c.site ∷ []) (j ∷ []))

    -- and the input of an argument
    pub argument_input_placed : (m : ℕ) (i : Instance) (c : CallTree) (j : ℕ) (a : Tree) → m < length instances → IsInstance p main i
        → get_or instances m no_instance ≡ numbered p i → Contains (calls i.node) c → IsArgument c.args j a
        → IsPlaced (all_places p instances) (flows_before (flow_count p instances) (callee_or_main table m c.site) + j) (i.path ++ c.site ∷ j ∷ [])
    argument_input_placed m i c j a lt is e w arg =
        let among = inputs_among (node_of p c.name) in
        callee_placed m i c j lt is e w (omega (arith, (known.well.formed i.node (node_in p main instances known i is)).no_more c j a w arg, among))

    module _ (m : ℕ) (i : Instance) (b : Option ℕ) (lt : m < length instances) (is : IsInstance p main i) (e : get_or instances m no_instance ≡ numbered p i)
        (own : IsClockPlaced (all_places p instances) b i.base) where
      -- one base clock more
      pub base_set : (bases new : List (Option ℕ)) (c : CallTree) (k : ℕ) → length bases ≡ length instances → Contains (calls i.node) c
          → new ≡ set bases (callee_or_main table m c.site) (number_of (flows_before (flow_count p instances) m) b (clock_of_args i.node c.args))
          → (k ≡ callee_or_main table m c.site) ⊎ IsBaseOf p main instances bases k → IsBaseOf p main instances new k
      base_set bases new c k size w is_new which a js f =
          let number = number_of (flows_before (flow_count p instances) m) b (clock_of_args i.node c.args) in
          elim (cases_eq k (callee_or_main table m c.site)) [
            | inl here ↦
                let to = callee_number m i c lt is e w in
                let at : k < length bases = omega (arith, to.0, here, size) in
                let same_one : callee p i c ≡ a = same_at p main instances known k (callee p i c) a (is_callee c is w) js
                (ap (λ j. get_or instances j no_instance) here ∙ to.1) f in
                let value : get_or new k Nothing ≡ number =
                ap (λ l. get_or l k Nothing) (is_new ∙ ap (λ j. set bases j number) (sym here)) ∙ get_or-set_same bases k number Nothing at in
                subst (λ o. IsClockPlaced (all_places p instances) o a.base) (sym value)
                (subst (λ (j : Instance). IsClockPlaced (all_places p instances) number j.base) same_one
                (clock_placed m i b (clock_of_args i.node c.args) lt is e
                (arguments_clock_known p known.named i.node (node_in p main instances known i is) c w) own))
            | inr other ↦ elim which [
              | inl here ↦ absurd (other here)
              | inr before ↦
                  let value : get_or new k Nothing ≡ get_or bases k Nothing =
                  ap (λ l. get_or l k Nothing) is_new ∙ get_or-set_other bases (callee_or_main table m c.site) k number Nothing other in
                  subst (λ o. IsClockPlaced (all_places p instances) o a.base) (sym value) (before a js f)
            ]
          ]

  module _ (m : ℕ) (i : Instance) (is : IsInstance p main i) (e : get_or instances m no_instance ≡ numbered p i) where
    -- what has the path of the instance and one site more is called by it
    pub call_at : (k s : ℕ) → k < length instances → path_at instances k ≡ path_at instances m ++ s ∷ []
        → (c : CallTree) × Contains (calls i.node) c × (c.site ≡ s)
    call_at k s less f = let a = instance_at p main instances known k less in
        found a.0 a.1 (sym (path_is p main instances known k a.0 a.2) ∙ f ∙ ap (λ q. q ++ s ∷ []) (path_is p main instances known m i e))
      where
        found : (a : Instance) → IsInstance p main a → a.path ≡ i.path ++ s ∷ [] → (c : CallTree) × Contains (calls i.node) c × (c.site ≡ s)
        found _ is_main g = absurd (not_empty i.path s [] g)
        found _ (is_callee {i = j} c js w) g =
            let parts = snoc_parts j.path i.path c.site s g in
            (c, subst (λ (a : Instance). Contains (calls a.node) c) (same p main instances known j i js is parts.0) w, parts.1)

  -- the base clock of main has no flow
  pub main_base : (k : ℕ) (bases : List (Option ℕ)) → path_at instances k ≡ [] → get_or bases k Nothing ≡ Nothing → IsBaseOf p main instances bases k
  main_base k bases none value i is e = subst (λ o. IsClockPlaced (all_places p instances) o i.base) (sym value)
      (at i is (sym (path_is p main instances known k i e) ∙ none))
    where
      at : (i : Instance) → IsInstance p main i → i.path ≡ [] → IsClockPlaced (all_places p instances) Nothing i.base
      at _ is_main g = tt
      at _ (is_callee {i = j} c js w) g = absurd (not_empty j.path c.site [] (sym g))

  -- each instance but main has been called before
  pub base_by_then : (bases : List (Option ℕ)) (m t : ℕ) → t < length instances → t ≤ m
      → ((k : ℕ) → path_at instances k ≡ [] → IsBaseOf p main instances bases k)
      → ((j s k : ℕ) → j < m → k < length instances → path_at instances k ≡ path_at instances j ++ s ∷ [] → IsBaseOf p main instances bases k)
      → IsBaseOf p main instances bases t
  base_by_then bases m t lt le none done = elim (snoc_view (path_at instances t)) [
    | inl empty ↦ none t empty
    | inr v ↦
        let j = caller_before instances (are_paths p main instances known) t v.1 v.0 lt v.2 in
        done j.0 v.1 t (omega (arith, j.1, le)) lt (v.2 ∙ ap (λ q. q ++ v.1 ∷ []) (sym j.2))
  ]
