-- The type that is found at a place is that of what stands there, and one is found wherever something stands.
use Rattle.std.proofs.Common.{◌≡◌, ℕ, List, [], ◌∷◌, ◌++◌, map, unwrap_or, refl, sym, ◌∙◌, ap, subst, Option, Some, slice_get, None as Nothing}
use Rattle.std.proofs.lemmas.Option.{none-some, same_Some, slice_get-map, get_or_from_slice_get, unwrap_or-slice_get}
use Rattle.std.specs.{List.Contains, Option.option_map}
use Rattle.rv_tree.specs.{Tree.Tree, Tree.NodeTree, Tree.ProgramTree, Places.Identifier, Places.Sites, Places.flows, Delays.Delay, Delays.node_delays}
use Rattle.rv_types.specs.Instances.{Instance, no_node, node_of, main_instance, IsInstance, is_main, IsNode}
use Rattle.rv_types.specs.{declared.typed.Kind.Kind, Kinds.flow_kinds, Types.kind_of, Scopes.node_scope, Values.operand_kind, WellFormed.AreWell}
use Rattle.rv_types.specs.declared.typed.Kind.TheVariants as kind
use Rattle.rv_meaning.specs.{Accessors.IsKindAt, Accessors.by_flow, Accessors.by_delay, Leading.operand_in_node, Leading.numbered, Leading.callee_at}
use Rattle.rv_meaning.specs.{Leading.led_by, Telling.told, Telling.kind_of_site, Telling.kind_of_node, Telling.kind_at_end}
use Rattle.rv_meaning.proofs.{Acceptable.node_in, Acceptable.typed, NameLemmas.snoc, NameLemmas.none_in, FlowSites.flow_at, Calling.operand_there}
use Rattle.rv_meaning.proofs.{TypedFlows.some_kind, Calling.operand_found, Leads.IsLed, Leads.leads_to, Leads.led_to, Told.told_in_node}

module _ (p : ProgramTree) (main : Identifier) (well : AreWell p) (is_node : IsNode p main) (start : ℕ) (start_is : numbered p.nodes start ≡ node_of p main)
  where
    -- the types of all flows
    abbrev kinds : List (List Kind)
    kinds = map (flow_kinds p) p.nodes

    -- by the node that stands at a number, and by its types
    abbrev by_kinds : NodeTree → ℕ → Option (List Kind) → Option Kind
    by_kinds n s o = elim o as (λ _. Option Kind) [ Nothing ↦ Nothing | Some ks ↦ kind_of_site p kinds n ks s ]

    abbrev by_node : ℕ → ℕ → Option NodeTree → Option Kind
    by_node m s o = elim o as (λ _. Option Kind) [ Nothing ↦ Nothing | Some n ↦ by_kinds n s (slice_get kinds m) ]

    -- in a node that is there
    in_node : (m s : ℕ) (n : NodeTree) → slice_get p.nodes m ≡ Some n → kind_of_node p kinds m s ≡ kind_of_site p kinds n (flow_kinds p n) s
    in_node m s n at = ap (by_node m s) at ∙ ap (by_kinds n s) (slice_get-map (flow_kinds p) p.nodes m ∙ ap (option_map (flow_kinds p)) at)

    module _ (i : Instance) (inst : IsInstance p main i) where
      -- the type of a delay's operand
      operand_typed : (d : Delay) → Contains (node_delays i.node) d → told p kinds i.node (flow_kinds p i.node) d.operand ≡ operand_kind p i.node d.operand
      operand_typed d w = told_in_node p i.node d.operand (operand_kind p i.node d.operand)
          (some_kind (kind_of (node_scope p i.node) d.operand) ((typed p main well is_node i inst).delay d w))

      -- the type at a site by that of a flow there, and else by a delay
      abbrev chosen : ℕ → Option Kind → Option Kind
      chosen s o = elim o as (λ _. Option Kind)
          [ Nothing ↦ option_map (told p kinds i.node (flow_kinds p i.node)) (operand_in_node i.node s) | Some k ↦ Some k ]

      -- the site of a delay
      own_site : (d : Delay) → Contains (node_delays i.node) d → d.site ≡ Some (unwrap_or d.site 0)
      own_site d w = let r = (well.numbered i.node (node_in p main well is_node i inst)).beyond d w in r.1 ∙ ap Some (sym (ap (λ o. unwrap_or o 0) r.1))

      -- what is found in the instance stands there
      site_found : (s : ℕ) (k : Kind) → kind_of_site p kinds i.node (flow_kinds p i.node) s ≡ Some k → IsKindAt p main (i.path ++ s ∷ []) k
      site_found s k e = tested (slice_get (flow_kinds p i.node) s) refl e
        where
          of_operand : (o : Option Tree) → operand_in_node i.node s ≡ o → option_map (told p kinds i.node (flow_kinds p i.node)) o ≡ Some k
              → IsKindAt p main (i.path ++ s ∷ []) k
          of_operand Nothing is e = absurd (none-some k e)
          of_operand (Some t) is e =
              let r = operand_there i.node s t is in
              let kind_is : operand_kind p i.node r.0.operand ≡ k =
              sym (operand_typed r.0 r.1) ∙ ap (told p kinds i.node (flow_kinds p i.node)) r.3 ∙ same_Some (told p kinds i.node (flow_kinds p i.node) t) k e in
              by_delay i r.0 s inst r.1 (own_site r.0 r.1 ∙ ap Some r.2) refl kind_is

          tested : (o : Option Kind) → slice_get (flow_kinds p i.node) s ≡ o → chosen s o ≡ Some k → IsKindAt p main (i.path ++ s ∷ []) k
          tested Nothing is e = of_operand (operand_in_node i.node s) refl e
          tested (Some j) is e =
              let f = flow_at p main well is_node i inst s k (is ∙ e) in
              by_flow i f.name inst f.within (ap (λ s. i.path ++ s ∷ []) f.site) f.kind

    -- what is found at the end of a path stands there
    pub found : (path : Sites) (s : ℕ) (k : Kind) → kind_at_end p kinds start path s ≡ Some k → IsKindAt p main (path ++ s ∷ []) k
    found path s k e = tested (led_by (callee_at p.nodes) start path) refl e
      where
        at_node : (m : ℕ) → IsLed p main (main_instance p main) path m → (o : Option NodeTree) → slice_get p.nodes m ≡ o → kind_of_node p kinds m s ≡ Some k
            → IsKindAt p main (path ++ s ∷ []) k
        at_node m led Nothing at e = absurd (none-some k (sym (ap (by_node m s) at) ∙ e))
        at_node m led (Some n) at e =
            let same : led.instance.node ≡ n = led.node_is ∙ get_or_from_slice_get p.nodes m n no_node at in
            let here : kind_of_site p kinds led.instance.node (flow_kinds p led.instance.node) s ≡ Some k =
            ap (λ n. kind_of_site p kinds n (flow_kinds p n) s) same ∙ sym (in_node m s n at) ∙ e in
            subst (λ q. IsKindAt p main (q ++ s ∷ []) k) led.path_is (site_found led.instance led.is s k here)

        tested : (o : Option ℕ) → led_by (callee_at p.nodes) start path ≡ o
            → elim o as (λ _. Option Kind) [ Nothing ↦ Nothing | Some m ↦ kind_of_node p kinds m s ] ≡ Some k → IsKindAt p main (path ++ s ∷ []) k
        tested Nothing is e = absurd (none-some k e)
        tested (Some m) is e = at_node m (led_to p main path start m (main_instance p main) is_main start_is is) (slice_get p.nodes m) refl e

    -- in an instance whose node has a flow or delay some type is found
    module _ (i : Instance) (inst : IsInstance p main i) (s : ℕ) where
      -- the node of an instance stands at the number to which its path leads
      at_its_end : (i.node ≡ no_node → ⊥) → kind_at_end p kinds start i.path s ≡ kind_of_site p kinds i.node (flow_kinds p i.node) s
      at_its_end some =
          let l = leads_to p main well is_node start start_is i inst in
          ap (λ o. elim o as (λ _. Option Kind) [ Nothing ↦ Nothing | Some m ↦ kind_of_node p kinds m s ]) l.leads
          ∙ tested l.number l.node (slice_get p.nodes l.number) refl
        where
          tested : (m : ℕ) → numbered p.nodes m ≡ i.node → (o : Option NodeTree) → slice_get p.nodes m ≡ o
              → kind_of_node p kinds m s ≡ kind_of_site p kinds i.node (flow_kinds p i.node) s
          tested m is Nothing at = absurd (some (sym is ∙ sym (unwrap_or-slice_get p.nodes m no_node) ∙ ap (λ o. unwrap_or o no_node) at))
          tested m is (Some n) at =
              let same : n ≡ i.node = sym (get_or_from_slice_get p.nodes m n no_node at) ∙ is in
              in_node m s n at ∙ ap (λ n. kind_of_site p kinds n (flow_kinds p n) s) same

      flow_found : (x : Identifier) (k : Kind) → Contains (flows i.node) x → slice_get (flow_kinds p i.node) s ≡ Some k
          → kind_at_end p kinds start i.path s ≡ Nothing → ⊥
      flow_found x k w e none = none-some k (sym none ∙ at_its_end (λ is. none_in x (subst (λ n. Contains (flows n) x) is w)) ∙ ap (chosen i inst s) e)

      delay_found : (d : Delay) → Contains (node_delays i.node) d → d.site ≡ Some s → kind_at_end p kinds start i.path s ≡ Nothing → ⊥
      delay_found d w own none =
          let r = operand_found i.node d w in
          let at : operand_in_node i.node s ≡ Some r.0.operand = ap (λ o. operand_in_node i.node (unwrap_or o 0)) (sym own) ∙ r.1 in
          tested (slice_get (flow_kinds p i.node) s) r.0.operand at (sym (at_its_end (λ is. none_in d (subst (λ n. Contains (node_delays n) d) is w))) ∙ none)
        where
          tested : (o : Option Kind) (t : Tree) → operand_in_node i.node s ≡ Some t → chosen i inst s o ≡ Nothing → ⊥
          tested Nothing t at e = none-some (told p kinds i.node (flow_kinds p i.node) t)
              (sym e ∙ ap (option_map (told p kinds i.node (flow_kinds p i.node))) at)
          tested (Some k) t at e = none-some k (sym e)

    -- where no type is found nothing stands
    pub nothing : (path : Sites) (s : ℕ) (k : Kind) → kind_at_end p kinds start path s ≡ Nothing → IsKindAt p main (path ++ s ∷ []) k → ⊥
    nothing path s k none (by_flow i x inst w is e) =
        let r = snoc i.path path _ s is in
        flow_found i inst s x k w (ap (slice_get (flow_kinds p i.node)) (sym r.1) ∙ e) (ap (λ q. kind_at_end p kinds start q s) r.0 ∙ none)
    nothing path s k none (by_delay i d r inst w own is e) =
        let q = snoc i.path path r s is in delay_found i inst s d w (own ∙ ap Some q.1) (ap (λ q. kind_at_end p kinds start q s) q.0 ∙ none)
