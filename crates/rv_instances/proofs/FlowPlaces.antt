-- The numbered flows of all instances have the places of all flows, in order.
use Rattle.std.proofs.Common.{◌≡◌, ℕ, ◌<◌, ◌≤◌, ◌⊎◌, inl, inr, true, List, [], ◌∷◌, ◌++◌, length, get_or, refl, sym, ◌∙◌, ap, subst, arith}
use Rattle.std.proofs.{lemmas.List.append_assoc, lemmas.List.same_from_push, lemmas.List.get_or_default, lemmas.List.Elements.Contains-get_or}
use Rattle.std.specs.List.{Contains}
use Rattle.rv_tree.specs.{Tree.NodeTree, Tree.ProgramTree, Places.Identifier, Places.Sites, Places.flows, Places.site_of, Places.is_among, Places.index_of}
use Rattle.rv_types.specs.Instances.{calls, Instance, no_node, IsInstance, is_main, is_callee, callee, IsFlow}
use Rattle.rv_types.specs.{Names.name_faults, Needs.IsBefore, WellFormed.AreSited}
use Rattle.rv_instances.specs.AllInstances.{names_of, AreInstances, numbered}
use Rattle.rv_instances.specs.Flowing.{flow_sites, flow_places, place_at, flow_count, all_flows, AreFlowPlaces}
use Rattle.rv_instances.specs.{declared.answer.Instance.Instance as Numbered, declared.flows.Flow.Flow, Expanded.no_instance}
use Rattle.rv_instances.proofs.{FlowTable.of_flows, FlowTable.flows_rise, FlowTable.IsEarlier, LaidFlows.in_flows}
use Rattle.rv_instances.proofs.{Flowing.site_itself, Flowing.site_there, Flowing.instance_node}
use Rattle.rv_instances.proofs.{Lists.length_map, Lists.beside, Known.map_at, Known.number_of_node}
use Rattle.rv_types.proofs.{CallSites.one_call, Members.in_map, Members.stands_at}

pub not_empty : (xs : List ℕ) (x : ℕ) (ys : List ℕ) → [] ≡ xs ++ x ∷ ys → ⊥
not_empty [] x ys e = cc
not_empty (y ∷ xs) x ys e = cc

pub snoc_parts : (xs ys : List ℕ) (x y : ℕ) → xs ++ x ∷ [] ≡ ys ++ y ∷ [] → (xs ≡ ys) × (x ≡ y)
snoc_parts xs ys x y e = same_from_push xs ys x y e

pub snoc_view : (xs : List ℕ) → (xs ≡ []) ⊎ ((ys : List ℕ) × (y : ℕ) × (xs ≡ ys ++ y ∷ []))
snoc_view [] = inl refl
snoc_view (x ∷ xs) = elim (snoc_view xs) [
  | inl none ↦ inr ([], x, ap (λ l. x ∷ l) none)
  | inr v ↦ inr (x ∷ v.0, v.1, ap (λ l. x ∷ l) v.2)
]

-- a flow of one before another, unless the other is a call with a site that is no greater
before_places : (a b : Sites) (s t : ℕ) → IsBefore a b → ((c : ℕ) (rest : List ℕ) → b ≡ a ++ c ∷ rest → s < c) → IsBefore (a ++ s ∷ []) (b ++ t ∷ [])
before_places a [] s t h below = absurd h
before_places [] (y ∷ ys) s t h below = inl (below y ys refl)
before_places (x ∷ xs) (y ∷ ys) s t (inl lt) below = inl lt
before_places (x ∷ xs) (y ∷ ys) s t (inr w) below = inr (w.0, before_places xs ys s t w.1 (λ c rest e. let h = sym w.0 in below c rest (λ i. h i ∷ e i)))

module _ (p : ProgramTree) (main : Identifier) (named : name_faults p ≡ []) (declared : is_among (names_of p) main ≡ true) (sited : AreSited p) where
  -- the call sites from main to an instance tell it
  pub same_instance : (i a : Instance) → IsInstance p main i → IsInstance p main a → i.path ≡ a.path → i ≡ a
  same_instance _ _ is_main is_main e = refl
  same_instance _ _ is_main (is_callee {i = b} c js v) e = absurd (not_empty b.path c.site [] e)
  same_instance _ _ (is_callee {i = j} d is w) is_main e = absurd (not_empty j.path d.site [] (sym e))
  same_instance _ _ (is_callee {i = j} d is w) (is_callee {i = b} c js v) e =
      let s = snoc_parts j.path b.path d.site c.site e in
      let caller = same_instance j b is js s.0 in
      let call : d ≡ c = one_call b.node (sited b.node (instance_node p named main declared b js)) d c
      (subst (λ (i : Instance). Contains (calls i.node) d) caller w) v s.1 in
      λ t. callee p (caller t) (call t)

  -- below an instance stand calls with sites beyond its flows
  below_path : (i a : Instance) (c : ℕ) (rest : List ℕ) → IsInstance p main i → IsInstance p main a → i.path ≡ a.path ++ c ∷ rest → length (flows a.node) ≤ c
  below_path _ a c rest is_main js e = absurd (not_empty a.path c rest e)
  below_path _ a c rest (is_callee {i = j} d is w) js e = elim (snoc_view rest) [
    | inl none ↦
        let s = snoc_parts j.path a.path d.site c (e ∙ ap (λ r. a.path ++ c ∷ r) none) in
        let one = same_instance j a is js s.0 in
        let h = (sited a.node (instance_node p named main declared a js)).beyond d (subst (λ (i : Instance). Contains (calls i.node) d) one w) in
        omega (arith, h, s.1)
    | inr v ↦
        let s = snoc_parts j.path (a.path ++ c ∷ v.0) d.site v.1 (e ∙ ap (λ r. a.path ++ c ∷ r) v.2 ∙ sym (append_assoc a.path (c ∷ v.0) (v.1 ∷ []))) in
        below_path j a c v.0 is js s.0
  ]

  pub numbered_node : (i : Instance) → IsInstance p main i → get_or p.nodes (numbered p i).node no_node ≡ i.node
  numbered_node i is =
      let w = instance_node p named main declared i is in
      let there : get_or p.nodes w.0 no_node ≡ i.node = get_or_default p.nodes w.0 no_node i.node w.1 ∙ w.2 in
      ap (λ k. get_or p.nodes k no_node) (ap (λ (n : NodeTree). index_of (names_of p) n.name.text) (sym there) ∙ number_of_node p named w.0 w.1) ∙ there

  module _ (instances : List Numbered) (are : AreInstances p main instances) where
    abbrev no_flow : Flow
    no_flow = record { instance = 0; site = 0 }

    -- the instance of a number
    known : (j : ℕ) → j < length instances → (i : Instance) × IsInstance p main i × ((get_or instances j no_instance).path ≡ i.path)
        × (flow_count p instances j ≡ length (flows i.node))
    known j lt =
        let w = are.only (get_or instances j no_instance) (Contains-get_or instances j no_instance lt) in (
          w.0,
          w.1,
          ap (λ (x : Numbered). x.path) w.2,
          ap (λ (x : Numbered). length (flows (get_or p.nodes x.node no_node))) w.2 ∙ ap (λ (n : NodeTree). length (flows n)) (numbered_node w.0 w.1),
        )

    flow_is : (f : Flow) → f.instance < length instances → f.site < flow_count p instances f.instance → IsFlow p main (flow_sites instances f)
    flow_is f lt less =
        let w = known f.instance lt in
        let inside : f.site < length (flows w.0.node) = omega (arith, less, w.3) in (
          w.0,
          get_or (flows w.0.node) f.site [],
          w.1,
          Contains-get_or (flows w.0.node) f.site [] inside,
          ap (λ path. path ++ f.site ∷ []) w.2 ∙ ap (λ k. w.0.path ++ k ∷ [])
              (sym (site_itself p named w.0.node (instance_node p named main declared w.0 w.1) f.site inside)),
        )

    flow_there : (q : Sites) → IsFlow p main q → Contains (flow_places instances (all_flows p instances)) q
    flow_there q (i, x, inst, w, is) =
        let v = are.all i inst in
        let at = stands_at instances (numbered p i) no_instance v in
        let many : flow_count p instances v.0 ≡ length (flows i.node) = ap (λ (x : Numbered). length (flows (get_or p.nodes x.node no_node))) at
        ∙ ap (λ (n : NodeTree). length (flows n)) (numbered_node i inst) in
        subst (Contains (flow_places instances (all_flows p instances))) (ap (λ (y : Numbered). y.path ++ site_of i.node x ∷ []) at ∙ sym is)
        (in_map (flow_sites instances) (all_flows p instances) (record { instance = v.0; site = site_of i.node x })
        (in_flows (flow_count p instances) (length instances) v.0 (site_of i.node x) v.1 (omega (arith, (site_there i.node x w).0, many))))

    earlier_before : (f g : Flow) → f.instance < length instances → f.site < flow_count p instances f.instance → g.instance < length instances → IsEarlier f g
        → IsBefore (flow_sites instances f) (flow_sites instances g)
    earlier_before f g lt less within (inr w) =
        subst (λ k. IsBefore (flow_sites instances f) ((get_or instances k no_instance).path ++ g.site ∷ [])) w.0
        (beside (get_or instances f.instance no_instance).path f.site g.site [] [] w.1)
    earlier_before f g lt less within (inl before) =
        let a = known f.instance lt in
        let b = known g.instance within in
        before_places (get_or instances f.instance no_instance).path (get_or instances g.instance no_instance).path
        f.site g.site (are.rising f.instance g.instance no_instance before within)
        (λ c rest e. let h = below_path b.0 a.0 c rest b.1 a.1 (sym b.2 ∙ e ∙ ap (λ path. path ++ c ∷ rest) a.2) in omega (arith, h, less, a.3))

    abbrev all : List Flow
    all = all_flows p instances

    -- the flow with a number
    flow_at : (k : ℕ) → k < length (flow_places instances all) → (k < length all) × ((get_or all k no_flow).instance < length instances)
        × ((get_or all k no_flow).site < flow_count p instances (get_or all k no_flow).instance)
        × (flow_sites instances (get_or all k no_flow) ≡ place_at (flow_places instances all) k)
    flow_at k lt =
        let within : k < length all = omega (arith, length_map (flow_sites instances) all, lt) in
        let of = of_flows (flow_count p instances) (length instances) (get_or all k no_flow) (Contains-get_or all k no_flow within) in
        (within, of.0, of.1, sym (map_at (flow_sites instances) all k [] no_flow within))

    pub are_flow_places : AreFlowPlaces p main (flow_places instances (all_flows p instances))
    are_flow_places = record {
      rising = λ j k less lt.
          let a = flow_at j (omega (arith, less, lt)) in
          let b = flow_at k lt in
          subst (λ q. IsBefore q (place_at (flow_places instances all) k)) a.3 (subst (IsBefore (flow_sites instances (get_or all j no_flow))) b.3
          (earlier_before (get_or all j no_flow) (get_or all k no_flow) a.1 a.2 b.1
          (flows_rise (flow_count p instances) (length instances) j k no_flow less b.0)));
      flows = flow_there;
      only = λ k lt. let a = flow_at k lt in subst (IsFlow p main) a.3 (flow_is (get_or all k no_flow) a.1 a.2);
    }
