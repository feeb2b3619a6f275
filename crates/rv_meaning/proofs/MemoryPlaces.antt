-- Places that are found along paths, and then sorted, are those of the memories of the instances with these paths.
use Rattle.std.proofs.Common.{◌≡◌, ℕ, List, [], ◌∷◌, ◌++◌, refl, sym, ◌∙◌, ap, subst, Option, Some, get_or, inl, inr, None as Nothing}
use Rattle.std.specs.List.{Contains, flat_map}
use Rattle.rv_tree.specs.Tree.{Node, Named, ProgramTree}
use Rattle.rv_tree.specs.{Places.Identifier, Places.Sites, Places.memory_site, Delays.Delay, Delays.node_delays}
use Rattle.rv_types.specs.{Instances.Instance, Instances.node_of, Instances.IsInstance, Instances.IsNode, Lists.AreRising, Lists.delay_place, Lists.MemoryAt}
use Rattle.rv_types.specs.{Lists.memory_at, Lists.memory_places, Values.operand_kind, WellFormed.AreWell}
use Rattle.rv_meaning.specs.{Accessors.ArePaths, Accessors.IsOnePath, Accessors.AreMemoryPlaces, Leading.numbered, Leading.callee_at, Leading.led_by}
use Rattle.rv_meaning.specs.{Remembered.AreSites, Remembered.sites_at, Remembered.places_at}
use Rattle.rv_meaning.proofs.States.{same_memory}
use Rattle.rv_meaning.proofs.{Acceptable.node_in, NameLemmas.snoc, NameLemmas.none_in, Defined.same_instance, Leads.leads_to, Leads.led_alike}
use Rattle.rv_types.proofs.Members.{at_head, cons_cases, in_flat_map, in_map, in_tail, of_flat_map}
use Rattle.rv_base.proofs.Lists.{from_map}

module _ (p : ProgramTree) (main : Identifier) (well : AreWell p) (is_node : IsNode p main) (start : ℕ) (start_is : numbered p.nodes start ≡ node_of p main)
    (paths : List Sites) (are_paths : ArePaths p main paths) (next : ℕ → ℕ → Option ℕ) (alike : (k s : ℕ) → next k s ≡ callee_at p.nodes k s)
    (sites : List (List ℕ)) (are_sites : (k : ℕ) → AreSites (numbered p.nodes k) (get_or sites k [])) where
  -- the sites that are found for an instance are those of its memories
  sites_of_instance : (i : Instance) → IsInstance p main i → AreSites i.node (sites_at next sites start i.path)
  sites_of_instance i inst =
      let l = leads_to p main well is_node start start_is i inst in
      let led : led_by next start i.path ≡ Some l.number = led_alike next (callee_at p.nodes) alike i.path start ∙ l.leads in
      subst (λ s. AreSites i.node s) (sym (ap (λ o. elim o as (λ _. List ℕ) [ Nothing ↦ [] | Some k ↦ get_or sites k [] ]) led))
      (subst (λ n. AreSites n (get_or sites l.number [])) l.node (are_sites l.number))

  -- A memory at a place.
  pub record IsAt (q : Sites) : Type 0 where
    pub instance : Instance
    pub delay : Delay
    pub is : IsInstance p main instance
    pub taken : IsOnePath paths instance
    pub within : Contains (node_delays instance.node) delay
    pub place_is : q ≡ delay_place instance delay

  -- a site after a path is the place of a memory of the site in the instance with the path
  found_at : (q path : Sites) (s : ℕ) (i : Instance) (d : Delay) → path ++ s ∷ [] ≡ q → i.path ≡ path → memory_site i.node d.site d.operand ≡ s
      → q ≡ delay_place i d
  found_at q path s i d e f g = sym e ∙ (λ j. sym f j ++ sym g j ∷ [])

  -- what is found is the place of a memory
  only_memories : (q : Sites) → Contains (flat_map (places_at next sites start) paths) q → IsAt q
  only_memories q w =
      let r = of_flat_map (places_at next sites start) paths q w in
      let a = are_paths r.0 r.1 in
      let s = from_map (λ s. r.0 ++ s ∷ []) (sites_at next sites start r.0) q r.2 in
      let here : Contains (sites_at next sites start a.0.path) s.0 = subst (λ path. Contains (sites_at next sites start path) s.0) (sym a.2) s.1 in
      let d = from_map (λ (d : Delay). memory_site a.0.node d.site d.operand) (node_delays a.0.node) s.0 ((sites_of_instance a.0 a.1).only s.0 here) in
      record {
        instance = a.0;
        delay = d.0;
        is = a.1;
        taken = subst (λ path. Contains paths path) (sym a.2) r.1;
        within = d.1;
        place_is = found_at q r.0 s.0 a.0 d.0 s.2 a.2 d.2;
      }

  -- and that of each memory is found
  all_memories : (i : Instance) (d : Delay) → IsInstance p main i → IsOnePath paths i → Contains (node_delays i.node) d
      → Contains (flat_map (places_at next sites start) paths) (delay_place i d)
  all_memories i d inst taken w =
      let s = memory_site i.node d.site d.operand in
      let there : Contains (sites_at next sites start i.path) s = (sites_of_instance i inst).all s
      (in_map (λ (d : Delay). memory_site i.node d.site d.operand) (node_delays i.node) d w) in
      in_flat_map (places_at next sites start) paths i.path (delay_place i d) taken (in_map (λ s. i.path ++ s ∷ []) (sites_at next sites start i.path) s there)

  -- the memories at some places
  listed : (qs : List Sites) → ((q : Sites) → Contains qs q → IsAt q) → List MemoryAt
  listed [] at = []
  listed (q ∷ qs) at = let here = at q (at_head q qs) in memory_at p here.instance here.delay ∷ listed qs (λ r w. at r (in_tail q qs r w))

  -- have these places
  listed_places : (qs : List Sites) (at : (q : Sites) → Contains qs q → IsAt q) → memory_places (listed qs at) ≡ qs
  unfolding listed
  listed_places [] at = refl
  listed_places (q ∷ qs) at = λ j. sym (at q (at_head q qs)).place_is j ∷ listed_places qs (λ r w. at r (in_tail q qs r w)) j

  -- A memory of an instance with one of the paths.
  abbrev IsMemory : MemoryAt → Type 0
  IsMemory m = (i : Instance) × (d : Delay) × IsInstance p main i × IsOnePath paths i × Contains (node_delays i.node) d × (m ≡ memory_at p i d)

  listed_only : (qs : List Sites) (at : (q : Sites) → Contains qs q → IsAt q) (m : MemoryAt) → Contains (listed qs at) m → IsMemory m
  unfolding listed
  listed_only [] at m w = absurd (none_in m w)
  listed_only (q ∷ qs) at m w =
      let here = at q (at_head q qs) in
      elim (cons_cases (memory_at p here.instance here.delay) (listed qs (λ r w. at r (in_tail q qs r w))) m w) [
        | inl same ↦ (here.instance, here.delay, here.is, here.taken, here.within, sym same)
        | inr later ↦ listed_only qs (λ r w. at r (in_tail q qs r w)) m later
      ]

  -- memories with one place are one
  one_memory : (i j : Instance) (d e : Delay) → IsInstance p main i → IsInstance p main j → Contains (node_delays i.node) d → Contains (node_delays j.node) e
      → delay_place i d ≡ delay_place j e → memory_at p i d ≡ memory_at p j e
  one_memory i j d e a b w v same =
      let r = snoc i.path j.path (memory_site i.node d.site d.operand) (memory_site j.node e.site e.operand) same in
      let one = same_instance p main well is_node i j a b r.0 in
      let within : Contains (node_delays j.node) d = subst (λ (i : Instance). Contains (node_delays i.node) d) one w in
      let site : memory_site j.node d.site d.operand ≡ memory_site j.node e.site e.operand = ap (λ (i : Instance). memory_site i.node d.site d.operand)
      (sym one) ∙ r.1 in
      let kind = same_memory j.node (well.numbered j.node (node_in p main well is_node j b)) (λ d. operand_kind p j.node d.operand)
      (λ x s. operand_kind p j.node (Node 0 Nothing (Named x))) (λ d x is. ap (operand_kind p j.node) is.2) d e within v site in
      ap (λ (i : Instance). memory_at p i d) one ∙ (λ k. record { place = j.path ++ site k ∷ []; kind = kind k })

  -- so places in order, which are those that are found, are those of the memories
  pub are_memory_places : (qs : List Sites) → AreRising qs
      → ((q : Sites) → Contains (flat_map (places_at next sites start) paths) q → Contains qs q)
      → ((q : Sites) → Contains qs q → Contains (flat_map (places_at next sites start) paths) q)
      → AreMemoryPlaces p main paths qs
  are_memory_places qs up all only =
      let at = λ (q : Sites) (w : Contains qs q). only_memories q (only q w) in
      let ms = listed qs at in
      let places = listed_places qs at in (
        ms,
        record {
          rising = subst AreRising (sym places) up;
          all = λ i d inst taken w.
              let there = subst (λ l. Contains l (delay_place i d)) (sym places) (all (delay_place i d) (all_memories i d inst taken w)) in
              let m = from_map (λ (m : MemoryAt). m.place) ms (delay_place i d) there in
              let k = listed_only qs at m.0 m.1 in
              let same : delay_place k.0 k.1 ≡ delay_place i d = sym (ap (λ (m : MemoryAt). m.place) k.5) ∙ m.2 in
              subst (λ (m : MemoryAt). Contains ms m) (k.5 ∙ one_memory k.0 i k.1 d k.2 inst k.4 w same) m.1;
          only = λ m w. listed_only qs at m w;
        },
        sym places,
      )
