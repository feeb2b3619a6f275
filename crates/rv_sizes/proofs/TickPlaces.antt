-- The places of ticks, counted along calls.
use Rattle.std.proofs.Common.{◌≡◌, ℕ, zero, suc, ◌+◌, ◌<◌, ◌⊎◌, inl, inr, ◌↔◌, Bool, true, false, cond, List, [], ◌∷◌, ◌++◌, map, length, get_or, refl, sym}
use Rattle.std.proofs.Common.{◌∙◌, ap, subst, arith, Option, Some, unwrap_or, length-append, None as Nothing}
use Rattle.std.proofs.{lemmas.List.append_assoc, lemmas.Option.none-some, lemmas.Option.same_Some}
use Rattle.std.proofs.lemmas.List.Elements.{Contains-append_left, Contains-append_right, Contains-append_cases}
use Rattle.std.specs.List.{Contains, flat_map}
use Rattle.rv_tree.specs.{Tree.Tree, Tree.NodeTree, Tree.ProgramTree, Places.Identifier, Places.Sites, Places.is_same}
use Rattle.rv_types.specs.Instances.{CallTree, calls, Instance, absolute, taken, no_node, node_of, callee, unrolled, main_instance}
use Rattle.rv_types.specs.Variables.{total, node_parts, is_arrow, arrow_clocks, ticks}
use Rattle.rv_types.specs.{declared.typed.Clock.Clock, declared.typed.Clock.TheVariants.Base, declared.typed.Clock.TheVariants.On, Clocks.pace}
use Rattle.rv_types.specs.{Clocks.pace_of_all, Kinds.node_among, WellFormed.HasSites, WellFormed.AreSited}
use Rattle.rv_sizes.specs.Ticks.{arrows, has_base, sites_of_clocks, ticking, tick_total}
use Rattle.rv_instances.proofs.Lists.{length_map}
use Rattle.rv_sizes.proofs.TickLists.{Apart, first_in, same_length, apart_append, apart_map, apart_flat_map, different_apart, base_there, there_base, site_is}
use Rattle.rv_sizes.proofs.TickLists.{site_comes, sites_apart}
use Rattle.rv_types.proofs.Members.{cons_cases, in_flat_map, in_map, in_tail, nothing_in, of_flat_map}
use Rattle.rv_types.proofs.DifferentPlaces.{of_different, still_different}
use Rattle.rv_base.proofs.Lists.{from_map, same_next}

-- a path goes on by one site or by more
no_more : (a : Sites) (x y z : ℕ) (r : Sites) → a ++ x ∷ [] ≡ a ++ y ∷ z ∷ r → ⊥
no_more a x y z r e = omega (arith, ap length e, length-append a (x ∷ []), length-append a (y ∷ z ∷ r))

length_flat_map : {X Y : Type 0} (f : X → List Y) (g : X → ℕ) (xs : List X) → ((x : X) → length (f x) ≡ g x) → length (flat_map f xs) ≡ total g xs
length_flat_map f g [] each = refl
length_flat_map f g (x ∷ xs) each = omega (arith, each x, length_flat_map f g xs each, length-append (f x) (flat_map f xs))

-- the calls of a node have different sites
sites_differ : (cs : List CallTree) → ((i j : ℕ) (c : CallTree) → i < j → j < length cs → (get_or cs i c).site ≡ (get_or cs j c).site → ⊥)
    → Apart (map (λ (c : CallTree). c.site) cs)
sites_differ [] apart = tt
sites_differ (c ∷ cs) apart = (
  λ w.
      let v = from_map (λ (c : CallTree). c.site) cs c.site w in
      apart 0 (suc v.1.0) v.0 (omega arith) (omega (arith, v.1.1)) (sym v.2 ∙ ap (λ (d : CallTree). d.site) (sym v.1.2)),
  sites_differ cs (λ i j d less lt. apart (suc i) (suc j) d (omega (arith, less)) (omega (arith, lt))),
)

no_calls : HasSites no_node
no_calls = record { beyond = λ c w. nothing_in c w; apart = λ i j c less lt. absurd (omega (arith, less, lt)) }

module _ (p : ProgramTree) where
  -- a name is that of a node of the program, or of the node without flows
  node_sited : AreSited p → (f : Identifier) → HasSites (node_of p f)
  node_sited sited f = at p.nodes (λ n w. sited n w)
    where
      tested : (b : Bool) (n : NodeTree) (o : Option NodeTree) → HasSites n → HasSites (unwrap_or o no_node) → HasSites (unwrap_or (cond b (Some n) o) no_node)
      tested true n o here more = here
      tested false n o here more = more

      at : (ns : List NodeTree) → ((n : NodeTree) → Contains ns n → HasSites n) → HasSites (unwrap_or (node_among ns f) no_node)
      at [] each = no_calls
      at (n ∷ ns) each = tested (is_same n.name.text f) n (node_among ns f) (each n (first_in n ns n refl)) (at ns (λ m w. each m (in_tail n ns m w)))

  -- the places of the ticks on clocks of an instance's own flows
  abbrev own_places : ℕ → Instance → List Sites
  own_places levels i = map (λ c. i.path ++ c ∷ []) (sites_of_clocks [] (ticking p levels i.node))

  -- the ticks of an instance and of those below it, but for that of the instance's own base clock
  tick_places : ℕ → Instance → List Sites
  tick_places zero i = []
  tick_places (suc levels) i = own_places (suc levels) i ++ flat_map (λ c. tick_places levels (callee p i c)) (calls i.node)

  -- those of the instances that it calls
  abbrev call_places : ℕ → Instance → List Sites
  call_places levels i = flat_map (λ c. tick_places levels (callee p i c)) (calls i.node)

  counted : (levels : ℕ) (i : Instance) → length (tick_places levels i) ≡ tick_total p levels i.node
  unfolding tick_places
  counted zero i = refl
  counted (suc levels) i =
      length-append (own_places (suc levels) i) (call_places levels i)
      ∙ (λ t. length_map (λ c. i.path ++ c ∷ []) (sites_of_clocks [] (ticking p (suc levels) i.node)) t
      + length_flat_map (λ c. tick_places levels (callee p i c)) (λ (c : CallTree). tick_total p levels (node_of p c.name)) (calls i.node)
      (λ c. counted levels (callee p i c)) t)

  own_is : (levels : ℕ) (i : Instance) (q : Sites) → Contains (own_places levels i) q
      → (c : ℕ) × Contains (ticking p levels i.node) (On c) × (i.path ++ c ∷ [] ≡ q)
  own_is levels i q own =
      let v = from_map (λ c. i.path ++ c ∷ []) (sites_of_clocks [] (ticking p levels i.node)) q own in
      (v.0, (site_is (ticking p levels i.node) [] v.0 v.1).0, v.2)

  -- they stand below the instance
  below_path : (levels : ℕ) (i : Instance) (q : Sites) → Contains (tick_places levels i) q → (x : ℕ) × (rest : Sites) × (q ≡ i.path ++ x ∷ rest)
  unfolding tick_places
  below_path zero i q w = nothing_in q w
  below_path (suc levels) i q w = elim (Contains-append_cases (own_places (suc levels) i) (call_places levels i) q w) [
    | inl own ↦ let v = own_is (suc levels) i q own in (v.0, [], sym v.2)
    | inr rest ↦
        let v = of_flat_map (λ c. tick_places levels (callee p i c)) (calls i.node) q rest in
        let b = below_path levels (callee p i v.0) q v.2 in
        (v.0.site, b.0 ∷ b.1, b.2 ∙ append_assoc i.path (v.0.site ∷ []) (b.0 ∷ b.1))
  ]

  -- those of a callee stand below its site
  below_call : (levels : ℕ) (i : Instance) (c : CallTree) (q : Sites) → Contains (tick_places levels (callee p i c)) q
      → (x : ℕ) × (rest : Sites) × (q ≡ i.path ++ c.site ∷ x ∷ rest)
  below_call levels i c q w = let b = below_path levels (callee p i c) q w in (b.0, b.1, b.2 ∙ append_assoc i.path (c.site ∷ []) (b.0 ∷ b.1))

  all_apart : AreSited p → (levels : ℕ) (i : Instance) → HasSites i.node → Apart (tick_places levels i)
  unfolding tick_places
  all_apart sited zero i has = tt
  all_apart sited (suc levels) i has =
      apart_append (own_places (suc levels) i) (call_places levels i)
      (apart_map (λ c. i.path ++ c ∷ []) (λ x y e. same_next i.path x y [] [] e) (sites_of_clocks [] (ticking p (suc levels) i.node))
      (sites_apart (ticking p (suc levels) i.node) []))
      (apart_flat_map (λ c. tick_places levels (callee p i c)) (λ (c : CallTree). c.site) (calls i.node) (sites_differ (calls i.node) has.apart)
      (λ c w. all_apart sited levels (callee p i c) (node_sited sited c.name))
      (λ c d q w v in_c in_d.
      let a = below_call levels i c q in_c in
      let b = below_call levels i d q in_d in
      same_next i.path c.site d.site (a.0 ∷ a.1) (b.0 ∷ b.1) (sym a.2 ∙ b.2)))
      (λ q own rest.
      let v = own_is (suc levels) i q own in
      let u = of_flat_map (λ c. tick_places levels (callee p i c)) (calls i.node) q rest in
      let b = below_call levels i u.0 q u.2 in
      no_more i.path v.0 u.0.site b.0 b.1 (v.2 ∙ b.2))

  -- The clocks on which `->` stand.

  -- a place is that of the flow of one of these clocks
  abbrev Held : Instance → List Clock → Sites → Type 0
  Held i ks q = (k : Clock) × Contains ks k × (absolute i k ≡ Some q)

  -- the clocks of `->` have places where they are not main's base clock
  arrow_held : (i : Instance) (es : List Tree) (q : Sites) → Contains (arrow_clocks i es) q ↔ Held i (arrows i.node es) q
  arrow_held i [] q = (λ w. nothing_in q w, λ h. nothing_in h.0 h.1)
  arrow_held i (e ∷ es) q = tested (is_arrow e) (taken Base (pace i.node e)) (absolute i (taken Base (pace i.node e))) refl (arrow_held i es q)
    where
      tested : (b : Bool) (k : Clock) (o : Option Sites) → absolute i k ≡ o → Contains (arrow_clocks i es) q ↔ Held i (arrows i.node es) q
          → Contains (cond b (elim o as (λ _. List Sites) [ Nothing ↦ [] | Some p ↦ p ∷ [] ]) [] ++ arrow_clocks i es) q
          ↔ Held i (cond b (k ∷ []) [] ++ arrows i.node es) q
      tested true k Nothing is more = (
        λ w. let v = more.0 w in (v.0, in_tail k (arrows i.node es) v.0 v.1, v.2),
        λ h. elim (cons_cases k (arrows i.node es) h.0 h.1) [
          | inl same ↦ absurd (none-some q (sym is ∙ ap (absolute i) same ∙ h.2))
          | inr rest ↦ more.1 (h.0, rest, h.2)
        ],
      )
      tested true k (Some r) is more = (
        λ w. elim (cons_cases r (arrow_clocks i es) q w) [
          | inl same ↦ (k, first_in k (arrows i.node es) k refl, is ∙ ap Some same)
          | inr rest ↦ let v = more.0 rest in (v.0, in_tail k (arrows i.node es) v.0 v.1, v.2)
        ],
        λ h. elim (cons_cases k (arrows i.node es) h.0 h.1) [
          | inl same ↦ first_in r (arrow_clocks i es) q (same_Some r q (sym is ∙ ap (absolute i) same ∙ h.2))
          | inr rest ↦ in_tail r (arrow_clocks i es) q (more.1 (h.0, rest, h.2))
        ],
      )
      tested false k o is more = more

  -- A call hands its clock on where its node has a tick on the base clock.
  handed : ℕ → NodeTree → CallTree → List Clock
  handed levels n c = cond (has_base (ticking p levels (node_of p c.name))) (taken Base (pace_of_all n c.args) ∷ []) []

  handed_is : (levels : ℕ) (n : NodeTree) (c : CallTree) (k : Clock)
      → Contains (handed levels n c) k ↔ (Contains (ticking p levels (node_of p c.name)) Base × (taken Base (pace_of_all n c.args) ≡ k))
  unfolding handed
  handed_is levels n c k = at (has_base (ticking p levels (node_of p c.name))) refl
    where
      at : (b : Bool) → has_base (ticking p levels (node_of p c.name)) ≡ b → Contains (cond b (taken Base (pace_of_all n c.args) ∷ []) []) k
          ↔ (Contains (ticking p levels (node_of p c.name)) Base × (taken Base (pace_of_all n c.args) ≡ k))
      at true e = (
        λ w. elim (cons_cases (taken Base (pace_of_all n c.args)) [] k w)
            [ inl same ↦ (base_there (ticking p levels (node_of p c.name)) e, same) | inr rest ↦ nothing_in k rest ],
        λ h. first_in (taken Base (pace_of_all n c.args)) [] k h.1,
      )
      at false e = (λ w. nothing_in k w, λ h. let there = there_base (ticking p levels (node_of p c.name)) h.0 in cc)

  -- the places of all clocks on which `->` stand in an instance, and in those below it
  abbrev arrows_at : Instance → List Sites
  arrows_at j = arrow_clocks j (node_parts j.node)

  abbrev instances_below : ℕ → Instance → List Instance
  instances_below levels i = flat_map (λ (c : CallTree). unrolled p levels (callee p i c)) (calls i.node)

  raw : ℕ → Instance → List Sites
  raw levels i = flat_map (λ (j : Instance). arrows_at j) (unrolled p levels i)

  -- a tick of a callee
  abbrev Below : ℕ → Instance → Sites → Type 0
  Below zero i q = ⊥
  Below (suc levels) i q = (c : CallTree) × Contains (calls i.node) c × Contains (tick_places levels (callee p i c)) q

  -- a place of a tick is that of a clock of the instance, or stands below
  placed : (levels : ℕ) (i : Instance) (q : Sites) → Contains (tick_places levels i) q → Held i (ticking p levels i.node) q ⊎ Below levels i q
  unfolding tick_places
  placed zero i q w = nothing_in q w
  placed (suc levels) i q w = elim (Contains-append_cases (own_places (suc levels) i) (call_places levels i) q w) [
    | inl own ↦ let v = own_is (suc levels) i q own in inl (On v.0, v.1, ap Some v.2)
    | inr rest ↦ inr (of_flat_map (λ c. tick_places levels (callee p i c)) (calls i.node) q rest)
  ]

  -- and back
  own_placed : (levels : ℕ) (i : Instance) (c : ℕ) → Contains (ticking p levels i.node) (On c) → Contains (tick_places levels i) (i.path ++ c ∷ [])
  unfolding tick_places
  own_placed zero i c w = nothing_in (On c) w
  own_placed (suc levels) i c w =
      Contains-append_left (own_places (suc levels) i) (call_places levels i) (i.path ++ c ∷ []) (in_map (λ c. i.path ++ c ∷ [])
      (sites_of_clocks [] (ticking p (suc levels) i.node)) c (site_comes (ticking p (suc levels) i.node) [] c w refl))

  below_placed : (levels : ℕ) (i : Instance) (q : Sites) → Below levels i q → Contains (tick_places levels i) q
  unfolding tick_places
  below_placed zero i q b = absurd b
  below_placed (suc levels) i q b = Contains-append_right (own_places (suc levels) i) (call_places levels i) q
      (in_flat_map (λ c. tick_places levels (callee p i c)) (calls i.node) b.0 q b.1 b.2)

  -- where a `->` stands, the flow of its clock is that of a clock of the instance or a tick below it
  raw_is : (levels : ℕ) (i : Instance) (q : Sites) → Contains (raw levels i) q → Held i (ticking p levels i.node) q ⊎ Below levels i q
  unfolding raw handed
  raw_is zero i q w = nothing_in q w
  raw_is (suc levels) i q w = elim (Contains-append_cases (arrows_at i) (flat_map (λ (j : Instance). arrows_at j) (instances_below levels i)) q w) [
    | inl own ↦
        let h = (arrow_held i (node_parts i.node) q).0 own in
        inl (h.0, Contains-append_left (arrows i.node (node_parts i.node)) (flat_map (handed levels i.node) (calls i.node)) h.0 h.1, h.2)
    | inr rest ↦
        let v = of_flat_map (λ (j : Instance). arrows_at j) (instances_below levels i) q rest in
        let u = of_flat_map (λ (c : CallTree). unrolled p levels (callee p i c)) (calls i.node) v.0 v.1 in
        of_call u.0 u.1
        (raw_is levels (callee p i u.0) q (in_flat_map (λ (j : Instance). arrows_at j) (unrolled p levels (callee p i u.0)) v.0 q u.2 v.2))
  ]
    where
      of_call : (c : CallTree) → Contains (calls i.node) c → Held (callee p i c) (ticking p levels (node_of p c.name)) q ⊎ Below levels (callee p i c) q
          → Held i (ticking p (suc levels) i.node) q ⊎ Below (suc levels) i q
      of_call c w (inl (Base, on, is)) =
          let clock = taken Base (pace_of_all i.node c.args) in
          let there = in_flat_map (handed levels i.node) (calls i.node) c clock w ((handed_is levels i.node c clock).1 (on, refl)) in
          inl (clock, Contains-append_right (arrows i.node (node_parts i.node)) (flat_map (handed levels i.node) (calls i.node)) clock there, is)
      of_call c w (inl (On d, on, is)) =
          let same = same_Some ((callee p i c).path ++ d ∷ []) q is in
          inr (c, w, subst (Contains (tick_places levels (callee p i c))) same (own_placed levels (callee p i c) d on))
      of_call c w (inr b) = inr (c, w, below_placed levels (callee p i c) q b)

  -- what stands in a callee stands below the instance
  in_call : (levels : ℕ) (i : Instance) (c : CallTree) (q : Sites) → Contains (calls i.node) c → Contains (raw levels (callee p i c)) q
      → Contains (raw (suc levels) i) q
  unfolding raw
  in_call levels i c q w v =
      let u = of_flat_map (λ (j : Instance). arrows_at j) (unrolled p levels (callee p i c)) q v in
      Contains-append_right (arrows_at i) (flat_map (λ (j : Instance). arrows_at j) (instances_below levels i)) q
      (in_flat_map (λ (j : Instance). arrows_at j) (instances_below levels i) u.0 q
      (in_flat_map (λ (c : CallTree). unrolled p levels (callee p i c)) (calls i.node) c u.0 w u.1) u.2)

  is_raw : (levels : ℕ) (i : Instance) (q : Sites) → Held i (ticking p levels i.node) q ⊎ Below levels i q → Contains (raw levels i) q
  unfolding raw handed
  is_raw zero i q (inl h) = nothing_in h.0 h.1
  is_raw zero i q (inr b) = absurd b
  is_raw (suc levels) i q (inl h) =
      elim (Contains-append_cases (arrows i.node (node_parts i.node)) (flat_map (handed levels i.node) (calls i.node)) h.0 h.1) [
        | inl own ↦ Contains-append_left (arrows_at i) (flat_map (λ (j : Instance). arrows_at j) (instances_below levels i)) q
            ((arrow_held i (node_parts i.node) q).1 (h.0, own, h.2))
        | inr rest ↦
            let v = of_flat_map (handed levels i.node) (calls i.node) h.0 rest in
            let u = (handed_is levels i.node v.0 h.0).0 v.2 in
            in_call levels i v.0 q v.1 (is_raw levels (callee p i v.0) q (inl (Base, u.0, ap (absolute i) u.1 ∙ h.2)))
      ]
  is_raw (suc levels) i q (inr b) = in_call levels i b.0 q b.1 (is_raw levels (callee p i b.0) q (placed levels (callee p i b.0) q b.2))

  -- main's own base clock has no flow
  main_held : (main : Identifier) (levels : ℕ) (q : Sites)
      → Held (main_instance p main) (ticking p levels (node_of p main)) q ⊎ Below levels (main_instance p main) q
      → Contains (tick_places levels (main_instance p main)) q
  main_held main levels q (inl (Base, w, is)) = absurd (none-some q is)
  main_held main levels q (inl (On c, w, is)) =
      subst (Contains (tick_places levels (main_instance p main))) (same_Some (c ∷ []) q is) (own_placed levels (main_instance p main) c w)
  main_held main levels q (inr b) = below_placed levels (main_instance p main) q b

  -- the ticks of a program are those of its nodes, summed along calls
  pub ticks_counted : AreSited p → (main : Identifier) → length (ticks p main) ≡ tick_total p (length p.nodes) (node_of p main)
  unfolding raw
  ticks_counted sited main =
      let levels = length p.nodes in
      let i = main_instance p main in
      same_length (ticks p main) (tick_places levels i) (different_apart (raw levels i)) (all_apart sited levels i (node_sited sited main))
      (λ q w. main_held main levels q (raw_is levels i q (of_different (raw levels i) q w)))
      (λ q w. still_different (raw levels i) q (is_raw levels i q (placed levels i q w)))
      ∙ counted levels i
