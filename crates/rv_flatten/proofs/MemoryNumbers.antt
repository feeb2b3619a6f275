-- The memories by their instances and sites have their numbers.
use Rattle.std.proofs.Common.{◌≡◌, ℕ, ◌+◌, ◌<◌, ◌≤◌, Bool, true, false, ◌&&◌, cond, nat_eq, List, [], ◌∷◌, ◌++◌, map, length, get_or, sym, ◌∙◌, ap, subst, refl}
use Rattle.std.proofs.Common.{arith, Option, Some}
use Rattle.std.proofs.lemmas.Bool.Decides.{Decides-and, Decides-eqb, not_from_Decides}
use Rattle.std.proofs.lemmas.List.{get_or_default, get_or-map, length-map}
use Rattle.std.specs.{Bool.Decides, List.Contains}
use Rattle.rv_tree.specs.{Tree.ProgramTree, Places.Identifier, Places.Sites, Places.index_of, Places.memory_site, Delays.Delay, Delays.node_delays}
use Rattle.rv_types.specs.{Instances.Instance, Instances.IsInstance, Lists.AreRising, Lists.MemoryAt, Lists.memory_at, Lists.delay_place}
use Rattle.rv_instances.specs.{declared.answer.Instance.Instance as Numbered, Expanded.IsExpanded, Layouts.IsNumberOf, Layouts.path_at}
use Rattle.rv_flatten.specs.{declared.kept.Kept.Kept, Kept.kept_memory, Kept.AreKept}
use Rattle.rv_flatten.proofs.KeptMemories.{kept_places}
use Rattle.rv_flat.proofs.TickList.{number_at}
use Rattle.rv_instances.proofs.{FlowPlaces.snoc_parts, ExpandedLaws.path_is, ExpandedLaws.same_number}
use Rattle.rv_base.proofs.Lists.{from_map}

-- a test of two numbers
same_pair : (a b m s : ℕ) → Decides (nat_eq a m && nat_eq b s) ((a ≡ m) × (b ≡ s))
same_pair a b m s = Decides-and (nat_eq a m) (nat_eq b s) (Decides-eqb a m) (Decides-eqb b s)

module _ (instances : List Numbered) (ks : List Kept) where
  abbrev places : List Sites
  places = map (λ (k : Kept). k.place.sites) ks

  -- By their instances and sites the first memories have their numbers.
  abbrev pub AreTold : (ℕ → ℕ → Option ℕ) → ℕ → Type 0
  AreTold told n = (k : Kept) (w : Contains ks k) (s : ℕ) → w.0 < n → k.place.sites ≡ path_at instances k.instance ++ s ∷ []
      → told k.instance s ≡ Some (index_of places k.place.sites)

module _ (p : ProgramTree) (main : Identifier) (instances : List Numbered) (known : IsExpanded p main instances) (ks : List Kept)
    (kept : AreKept p main instances ks) where
  -- a memory stands at the number of its place
  number_is : (k : Kept) (w : Contains ks k) → index_of (places instances ks) k.place.sites ≡ w.0
  number_is k w =
      let long = length-map ks (λ (k : Kept). k.place.sites) in
      let rising = subst AreRising (kept_places ks) kept.list.rising in
      let lt = w.1 in
      let at : get_or (places instances ks) w.0 [] ≡ k.place.sites = get_or-map (λ (k : Kept). k.place.sites) ks w.0 k [] lt
      ∙ ap (λ (k : Kept). k.place.sites) w.2 in
      ap (λ q. index_of (places instances ks) q) (sym at) ∙ number_at (places instances ks) rising w.0 (omega (arith, lt, long))

  -- the site of a memory in its instance
  own_site : (k : Kept) → Contains ks k → (t : ℕ) → ((path : Sites) (s : ℕ) → k.place.sites ≡ path ++ s ∷ [] → t ≡ s)
      → k.place.sites ≡ path_at instances k.instance ++ t ∷ []
  own_site k w t last =
      let e = kept.each k w in
      let path = path_is p main instances known k.instance e.i e.number.1 in
      let site = last e.i.path (memory_site e.i.node e.d.site e.d.operand) e.place in
      e.place ∙ (λ t. sym path t ++ sym site t ∷ [])

  -- one more is told
  pub one_more_told : (n : ℕ) (x : Kept) → n < length ks → x ≡ get_or ks n x → (t : ℕ) → ((path : Sites) (s : ℕ) → x.place.sites ≡ path ++ s ∷ [] → t ≡ s)
      → (old new : ℕ → ℕ → Option ℕ) → ((m s : ℕ) → new m s ≡ cond (nat_eq x.instance m && nat_eq t s) (Some n) (old m s))
      → AreTold instances ks old n → AreTold instances ks new (n + 1)
  one_more_told n x lt is t last old new grown so_far k w s less place = grown k.instance s ∙ tested (nat_eq x.instance k.instance && nat_eq t s) refl
    where
      other : (nat_eq x.instance k.instance && nat_eq t s) ≡ false → w.0 ≡ n → ⊥
      other e at =
          let one : x ≡ k = is ∙ get_or_default ks n x k lt ∙ ap (λ n. get_or ks n k) (sym at) ∙ w.2 in
          not_from_Decides (nat_eq x.instance k.instance && nat_eq t s) (same_pair x.instance t k.instance s) e
          (ap (λ (k : Kept). k.instance) one, last (path_at instances k.instance) s (ap (λ (k : Kept). k.place.sites) one ∙ place))

      tested : (b : Bool) → (nat_eq x.instance k.instance && nat_eq t s) ≡ b
          → cond b (Some n) (old k.instance s) ≡ Some (index_of (places instances ks) k.place.sites)
      tested true e =
          let r = (same_pair x.instance t k.instance s).0 e in
          let at : Contains ks x = (n, lt, sym is) in
          let same : x.place.sites ≡ k.place.sites = own_site x at t last ∙ (λ i. path_at instances (r.0 i) ++ r.1 i ∷ []) ∙ sym place in
          ap (λ j. Some j) (sym (number_is x at) ∙ ap (λ q. index_of (places instances ks) q) same)
      tested false e = let differs = other e in so_far k w s (omega (arith, less, differs)) place

  -- the number of the memory of a `pre` or `current`
  pub number_told : (told : ℕ → ℕ → Option ℕ) (n : ℕ) → length ks ≤ n → AreTold instances ks told n → (m : ℕ) (i : Instance) (d : Delay)
      → IsInstance p main i → IsNumberOf p instances m i → Contains (node_delays i.node) d
      → told m (memory_site i.node d.site d.operand) ≡ Some (index_of (places instances ks) (delay_place i d))
  number_told told n le all m i d inst at w =
      let s = memory_site i.node d.site d.operand in
      let a = from_map kept_memory ks (memory_at p i d) (kept.list.all i d inst tt w) in
      let k = a.0 in let lt = a.1.1 in
      let place : k.place.sites ≡ delay_place i d = ap (λ (x : MemoryAt). x.place) a.2 in
      let e = kept.each k a.1 in
      let parts = snoc_parts e.i.path i.path (memory_site e.i.node e.d.site e.d.operand) s (sym e.place ∙ place) in
      let path : path_at instances k.instance ≡ i.path = path_is p main instances known k.instance e.i e.number.1 ∙ parts.0 in
      let instance : k.instance ≡ m = same_number p main instances known k.instance m e.number.0 at.0 (path ∙ sym (path_is p main instances known m i at.1)) in
      ap (λ m. told m s) (sym instance) ∙ all k a.1 s (omega (arith, lt, le)) (place ∙ ap (λ q. q ++ s ∷ []) (sym path))
      ∙ ap (λ q. Some (index_of (places instances ks) q)) place
