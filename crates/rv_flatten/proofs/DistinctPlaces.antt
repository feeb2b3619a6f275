-- The ticks and the memories of a system that is read from its program have different places.
use Rattle.std.proofs.Common.{◌≡◌, Bool, true, false, not, ◌&&◌, ◌||◌, List, [], ◌∷◌, map, get_or, refl, sym, ◌∙◌, ap, subst, arith, Option, Some}
use Rattle.std.proofs.Common.{None as Nothing}
use Rattle.std.proofs.{lemmas.List.get_or_default, lemmas.Simd.map-map}
use Rattle.std.specs.List.{Contains}
use Rattle.rv_tree.specs.{Tree.ProgramTree, Places.Identifier, Places.Sites}
use Rattle.rv_types.specs.{Lists.AreRising, Lists.MemoryAt, Needs.IsBefore}
use Rattle.rv_agreement.specs.Checks.{same_sites, same_flow, is_among, are_distinct}
use Rattle.rv_agreement.specs.{Translation.Numbers, Translation.IsTranslated, Trees.Kept, Trees.System, Trees.memory_places}
use Rattle.rv_flatten.proofs.Apart.{IsApart, apart_told, apart_by, apart_map}
use Rattle.rv_agreement.proofs.Chosen.{flow_told, sites_told}
use Rattle.rv_types.proofs.{Members.at_head, Members.in_tail, PlaceOrders.not_itself}
use Rattle.rv_base.proofs.Lists.{from_map}

-- What is told apart is found to be.
module _ (K : Type 0) (same : K → K → Bool) (tells : (x y : K) → same x y ≡ true → x ≡ y) where
  not_among : (k : K) (ks : List K) → ((j : K) → Contains ks j → k ≡ j → ⊥) → is_among K same k ks ≡ false
  not_among k [] none = refl
  not_among k (j ∷ js) none = by (same j k) refl (not_among k js (λ i w. none i (in_tail j js i w)))
    where
      by : (b : Bool) → same j k ≡ b → is_among K same k js ≡ false → (b || is_among K same k js) ≡ false
      by true e rest = absurd (none j (at_head j js) (sym (tells j k e)))
      by false e rest = rest

  distinct_told : (ks : List K) → IsApart (λ k. k) ks → are_distinct K same ks ≡ true
  distinct_told [] h = refl
  distinct_told (k ∷ ks) h = (λ i. not (not_among k ks (λ j w e. h.0 j w e) i) && are_distinct K same ks) ∙ distinct_told ks h.1

-- places that rise are told apart
rising_apart : (ps : List Sites) → AreRising ps → IsApart (λ (q : Sites). q) ps
rising_apart ps up = apart_told (λ (q : Sites). q) ps (λ i j d lt less same.
    let there : get_or ps i [] ≡ get_or ps j [] = get_or_default ps i [] d (omega (arith, lt, less)) ∙ same ∙ sym (get_or_default ps j [] d less) in
    not_itself (get_or ps j []) (subst (λ (q : Sites). IsBefore q (get_or ps j [])) there (up i j lt less)))

module _ (program : ProgramTree) (main : Identifier) (numbers : Numbers) (s : System) (read : IsTranslated program main numbers s) where
  -- The ticks have different clocks.
  pub distinct_ticks : are_distinct (Option Sites) same_flow s.ticks ≡ true
  distinct_ticks = ap (are_distinct (Option Sites) same_flow) read.tick_places
      ∙ distinct_told (Option Sites) same_flow flow_told (Nothing ∷ map (λ q. Some q) numbers.ticks) (other, rest)
    where
      other : (k : Option Sites) → Contains (map (λ q. Some q) numbers.ticks) k → Nothing ≡ k → ⊥
      other k w e = let r = from_map (λ (q : Sites). Some q) numbers.ticks k w in none_there r.0 (e ∙ sym r.2)
        where
          none_there : (q : Sites) → Nothing ≡ Some q → ⊥
          none_there q e = cc

      rest : IsApart (λ (k : Option Sites). k) (map (λ q. Some q) numbers.ticks)
      rest = apart_map (λ (k : Option Sites). k) (λ (q : Sites). Some q) numbers.ticks
          (apart_by (λ (q : Sites). q) (λ (q : Sites). Some q) numbers.ticks (λ x y v w e. same_place x y e) (rising_apart numbers.ticks read.ticks.rising))
        where
          same_place : (x y : Sites) → Some x ≡ Some y → x ≡ y
          same_place x y e = cc

  -- The memories have different places.
  pub distinct_memories : are_distinct Sites same_sites (memory_places s) ≡ true
  distinct_memories =
      distinct_told Sites same_sites sites_told (memory_places s)
      (subst (λ (l : List Sites). IsApart (λ (q : Sites). q) l) (map-map (λ (m : MemoryAt). m.place) (λ (m : Kept). record { place = m.place; kind = m.kind })
      s.memories)
      (rising_apart (map (λ (m : MemoryAt). m.place) (map (λ (m : Kept). record { place = m.place; kind = m.kind }) s.memories)) read.memories.rising))
