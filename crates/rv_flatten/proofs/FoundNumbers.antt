-- The numbers of flows, ticks and memories, where what was looked at is a list read.
use Rattle.std.proofs.Common.{◌≡◌, ℕ, ◌+◌, ◌<◌, List, [], ◌∷◌, map, length, Some, slice_index_or, refl, sym, ◌∙◌, ap, subst}
use Rattle.std.specs.List.{Contains}
use Rattle.rv_tree.specs.{Tree.ProgramTree, Places.Identifier, Places.Sites, Places.index_of, Places.memory_site, Delays.Delay, Delays.node_delays}
use Rattle.rv_types.specs.{Instances.Instance, Instances.IsInstance, Lists.AreRising, Lists.delay_place}
use Rattle.rv_instances.specs.{declared.answer.Instance.Instance as Numbered, Callees.callee_in, Flowing.place_at, Layouts.IsNumberOf}
use Rattle.rv_flatten.specs.declared.kept.Kept.{Kept}
use Rattle.rv_flat.specs.Facts.{numbers_among}
use Rattle.rv_types.proofs.Members.{at_head, in_tail}

pub ticks_numbered : (places : List Sites) (count : ℕ) (ts taken made : List ℕ) → taken ≡ ts
    → ((qs : List Sites) → length qs ≡ count → AreRising qs → AreRising (map (place_at qs) taken) → ((k : ℕ) → Contains taken k → k < count)
    → (k : ℕ) → k < count → Contains (map (place_at qs) taken) (place_at qs k)
    → slice_index_or made k 0 ≡ index_of (map (place_at qs) taken) (place_at qs k) + 1)
    → count ≡ length places → AreRising places → AreRising (map (place_at places) ts) → ((k : ℕ) → Contains ts k → k < length places)
    → (k : ℕ) → k < length places → Contains (map (place_at places) ts) (place_at places k)
    → slice_index_or made k 0 ≡ index_of (map (place_at places) ts) (place_at places k) + 1
ticks_numbered places count ts taken made same told many rising up within k lt w =
    subst (λ (l : List ℕ). slice_index_or made k 0 ≡ index_of (map (place_at places) l) (place_at places k) + 1) same (told places (sym many) rising
    (subst (λ (l : List ℕ). AreRising (map (place_at places) l)) (sym same) up)
    (λ j v. subst (λ (n : ℕ). j < n) (sym many) (within j (subst (λ (l : List ℕ). Contains l j) same v))) k (subst (λ (n : ℕ). k < n) (sym many) lt)
    (subst (λ (l : List ℕ). Contains (map (place_at places) l) (place_at places k)) (sym same) w))

pub memories_numbered : (p : ProgramTree) (main : Identifier) (instances : List Numbered) (ks taken : List Kept) (table : List ((ℕ × ℕ) × ℕ)) → taken ≡ ks
    → ((m : ℕ) (i : Instance) (d : Delay) → IsInstance p main i → IsNumberOf p instances m i → Contains (node_delays i.node) d
    → callee_in table m (memory_site i.node d.site d.operand) ≡ Some (index_of (map (λ (k : Kept). k.place.sites) taken) (delay_place i d)))
    → (m : ℕ) (i : Instance) (d : Delay) → IsInstance p main i → IsNumberOf p instances m i → Contains (node_delays i.node) d
    → callee_in table m (memory_site i.node d.site d.operand) ≡ Some (index_of (map (λ (k : Kept). k.place.sites) ks) (delay_place i d))
memories_numbered p main instances ks taken table same told m i d is n w =
    told m i d is n w ∙ ap (λ (l : List Kept). Some (index_of (map (λ (k : Kept). k.place.sites) l) (delay_place i d))) same

-- the numbers of the flows of ticks, as they are looked up
pub tick_flows_numbered : (places sequence : List Sites) (flows ts : List ℕ)
    → ((k : ℕ) → k < length places → slice_index_or flows k 0 ≡ index_of sequence (place_at places k))
    → ((k : ℕ) → Contains ts k → k < length places) → map (λ k. slice_index_or flows k 0) ts ≡ numbers_among sequence (map (place_at places) ts)
tick_flows_numbered places sequence flows [] are within = refl
tick_flows_numbered places sequence flows (t ∷ ts) are within =
    let first = are t (within t (at_head t ts)) in
    let rest = tick_flows_numbered places sequence flows ts are (λ k w. within k (in_tail t ts k w)) in
    λ i. first i ∷ rest i
