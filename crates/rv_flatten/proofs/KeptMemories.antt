-- What the `pre` and `current` of all instances read, sorted by places, are the memories of the program.
use Rattle.std.proofs.Common.{◌≡◌, ℕ, List, [], ◌∷◌, map, length, get_or, refl, sym, ◌∙◌, ap, subst, None as Nothing}
use Rattle.std.specs.List.{Contains}
use Rattle.rv_tree.specs.{Tree.Node, Tree.Named, Tree.ProgramTree, Places.Identifier, Delays.Delay, Delays.node_delays}
use Rattle.rv_types.specs.Lists.{AreRising, MemoryAt, memory_at, memory_places, delay_place}
use Rattle.rv_types.specs.{declared.typed.Kind.Kind, Instances.Instance, Instances.no_node, Instances.IsInstance, Scopes.node_scope, Values.operand_kind}
use Rattle.rv_instances.specs.Expanded.{IsExpanded, no_instance}
use Rattle.rv_instances.specs.{declared.answer.Instance.Instance as Numbered, AllInstances.numbered, Layouts.IsNumberOf}
use Rattle.rv_flatten.specs.Remembered.{read_by, reads_in, KeptAt, kept_seen, kept_at, kept_in}
use Rattle.rv_flatten.specs.{declared.kept.Kept.Kept, Kept.kept_memory, Kept.AreKept, Kept.IsKept, NodeReaders.lists_to, NodeReaders.AreSortedBy}
use Rattle.rv_flatten.proofs.{InstanceNumbers.in_lists, InstanceNumbers.from_lists, InstanceNumbers.made_of, InstanceNumbers.is_node, OnePlace.one_of_place}
use Rattle.rv_types.proofs.Members.{in_map}
use Rattle.rv_base.proofs.Lists.{from_map}
use Rattle.rv_instances.proofs.ExpandedLaws.{instance_at, number_at, path_is, node_is}

-- the places of memories, as they are found
pub kept_places : (ks : List Kept) → memory_places (map kept_memory ks) ≡ map (λ (k : Kept). k.place.sites) ks
kept_places [] = refl
kept_places (k ∷ ks) = ap (λ l. k.place.sites ∷ l) (kept_places ks)

module _ (p : ProgramTree) (main : Identifier) (instances : List Numbered) (known : IsExpanded p main instances) where
  -- memories with one place are one
  one_memory : (i j : Instance) (d e : Delay) → IsInstance p main i → IsInstance p main j → Contains (node_delays i.node) d → Contains (node_delays j.node) e
      → delay_place i d ≡ delay_place j e → memory_at p i d ≡ memory_at p j e
  one_memory i j d e a b w v same =
      let kind = one_of_place p main known.well (is_node p main instances known) Kind (λ i d. operand_kind p i.node d.operand)
      (λ i x. operand_kind p i.node (Node 0 Nothing (Named x))) (λ i d x is. ap (operand_kind p i.node) is.2) i j d e a b w v same in
      λ k. record { place = same k; kind = kind k }

  -- what an instance reads
  abbrev own : ℕ → List KeptAt
  own = kept_in (map (reads_in p) p.nodes) instances

  own_is : (m : ℕ) (i : Instance) → IsInstance p main i → get_or instances m no_instance ≡ numbered p i → own m ≡ map (kept_at i.path m) (reads_in p i.node)
  own_is m i is e =
      let node = made_of (reads_in p) p.nodes (get_or instances m no_instance).node no_node ∙ ap (reads_in p) (node_is p main instances known m i is e) in
      let path = path_is p main instances known m i e in
      λ t. map (kept_at (path t) m) (node t)

  module _ (found : List Kept) (is : map kept_seen found ≡ lists_to own (length instances)) where
    -- a memory is read where it says, and is that memory of the instance
    seen_there : (k : Kept) → Contains found k → (s : IsKept p main instances k) × (kept_memory k ≡ memory_at p s.i s.d)
    seen_there k w =
        let all = subst (λ (l : List KeptAt). Contains l (kept_seen k)) is (in_map kept_seen found k w) in
        let a = from_lists own (length instances) (kept_seen k) all in
        let b = instance_at p main instances known a.0 a.1 in
        let here = subst (λ (l : List KeptAt). Contains l (kept_seen k)) (own_is a.0 b.0 b.1 b.2) a.2 in
        let r = from_map (kept_at b.0.path a.0) (reads_in p b.0.node) (kept_seen k) here in
        let d = from_map (read_by b.0.node (node_scope p b.0.node)) (node_delays b.0.node) r.0 r.1 in
        let seen : kept_seen k ≡ kept_at b.0.path a.0 (read_by b.0.node (node_scope p b.0.node) d.0) = sym (ap (kept_at b.0.path a.0) d.2 ∙ r.2) in (
          record {
            i = b.0;
            d = d.0;
            is = b.1;
            number = subst (λ m. IsNumberOf p instances m b.0) (ap (λ (x : KeptAt). x.instance) (sym seen)) (a.1, b.2);
            there = d.1;
            operand = ap (λ (x : KeptAt). x.operand) seen;
            clock = ap (λ (x : KeptAt). x.clock) seen;
            place = ap (λ (x : KeptAt). x.place) seen;
          },
          ap (λ (x : KeptAt). record { place = x.place; kind = x.kind }) seen,
        )

    all_seen : (i : Instance) (d : Delay) → IsInstance p main i → Contains (node_delays i.node) d
        → (k : Kept) × Contains found k × (k.place.sites ≡ delay_place i d)
    all_seen i d inst w =
        let n = number_at p main instances known i inst in let r = read_by i.node (node_scope p i.node) d in let x = kept_at i.path n.0 r in
        let here = in_map (kept_at i.path n.0) (reads_in p i.node) r (in_map (read_by i.node (node_scope p i.node)) (node_delays i.node) d w) in
        let own_here = subst (λ (l : List KeptAt). Contains l x) (sym (own_is n.0 i inst n.2)) here in
        let all = in_lists own (length instances) n.0 x n.1 own_here in
        let k = from_map kept_seen found x (subst (λ (l : List KeptAt). Contains l x) (sym is) all) in
        (k.0, k.1, ap (λ (x : KeptAt). x.place) k.2)

    pub are_kept : (ks : List Kept) → AreSortedBy (λ (k : Kept). k.place.sites) found ks → AreKept p main instances ks
    are_kept ks up = record {
      list = record {
        rising = subst AreRising (sym (kept_places ks)) up.rising;
        all = λ i d inst taken w.
            let a = all_seen i d inst w in let y = up.all a.0 a.1 in let s = seen_there y.0 (up.only y.0 y.1) in
            subst (λ (m : MemoryAt). Contains (map kept_memory ks) m)
            (s.1 ∙ one_memory s.0.i i s.0.d d s.0.is inst s.0.there w (sym s.0.place ∙ y.2 ∙ a.2)) (in_map kept_memory ks y.0 y.1);
        only = λ m w.
            let y = from_map kept_memory ks m w in let s = seen_there y.0 (up.only y.0 y.1) in
            (s.0.i, s.0.d, s.0.is, tt, s.0.there, sym y.2 ∙ s.1);
      };
      each = λ k w. (seen_there k (up.only k w)).0;
    }
