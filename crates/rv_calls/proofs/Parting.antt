-- How roots get their components.
use Rattle.std.proofs.Common.{◌≡◌, ℕ, ◌<◌, ◌⊎◌, inl, inr, [], length, get_or, refl, sym, ◌∙◌, ap, subst, arith, Option, Some, None as Nothing}
use Rattle.std.proofs.{lemmas.List.get_or_past, lemmas.Option.same_Some}
use Rattle.std.specs.List.{Contains}
use Rattle.rv_calls.specs.Components.{Marks, mark_of, HasMark, AreComponents, IsReversed, IsReached, IsParted}
use Rattle.rv_calls.specs.{Graphs.Graph, Graphs.edges, Callings.LeadsTo, Callings.there, Callings.over}
use Rattle.rv_instances.proofs.Lists.{at_contains, nat_split}
use Rattle.rv_calls.proofs.Searches.{lead_on}

-- what leads to a vertex leads to what that leads to
pub lead_trans : (g : Graph) (b a c : ℕ) → LeadsTo g b a → LeadsTo g c b → LeadsTo g c a
lead_trans g b _ c there q = q
lead_trans g b _ c (over a j lt rest) q = over a j lt (lead_trans g b (get_or (edges g a) j 0) c rest q)

-- a mark is there or not
pub marked_or : (o : Option ℕ) → (o ≡ Nothing) ⊎ ((r : ℕ) × (o ≡ Some r))
marked_or Nothing = inl refl
marked_or (Some r) = inr (r, refl)

pub no_mark : {G : Type 0} (o : Option ℕ) (r : ℕ) → o ≡ Some r → o ≡ Nothing → G
no_mark o r e n = cc

-- only a vertex has an edge
edge_from : (g : Graph) (a j : ℕ) → j < length (edges g a) → a < length g
edge_from g a j lt = elim (nat_split a (length g)) [
  | inl less ↦ less
  | inr past ↦ absurd (omega (arith, ap length (get_or_past g a [] past), lt))
]

-- A root without a component.
module _ (g h : Graph) (turned : IsReversed g h) (seen parts : Marks) (root : ℕ) (parted : IsParted g seen parts) (free : mark_of parts root ≡ Nothing) where
  pub seen_fresh : (k : ℕ) → mark_of seen k ≡ Some root → ⊥
  seen_fresh k e = let s = parted.fresh k root e in no_mark (mark_of parts root) s.0 s.1 free

  pub parts_fresh : (k : ℕ) → mark_of parts k ≡ Some root → ⊥
  parts_fresh k e = let w = parted.own k root e in no_mark (mark_of parts root) root (parted.whole k root root e w.0 w.1) free

  -- the vertices of its component have none
  unassigned : (x : ℕ) → LeadsTo g x root → LeadsTo g root x → mark_of parts x ≡ Nothing
  unassigned x from to = elim (marked_or (mark_of parts x)) [
    | inl none ↦ none
    | inr w ↦ no_mark (mark_of parts root) w.0 (parted.whole x root w.0 w.1 to from) free
  ]

  -- what leads on in the turned graph is led to
  turned_leads : (k a : ℕ) → LeadsTo h k a → LeadsTo g a k
  turned_leads k _ there = there
  turned_leads k _ (over a j lt rest) =
      lead_on g (get_or (edges h a) j 0) k a (turned_leads k (get_or (edges h a) j 0) rest)
      (turned.back (get_or (edges h a) j 0) a (at_contains (edges h a) (get_or (edges h a) j 0) j lt refl)).1

  module _ (seen_new parts_new : Marks) (p : IsReached h parts Nothing root seen seen_new) (q : IsReached g seen_new (Some root) root parts parts_new) where
    -- the first search finds the component
    seen_whole : (x : ℕ) → LeadsTo g root x → LeadsTo g x root → mark_of seen_new x ≡ Some root
    seen_whole _ there from = p.start
    seen_whole _ (over a j lt rest) from =
        let w : Contains (edges g a) (get_or (edges g a) j 0) = at_contains (edges g a) (get_or (edges g a) j 0) j lt refl in
        p.closed (get_or (edges g a) j 0) a (seen_whole (get_or (edges g a) j 0) rest (lead_on g a root (get_or (edges g a) j 0) from w))
        (turned.whole a (get_or (edges g a) j 0) (edge_from g a j lt) w) (unassigned a from (over a j lt rest))

    -- the second keeps to it
    parts_whole : (x a : ℕ) → LeadsTo g x a → LeadsTo g root x → mark_of parts_new a ≡ Some root → mark_of parts_new x ≡ Some root
    parts_whole x _ there to is = is
    parts_whole x _ (over a j lt rest) to is =
        let w : Contains (edges g a) (get_or (edges g a) j 0) = at_contains (edges g a) (get_or (edges g a) j 0) j lt refl in
        parts_whole x (get_or (edges g a) j 0) rest to
        (q.closed a (get_or (edges g a) j 0) is w
        (seen_whole (get_or (edges g a) j 0) (lead_trans g x (get_or (edges g a) j 0) root rest to)
        (lead_on g a root (get_or (edges g a) j 0) (q.sound a is) w)))

    back : (k : ℕ) → mark_of parts_new k ≡ Some root → LeadsTo g root k
    back k e = turned_leads k root (p.sound k (q.within k e).1)

    -- what has a component keeps one
    pub still : (k : ℕ) → HasMark parts k → HasMark parts_new k
    still k w = elim (q.kept k) [ inl same ↦ (w.0, same ∙ w.1) | inr new ↦ (root, new) ]

    pub parted_more : IsParted g seen_new parts_new
    parted_more = record {
      seen_size = p.size ∙ parted.seen_size;
      size = q.size ∙ parted.size;
      own = λ k r e. elim (q.kept k) [
        | inl same ↦ parted.own k r (sym same ∙ e)
        | inr new ↦ subst (λ s. LeadsTo g s k × LeadsTo g k s) (same_Some root r (sym new ∙ e)) (back k new, q.sound k new)
      ];
      whole = λ k m r e from to. elim (q.kept k) [
        | inl same ↦
            let before : mark_of parts m ≡ Some r = parted.whole k m r (sym same ∙ e) from to in
            elim (q.kept m) [ inl also ↦ also ∙ before | inr new ↦ no_mark (mark_of parts m) r before (p.within m (q.within m new).1).1 ]
        | inr new ↦
            parts_whole m root (lead_trans g k root m (q.sound k new) from) (lead_trans g k m root to (back k new)) q.start
            ∙ ap Some (same_Some root r (sym new ∙ e))
      ];
      fresh = λ k r e. elim (p.kept k) [
        | inl same ↦ still r (parted.fresh k r (sym same ∙ e))
        | inr new ↦ subst (HasMark parts_new) (same_Some root r (sym new ∙ e)) (root, q.start)
      ];
    }

-- all have one
pub parted_all : (g : Graph) (seen parts : Marks) → IsParted g seen parts → ((k : ℕ) → k < length g → HasMark parts k) → AreComponents g parts
parted_all g seen parts parted all = record {
  size = parted.size;
  together = λ a b a_in b_in e.
      let w = all a a_in in lead_trans g w.0 a b (parted.own a w.0 w.1).0 (parted.own b w.0 (sym e ∙ w.1)).1;
  apart = λ a b a_in to from. let w = all a a_in in w.1 ∙ sym (parted.whole a b w.0 w.1 to from);
}
