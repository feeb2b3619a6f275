-- Calls of a store in turn.
use Rattle.std.proofs.Common.{ℕ, ◌+◌, ◌<◌, ◌≤◌, ◌≡◌, ◌↔◌, Bool, true, false, not, ◌&&◌, cond, List, [], ◌∷◌, ◌++◌, length, length-append, refl, sym, ap, ◌∙◌}
use Rattle.std.proofs.Common.{subst, ⊎_elim, arith, Result, Ok, Err, IfOk, OnErr}
use Rattle.std.proofs.lemmas.Bool.{and_from, and_parts, cases_lt, both_ways}
use Rattle.std.proofs.{lemmas.List.append-nil, lemmas.List.append_assoc, lemmas.List.get_or_append_left, Math.Seq.get_or-append_seam}
use Rattle.rv_diagram.specs.Nodes.{Valuation, Diagrams, Grows, Answers, IsRef, value_of, choice, put}
use Rattle.rv_diagram.specs.Several.{Gives, Stepped, SameBut, Ignores, UsesNeeded, ArePartRefs, IsSchedule, ref_at, part_at}
use Rattle.rv_diagram.specs.{declared.store.several.Part.Part, declared.Triple.Triple, declared.frozen.Frozen.Frozen}
use Rattle.rv_proofs.specs.Scopes.{IsIn}
use Rattle.rv_symbolic.specs.Linked.{AreRefs, AreLinkedBetween, AreParted, AreMet, quantified, Meets}
use Rattle.rv_symbolic.specs.{Growing.Makes, Growing.Finds, Represented.IsRelation, Represented.AreLinks}
use Rattle.rv_symbolic.proofs.Reading.{put-other}
use Rattle.rv_diagram.proofs.Several.{same_truth}
use Rattle.rv_diagram.specs.Growing.{Extends}
use Rattle.rv_diagram.proofs.Growing.{extends_refl, extends_trans, grows_extends}

pub map_ok : {A E : Type 0} (o : Result A E) (P Q : A → Type 0) → ((r : A) → P r → Q r) → IfOk o P → IfOk o Q
map_ok (Ok r) P Q f h = f r h
map_ok (Err e) P Q f h = h

-- the conjunction of two references
pub both_made : (a b c : Diagrams) (p q r : ℕ) (f g : Valuation → Bool) → Extends a b → ((v : Valuation) → value_of b.nodes p v ≡ f v)
    → ((v : Valuation) → value_of b.nodes q v ≡ g v)
    → Answers b c (λ v. value_of b.nodes p v && value_of b.nodes q v) r → Makes a c (λ v. f v && g v) r
both_made a b c p q r f g e left right t = record {
  extends = extends_trans a b c e (grows_extends b c t.grows);
  found = t.found;
  means = λ v. t.means v ∙ ap (λ x. x && value_of b.nodes q v) (left v) ∙ ap (λ x. f v && x) (right v);
}

-- LINKS

choice-same : (x y : Bool) → (cond x y (not y) ≡ true) ↔ (x ≡ y)
choice-same true true = (λ h. refl, λ h. refl)
choice-same true false = (λ h. cc, λ h. cc)
choice-same false true = (λ h. cc, λ h. cc)
choice-same false false = (λ h. refl, λ h. refl)

pub link_found : (a b c d e : Diagrams) (whole next not_next copy same r x : ℕ) → IsRef a.nodes whole → IsRef a.nodes next
    → Answers a b (λ v. not (value_of a.nodes next v)) not_next → Answers b c (λ v. v x) copy → Answers c d (choice c.nodes copy next not_next) same
    → Answers d e (λ v. value_of d.nodes same v && value_of d.nodes whole v) r
    → Finds a e (λ v. (v x ≡ value_of a.nodes next v) × (value_of a.nodes whole v ≡ true)) r
link_found a b c d e whole next not_next copy same r x found found_next p q s t =
    let ab : Extends a b = grows_extends a b p.grows in
    let ac : Extends a c = extends_trans a b c ab (grows_extends b c q.grows) in
    let ad : Extends a d = extends_trans a c d ac (grows_extends c d s.grows) in
    let of_whole : (v : Valuation) → value_of d.nodes whole v ≡ value_of a.nodes whole v = λ v. ad.kept whole found v in
    let of_next : (v : Valuation) → value_of c.nodes next v ≡ value_of a.nodes next v = λ v. ac.kept next found_next v in
    let of_not : (v : Valuation) → value_of c.nodes not_next v ≡ not (value_of a.nodes next v) = λ v. q.grows.kept not_next p.found v ∙ p.means v in
    let of_same : (v : Valuation) → value_of d.nodes same v ≡ cond (v x) (value_of a.nodes next v) (not (value_of a.nodes next v)) =
    λ v. s.means v ∙ ap (λ b. cond b (value_of c.nodes next v) (value_of c.nodes not_next v)) (q.means v)
    ∙ ap (λ b. cond (v x) b (value_of c.nodes not_next v)) (of_next v)
    ∙ ap (λ b. cond (v x) (value_of a.nodes next v) b) (of_not v) in
    record {
      extends = extends_trans a d e ad (grows_extends d e t.grows);
      found = t.found;
      exact = λ v. (
        λ h. let parts : (value_of d.nodes same v ≡ true) × (value_of d.nodes whole v ≡ true) = and_parts (value_of d.nodes same v)
            (value_of d.nodes whole v) (sym (t.means v) ∙ h) in
            ((choice-same (v x) (value_of a.nodes next v)).0 (sym (of_same v) ∙ parts.0), sym (of_whole v) ∙ parts.1),
        λ h. t.means v ∙ and_from (value_of d.nodes same v) (value_of d.nodes whole v) (of_same v
            ∙ (choice-same (v x) (value_of a.nodes next v)).1 h.0) (of_whole v ∙ h.1),
      );
    }

pub linked_none : (a : Diagrams) (next : List ℕ) (whole k n : ℕ) → k ≡ n → IsRef a.nodes whole → ((v : Valuation)
    → value_of a.nodes whole v ≡ true) → Finds a a (AreLinkedBetween a.nodes next k n) whole
linked_none a next whole k n e found means = record { extends = extends_refl a; found = found; exact = λ v. (λ h i le low. absurd (omega arith), λ p. means v) }

-- PARTS

pub refs_after : (a b : Diagrams) (next : List ℕ) → Extends a b → AreRefs a.nodes next → AreRefs b.nodes next
refs_after a b next e refs i low = let h : IsRef a.nodes (ref_at next i) = refs i low in omega (arith, e.longer, h)

-- one part more
pub parted_more : (a b c : Diagrams) (next relations : List ℕ) (r j k n : ℕ) → AreRefs a.nodes next → j ≤ k → k ≤ n → n ≤ length next
    → AreParted a b next k n relations → Finds b c (AreLinkedBetween b.nodes next j k) r → AreParted a c next j n (relations ++ r ∷ [])
parted_more a b c next relations r j k n refs below above le g h =
    let more : List ℕ = relations ++ r ∷ [] in
    let longer : length more ≡ length relations + 1 = length-append relations (r ∷ []) in
    let first : (i : ℕ) → i < length relations → ref_at more i ≡ ref_at relations i = λ i low. get_or_append_left relations (r ∷ []) 0 i low in
    let last : ref_at more (length relations) ≡ r = get_or-append_seam relations r [] 0 in
    let of_next : (v : Valuation) (i : ℕ) → i < n → value_of b.nodes (ref_at next i) v ≡ value_of a.nodes (ref_at next i) v = λ v i low. g.extends.kept
    (ref_at next i) (refs i (omega arith)) v in
    let of_first : (v : Valuation) (i : ℕ) → i < length relations → value_of c.nodes (ref_at more i) v ≡ value_of b.nodes (ref_at relations i) v = λ v i low.
    ap (λ (x : ℕ). value_of c.nodes x v) (first i low) ∙ h.extends.kept (ref_at relations i) (g.refs i low) v in
    let of_last : (v : Valuation) → value_of c.nodes (ref_at more (length relations)) v ≡ value_of c.nodes r v = λ v.
    ap (λ (x : ℕ). value_of c.nodes x v) last in
    record {
      extends = extends_trans a b c g.extends h.extends;
      refs = λ i low. ⊎_elim
          (λ lt. subst (λ (x : ℕ). IsRef c.nodes x) (sym (first i lt)) (let f : IsRef b.nodes (ref_at relations i) = g.refs i lt in
          let q : ref_at relations i < length c.nodes + 2 = omega (arith, f, h.extends.longer) in q))
          (λ ge. let e : length relations ≡ i = omega (arith, longer) in subst (λ (x : ℕ). IsRef c.nodes (ref_at more x)) e (subst (λ
          (x : ℕ). IsRef c.nodes x) (sym last) h.found))
          (cases_lt i (length relations));
      exact = λ v. (
        λ all i from low. ⊎_elim
            (λ lt. let on : value_of c.nodes r v ≡ true = sym (of_last v) ∙ all (length relations) (omega (arith, longer)) in
            (h.exact v).0 on i from lt ∙ of_next v i low)
            (λ ge. (g.exact v).0 (λ m less. sym (of_first v m less) ∙ all m (omega (arith, longer))) i ge low)
            (cases_lt i k),
        λ linked i low. ⊎_elim
            (λ lt. of_first v i lt ∙ (g.exact v).1 (λ m from less. linked m (omega arith) less) i lt)
            (λ ge. let e : length relations ≡ i = omega (arith, longer) in subst (λ (x : ℕ). value_of c.nodes (ref_at more x) v ≡ true) e
            (of_last v ∙ (h.exact v).1 (λ m from less. let low : m < n = omega arith in linked m from low ∙ sym (of_next v m low))))
            (cases_lt i (length relations)),
      );
    }

-- all parts, with one more of no link where there was none
pub parted_all : (a b : Diagrams) (next relations : List ℕ) (r k n : ℕ) → AreRefs a.nodes next → k ≡ 0 → n ≤ length next
    → AreParted a b next k n relations → IsRef b.nodes r → ((v : Valuation) → value_of b.nodes r v ≡ true) → AreParted a b next 0 n (relations ++ r ∷ [])
parted_all a b next relations r k n refs e le g found means = parted_more a b b next relations r 0 k n refs (omega (arith, e)) (omega (arith, e)) le g
    (linked_none b next r 0 k (sym e) found means)

pub part_refs_after : (a b : Diagrams) (links : List Part) → Extends a b → ArePartRefs a.nodes links → ArePartRefs b.nodes links
part_refs_after a b links e refs i low = let h : IsRef a.nodes (part_at links i).relation = refs i low in omega (arith, e.longer, h)

pub schedule_after : (a b : Diagrams) (links : List Part) → Extends a b → ArePartRefs a.nodes links → IsSchedule a.nodes links → IsSchedule b.nodes links
schedule_after a b links e refs schedule i low x on v = e.kept (part_at links i).relation (refs i low) (put v x false) ∙ schedule i low x on v
    ∙ sym (e.kept (part_at links i).relation (refs i low) (put v x true))

pub met_after : (a b : Diagrams) (links : List Part) → Extends a b → ArePartRefs a.nodes links → (v : Valuation) → AreMet a.nodes links v
    → AreMet b.nodes links v
met_after a b links e refs v met i low = e.kept (part_at links i).relation (refs i low) v ∙ met i low

pub met_before : (a b : Diagrams) (links : List Part) → Extends a b → ArePartRefs a.nodes links → (v : Valuation) → AreMet b.nodes links v
    → AreMet a.nodes links v
met_before a b links e refs v met i low = sym (e.kept (part_at links i).relation (refs i low) v) ∙ met i low

pub links_opened : (d : Diagrams) (next : List ℕ) (p : ℕ) (links : List Part) → AreLinks d next p links → IsRelation d next p links
unfolding AreLinks
links_opened d next p links h = h

pub links_closed : (d : Diagrams) (next : List ℕ) (p : ℕ) (links : List Part) → IsRelation d next p links → AreLinks d next p links
unfolding AreLinks
links_closed d next p links h = h

-- IMAGES

pub product_extends : (a b c d : Diagrams) (f g : Valuation → Bool) (p q r : ℕ) → Answers a b f p → Answers b c g q
    → Answers c d (λ v. value_of c.nodes p v && value_of c.nodes q v) r → Extends a d
product_extends a b c d f g p q r one two three =
    extends_trans a c d (extends_trans a b c (grows_extends a b one.grows) (grows_extends b c two.grows)) (grows_extends c d three.grows)

pub product_found : (a b c d e : Diagrams) (x y : Frozen) (p q r t : ℕ) (links : List Part) → ArePartRefs a.nodes links
    → Answers a b (value_of x.nodes x.root) p → Answers b c (value_of y.nodes y.root) q → Answers c d (λ v. value_of c.nodes p v && value_of c.nodes q v) r
    → Gives d e (Stepped d.nodes r links (length links)) t
    → Finds a e (Meets a.nodes x y links) t
product_found a b c d e x y p q r t links refs one two three four =
    let ad : Extends a d = product_extends a b c d (value_of x.nodes x.root) (value_of y.nodes y.root) p q r one two three in
    let both : (w : Valuation) → value_of d.nodes r w ≡ (value_of x.nodes x.root w && value_of y.nodes y.root w) =
    λ w. three.means w ∙ ap (λ z. z && value_of c.nodes q w) (two.grows.kept p one.found w ∙ one.means w)
    ∙ ap (λ z. value_of x.nodes x.root w && z) (two.means w) in
    record {
      extends = extends_trans a d e ad (grows_extends d e four.grows);
      found = four.found;
      exact = λ v. (
        λ h. let m : Stepped d.nodes r links (length links) v = (four.means v).0 h in
            let parts : IsIn x m.0 × IsIn y m.0 = and_parts (value_of x.nodes x.root m.0) (value_of y.nodes y.root m.0) (sym (both m.0) ∙ m.2) in
            (m.0, m.1, (parts.0, parts.1, met_before a d links ad refs m.0 m.3)),
        λ (w, same, (left, right, met)). (four.means v).1 (
          w,
          same,
          both w ∙ and_from (value_of x.nodes x.root w)
              (value_of y.nodes y.root w) left right,
          met_after a d links ad refs w met,
        ),
      );
    }

-- what holds for some values of given variables depends on none of them
pub somewhere_ignores : (meaning : Valuation → Bool) (over : Valuation) (holds : Valuation → Type 0) → ((v : Valuation) → (meaning v ≡ true)
    ↔ ((w : Valuation) × SameBut over v w × holds w)) → (x : ℕ) → over x ≡ true → Ignores meaning x
somewhere_ignores meaning over holds exact x on v =
    let apart : (b c : Bool) (k : ℕ) → over k ≡ false → put v x c k ≡ put v x b k = λ b c k off. put-other v x k c b (λ is. both_ways (over k) off
    (ap over is ∙ on)) in
    let moved : (b c : Bool) → meaning (put v x b) ≡ true → meaning (put v x c) ≡ true = λ b c h.
    let q : (w : Valuation) × SameBut over (put v x b) w × holds w = (exact (put v x b)).0 h in
    (exact (put v x c)).1 (q.0, λ k off. apart b c k off ∙ q.1 k off, q.2) in
    same_truth (meaning (put v x false)) (meaning (put v x true)) (moved false true) (moved true false)

-- an image depends on no variable that its parts quantify
pub image_forgets : (a b : Diagrams) (from t : ℕ) (links : List Part) → Gives a b (Stepped a.nodes from links (length links)) t
    → (x : ℕ) → quantified links x ≡ true → Ignores (value_of b.nodes t) x
image_forgets a b from t links g = somewhere_ignores (value_of b.nodes t) (quantified links) (λ w. (value_of a.nodes from w ≡ true)
    × AreMet a.nodes links w) (λ v. (
      λ h. let m : Stepped a.nodes from links (length links) v = (g.means v).0 h in (m.0, m.1, (m.2, m.3)),
      λ (w, same, (on, met)). (g.means v).1 (w, same, on, met),
    ))

-- a variable is needed by one of two equal meanings where it is by the other
pub needed_same : (nodes : List Triple) (f g : Valuation → Bool) → ((v : Valuation) → f v ≡ g v) → UsesNeeded nodes f → UsesNeeded nodes g
needed_same nodes f g same needed x ignored = needed x (λ v. same (put v x false) ∙ ignored v ∙ sym (same (put v x true)))
