-- A schedule, made from its last part on.
use Rattle.std.proofs.Common.{ℕ, ◌+◌, ◌<◌, ◌≡◌, ◌↔◌, Bool, true, false, not, ◌&&◌, ◌||◌, List, [], ◌∷◌, length, zero, suc, refl, sym, ap, ◌∙◌, subst, ⊎_elim}
use Rattle.std.proofs.Common.{arith}
use Rattle.std.proofs.lemmas.Bool.{and_parts, or_cases, not-true, both_ways}
use Rattle.rv_diagram.specs.{Nodes.Valuation, Nodes.Diagrams, Nodes.IsRef, Nodes.value_of, Nodes.valuation_of, Several.Ignores, Several.IsSchedule}
use Rattle.rv_diagram.specs.{Several.gone, Several.part_at, Several.ref_at, declared.Triple.Triple, declared.store.several.Part.Part}
use Rattle.rv_diagram.specs.Growing.{Extends}
use Rattle.rv_proofs.specs.Systems.{System}
use Rattle.rv_symbolic.specs.Represented.{HaveRefs, AreParts, IsRelation, AreLinks, IsRelationOf}
use Rattle.rv_symbolic.specs.Linked.{AreRefs, AreParted, AreScheduled, quantified}
use Rattle.rv_symbolic.specs.{declared.relation.Parts.Parts, declared.relation.Relation.Relation, Variables.AreAllBut}
use Rattle.rv_symbolic.proofs.Extending.{refs_after, links_opened, links_closed, part_refs_after, schedule_after, met_before, met_after}
use Rattle.rv_base.proofs.Truths.{or_false}

-- These parts are the last ones, from k on. Of the given variables those are left that none of them reads, all at first,
-- and together they quantify the given ones.
pub record AreLast (nodes : List Triple) (relations : List ℕ) (given left : List Bool) (k : ℕ) (parts : List Part) : Type 0 where
  pub size : length parts + k ≡ length relations
  pub same : (i : ℕ) → i < length parts → (part_at parts i).relation ≡ ref_at relations (k + i)
  pub schedule : IsSchedule nodes parts
  pub free : (x : ℕ) → valuation_of left x ≡ true → (i : ℕ) → i < length parts → Ignores (value_of nodes (part_at parts i).relation) x
  pub within : (x : ℕ) → valuation_of left x ≡ true → valuation_of given x ≡ true
  pub none : length parts ≡ 0 → (x : ℕ) → valuation_of left x ≡ valuation_of given x
  pub some : 0 < length parts → (x : ℕ) → quantified parts x ≡ valuation_of given x

or_swap : (a b c : Bool) → (a || (b || c)) ≡ (b || (a || c))
or_swap true true c = refl
or_swap true false c = refl
or_swap false true c = refl
or_swap false false c = refl

or_same : (a b : Bool) → (a ≡ true → b ≡ true) → (a || b) ≡ b
or_same true b h = sym (h refl)
or_same false b h = refl

gone-cons : (p : Part) (parts : List Part) (n x : ℕ) → gone (p ∷ parts) (suc n) x ≡ (valuation_of p.over x || gone parts n x)
gone-cons p parts zero x = refl
gone-cons p parts (suc n) x = ap (λ b. valuation_of (part_at parts n).over x || b) (gone-cons p parts n x)
    ∙ or_swap (valuation_of (part_at parts n).over x) (valuation_of p.over x) (gone parts n x)

module _ (nodes : List Triple) (relations : List ℕ) (given left read rest : List Bool) (k j : ℕ) (p : Part) (parts : List Part)
    (g : AreLast nodes relations given left k parts) (e : k ≡ j + 1) (is : p.relation ≡ ref_at relations j) (over : p.over ≡ left)
    (reads : (x : ℕ) → (valuation_of read x ≡ false) ↔ Ignores (value_of nodes p.relation) x)
    (rests : (x : ℕ) → valuation_of rest x ≡ (valuation_of left x && not (valuation_of read x))) where
  more_same : (i : ℕ) → i < length (p ∷ parts) → (part_at (p ∷ parts) i).relation ≡ ref_at relations (j + i)
  more_same zero low = is ∙ ap (λ (n : ℕ). ref_at relations n) (let z : j ≡ j + 0 = omega arith in z)
  more_same (suc n) low = g.same n (omega arith) ∙ ap (λ (n : ℕ). ref_at relations n) (let z : k + n ≡ j + suc n = omega (arith, e) in z)

  more_schedule : IsSchedule nodes (p ∷ parts)
  more_schedule zero low x on = absurd (both_ways false refl on)
  more_schedule (suc n) low x on = ⊎_elim
      (λ of_p. g.free x (ap (λ (l : List Bool). valuation_of l x) (sym over) ∙ of_p) n (omega arith))
      (λ of_parts. g.schedule n (omega arith) x of_parts)
      (or_cases (valuation_of p.over x) (gone parts n x) (sym (gone-cons p parts n x) ∙ on))

  more_parts : (x : ℕ) → valuation_of rest x ≡ true → (valuation_of left x ≡ true) × (not (valuation_of read x) ≡ true)
  more_parts x on = and_parts (valuation_of left x) (not (valuation_of read x)) (sym (rests x) ∙ on)

  more_free : (x : ℕ) → valuation_of rest x ≡ true → (i : ℕ) → i < length (p ∷ parts) → Ignores (value_of nodes (part_at (p ∷ parts) i).relation) x
  more_free x on zero low = (reads x).0 (not-true (valuation_of read x) (more_parts x on).1)
  more_free x on (suc n) low = g.free x (more_parts x on).0 n (omega arith)

  more_some : (x : ℕ) → quantified (p ∷ parts) x ≡ valuation_of given x
  more_some x =
      let all : quantified (p ∷ parts) x ≡ (valuation_of left x || quantified parts x) = gone-cons p parts (length parts) x
      ∙ ap (λ (l : List Bool). valuation_of l x || quantified parts x) over in
      all ∙ some_of parts g.none g.some where
        some_of : (l : List Part) → (length l ≡ 0 → (x : ℕ) → valuation_of left x ≡ valuation_of given x)
            → (0 < length l → (x : ℕ) → quantified l x ≡ valuation_of given x) → (valuation_of left x || quantified l x) ≡ valuation_of given x
        some_of [] none some = or_false (valuation_of left x) ∙ none refl x
        some_of (q ∷ qs) none some = ap (λ b. valuation_of left x || b) (some (omega arith) x)
            ∙ or_same (valuation_of left x) (valuation_of given x) (g.within x)

  pub last_more : AreLast nodes relations given rest j (p ∷ parts)
  last_more = record {
    size = let h = g.size in omega (arith, h, e);
    same = more_same;
    schedule = more_schedule;
    free = more_free;
    within = λ x on. g.within x (more_parts x on).0;
    none = λ z. absurd (omega arith);
    some = λ low. more_some;
  }

-- the parts of a schedule are the relation
pub scheduled_links : (a d : Diagrams) (next relations : List ℕ) (given : List Bool) (p : ℕ) (links : List Part) → AreRefs a.nodes next
    → AreParted a d next 0 (length next) relations → AreScheduled d.nodes relations given links
    → AreAllBut a.variables (length next) p (valuation_of given) → AreLinks d next p links
scheduled_links a d next relations given p links refs g h but =
    let of_next : (v : Valuation) (i : ℕ) → i < length next → value_of d.nodes (ref_at next i) v ≡ value_of a.nodes (ref_at next i) v = λ v i low.
    g.extends.kept
    (ref_at next i) (refs i low) v in
    let of_part : (v : Valuation) (i : ℕ) → i < length links → value_of d.nodes (part_at links i).relation v ≡ value_of d.nodes (ref_at relations i) v
    = λ v i low. ap (λ (r : ℕ). value_of d.nodes r v) (h.same i low) in
    links_closed d next p links (record {
      refs = λ i low. subst (λ (r : ℕ). IsRef d.nodes r) (sym (h.same i low)) (g.refs i (omega (arith, low, h.size)));
      schedule = h.schedule;
      exact = λ v. (
        λ met i low. (g.exact v).0 (λ m less. let there : m < length links = omega (arith, less, h.size) in sym (of_part v m there) ∙ met m there) i
            (omega arith) low ∙ sym (of_next v i low),
        λ linked m there. of_part v m there ∙ (g.exact v).1 (λ i from low. linked i low ∙ of_next v i low) m (omega (arith, there, h.size)),
      );
      over = record {
        within = λ x low. h.over x ∙ but.within x (omega (arith, low, g.extends.variables));
        past = λ x le. h.over x ∙ but.past x (omega (arith, le, g.extends.variables));
      };
    })

-- references stay those of a longer list, and keep their meanings
pub have_after : (a b : Diagrams) (p : Parts) → Extends a b → HaveRefs a p → HaveRefs b p
have_after a b p e h = record {
  allowed = let r = h.allowed in omega (arith, r, e.longer);
  observer = let r = h.observer in omega (arith, r, e.longer);
  initial = let r = h.initial in omega (arith, r, e.longer);
  next = refs_after a b p.next e h.next;
  copies = omega (arith, h.copies, e.variables);
}

pub parts_after : (s : System) (a b : Diagrams) (p : Parts) → Extends a b → HaveRefs a p → AreParts s a p → AreParts s b p
parts_after s a b p e h g = record {
  variables = e.variables ∙ g.variables;
  states = g.states;
  allowed = λ v. e.kept p.allowed h.allowed v ∙ g.allowed v;
  observer = λ v. e.kept p.observer h.observer v ∙ g.observer v;
  initial = λ v. e.kept p.initial h.initial v ∙ g.initial v;
  next = λ i low v. e.kept (ref_at p.next i) (h.next i (omega (arith, low, g.states))) v ∙ g.next i low v;
}

-- as do the parts of a relation
links_after : (a b : Diagrams) (next : List ℕ) (p : ℕ) (links : List Part) → Extends a b → AreRefs a.nodes next → AreLinks a next p links
    → AreLinks b next p links
links_after a b next p links e refs h =
    let g : IsRelation a next p links = links_opened a next p links h in
    links_closed b next p links (record {
      refs = part_refs_after a b links e g.refs;
      schedule = schedule_after a b links e g.refs g.schedule;
      exact = λ v. (
        λ met i low. (g.exact v).0 (met_before a b links e g.refs v met) i low ∙ sym (e.kept (ref_at next i) (refs i low) v),
        λ linked. met_after a b links e g.refs v ((g.exact v).1 (λ i low. linked i low ∙ e.kept (ref_at next i) (refs i low) v)),
      );
      over = record {
        within = λ x low. g.over.within x (omega (arith, low, e.variables));
        past = λ x le. g.over.past x (omega (arith, le, e.variables));
      };
    })

pub relation_after : (s : System) (a b : Diagrams) (r : Relation) → Extends a b → IsRelationOf s a r → IsRelationOf s b r
relation_after s a b r e is = record {
  system = is.system;
  laid_out = record {
    refs = have_after a b r.parts e is.laid_out.refs;
    few = omega (arith, is.laid_out.few, e.variables);
    forth = links_after a b r.parts.next 1 r.forth e is.laid_out.refs.next is.laid_out.forth;
    back = links_after a b r.parts.next 0 r.back e is.laid_out.refs.next is.laid_out.back;
  };
  parts = parts_after s a b r.parts e is.laid_out.refs is.parts;
}
