-- The least valuations of sets, as words.
use Rattle.std.proofs.Common.{ℕ, ◌+◌, ◌-◌, ◌*◌, ◌<◌, ◌≡◌, ◌↔◌, Bool, true, false, not, ◌&&◌, cond, List, length, refl, sym, ap, ◌∙◌, subst, ⊎_elim, arith}
use Rattle.std.proofs.Common.{Option, Some, None}
use Rattle.std.proofs.lemmas.Bool.{and_from, and_parts, cases_Bool, cases_lt, both_ways, not-true}
use Rattle.std.specs.Prelude.{MatchOption}
use Rattle.rv_diagram.specs.Nodes.{Valuation, Diagrams, Answers, IsRef, value_of, choice, valuation_of, IsLeast}
use Rattle.rv_diagram.specs.{declared.frozen.Frozen.Frozen, declared.store.several.Part.Part, Several.ArePartRefs, Several.part_at}
use Rattle.rv_diagram.specs.Growing.{Extends}
use Rattle.rv_diagram.proofs.Growing.{extends_trans, grows_extends}
use Rattle.rv_proofs.specs.{Systems.System, Systems.IsRead, Systems.IsSameValuation, Scopes.IsIn, Ranges.IsControlSet}
use Rattle.rv_symbolic.specs.Words.{IsLeastOf, IsFalseIn, LeadsTo, IsFirstOf, AreCopies, AreMetWith, IsFalseAt, LeadsAt}
use Rattle.rv_symbolic.specs.{declared.relation.Relation.Relation, Growing.Makes, Growing.Finds, Variables.is_of, Represented.IsRelationOf}
use Rattle.rv_symbolic.proofs.{Extending.met_before, Extending.met_after, Reading.control-value}
use Rattle.rv_symbolic.proofs.{Reading.valuation_state, Reading.is_of-bit, Reading.read_is, Reading.read_off, Projecting.relation_to, Projecting.relation_from}

-- what a store picks of a reference
pub picked_first : (d : Diagrams) (r m : ℕ) (holds : Valuation → Type 0) (o : Option (List Bool)) → d.variables ≡ m
    → ((v : Valuation) → (value_of d.nodes r v ≡ true) ↔ holds v)
    → MatchOption o ((v : Valuation) → value_of d.nodes r v ≡ false) (λ values. IsLeast d.nodes d.variables r values)
    → IsFirstOf m holds o
picked_first d r m holds None e exact none = λ v h. both_ways (value_of d.nodes r v) (none v) ((exact v).1 h)
picked_first d r m holds (Some word) e exact l = record {
  size = l.size ∙ e;
  here = (exact (valuation_of word)).0 l.holds;
  least = λ w h before. l.least w ((exact w).1 h) before;
}

pub false_found : (a b : Diagrams) (allowed observer bad : ℕ) (from : Frozen)
    → Makes a b (λ v. (value_of a.nodes allowed v && value_of from.nodes from.root v) && not (value_of a.nodes observer v)) bad
    → (v : Valuation) → (value_of b.nodes bad v ≡ true) ↔ IsFalseAt a.nodes allowed observer from v
false_found a b allowed observer bad from g v = (
  λ on. let parts : ((value_of a.nodes allowed v && value_of from.nodes from.root v) ≡ true) × (not (value_of a.nodes observer v) ≡ true) =
      and_parts (value_of a.nodes allowed v && value_of from.nodes from.root v) (not (value_of a.nodes observer v)) (sym (g.means v) ∙ on) in
      let both : (value_of a.nodes allowed v ≡ true) × IsIn from v = and_parts (value_of a.nodes allowed v) (value_of from.nodes from.root v) parts.0 in
      (both.0, both.1, not-true (value_of a.nodes observer v) parts.1),
  λ (on, inside, off). g.means v ∙ and_from (value_of a.nodes allowed v && value_of from.nodes from.root v) (not (value_of a.nodes observer v))
      (and_from (value_of a.nodes allowed v) (value_of from.nodes from.root v) on inside) (ap not off),
)

-- CUBES

choice_on : (x y : Bool) → (cond x y false ≡ true) ↔ ((x ≡ true) × (y ≡ true))
choice_on true y = (λ h. (refl, h), λ p. p.1)
choice_on false y = (λ h. absurd (cc), λ p. absurd (let e : false ≡ true = p.0 in cc))

choice_off : (x y : Bool) → (cond x false y ≡ true) ↔ ((x ≡ false) × (y ≡ true))
choice_off true y = (λ h. absurd (cc), λ p. absurd (let e : true ≡ false = p.0 in cc))
choice_off false y = (λ h. (refl, h), λ p. p.1)

module _ (a b c : Diagrams) (rest never bit r x : ℕ) (found : IsRef a.nodes rest) (low : IsRef a.nodes never)
    (none : (v : Valuation) → value_of a.nodes never v ≡ false) (g : Answers a b (λ v. v x) bit) where
  of_rest : (v : Valuation) → value_of b.nodes rest v ≡ value_of a.nodes rest v
  of_rest v = g.grows.kept rest found v

  of_never : (v : Valuation) → value_of b.nodes never v ≡ false
  of_never v = g.grows.kept never low v ∙ none v

  pub literal_on : Answers b c (choice b.nodes bit rest never) r → Finds a c (λ v. (v x ≡ true) × (value_of a.nodes rest v ≡ true)) r
  literal_on h =
      let is : (v : Valuation) → value_of c.nodes r v ≡ cond (v x) (value_of a.nodes rest v) false = λ v. h.means v
      ∙ ap (λ t. cond t (value_of b.nodes rest v) (value_of b.nodes never v)) (g.means v)
      ∙ ap (λ t. cond (v x) t (value_of b.nodes never v)) (of_rest v) ∙ ap (λ t. cond (v x) (value_of a.nodes rest v) t) (of_never v) in
      record {
        extends = extends_trans a b c (grows_extends a b g.grows) (grows_extends b c h.grows);
        found = h.found;
        exact = λ v. (
          λ on. (choice_on (v x) (value_of a.nodes rest v)).0 (sym (is v) ∙ on),
          λ p. is v ∙ (choice_on (v x) (value_of a.nodes rest v)).1 p,
        );
      }

  pub literal_off : Answers b c (choice b.nodes bit never rest) r → Finds a c (λ v. (v x ≡ false) × (value_of a.nodes rest v ≡ true)) r
  literal_off h =
      let is : (v : Valuation) → value_of c.nodes r v ≡ cond (v x) false (value_of a.nodes rest v) = λ v. h.means v
      ∙ ap (λ t. cond t (value_of b.nodes never v) (value_of b.nodes rest v)) (g.means v)
      ∙ ap (λ t. cond (v x) t (value_of b.nodes rest v)) (of_never v) ∙ ap (λ t. cond (v x) false t) (of_rest v) in
      record {
        extends = extends_trans a b c (grows_extends a b g.grows) (grows_extends b c h.grows);
        found = h.found;
        exact = λ v. (
          λ on. (choice_off (v x) (value_of a.nodes rest v)).0 (sym (is v) ∙ on),
          λ p. is v ∙ (choice_off (v x) (value_of a.nodes rest v)).1 p,
        );
      }

-- PARTS

-- one part more
pub met_more : (a b c : Diagrams) (set whole r n : ℕ) (links : List Part) → n < length links → ArePartRefs a.nodes links
    → Finds a b (AreMetWith a.nodes set links n) whole
    → Answers b c (λ v. value_of b.nodes whole v && value_of b.nodes (part_at links n).relation v) r
    → Finds a c (AreMetWith a.nodes set links (n + 1)) r
met_more a b c set whole r n links less refs g h =
    let of_part : (v : Valuation) → value_of b.nodes (part_at links n).relation v ≡ value_of a.nodes (part_at links n).relation v =
    λ v. g.extends.kept (part_at links n).relation (refs n less) v in
    record {
      extends = extends_trans a b c g.extends (grows_extends b c h.grows);
      found = h.found;
      exact = λ v. (
        λ on. let p : (value_of b.nodes whole v ≡ true) × (value_of b.nodes (part_at links n).relation v ≡ true) = and_parts (value_of b.nodes whole v)
            (value_of b.nodes (part_at links n).relation v) (sym (h.means v) ∙ on) in
            let q : AreMetWith a.nodes set links n v = (g.exact v).0 p.0 in (
              q.0,
              λ i low. ⊎_elim
                  (λ lt. q.1 i lt)
                  (λ ge. let e : n ≡ i = omega arith in subst (λ (m : ℕ). value_of a.nodes (part_at links m).relation v ≡ true) e (sym (of_part v) ∙ p.1))
                  (cases_lt i n),
            ),
        λ (on, all). h.means v ∙ and_from (value_of b.nodes whole v) (value_of b.nodes (part_at links n).relation v)
            ((g.exact v).1 (on, λ i low. all i (omega arith))) (of_part v ∙ all n (omega arith)),
      );
    }

-- an allowed valuation of a set from which the relation leads to the control state of a word
pub leading_found : (a b c d e : Diagrams) (allowed within cube both r bits : ℕ) (links : List Part) (from : Frozen) (to : List Bool)
    → ArePartRefs a.nodes links
    → Makes a b (λ v. value_of a.nodes allowed v && value_of from.nodes from.root v) within → Finds b c (AreCopies to bits) cube
    → Answers c d (λ v. value_of c.nodes within v && value_of c.nodes cube v) both
    → Finds d e (AreMetWith d.nodes both links (length links)) r
    → (v : Valuation) → (value_of e.nodes r v ≡ true) ↔ LeadsAt a.nodes allowed links from to bits v
leading_found a b c d e allowed within cube both r bits links from to refs one two three four v =
    let ad : Extends a d = extends_trans a c d (extends_trans a b c one.extends two.extends) (grows_extends c d three.grows) in
    let of_within : value_of c.nodes within v ≡ (value_of a.nodes allowed v && value_of from.nodes from.root v) = two.extends.kept within one.found v
    ∙ one.means v in (
      λ on. let m : AreMetWith d.nodes both links (length links) v = (four.exact v).0 on in
          let p : (value_of c.nodes within v ≡ true) × (value_of c.nodes cube v ≡ true) = and_parts (value_of c.nodes within v) (value_of c.nodes cube v)
          (sym (three.means v) ∙ m.0) in
          let q : (value_of a.nodes allowed v ≡ true) × IsIn from v = and_parts (value_of a.nodes allowed v) (value_of from.nodes from.root v)
          (sym of_within ∙ p.0) in
          (q.0, q.1, (two.exact v).0 p.1, met_before a d links ad refs v m.1),
      λ (on, inside, copies, met). (four.exact v).1 (
        three.means v ∙ and_from (value_of c.nodes within v) (value_of c.nodes cube v) (of_within
            ∙ and_from (value_of a.nodes allowed v) (value_of from.nodes from.root v) on inside) ((two.exact v).1 copies),
        met_after a d links ad refs v met,
      ),
    )

-- SYSTEMS

module _ (s : System) (d : Diagrams) (rel : Relation) (is : IsRelationOf s d rel) where
  -- the first of all valuations is the least where next copies do not count
  least_word : (holds at : Valuation → Type 0) → ((u w : Valuation) → IsSameValuation s u w → holds w → holds u)
      → ((v : Valuation) → at v → holds v) → ((u v : Valuation) → at v → holds u → ((x : ℕ) → is_of s.states 1 x ≡ true → u x ≡ v x) → at u)
      → ((v : Valuation) → holds v → (u : Valuation) × at u) → (o : Option (List Bool)) → IsFirstOf d.variables at o → IsLeastOf s holds o
  least_word holds at keep part with_copies some None h = λ v p. let q : (u : Valuation) × at u = some v p in h q.0 q.1
  least_word holds at keep part with_copies some (Some word) h = record {
    size = h.size ∙ is.parts.variables;
    here = part (valuation_of word) h.here;
    least = λ w p e.
        let u : Valuation = λ x. cond (is_of s.states 1 x) (valuation_of word x) (w x) in
        let like : IsSameValuation s u w = λ x read. ap (λ b. cond b (valuation_of word x) (w x)) (read_off s x read) in
        let copies : (x : ℕ) → is_of s.states 1 x ≡ true → u x ≡ valuation_of word x = λ x on. ap (λ b. cond b (valuation_of word x) (w x)) on in
        h.least u (with_copies u (valuation_of word) h.here (keep u w like p) copies) (
          e.at,
          λ k low. ⊎_elim
              (λ on. copies k on)
              (λ off. let read : IsRead s k = read_is s k (let there : e.at < s.variables = e.read.0 in omega arith) off in like k read ∙ e.same k low read)
              (cases_Bool (is_of s.states 1 k)),
          like e.at e.read ∙ e.lower,
          e.higher,
        );
  }

  pub false_least : (from : Frozen) (o : Option (List Bool)) → IsControlSet s from
      → IsFirstOf d.variables (IsFalseAt d.nodes rel.parts.allowed rel.parts.observer from) o → IsLeastOf s (IsFalseIn s from) o
  false_least from o control h =
      let at : Valuation → Type 0 = IsFalseAt d.nodes rel.parts.allowed rel.parts.observer from in
      let to_at : (v : Valuation) → IsFalseIn s from v → at v = λ v p. (is.parts.allowed v ∙ p.allowed, p.inside, is.parts.observer v ∙ p.fails) in
      least_word (IsFalseIn s from) at
      (λ u w same p. record {
        allowed = is.system.allowed u w same ∙ p.allowed;
        inside = control-value s from u w control (valuation_state s u w is.system.bits same) ∙ p.inside;
        fails = is.system.observer u w same ∙ p.fails;
      })
      (λ v (on, inside, off). record { allowed = sym (is.parts.allowed v) ∙ on; inside = inside; fails = sym (is.parts.observer v) ∙ off })
      (λ u v q p copies. to_at u p)
      (λ v p. (v, to_at v p))
      o h

  pub leading_least : (from : Frozen) (to : List Bool) (bits : ℕ) (o : Option (List Bool)) → bits ≡ length rel.parts.next → IsControlSet s from
      → IsFirstOf d.variables (LeadsAt d.nodes rel.parts.allowed rel.forth from to bits) o → IsLeastOf s (LeadsTo s from to) o
  leading_least from to bits o e control h =
      let few : bits ≡ s.states = e ∙ is.parts.states in
      let at : Valuation → Type 0 = LeadsAt d.nodes rel.parts.allowed rel.forth from to bits in
      let to_at : (v : Valuation) → LeadsTo s from to v → ((i : ℕ) → i < s.states → v (2 * i + 1) ≡ valuation_of to (2 * i)) → at v = λ v p copies. (
        is.parts.allowed v ∙ p.allowed,
        p.inside,
        λ i low. copies i (omega arith),
        relation_from s d rel is 1 rel.forth is.laid_out.forth v (λ i low. copies i low ∙ sym (p.next (2 * i) (i, low, refl))),
      ) in
      let keep : (u w : Valuation) → IsSameValuation s u w → LeadsTo s from to w → LeadsTo s from to u = λ u w same p. record {
        allowed = is.system.allowed u w same ∙ p.allowed;
        inside = control-value s from u w control (valuation_state s u w is.system.bits same) ∙ p.inside;
        next = λ x state. is.system.next u w same x state ∙ p.next x state;
      } in
      least_word (LeadsTo s from to) at keep
      (λ v (on, inside, copies, met). record {
        allowed = sym (is.parts.allowed v) ∙ on;
        inside = inside;
        next = λ x (i, low, f). ap (s.next v) f ∙ sym (relation_to s d rel is 1 rel.forth is.laid_out.forth v met i low) ∙ copies i (omega arith)
            ∙ ap (valuation_of to) (sym f);
      })
      (λ u v q p same. to_at u p (λ i low. same (2 * i + 1) (is_of-bit s.states 1 i (omega arith) low) ∙ q.2 i (omega arith)))
      (λ v p.
      let u : Valuation = λ x. cond (is_of s.states 1 x) (valuation_of to (x - 1)) (v x) in
      let like : IsSameValuation s u v = λ x read. ap (λ b. cond b (valuation_of to (x - 1)) (v x)) (read_off s x read) in (
        u,
        to_at u (keep u v like p) (λ i low. ap (λ b. cond b (valuation_of to (2 * i + 1 - 1)) (v (2 * i + 1))) (is_of-bit s.states 1 i (omega arith) low)
            ∙ ap (valuation_of to) (let z : 2 * i + 1 - 1 ≡ 2 * i = omega arith in z)),
      ))
      o h
