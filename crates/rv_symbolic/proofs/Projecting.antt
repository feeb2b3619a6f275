-- Images and preimages by one product.
use Rattle.std.proofs.Common.{ℕ, ◌+◌, ◌-◌, ◌*◌, ◌/◌, ◌<◌, ◌≤◌, ◌≡◌, ◌↔◌, Bool, true, false, not, ◌&&◌, cond, List, length, map, refl, sym, ap, ◌∙◌, subst}
use Rattle.std.proofs.Common.{⊎_elim, arith, IsTrue, Result, Ok, Err, IfOk}
use Rattle.std.proofs.lemmas.Bool.{and_from, and_parts, cases_Bool, cases_lt, both_ways, not-true}
use Rattle.std.proofs.lemmas.List.{get_or-map, length-map}
use Rattle.std.specs.Prelude.{MatchBool}
use Rattle.rv_diagram.specs.Nodes.{Valuation, Diagrams, Grows, node_at, value_of, IsOrderedOver}
use Rattle.rv_diagram.specs.Several.{Gives, Stepped, ArePartRefs, SameBut, UsesNeeded, Ignores, IsUnused, lower_node, higher_node, before as lowered}
use Rattle.rv_diagram.specs.Several.{after as raised}
use Rattle.rv_diagram.specs.{declared.Triple.Triple, declared.frozen.Frozen.Frozen, declared.store.several.Part.Part}
use Rattle.rv_proofs.specs.{Systems.System, Systems.IsState, Systems.HasSameState, Systems.IsSameValuation, Scopes.IsIn, Ranges.IsControlSet, Cases.IsCase}
use Rattle.rv_proofs.specs.{Cases.IsImage, Cases.IsPreimage, Cases.IsInitialSet, declared.report.Case.Case}
use Rattle.rv_symbolic.specs.Stepped.{IsProjected, IsAStep, IsJudged, AreNextStates}
use Rattle.rv_symbolic.specs.{declared.relation.Parts.Parts, declared.relation.Relation.Relation, Growing.Makes, Variables.is_of, Linked.AreMet}
use Rattle.rv_symbolic.specs.{Linked.quantified, Represented.AreLinks, Represented.IsRelation, Represented.IsRelationOf}
use Rattle.rv_symbolic.proofs.Extending.{met_before, met_after, links_opened}
use Rattle.rv_symbolic.proofs.Reading.{control-value, condition-value, control_set, valuation_state, is_of-bit, is_of-parts, is_of-other, is_of-past, state_is}
use Rattle.rv_symbolic.proofs.Reading.{read_off}

pub projected_from : (m : ℕ) (over : Valuation) (holds : Valuation → Type 0) (meaning : Valuation → Bool) (f : Frozen) → IsOrderedOver m f
    → ((v : Valuation) → value_of f.nodes f.root v ≡ meaning v)
    → UsesNeeded f.nodes meaning → ((x : ℕ) → over x ≡ true → Ignores meaning x) → ((v : Valuation)
    → (meaning v ≡ true) ↔ ((w : Valuation) × SameBut over v w × holds w))
    → IsProjected m over holds f
projected_from m over holds meaning f ordered means needed forgets exact = record {
  ordered = ordered;
  exact = λ v. (λ h. (exact v).0 (sym (means v) ∙ h), λ p. means v ∙ (exact v).1 p);
  unused = λ x on. needed x (forgets x on);
}

-- an image of the allowed valuations of a set
pub step_found : (a b c : Diagrams) (p : Parts) (links : List Part) (all t : ℕ) (from : Frozen) → ArePartRefs a.nodes links
    → Makes a b (λ v. value_of a.nodes p.allowed v && value_of from.nodes from.root v) all → Gives b c (Stepped b.nodes all links (length links)) t
    → (v : Valuation) → (value_of c.nodes t v ≡ true) ↔ ((w : Valuation) × SameBut (quantified links) v w × IsAStep a p links from w)
step_found a b c p links all t from refs g h v = (
  λ on. let m : Stepped b.nodes all links (length links) v = (h.means v).0 on in
      let parts : (value_of a.nodes p.allowed m.0 ≡ true) × IsIn from m.0 = and_parts (value_of a.nodes p.allowed m.0)
      (value_of from.nodes from.root m.0) (sym (g.means m.0) ∙ m.2) in
      (m.0, m.1, (parts.0, parts.1, met_before a b links g.extends refs m.0 m.3)),
  λ (w, same, (allowed, inside, met)). (h.means v).1 (
    w,
    same,
    g.means w ∙ and_from (value_of a.nodes p.allowed w)
        (value_of from.nodes from.root w) allowed inside,
    met_after a b links g.extends refs w met,
  ),
)

-- whether the observer is true throughout
pub judged : (a b c : Diagrams) (p : Parts) (from : Frozen) (bad : ℕ) (met good : Bool) → good ≡ not met
    → Makes a b (λ v. (value_of a.nodes p.allowed v && value_of from.nodes from.root v) && not (value_of a.nodes p.observer v)) bad → Grows b c
    → MatchBool met ((v : Valuation) × (value_of c.nodes bad v ≡ true)) ((v : Valuation) → value_of c.nodes bad v ≡ false) → IsJudged a p from good
judged a b c p from bad true good e g h (v, on) =
    let means : value_of c.nodes bad v ≡ ((value_of a.nodes p.allowed v && value_of from.nodes from.root v) && not
    (value_of a.nodes p.observer v)) = h.kept bad g.found v ∙ g.means v in
    let parts : ((value_of a.nodes p.allowed v && value_of from.nodes from.root v) ≡ true)
    × (not (value_of a.nodes p.observer v) ≡ true) = and_parts (value_of a.nodes p.allowed v && value_of from.nodes from.root v) (not
    (value_of a.nodes p.observer v)) (sym means ∙ on) in
    let both : (value_of a.nodes p.allowed v ≡ true) × IsIn from v = and_parts (value_of a.nodes p.allowed v) (value_of from.nodes from.root v) parts.0 in
    record { all_good = λ yes. absurd (both_ways good e yes); some_bad = λ no. (v, both.0, both.1, not-true (value_of a.nodes p.observer v) parts.1) }
judged a b c p from bad false good e g h none = record {
  all_good = λ yes v allowed inside. ⊎_elim
      (λ on. on)
      (λ off. absurd (both_ways (value_of c.nodes bad v) (none v) (h.kept bad g.found v ∙ g.means v
      ∙ and_from (value_of a.nodes p.allowed v && value_of from.nodes from.root v) (not (value_of a.nodes p.observer v))
      (and_from (value_of a.nodes p.allowed v) (value_of from.nodes from.root v) allowed inside) (ap not off))))
      (cases_Bool (value_of a.nodes p.observer v));
  some_bad = λ no. absurd (both_ways good no e);
}

-- node i of a diagram whose variables are moved
moved-node : (g : Triple → Triple) (nodes : List Triple) (i : ℕ) → i < length nodes → node_at (map g nodes) i ≡ g (node_at nodes i)
moved-node g nodes i low = get_or-map g nodes i (record { var = 0; lo = 0; hi = 0 }) (record { var = 0; lo = 0; hi = 0 }) low

lower-var : (t : Triple) → (lower_node t).var ≡ t.var - 1
lower-var t = refl

higher-var : (t : Triple) → (higher_node t).var ≡ t.var + 1
higher-var t = refl

module _ (s : System) (d : Diagrams) (rel : Relation) (is : IsRelationOf s d rel) where
  few : 2 * s.states ≤ s.variables
  few = is.system.bits

  same_bits : length rel.parts.next ≡ s.states
  same_bits = is.parts.states

  pub forth : IsRelation d rel.parts.next 1 rel.forth
  forth = links_opened d rel.parts.next 1 rel.forth is.laid_out.forth

  pub back : IsRelation d rel.parts.next 0 rel.back
  back = links_opened d rel.parts.next 0 rel.back is.laid_out.back

  -- which variables are quantified
  over_copies : (x : ℕ) → x < s.variables → quantified rel.forth x ≡ not (is_of s.states 1 x)
  over_copies x low = forth.over.within x (omega (arith, is.parts.variables)) ∙ ap (λ n. not (is_of n 1 x)) same_bits

  over_bits : (x : ℕ) → x < s.variables → quantified rel.back x ≡ not (is_of s.states 0 x)
  over_bits x low = back.over.within x (omega (arith, is.parts.variables)) ∙ ap (λ n. not (is_of n 0 x)) same_bits

  copy_left : (i : ℕ) → i < s.states → quantified rel.forth (2 * i + 1) ≡ false
  copy_left i low = over_copies (2 * i + 1) (omega (arith, few)) ∙ ap not (is_of-bit s.states 1 i (omega arith) low)

  bit_left : (i : ℕ) → i < s.states → quantified rel.back (2 * i) ≡ false
  bit_left i low = over_bits (2 * i) (omega (arith, few)) ∙ ap not (let z : 2 * i + 0 ≡ 2 * i = omega arith in subst (λ
      (x : ℕ). is_of s.states 0 x ≡ true) z (is_of-bit s.states 0 i (omega arith) low))

  -- the relation
  pub relation_to : (p : ℕ) (links : List Part) → AreLinks d rel.parts.next p links → (w : Valuation) → AreMet d.nodes links w
      → (i : ℕ) → i < s.states → w (2 * i + 1) ≡ s.next w (2 * i)
  relation_to p links are w on i low = ((links_opened d rel.parts.next p links are).exact w).0 on i (omega (arith, same_bits)) ∙ is.parts.next i low w

  pub relation_from : (p : ℕ) (links : List Part) → AreLinks d rel.parts.next p links → (w : Valuation)
      → ((i : ℕ) → i < s.states → w (2 * i + 1) ≡ s.next w (2 * i)) → AreMet d.nodes links w
  relation_from p links are w linked = ((links_opened d rel.parts.next p links are).exact w).1
      (λ i less. let low : i < s.states = omega (arith, same_bits) in linked i low
      ∙ sym (is.parts.next i low w))

  -- variable 0 is quantified, if it is there
  pub copies_above : (holds : Valuation → Type 0) (f : Frozen) → IsProjected d.variables (quantified rel.forth) holds f → IsUnused f.nodes 0
  copies_above holds f p i low e =
      let there : (node_at f.nodes i).var < s.variables = omega (arith, p.ordered.low i low, is.parts.variables) in
      let on : quantified rel.forth 0 ≡ true = over_copies 0 (omega (arith, there, e)) ∙ ap not (is_of-other s.states 1 0 (λ z. omega arith)) in
      p.unused 0 on i low e

  -- IMAGES

  module _ (P : Valuation → Type 0) (keep : (u w : Valuation) → IsSameValuation s u w → P w → P u) (holds : Valuation → Type 0)
      (part : (w : Valuation) → holds w → P w) (linked : (w : Valuation) → holds w → AreMet d.nodes rel.forth w)
      (from_parts : (w : Valuation) → P w → AreMet d.nodes rel.forth w → holds w)
      (f g : Frozen) (p : IsProjected d.variables (quantified rel.forth) holds f)
      (nodes : g.nodes ≡ map lower_node f.nodes) (ordered : IsOrderedOver d.variables g)
      (means : (v : Valuation) → value_of g.nodes g.root v ≡ value_of f.nodes f.root (lowered v)) where
    image_states : (n : ℕ) → n < length (map lower_node f.nodes) → IsState s (node_at (map lower_node f.nodes) n).var
    image_states n less =
        let low : n < length f.nodes = omega (arith, less, length-map f.nodes lower_node) in
        let x : ℕ = (node_at f.nodes n).var in
        let there : x < s.variables = omega (arith, p.ordered.low n low, is.parts.variables) in
        let e : (node_at (map lower_node f.nodes) n).var ≡ x - 1 = ap (λ (t : Triple). t.var) (moved-node lower_node f.nodes n low)
        ∙ lower-var (node_at f.nodes n) in
        ⊎_elim
        (λ on. let c : (x / 2 < s.states) × (x ≡ 2 * (x / 2) + 1) = is_of-parts s.states 1 x (omega arith) on in (x / 2, c.0, omega (arith, e, c.1)))
        (λ off. absurd (p.unused x (over_copies x there ∙ ap not off) n low refl))
        (cases_Bool (is_of s.states 1 x))

    pub image_control : IsControlSet s g
    image_control = record {
      ordered = subst (λ (m : ℕ). IsOrderedOver m g) is.parts.variables ordered;
      states = subst (λ (l : List Triple). (n : ℕ) → n < length l → IsState s (node_at l n).var) (sym nodes) image_states;
    }

    pub image_to : (v : Valuation) → IsIn g v → (w : Valuation) × P w × HasSameState s (s.next w) v
    image_to v h =
        let q : (w : Valuation) × SameBut (quantified rel.forth) (lowered v) w × holds w = (p.exact (lowered v)).0 (sym (means v) ∙ h) in (
          q.0,
          part q.0 q.2,
          λ x (i, low, e). ap (s.next q.0) e ∙ sym (relation_to 1 rel.forth is.laid_out.forth q.0 (linked q.0 q.2) i low)
              ∙ sym (q.1 (2 * i + 1) (copy_left i low)) ∙ ap v (let z : 2 * i + 1 - 1 ≡ x = omega (arith, e) in z),
        )

    pub image_from : (v w : Valuation) → P w → HasSameState s (s.next w) v → IsIn g v
    image_from v w h same =
        let over : Valuation = quantified rel.forth in
        let u : Valuation = λ x. cond (over x) (w x) (v (x - 1)) in
        let like : IsSameValuation s u w = λ x read. ap (λ b. cond b (w x) (v (x - 1))) (over_copies x read.0 ∙ ap not (read_off s x read)) in
        let links : (i : ℕ) → i < s.states → u (2 * i + 1) ≡ s.next u (2 * i) = λ i low.
        ap (λ b. cond b (w (2 * i + 1)) (v (2 * i + 1 - 1))) (copy_left i low) ∙ ap v (let z : 2 * i + 1 - 1 ≡ 2 * i = omega arith in z)
        ∙ sym (same (2 * i) (i, low, refl)) ∙ sym (is.system.next u w like (2 * i) (i, low, refl)) in
        means v ∙ (p.exact (lowered v)).1 (
          u,
          λ x off. sym (ap (λ b. cond b (w x) (v (x - 1))) off),
          from_parts u (keep u w like h)
              (relation_from 1 rel.forth is.laid_out.forth u links),
        )

  pub image_of : (from : Frozen) (c : Case) (f g : Frozen) → IsControlSet s from → IsCase s c
      → IsProjected d.variables (quantified rel.forth) (λ w. IsIn from w × IsIn c.condition w × AreMet d.nodes rel.forth w) f
      → g.nodes ≡ map lower_node f.nodes → IsOrderedOver d.variables g → ((v : Valuation)
      → value_of g.nodes g.root v ≡ value_of f.nodes f.root (lowered v)) → IsImage s from c g
  image_of from c f g control case p nodes ordered means =
      let P : Valuation → Type 0 = λ w. IsIn from w × IsIn c.condition w in
      let keep : (u w : Valuation) → IsSameValuation s u w → P w → P u = λ u w same h.
      (control-value s from u w control (valuation_state s u w few same) ∙ h.0, condition-value s c.condition u w case.condition same ∙ h.1) in
      let holds : Valuation → Type 0 = λ w. IsIn from w × IsIn c.condition w × AreMet d.nodes rel.forth w in
      record {
        control = image_control P keep holds (λ w h. (h.0, h.1)) (λ w h. h.2) (λ w h r. (h.0, h.1, r)) f g p nodes ordered means;
        exact = λ v. (
          λ h. let q : (w : Valuation) × P w × HasSameState s (s.next w) v = image_to P keep holds (λ w h. (h.0, h.1)) (λ w h. h.2) (λ w h r.
              (h.0, h.1, r)) f g p nodes ordered means v h in (q.0, q.1.0, q.1.1, q.2),
          λ (w, one, other, same). image_from P keep holds (λ w h. (h.0, h.1)) (λ w h. h.2) (λ w h r. (h.0, h.1, r)) f g p nodes ordered means v w
              (one, other) same,
        );
      }

  pub next_of : (from : Frozen) (f g : Frozen) (good : Bool) → IsControlSet s from
      → IsProjected d.variables (quantified rel.forth) (IsAStep d rel.parts rel.forth from) f → IsJudged d rel.parts from good
      → g.nodes ≡ map lower_node f.nodes → IsOrderedOver d.variables g → ((v : Valuation)
      → value_of g.nodes g.root v ≡ value_of f.nodes f.root (lowered v))
      → AreNextStates s from (record { set = g; good = good })
  next_of from f g good control p j nodes ordered means =
      let P : Valuation → Type 0 = λ w. IsTrue (s.allowed w) × IsIn from w in
      let keep : (u w : Valuation) → IsSameValuation s u w → P w → P u = λ u w same h.
      (is.system.allowed u w same ∙ h.0, control-value s from u w control (valuation_state s u w few same) ∙ h.1) in
      let holds : Valuation → Type 0 = IsAStep d rel.parts rel.forth from in
      record {
        control = image_control P keep holds (λ w h. (sym (is.parts.allowed w) ∙ h.0, h.1)) (λ w h. h.2) (λ w h r. (
          is.parts.allowed w
              ∙ h.0,
          h.1,
          r,
        )) f g p nodes ordered means;
        exact = λ v. (
          λ h. let q : (w : Valuation) × P w × HasSameState s (s.next w) v = image_to P keep holds (λ w h. (
            sym (is.parts.allowed w)
                ∙ h.0,
            h.1,
          )) (λ w h. h.2) (λ w h r. (is.parts.allowed w ∙ h.0, h.1, r)) f g p nodes ordered means v h in (q.0, q.1.0, q.1.1, q.2),
          λ (w, one, other, same). image_from P keep holds (λ w h. (
            sym (is.parts.allowed w)
                ∙ h.0,
            h.1,
          )) (λ w h. h.2) (λ w h r. (is.parts.allowed w ∙ h.0, h.1, r)) f g p nodes ordered means v w (one, other) same,
        );
        all_good = λ yes v allowed inside. sym (is.parts.observer v) ∙ j.all_good yes v (is.parts.allowed v ∙ allowed) inside;
        some_bad = λ no. let b : (v : Valuation) × (value_of d.nodes rel.parts.allowed v ≡ true) × IsIn from v
            × (value_of d.nodes rel.parts.observer v ≡ false) = j.some_bad no in
            (b.0, sym (is.parts.allowed b.0) ∙ b.1, b.2, sym (is.parts.observer b.0) ∙ b.3);
      }

  -- PREIMAGES

  -- a copy of a control set is one
  pub copied_control : (to f : Frozen) → IsControlSet s to → IsOrderedOver d.variables f → UsesNeeded f.nodes (value_of to.nodes to.root)
      → IsControlSet s f
  copied_control to f control ordered needed = control_set s f (value_of to.nodes to.root) (subst (λ
      (m : ℕ). IsOrderedOver m f) is.parts.variables ordered) needed (λ v w same. control-value s to v w control same)

  -- and with its state bits as next copies it is a diagram over the same variables
  pub raised_ordered : (f g : Frozen) → IsControlSet s f → IsOrderedOver (d.variables + 1) g → g.nodes ≡ map higher_node f.nodes
      → IsOrderedOver d.variables g
  raised_ordered f g control ordered nodes = record {
    placed = ordered.placed;
    low = subst (λ (l : List Triple). (i : ℕ) → i < length l → (node_at l i).var < d.variables) (sym nodes) (λ i less.
        let low : i < length f.nodes = omega (arith, less, length-map f.nodes higher_node) in
        let e : (node_at (map higher_node f.nodes) i).var ≡ (node_at f.nodes i).var + 1 = ap (λ (t : Triple). t.var)
        (moved-node higher_node f.nodes i low) ∙ higher-var (node_at f.nodes i) in
        let c : IsState s (node_at f.nodes i).var = control.states i low in
        omega (arith, e, c.1, c.2, few, is.parts.variables));
    root = ordered.root;
  }

  pub preimage_of : (to : Frozen) (c : Case) (bits copies f : Frozen) → IsControlSet s to → IsCase s c
      → ((v : Valuation) → value_of bits.nodes bits.root v ≡ value_of to.nodes to.root v) → ((v : Valuation)
      → value_of copies.nodes copies.root v ≡ value_of bits.nodes bits.root (raised v))
      → IsProjected d.variables (quantified rel.back) (λ w. IsIn copies w × IsIn c.condition w × AreMet d.nodes rel.back w) f
      → IsPreimage s to c f
  preimage_of to c bits copies f control case copied moved p = record {
    control = record {
      ordered = subst (λ (m : ℕ). IsOrderedOver m f) is.parts.variables p.ordered;
      states = λ n low. let x : ℕ = (node_at f.nodes n).var in
          let there : x < s.variables = omega (arith, p.ordered.low n low, is.parts.variables) in
          ⊎_elim
          (λ on. state_is s x on)
          (λ off. absurd (p.unused x (over_bits x there ∙ ap not off) n low refl))
          (cases_Bool (is_of s.states 0 x));
    };
    exact = λ v. (
      λ h. let q : (w : Valuation) × SameBut (quantified rel.back) v w × (IsIn copies w × IsIn c.condition w
          × AreMet d.nodes rel.back w) = (p.exact v).0 h in (
            q.0,
            λ x (i, low, e). ap q.0 e ∙ sym (q.1 (2 * i) (bit_left i low)) ∙ ap v (sym e),
            q.2.1,
            sym (control-value s to (raised q.0) (s.next q.0) control (λ x (i, low, e). ap (raised q.0) e
                ∙ relation_to 0 rel.back is.laid_out.back q.0 q.2.2 i low
                ∙ ap (s.next q.0) (sym e))) ∙ sym (copied (raised q.0)) ∙ sym (moved q.0) ∙ q.2.0,
          ),
      λ (w, same, within, into).
          let over : Valuation = quantified rel.back in
          let u : Valuation = λ x. cond (is_of s.states 1 x) (s.next w (x - 1)) (cond (over x) (w x) (v x)) in
          let at_copy : (i : ℕ) → i < s.states → u (2 * i + 1) ≡ s.next w (2 * i) = λ i low.
          ap (λ b. cond b (s.next w (2 * i + 1 - 1)) (cond (over (2 * i + 1)) (w (2 * i + 1)) (v (2 * i + 1)))) (is_of-bit s.states 1 i
          (omega arith) low) ∙ ap (s.next w) (let z : 2 * i + 1 - 1 ≡ 2 * i = omega arith in z) in
          let off_copy : (x : ℕ) → is_of s.states 1 x ≡ false → u x ≡ cond (over x) (w x) (v x) = λ x off. ap (λ b. cond b (s.next w (x - 1)) (cond
          (over x) (w x) (v x))) off in
          let like : IsSameValuation s u w = λ x read. off_copy x (read_off s x read) ∙ ⊎_elim
          (λ on. ap (λ b. cond b (w x) (v x)) (over_bits x read.0 ∙ ap not on) ∙ sym (same x (state_is s x on)))
          (λ off. ap (λ b. cond b (w x) (v x)) (over_bits x read.0 ∙ ap not off))
          (cases_Bool (is_of s.states 0 x)) in
          let links : (i : ℕ) → i < s.states → u (2 * i + 1) ≡ s.next u (2 * i) = λ i low. at_copy i low
          ∙ sym (is.system.next u w like (2 * i) (i, low, refl)) in
          let left : (x : ℕ) → over x ≡ false → is_of s.states 1 x ≡ false = λ x off. ⊎_elim
          (λ low. ⊎_elim
          (λ on. let parts : (x / 2 < s.states) × (x ≡ 2 * (x / 2) + 0) = is_of-parts s.states 0 x (omega arith) on in is_of-other s.states 1 x
          (λ odd. omega (arith, parts.1, odd)))
          (λ no. absurd (both_ways (over x) off (over_bits x low ∙ ap not no)))
          (cases_Bool (is_of s.states 0 x)))
          (λ past. is_of-past s.states 1 x (omega (arith, past, few)))
          (cases_lt x s.variables) in
          (p.exact v).1 (
            u,
            λ x off. sym (off_copy x (left x off) ∙ ap (λ b. cond b (w x) (v x)) off),
            (
              moved u ∙ copied (raised u) ∙ control-value s to (raised u) (s.next w) control (λ x (i, low, e). ap (raised u) e ∙ at_copy i low
                  ∙ ap (s.next w) (sym e)) ∙ into,
              condition-value s c.condition u w case.condition like ∙ within,
              relation_from 0 rel.back is.laid_out.back u links,
            ),
          ),
    );
  }

  -- INITIAL STATES

  initial_of : (f : Frozen) → IsOrderedOver d.variables f → ((v : Valuation) → value_of f.nodes f.root v ≡ value_of d.nodes
      rel.parts.initial v) → UsesNeeded f.nodes (value_of d.nodes rel.parts.initial) → IsInitialSet s f
  initial_of f ordered means needed = record {
    control = control_set s f (value_of d.nodes rel.parts.initial) (subst (λ (m : ℕ). IsOrderedOver m f) is.parts.variables ordered) needed
        (λ v w same. is.parts.initial v ∙ is.system.initial v w same ∙ sym (is.parts.initial w));
    exact = λ v. (λ h. sym (is.parts.initial v) ∙ sym (means v) ∙ h, λ h. means v ∙ is.parts.initial v ∙ h);
  }

  pub initial_ok : {E : Type 0} (o : Result Frozen E) → IfOk o (λ f. IsOrderedOver d.variables f) → IfOk o (λ f. (v : Valuation)
      → value_of f.nodes f.root v ≡ value_of d.nodes rel.parts.initial v) → IfOk o (λ f. UsesNeeded f.nodes (value_of d.nodes rel.parts.initial))
      → IfOk o (IsInitialSet s)
  initial_ok (Ok f) ordered means needed = initial_of f ordered means needed
  initial_ok (Err e) ordered means needed = ordered
