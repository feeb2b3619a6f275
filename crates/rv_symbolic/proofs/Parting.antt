-- Cases that part a set of valuations.
use Rattle.std.proofs.Common.{ℕ, ◌<◌, ◌≡◌, ◌⊎◌, Bool, true, false, not, ◌&&◌, ◌||◌, List, [], ◌∷◌, ◌++◌, length, refl, sym, ap, ◌∙◌, subst, ⊎_elim, inl, inr}
use Rattle.std.proofs.Common.{arith, length-append, slice_get, Some}
use Rattle.std.proofs.lemmas.Bool.{or_cases, and_from, and_parts, not-true, or_left, or_right}
use Rattle.std.proofs.{lemmas.List.get_or_append_left, lemmas.Option.slice_get_within, lemmas.Option.get_or_from_slice_get, lemmas.Option.slice_get_read}
use Rattle.rv_diagram.specs.{Nodes.Valuation, Nodes.Diagrams, Nodes.value_of, Nodes.IsOrderedOver, declared.frozen.Frozen.Frozen}
use Rattle.rv_proofs.specs.Systems.{System, IsSameValuation, updates_among}
use Rattle.rv_proofs.specs.{Scopes.IsIn, Ranges.IsControlSet, Reached.HasNoIntegers, Cases.IsCaseOf, Cases.AreCases, declared.report.Case.Case}
use Rattle.rv_symbolic.specs.{declared.relation.Relation.Relation, Represented.IsRelationOf, Parted.IsCaseFor, Parted.IsAdded, Parted.HasSides}
use Rattle.rv_symbolic.proofs.{Extending.needed_same, Reading.control-value, Reading.condition_set, Reading.valuation_state}
use Rattle.rv_base.proofs.{Lists.get_push, Lists.none_at, Lists.push_got, Truths.or_false_is}

pub kept-append : {A : Type 0} (before : List A) (c x : A) (j : ℕ) → slice_get before j ≡ Some x → slice_get (before ++ c ∷ []) j ≡ Some x
kept-append before c x j h =
    let low : j < length before = slice_get_within before j x h in
    let longer : j < length (before ++ c ∷ []) = omega (arith, length-append before (c ∷ [])) in
    slice_get_read (before ++ c ∷ []) (length (before ++ c ∷ [])) j x refl longer (sym (get_or_from_slice_get before j x x h)
    ∙ sym (get_or_append_left before (c ∷ []) x j low))

-- each valuation of a part of the allowed ones is in exactly one condition, and no other is in any
pub record IsParted (s : System) (part : Valuation → Bool) (cases : List Case) : Type 0 where
  pub each : (j : ℕ) (c : Case) → slice_get cases j ≡ Some c → IsCaseOf s c
  pub covered : (v : Valuation) → part v ≡ true → (j : ℕ) × (c : Case) × (slice_get cases j ≡ Some c) × IsIn c.condition v
  pub apart : (i j : ℕ) (b c : Case) (v : Valuation) → slice_get cases i ≡ Some b → slice_get cases j ≡ Some c → IsIn b.condition v
      → IsIn c.condition v → i ≡ j
  pub within : (j : ℕ) (c : Case) (v : Valuation) → slice_get cases j ≡ Some c → IsIn c.condition v → part v ≡ true

-- what is asked of a new part
pub record IsPart (s : System) (p q : Valuation → Bool) (observer : Bool) : Type 0 where
  pub allowed : (v : Valuation) → q v ≡ true → s.allowed v ≡ true
  pub observed : (v : Valuation) → q v ≡ true → s.observer v ≡ observer
  pub same : (v w : Valuation) → IsSameValuation s v w → q v ≡ q w
  pub apart : (v : Valuation) → p v ≡ true → q v ≡ true → ⊥

parted_none : (s : System) → IsParted s (λ v. false) []
parted_none s = record {
  each = λ j c h. absurd (none_at [] j c refl h);
  covered = λ v h. cc;
  apart = λ i j b c v h g one two. absurd (none_at [] i b refl h);
  within = λ j c v h on. absurd (none_at [] j c refl h);
}

parted_same : (s : System) (p q : Valuation → Bool) (cases : List Case) → ((v : Valuation) → p v ≡ q v) → IsParted s p cases → IsParted s q cases
parted_same s p q cases same g = record {
  each = g.each;
  covered = λ v h. g.covered v (same v ∙ h);
  apart = g.apart;
  within = λ j c v h on. sym (same v) ∙ g.within j c v h on;
}

-- a case without integers
whole_case : (s : System) (d : Diagrams) (p q : Valuation → Bool) (condition : ℕ) (observer : Bool) (c : Case) → HasNoIntegers s → d.variables ≡ s.variables
    → ((v : Valuation) → value_of d.nodes condition v ≡ q v) → IsPart s p q observer → IsCaseFor d condition observer c → IsCaseOf s c
whole_case s d p q condition observer c none variables means part is = record {
  given = record {
    condition = condition_set s c.condition q (subst (λ (m : ℕ). IsOrderedOver m c.condition) variables is.ordered) (needed_same c.condition.nodes
        (value_of d.nodes condition) q means is.needed) part.same;
    allowed = λ v on. part.allowed v (sym (means v) ∙ sym (is.means v) ∙ on);
  };
  some = (is.some.0, is.means is.some.0 ∙ is.some.1);
  tests = record {
    known = λ i t h. absurd (none_at c.tests i t is.tests h);
    rising = λ i j t u less h g. absurd (none_at c.tests i t is.tests h);
    counts = ap (λ l. length l) is.rows ∙ sym (ap (λ l. length l) is.tests);
    present = λ i t r v h g on. absurd (none_at c.tests i t is.tests h);
    absent = λ t v low off on. absurd (omega (arith, low, none.tests));
  };
  updates = λ v on. ap (updates_among s v) none.memories ∙ sym is.updates;
  observer = λ v on. part.observed v (sym (means v) ∙ sym (is.means v) ∙ on) ∙ sym is.observed;
}

parted_more : (s : System) (d : Diagrams) (p q : Valuation → Bool) (condition : ℕ) (observer : Bool) (before : List Case) (c : Case)
    → HasNoIntegers s → d.variables ≡ s.variables
    → ((v : Valuation) → value_of d.nodes condition v ≡ q v) → IsPart s p q observer → IsCaseFor d condition observer c → IsParted s p before
    → IsParted s (λ v. p v || q v) (before ++ c ∷ [])
parted_more s d p q condition observer before c none variables means part is g =
    let holds : (v : Valuation) → value_of c.condition.nodes c.condition.root v ≡ q v = λ v. is.means v ∙ means v in
    let old : (j : ℕ) (x : Case) (v : Valuation) → slice_get before j ≡ Some x → c ≡ x → IsIn x.condition v → IsIn x.condition v = λ j x v h e on. on in
    let cut : (j : ℕ) (x y : Case) (v : Valuation) → slice_get before j ≡ Some x → IsIn x.condition v → c ≡ y → IsIn y.condition v
    → ⊥ = λ j x y v h on e other.
    part.apart v (g.within j x v h on) (sym (holds v) ∙ subst (λ (z : Case). IsIn z.condition v) (sym e) other) in
    record {
      each = λ j x h. ⊎_elim (λ o. g.each j x o.1) (λ n. subst (IsCaseOf s) n.1 (whole_case s d p q condition observer c none variables means part
          is)) (push_got before c x j h);
      covered = λ v h. ⊎_elim
          (λ o. let b : (j : ℕ) × (x : Case) × (slice_get before j ≡ Some x) × IsIn x.condition v = g.covered v o in
          (b.0, b.1, kept-append before c b.1 b.0 b.2, b.3))
          (λ n. (length before, c, get_push before c, holds v ∙ n))
          (or_cases (p v) (q v) h);
      apart = λ i j x y v h k one two. ⊎_elim
          (λ a. ⊎_elim (λ b. g.apart i j x y v a.1 b.1 one two) (λ b. absurd (cut i x y v a.1 one b.1 two)) (push_got before c y j k))
          (λ a. ⊎_elim (λ b. absurd (cut j y x v b.1 two a.1 one)) (λ b. a.0 ∙ sym b.0) (push_got before c y j k))
          (push_got before c x i h);
      within = λ j x v h on. ⊎_elim
          (λ o. or_left (p v) (q v) (g.within j x v o.1 on))
          (λ n. or_right (p v) (q v) (sym (holds v) ∙ subst (λ (z : Case). IsIn z.condition v) (sym n.1) on))
          (push_got before c x j h);
    }

parted_added : (s : System) (d : Diagrams) (p q : Valuation → Bool) (condition : ℕ) (observer : Bool) (before after : List Case) → HasNoIntegers s
    → d.variables ≡ s.variables
    → ((v : Valuation) → value_of d.nodes condition v ≡ q v) → IsPart s p q observer → IsAdded d condition observer before after
    → IsParted s p before → IsParted s (λ v. p v || q v) after
parted_added s d p q condition observer before after none variables means part (inl h) g =
    subst (IsParted s (λ v. p v || q v)) (sym h.1) (parted_same s p (λ v. p v || q v) before (λ v. or_false_is (p v) (q v) (sym (means v) ∙ h.0 v)) g)
parted_added s d p q condition observer before after none variables means part (inr (c, is, e)) g =
    subst (IsParted s (λ v. p v || q v)) (sym e) (parted_more s d p q condition observer before c none variables means part is g)

halves : (a o : Bool) → ((false || (a && o)) || (a && not o)) ≡ a
halves true true = refl
halves true false = refl
halves false o = refl

apart_halves : (a o : Bool) → (false || (a && o)) ≡ true → (a && not o) ≡ true → ⊥
apart_halves true true h g = cc
apart_halves true false h g = cc
apart_halves false o h g = cc

pub parted_both : (s : System) (d : Diagrams) (rel : Relation) (from : Frozen) (cases : List Case) → IsRelationOf s d rel → HasNoIntegers s
    → IsControlSet s from
    → HasSides d rel.parts from cases → AreCases s from cases
parted_both s d rel from cases is none control sides =
    let within : Valuation → Bool = λ v. s.allowed v && value_of from.nodes from.root v in
    let q : Valuation → Bool = λ v. within v && s.observer v in
    let r : Valuation → Bool = λ v. within v && not (s.observer v) in
    let variables : sides.new.variables ≡ s.variables = sides.variables ∙ is.parts.variables in
    let same : (v w : Valuation) → IsSameValuation s v w → within v ≡ within w =
    λ v w like. ap (λ b. b && value_of from.nodes from.root v) (is.system.allowed v w like)
    ∙ ap (λ b. s.allowed w && b) (control-value s from v w control (valuation_state s v w is.system.bits like)) in
    let means_good : (v : Valuation) → value_of sides.new.nodes sides.good v ≡ q v =
    λ v. sides.good_means v ∙ ap (λ b. (b && value_of from.nodes from.root v) && value_of d.nodes rel.parts.observer v) (is.parts.allowed v)
    ∙ ap (λ b. within v && b) (is.parts.observer v) in
    let means_bad : (v : Valuation) → value_of sides.new.nodes sides.bad v ≡ r v =
    λ v. sides.bad_means v ∙ ap (λ b. (b && value_of from.nodes from.root v) && not (value_of d.nodes rel.parts.observer v))
    (is.parts.allowed v) ∙ ap (λ b. within v && not b) (is.parts.observer v) in
    let first : IsPart s (λ v. false) q true = record {
      allowed = λ v h. (and_parts (s.allowed v) (value_of from.nodes from.root v) (and_parts (within v) (s.observer v) h).0).0;
      observed = λ v h. (and_parts (within v) (s.observer v) h).1;
      same = λ v w like. ap (λ b. b && s.observer v) (same v w like) ∙ ap (λ b. within w && b) (is.system.observer v w like);
      apart = λ v no on. cc;
    } in
    let second : IsPart s (λ v. false || q v) r false = record {
      allowed = λ v h. (and_parts (s.allowed v) (value_of from.nodes from.root v) (and_parts (within v) (not (s.observer v)) h).0).0;
      observed = λ v h. not-true (s.observer v) (and_parts (within v) (not (s.observer v)) h).1;
      same = λ v w like. ap (λ b. b && not (s.observer v)) (same v w like) ∙ ap (λ b. within w && not b) (is.system.observer v w like);
      apart = λ v. apart_halves (within v) (s.observer v);
    } in
    let whole : IsParted s within cases = parted_same s (λ v. (false || q v) || r v) within cases (λ v. halves (within v) (s.observer v))
    (parted_added s sides.new (λ v. false || q v) r sides.bad false sides.first cases none variables means_bad second sides.bad_added
    (parted_added s sides.new (λ v. false) q sides.good true [] sides.first none variables means_good first sides.good_added (parted_none s))) in
    record {
      each = whole.each;
      covered = λ v allowed inside. whole.covered v (and_from (s.allowed v) (value_of from.nodes from.root v) allowed inside);
      apart = whole.apart;
      within = λ j c v h on. (and_parts (s.allowed v) (value_of from.nodes from.root v) (whole.within j c v h on)).1;
    }
