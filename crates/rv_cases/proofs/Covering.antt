-- Cases that are made of conditions which part the allowed valuations of a set are the cases of that set.
use Rattle.std.proofs.Common.{ℕ, ◌*◌, ◌<◌, ◌≤◌, ◌≡◌, Bool, true, false, ◌&&◌, List, [], length, refl, sym, ap, ◌∙◌, subst, ⊎_elim, arith, slice_get, Some}
use Rattle.std.proofs.Common.{get_or}
use Rattle.std.proofs.{lemmas.Bool.cases_lt, lemmas.Bool.and_from, lemmas.Bool.and_parts, lemmas.Option.slice_get_within, lemmas.Option.slice_get-get_or}
use Rattle.rv_diagram.specs.Nodes.{Valuation, Diagrams, IsMeant, value_of, node_at, put, IsOrderedOver}
use Rattle.rv_diagram.specs.{declared.frozen.Frozen.Frozen, Several.ref_at, Several.UsesNeeded}
use Rattle.rv_diagram.proofs.{Canon.put-other, Several.same_truth}
use Rattle.rv_proofs.specs.Systems.{System, IsSystem, HasSameState, IsSameValuation}
use Rattle.rv_proofs.specs.{Scopes.IsIn, Ranges.IsControlSet, Ranges.IsCondition, Cases.IsCaseOf, Cases.AreCases, Cases.AreCaseTests, declared.report.Case.Case}
use Rattle.rv_proofs.proofs.ControlReads.{control_same}
use Rattle.rv_cases.specs.Conditions.{is_in, list_at, IsParted, AreJoined}
use Rattle.rv_cases.specs.{declared.asking.Questions.Questions, Questions.AreQuestions, Telling.AreTold, Made.is_allowed_in, Made.IsMadeFor, Made.AreMadeOf}
use Rattle.rv_cases.proofs.Keeping.{questions_later}

-- a diagram that needs each of its variables, and means a fact of the valuation, reads no next copy
condition_set : (s : System) (f : Frozen) (meaning : Valuation → Bool) → IsOrderedOver s.variables f → UsesNeeded f.nodes meaning
    → ((v w : Valuation) → IsSameValuation s v w → meaning v ≡ meaning w) → IsCondition s f
condition_set s f meaning ordered needed same = record {
  ordered = ordered;
  read = λ n low. (
    ordered.low n low,
    λ i less e. needed (node_at f.nodes n).var
        (λ v. same (put v (node_at f.nodes n).var false) (put v (node_at f.nodes n).var true) (λ y read.
        put-other v (node_at f.nodes n).var false y (λ is. read.1 i less (is ∙ e))
        ∙ sym (put-other v (node_at f.nodes n).var true y (λ is. read.1 i less (is ∙ e))))) n low refl,
  );
}

valuation_state : (s : System) (v w : Valuation) → 2 * s.states ≤ s.variables → IsSameValuation s v w → HasSameState s v w
valuation_state s v w few same x (i, low, e) = same x (omega (arith, e), λ j less f. absurd (omega (arith, e, f)))

same_back : (s : System) (v w : Valuation) → IsSameValuation s v w → IsSameValuation s w v
same_back s v w same x read = sym (same x read)

-- a condition has both of two valuations that have the same answers, or none
condition_same : (old new : Diagrams) (p : Valuation → Bool) (questions : List (List ℕ)) (conditions : List ℕ) (j : ℕ) (v w : Valuation)
    → IsParted new.nodes p conditions → AreJoined old.nodes new.nodes p questions (length questions) conditions → j < length conditions
    → p v ≡ p w
    → ((q b : ℕ) → q < length questions → b < length (list_at questions q)
    → is_in old.nodes (list_at questions q) b v ≡ is_in old.nodes (list_at questions q) b w)
    → is_in new.nodes conditions j v ≡ is_in new.nodes conditions j w
condition_same old new p questions conditions j v w parted joined low both same = same_truth (is_in new.nodes conditions j v) (is_in new.nodes conditions j w)
    (λ on. let pv : p v ≡ true = parted.only j low v on in joined v w pv (sym both ∙ pv) same j low on)
    (λ on. let pw : p w ≡ true = parted.only j low w on in
    joined w v pw (both ∙ pw) (λ q b lq lb. sym (same q b lq lb)) j low on)

told_tests : (s : System) (c : Case) (inside : Valuation → Bool) → ((v : Valuation) → value_of c.condition.nodes c.condition.root v ≡ inside v)
    → AreTold s inside s.tests c.tests c.rows → AreCaseTests s c
told_tests s c inside means h = record {
  known = h.known;
  rising = h.rising;
  counts = h.counts;
  present = λ i t r v g k on. h.present i t r v g k (sym (means v) ∙ on);
  absent = λ t v low none on. ⊎_elim (λ has. absurd (none has)) (λ off. off v (sym (means v) ∙ on)) (h.absent t low);
}

no_case : Case
no_case = record { condition = record { nodes = []; root = 0 }; tests = []; rows = []; updates = []; observer = false }

module _ (s : System) (d : Diagrams) (q : Questions) (allowed : ℕ) (from : Frozen) (cases : List Case) (system : IsSystem s) (asked : AreQuestions s d q)
    (meant : IsMeant d.nodes s.allowed allowed) (control : IsControlSet s from)
    (is : AreMadeOf d q (is_allowed_in d.nodes allowed from) cases) where
  inside_same : (v w : Valuation) → IsSameValuation s v w → is_allowed_in d.nodes allowed from v ≡ is_allowed_in d.nodes allowed from w
  inside_same v w same =
      let state : HasSameState s v w = valuation_state s v w system.bits same in
      let back : HasSameState s w v = valuation_state s w v system.bits (same_back s v w same) in
      ap (λ b. b && value_of from.nodes from.root v) (meant.1 v ∙ system.allowed v w same ∙ sym (meant.1 w))
      ∙ ap (λ b. value_of d.nodes allowed w && b) (same_truth (value_of from.nodes from.root v) (value_of from.nodes from.root w)
      (control_same s from v w control state) (control_same s from w v control back))

  made_case : (j : ℕ) (c : Case) → slice_get cases j ≡ Some c → IsCaseOf s c
  made_case j c got =
      let low : j < length is.conditions = let l : j < length cases = slice_get_within cases j c got in omega (arith, is.many) in
      let r : ℕ = ref_at is.conditions j in
      let m : IsMadeFor is.new q r c = is.made j c got in
      let now : AreQuestions s is.new q = questions_later s d is.new q is.extends asked in
      let some : (v : Valuation) × (value_of is.new.nodes r v ≡ true) = is.parted.filled j low in
      record {
        given = record {
          condition = condition_set s c.condition (value_of is.new.nodes r)
              (subst (λ (n : ℕ). IsOrderedOver n c.condition) (is.extends.variables ∙ asked.variables) m.ordered) m.needed
              (λ v w same. condition_same d is.new (is_allowed_in d.nodes allowed from) q.questions is.conditions j v w is.parted is.joined low
              (inside_same v w same)
              (λ i b li lb. asked.unread i b v w li lb same));
          allowed = λ v on. sym (meant.1 v) ∙ (and_parts (value_of d.nodes allowed v) (value_of from.nodes from.root v)
              (is.parted.only j low v (sym (m.means v) ∙ on))).0;
        };
        some = (some.0, m.means some.0 ∙ some.1);
        tests = told_tests s c (value_of is.new.nodes r) m.means (m.tests s now);
        updates = λ v on. m.updates s now v (sym (m.means v) ∙ on);
        observer = λ v on. m.observer s now v (sym (m.means v) ∙ on);
      }

  pub made_cases : AreCases s from cases
  made_cases =
      let on_reference : (j : ℕ) (c : Case) (v : Valuation) → slice_get cases j ≡ Some c → IsIn c.condition v → is_in is.new.nodes is.conditions j v ≡ true =
      λ j c v got on. sym ((is.made j c got).means v) ∙ on in
      let there : (j : ℕ) (c : Case) → slice_get cases j ≡ Some c → j < length is.conditions =
      λ j c got. let l : j < length cases = slice_get_within cases j c got in omega (arith, is.many) in
      record {
        each = made_case;
        covered = λ v on within.
            let k : (j : ℕ) × (j < length is.conditions) × (is_in is.new.nodes is.conditions j v ≡ true) =
            is.parted.covered v (and_from (value_of d.nodes allowed v) (value_of from.nodes from.root v) (meant.1 v ∙ on) within) in
            let got : slice_get cases k.0 ≡ Some (get_or cases k.0 no_case) = slice_get-get_or cases k.0 no_case (omega (arith, k.1, is.many)) in
            (k.0, get_or cases k.0 no_case, got, (is.made k.0 (get_or cases k.0 no_case) got).means v ∙ k.2);
        apart = λ i j b c v got other first second. ⊎_elim
            (λ less. absurd (is.parted.apart i j less (there j c other) v (on_reference i b v got first) (on_reference j c v other second)))
            (λ le. ⊎_elim
            (λ less. absurd (is.parted.apart j i less (there i b got) v (on_reference j c v other second) (on_reference i b v got first)))
            (λ ge. omega arith)
            (cases_lt j i))
            (cases_lt i j);
        within = λ j c v got on. (and_parts (value_of d.nodes allowed v) (value_of from.nodes from.root v)
            (is.parted.only j (there j c got) v (on_reference j c v got on))).1;
      }
