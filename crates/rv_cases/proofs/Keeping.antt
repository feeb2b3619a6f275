-- Questions and what is told of conditions, while the store grows.
use Rattle.std.proofs.Common.{ℕ, ◌+◌, ◌<◌, ◌≡◌, Bool, List, length, sym, ◌∙◌, subst, arith, slice_get, Some}
use Rattle.std.proofs.lemmas.Option.{slice_get_within}
use Rattle.rv_diagram.specs.{declared.Triple.Triple, Nodes.Valuation, Nodes.Diagrams, Nodes.value_of, Nodes.IsMeant, Several.ref_at}
use Rattle.rv_diagram.specs.Growing.{Extends}
use Rattle.rv_diagram.proofs.Growing.{extends_trans}
use Rattle.rv_proofs.specs.{Systems.System, declared.report.Case.Case}
use Rattle.rv_cases.specs.Conditions.{is_in, list_at, AreWithin, IsParted, AreJoined}
use Rattle.rv_cases.specs.Questions.{HaveAnswers, AreQuestions, IsSettledFor, rows_at, forms_at, memory_answers, observer_answers}
use Rattle.rv_cases.specs.{declared.asking.Questions.Questions, Made.IsMadeFor, Made.AreMadeOf}
use Rattle.rv_cases.proofs.Gathering.{in_later, answers_later, parted_as}

pub have_later : (old new : Diagrams) (q : Questions) → Extends old new → HaveAnswers old.nodes q → HaveAnswers new.nodes q
have_later old new q e h = record {
  many = h.many;
  one = λ i low. answers_later old new (list_at q.questions i) e (h.one i low);
  tests = h.tests;
  memories = h.memories;
  sides = h.sides;
}

-- conditions that are each within one answer to each question
pub settled_from : (old new : Diagrams) (q : Questions) (conditions : List ℕ) → Extends old new → HaveAnswers old.nodes q
    → ((i : ℕ) → i < length q.questions → AreWithin old.nodes new.nodes (list_at q.questions i) conditions)
    → (j : ℕ) → j < length conditions → IsSettledFor new.nodes q (ref_at conditions j)
settled_from old new q conditions e have within j low i less =
    let (b, lb, here) = within i less j low in
    (b, lb, λ v on. in_later old new (list_at q.questions i) e (have.one i less).found b lb v ∙ here v on)

pub questions_later : (s : System) (old new : Diagrams) (q : Questions) → Extends old new → AreQuestions s old q → AreQuestions s new q
questions_later s old new q e a =
    let back : (i b : ℕ) (v : Valuation) → i < length q.questions → b < length (list_at q.questions i) → is_in new.nodes (list_at q.questions i) b v
    ≡ is_in old.nodes (list_at q.questions i) b v = λ i b v low less. in_later old new (list_at q.questions i) e (a.answers.one i low).found b less v in
    record {
      variables = e.variables ∙ a.variables;
      answers = have_later old new q e a.answers;
      many_tests = a.many_tests;
      many_memories = a.many_memories;
      tests = λ t low.
          let known : t < length q.rows = omega (arith, a.many_tests) in
          let asked : t < length q.questions = omega (arith, a.answers.many) in
          let size : length (list_at q.questions t) ≡ length (rows_at q.rows t) + 1 = a.answers.tests t known in
          record {
            absent = λ v on. (a.tests t low).absent v (sym (back t 0 v asked (omega arith)) ∙ on);
            present = λ i r v got on.
                let less : i < length (rows_at q.rows t) = slice_get_within (rows_at q.rows t) i r got in
                (a.tests t low).present i r v got (sym (back t (i + 1) v asked (omega arith)) ∙ on);
          };
      updates = λ k low.
          let known : k < length q.forms = omega (arith, a.many_memories) in
          let asked : length q.rows + k < length q.questions = omega (arith, a.answers.many) in
          let size : length (memory_answers q k) ≡ length (forms_at q.forms k) = a.answers.memories k known in
          record {
            becomes = λ i f v got on.
                let less : i < length (forms_at q.forms k) = slice_get_within (forms_at q.forms k) i f got in
                (a.updates k low).becomes i f v got (sym (back (length q.rows + k) i v asked (omega arith)) ∙ on);
          };
      observer =
          let asked : length q.rows + length q.forms < length q.questions = omega (arith, a.answers.many) in
          let size : length (observer_answers q) ≡ 2 = a.answers.sides in
          record {
            good = λ v on. a.observer.good v (sym (back (length q.rows + length q.forms) 0 v asked (omega arith)) ∙ on);
            bad = λ v on. a.observer.bad v (sym (back (length q.rows + length q.forms) 1 v asked (omega arith)) ∙ on);
          };
      unread = λ i b v w low less same. back i b v low less ∙ a.unread i b v w low less same ∙ sym (back i b w low less);
    }

-- valuations with the same answers in the first list are in one condition where those with the same answers in the second are
joined_before : (old mid : Diagrams) (new : List Triple) (q : Questions) (p : Valuation → Bool) (whole : ℕ) (conditions : List ℕ) → HaveAnswers old.nodes q
    → Extends old mid → ((v : Valuation) → value_of mid.nodes whole v ≡ p v)
    → AreJoined mid.nodes new (value_of mid.nodes whole) q.questions (length q.questions) conditions
    → AreJoined old.nodes new p q.questions (length q.questions) conditions
joined_before old mid new q p whole conditions have e means joined v w pv pw same j low on =
    joined v w (means v ∙ pv) (means w ∙ pw)
    (λ i b li lb. in_later old mid (list_at q.questions i) e (have.one i li).found b lb v ∙ same i b li lb
    ∙ sym (in_later old mid (list_at q.questions i) e (have.one i li).found b lb w)) j low on

-- Cases of the conditions that a set has been split into.
pub taken : (old mid new : Diagrams) (q : Questions) (p : Valuation → Bool) (whole : ℕ) (asked : List (List ℕ)) (items conditions : List ℕ)
    (cases : List Case) → asked ≡ q.questions → conditions ≡ items → HaveAnswers old.nodes q → Extends old mid → Extends mid new
    → IsMeant mid.nodes p whole → IsParted new.nodes (value_of mid.nodes whole) items
    → AreJoined mid.nodes new.nodes (value_of mid.nodes whole) asked (length asked) items → length cases ≡ length conditions
    → ((j : ℕ) (c : Case) → slice_get cases j ≡ Some c → IsMadeFor new q (ref_at conditions j) c) → AreMadeOf old q p cases
taken old mid new q p whole asked items conditions cases are list have e f meant parted joined many made =
    let same : AreJoined mid.nodes new.nodes (value_of mid.nodes whole) q.questions (length q.questions) items =
    subst (λ (l : List (List ℕ)). AreJoined mid.nodes new.nodes (value_of mid.nodes whole) l (length l) items) are joined in
    record {
      new = new;
      extends = extends_trans old mid new e f;
      conditions = conditions;
      parted = subst (λ (l : List ℕ). IsParted new.nodes p l) (sym list) (parted_as new.nodes (value_of mid.nodes whole) p items meant.1 parted);
      joined = subst (λ (l : List ℕ). AreJoined old.nodes new.nodes p q.questions (length q.questions) l) (sym list)
          (joined_before old mid new.nodes q p whole items have e meant.1 same);
      many = many;
      made = made;
    }
