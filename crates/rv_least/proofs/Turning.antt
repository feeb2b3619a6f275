-- What memories become, as forms for the answers to their questions.
use Rattle.std.proofs.Common.{◌≡◌, ℕ, ◌+◌, ◌<◌, ◌≤◌, ◌^◌, ℤ, pos, ◌*ℤ◌, List, [], ◌∷◌, ◌++◌, length, true, false, Some, slice_get, arith, sym, ap, ◌∙◌}
use Rattle.std.proofs.Common.{subst, Bool, get_or, refl, ◌⊎◌, inl, inr}
use Rattle.std.proofs.lemmas.Option.{get_or_from_slice_get}
use Rattle.std.proofs.lemmas.{Bool.cases_lt, List.length_push, List.get_or_push, List.get_or_append_left, List.Elements.All-nil, List.Elements.All-weaker}
use Rattle.std.proofs.lemmas.{List.Elements.All-from_get_or, Int.ints}
use Rattle.std.specs.Int.RustNames.{unsigned_abs}
use Rattle.rv_diagram.specs.{declared.Triple.Triple, Nodes.Valuation, Nodes.Diagrams, Nodes.value_of, Several.ref_at}
use Rattle.rv_diagram.specs.Growing.{Extends}
use Rattle.rv_rows.specs.{declared.linear.Form.Form, Forms.FormWithin, Forms.IsMultiple, Forms.number, Forms.value}
use Rattle.rv_proofs.specs.{Systems.System, Systems.IsSystem, Systems.IsUpdate, Implied.form_at}
use Rattle.rv_cases.specs.{declared.asking.Questions.Questions, Questions.AreQuestions, Questions.memory_answers, Questions.forms_at, Conditions.AreRefs}
use Rattle.rv_cases.specs.Conditions.{AreAnswers, list_at}
use Rattle.rv_least.specs.Turned.{IsGivenFor, AreGivenFor, IsTurned, AreTurned, AreAllTurned}
use Rattle.rv_base.proofs.Truths.{clash}

-- what questions say of a memory
pub given_for : (s : System) → IsSystem s → (d : Diagrams) (q : Questions) → AreQuestions s d q → (k : ℕ) → k < s.memories
    → AreGivenFor s d.nodes k (memory_answers q k) (forms_at q.forms k)
given_for s is d q are k known i f at v on =
    let same : s.update v k ≡ f = (are.updates k known).becomes i f v at on in
    (subst (IsUpdate s) same (is.updates v k known), same)

pub memory_asked : (s : System) (d : Diagrams) (q : Questions) → AreQuestions s d q → (k : ℕ) → k < s.memories → AreAnswers d.nodes (memory_answers q k)
memory_asked s d q are k known = are.answers.one (length q.rows + k) (omega (arith, known, are.many_memories, are.answers.many))

pub memory_many : (s : System) (d : Diagrams) (q : Questions) → AreQuestions s d q → (k : ℕ) → k < s.memories
    → length (memory_answers q k) ≡ length (forms_at q.forms k)
memory_many s d q are k known = are.answers.memories k (omega (arith, known, are.many_memories))

-- the numbers of an update are small
pub update_small : (s : System) (f : Form) → IsUpdate s f → FormWithin (2 ^ 41) f
update_small s f u = (
  All-weaker (λ (c : ℤ). unsigned_abs c ≤ 2 ^ 40) (λ (c : ℤ). unsigned_abs c ≤ 2 ^ 41) (λ c m. omega (arith, m)) f.coefficients u.small.0,
  let m = u.small.1 in omega (arith, m),
)

-- 1 times a form is within the same numbers
pub once_within : (f g : Form) → IsMultiple (pos 1) f g → FormWithin (2 ^ 41) f → FormWithin (2 ^ 41) g
once_within f g m h = (
  All-from_get_or (λ (z : ℤ). unsigned_abs z ≤ 2 ^ 41) g.coefficients (pos 0) (λ k l.
      let w = m.width in same (number k f.coefficients) (number k g.coefficients) (m.coefficients k) (h.0 k (pos 0) (omega (arith, l, w)))),
  same f.constant g.constant m.constant h.1,
)
  where
    same : (x y : ℤ) → y ≡ pos 1 *ℤ x → unsigned_abs x ≤ 2 ^ 41 → unsigned_abs y ≤ 2 ^ 41
    same x y e l = omega (arith, ints)

-- the form 0, where the answer is given nowhere
pub turned_none : (s : System) (nodes : List Triple) (k : ℕ) (sign : ℤ) (answer : ℕ) (f : Form) → f ≡ record { coefficients = []; constant = pos 0 }
    → ((v : Valuation) → value_of nodes answer v ≡ false) → IsTurned s nodes k sign answer f
turned_none s nodes k sign answer f is none = record {
  narrow = omega (arith, ap (λ (g : Form). length g.coefficients) is);
  small = subst (FormWithin (2 ^ 41)) (sym is) (All-nil (λ (c : ℤ). unsigned_abs c ≤ 2 ^ 41), omega arith);
  worth = λ v on. absurd (clash (value_of nodes answer v) on (none v));
}

-- what holds of a form that is given somewhere, if it can be decided
module _ (s : System) (nodes : List Triple) (k : ℕ) (answer : ℕ) (f : Form) (given : IsGivenFor s nodes k answer f)
    (some : ((v : Valuation) → value_of nodes answer v ≡ false) → ⊥) where
  somewhere : (IsUpdate s f → ⊥) → ⊥
  somewhere never = some (λ v. go v (value_of nodes answer v) refl)
    where
      go : (v : Valuation) (b : Bool) → value_of nodes answer v ≡ b → b ≡ false
      go v true e = absurd (never (given v e).0)
      go v false e = refl

  pub given_small : FormWithin (2 ^ 41) f
  given_small = (
    λ i d l. number i d l (cases_lt (2 ^ 41) (unsigned_abs (get_or f.coefficients i d))),
    constant (cases_lt (2 ^ 41) (unsigned_abs f.constant)),
  )
    where
      number : (i : ℕ) (d : ℤ) → i < length f.coefficients
          → (2 ^ 41 < unsigned_abs (get_or f.coefficients i d)) ⊎ (unsigned_abs (get_or f.coefficients i d) ≤ 2 ^ 41)
          → unsigned_abs (get_or f.coefficients i d) ≤ 2 ^ 41
      number i d l (inl more) = absurd (somewhere (λ u. let m = (update_small s f u).0 i d l in omega (arith, more, m)))
      number i d l (inr m) = m

      constant : (2 ^ 41 < unsigned_abs f.constant) ⊎ (unsigned_abs f.constant ≤ 2 ^ 41) → unsigned_abs f.constant ≤ 2 ^ 41
      constant (inl more) = absurd (somewhere (λ u. let m = (update_small s f u).1 in omega (arith, more, m)))
      constant (inr m) = m

  pub given_narrow : length f.coefficients ≤ s.columns
  given_narrow = go (cases_lt s.columns (length f.coefficients))
    where
      go : (s.columns < length f.coefficients) ⊎ (length f.coefficients ≤ s.columns) → length f.coefficients ≤ s.columns
      go (inl more) = absurd (somewhere (λ u. let wide = u.wide in omega (arith, more, wide)))
      go (inr m) = m

-- the form times the sign, where it is given somewhere
pub turned_times : (s : System) (nodes : List Triple) (k : ℕ) (sign : ℤ) (answer : ℕ) (f g : Form) → IsGivenFor s nodes k answer f
    → (((v : Valuation) → value_of nodes answer v ≡ false) → ⊥) → length g.coefficients ≡ length f.coefficients → FormWithin (2 ^ 41) g
    → ((point : List ℤ) → value g point ≡ sign *ℤ value f point) → IsTurned s nodes k sign answer g
turned_times s nodes k sign answer f g given some width small worth = record {
  narrow = omega (arith, width, given_narrow s nodes k answer f given some);
  small = small;
  worth = λ w here point. worth point ∙ ap (λ (h : Form). sign *ℤ value h point) (sym (given w here).1);
}

-- one answer more
pub turned_more : (s : System) (nodes : List Triple) (k : ℕ) (sign : ℤ) (answers : List ℕ) (n : ℕ) (forms : List Form) (f : Form)
    → AreTurned s nodes k sign answers n forms → IsTurned s nodes k sign (ref_at answers n) f
    → AreTurned s nodes k sign answers (n + 1) (forms ++ f ∷ [])
turned_more s nodes k sign answers n forms f are here = record {
  size = let size = are.size in omega (arith, size, length_push forms f);
  each = λ i l. go i l (cases_lt i n);
}
  where
    go : (i : ℕ) → i < n + 1 → (i < n) ⊎ (n ≤ i) → IsTurned s nodes k sign (ref_at answers i) (form_at (forms ++ f ∷ []) i)
    go i l (inl m) =
        let size = are.size in
        subst (IsTurned s nodes k sign (ref_at answers i)) (sym (get_or_append_left forms (f ∷ []) (record { coefficients = []; constant = pos 0 }) i
        (omega (arith, m, size)))) (are.each i m)
    go i l (inr m) =
        let e : i ≡ n = omega (arith, l, m) in
        let size = are.size in
        subst (IsTurned s nodes k sign (ref_at answers i)) (sym (get_or_push forms f (record { coefficients = []; constant = pos 0 }) i (size ∙ sym e)))
        (subst (λ (j : ℕ). IsTurned s nodes k sign (ref_at answers j) f) (sym e) here)

-- one memory more
pub all_more : (s : System) (nodes : List Triple) (q : Questions) (sign : ℤ) (n : ℕ) (lists : List (List Form)) (forms : List Form)
    → AreAllTurned s nodes q sign n lists → AreTurned s nodes n sign (memory_answers q n) (length (memory_answers q n)) forms
    → AreAllTurned s nodes q sign (n + 1) (lists ++ forms ∷ [])
all_more s nodes q sign n lists forms are here = record {
  size = let size = are.size in omega (arith, size, length_push lists forms);
  each = λ k l. go k l (cases_lt k n);
}
  where
    go : (k : ℕ) → k < n + 1 → (k < n) ⊎ (n ≤ k)
        → AreTurned s nodes k sign (memory_answers q k) (length (memory_answers q k)) (forms_at (lists ++ forms ∷ []) k)
    go k l (inl m) =
        let size = are.size in
        subst (λ (fs : List Form). AreTurned s nodes k sign (memory_answers q k) (length (memory_answers q k)) fs)
        (sym (get_or_append_left lists (forms ∷ []) [] k (omega (arith, m, size)))) (are.each k m)
    go k l (inr m) =
        let e : k ≡ n = omega (arith, l, m) in
        let size = are.size in
        subst (λ (fs : List Form). AreTurned s nodes k sign (memory_answers q k) (length (memory_answers q k)) fs)
        (sym (get_or_push lists forms [] k (size ∙ sym e)))
        (subst (λ (j : ℕ). AreTurned s nodes j sign (memory_answers q j) (length (memory_answers q j)) forms) (sym e) here)

-- the forms in a store that has grown
pub turned_later : (s : System) (old new : Diagrams) → Extends old new → (k : ℕ) (sign : ℤ) (answers : List ℕ) (n : ℕ) (forms : List Form)
    → AreRefs old.nodes answers → n ≤ length answers → AreTurned s old.nodes k sign answers n forms → AreTurned s new.nodes k sign answers n forms
turned_later s old new e k sign answers n forms found few are = record {
  size = are.size;
  each = λ i l.
      let t = are.each i l in
      let kept = e.kept (ref_at answers i) (found i (omega (arith, l, few))) in
      record { narrow = t.narrow; small = t.small; worth = λ v on. t.worth v (sym (kept v) ∙ on) };
}

pub all_later : (s : System) (old new : Diagrams) → Extends old new → (q : Questions) → AreQuestions s old q → (sign : ℤ) (lists : List (List Form))
    → AreAllTurned s old.nodes q sign s.memories lists → AreAllTurned s new.nodes q sign s.memories lists
all_later s old new e q asked sign lists are = record {
  size = are.size;
  each = λ k l.
      turned_later s old new e k sign (memory_answers q k) (length (memory_answers q k)) (forms_at lists k)
      (let a = memory_asked s old q asked k l in a.found) (omega arith) (are.each k l);
}

-- the answers and the forms of a memory, where they stand
pub answers_at : (q : Questions) (tests k : ℕ) (answers given : List ℕ) → tests ≡ length q.rows → slice_get q.questions (tests + k) ≡ Some answers
    → given ≡ answers → memory_answers q k ≡ given
answers_at q tests k answers given e at same =
    ap (λ (n : ℕ). list_at q.questions (n + k)) (sym e) ∙ get_or_from_slice_get q.questions (tests + k) answers [] at ∙ sym same

pub forms_there : (lists : List (List Form)) (k : ℕ) (forms : List Form) → slice_get lists k ≡ Some forms → forms_at lists k ≡ forms
forms_there lists k forms at = get_or_from_slice_get lists k forms [] at

pub asked_here : (s : System) → IsSystem s → (d : Diagrams) (q : Questions) → AreQuestions s d q → (k : ℕ) → k < s.memories
    → (answers : List ℕ) (forms : List Form) → memory_answers q k ≡ answers → forms_at q.forms k ≡ forms
    → AreAnswers d.nodes answers × (length answers ≡ length forms) × AreGivenFor s d.nodes k answers forms
asked_here s is d q are k known answers forms e f = (
  subst (AreAnswers d.nodes) e (memory_asked s d q are k known),
  sym (ap length e) ∙ memory_many s d q are k known ∙ ap length f,
  subst (λ (fs : List Form). AreGivenFor s d.nodes k answers fs) f
      (subst (λ (xs : List ℕ). AreGivenFor s d.nodes k xs (forms_at q.forms k)) e (given_for s is d q are k known)),
)

pub turned_here : (s : System) (nodes : List Triple) (k : ℕ) (sign : ℤ) (old new : List ℕ) (forms : List Form) → old ≡ new
    → AreTurned s nodes k sign old (length old) forms → AreTurned s nodes k sign new (length new) forms
turned_here s nodes k sign old new forms e are = subst (λ (xs : List ℕ). AreTurned s nodes k sign xs (length xs) forms) e are
