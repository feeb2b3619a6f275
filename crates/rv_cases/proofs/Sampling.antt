-- The questions of a small system mean it.
use Rattle.std.proofs.Common.{ℕ, zero, suc, ◌+◌, ◌<◌, ◌≡◌, ◌⊎◌, Bool, true, false, cond, List, [], ◌∷◌, length, refl, sym, ap, ◌∙◌, ⊎_elim, inl, inr, arith}
use Rattle.std.proofs.Common.{slice_get, get_or, Some, pos, negsuc, ℤ, None as Nothing}
use Rattle.std.proofs.{lemmas.Bool.both_ways, lemmas.Option.same_Some}
use Rattle.rv_rows.specs.{declared.linear.Row.Row, declared.linear.Form.Form}
use Rattle.rv_diagram.specs.Nodes.{Valuation, IsRef, IsMeant, value_of, value_among, node_at}
use Rattle.rv_diagram.specs.{declared.Triple.Triple, Several.ref_at}
use Rattle.rv_proofs.specs.{Systems.IsSameValuation, Samples.counting, Samples.row1, Samples.form1}
use Rattle.rv_proofs.proofs.Counting.{three_read, two_read, two_tests}
use Rattle.rv_proofs.proofs.{ControlReads.value_among-reads, Filed.true_then_false, SampleSystems.zero_read, Sampling.both_true, Sampling.when_false}
use Rattle.rv_cases.specs.Conditions.{is_in, list_at, AreAnswers}
use Rattle.rv_cases.specs.Questions.{HaveAnswers, AreTestAnswers, AreUpdateAnswers, AreSides, AreQuestions, AreDistinct, rows_at, forms_at}
use Rattle.rv_cases.specs.Samples.{counting_nodes, counting_diagrams, counting_questions}

-- PLACES OF SHORT LISTS

three : (P : ℕ → Type 0) → P 0 → P 1 → P 2 → (i : ℕ) → i < 3 → P i
three P p q r zero low = p
three P p q r (suc zero) low = q
three P p q r (suc (suc zero)) low = r
three P p q r (suc (suc (suc i))) low = absurd (omega arith)

four : (P : ℕ → Type 0) → P 0 → P 1 → P 2 → P 3 → (i : ℕ) → i < 4 → P i
four P p q r s zero low = p
four P p q r s (suc zero) low = q
four P p q r s (suc (suc zero)) low = r
four P p q r s (suc (suc (suc zero))) low = s
four P p q r s (suc (suc (suc (suc i)))) low = absurd (omega arith)

pairs : (P : ℕ → ℕ → Type 0) → P 0 1 → P 0 2 → P 1 2 → (i j : ℕ) → i < j → j < 3 → P i j
pairs P p q r zero zero less low = absurd (omega arith)
pairs P p q r (suc i) zero less low = absurd (omega arith)
pairs P p q r zero (suc zero) less low = p
pairs P p q r (suc i) (suc zero) less low = absurd (omega arith)
pairs P p q r zero (suc (suc zero)) less low = q
pairs P p q r (suc zero) (suc (suc zero)) less low = r
pairs P p q r (suc (suc i)) (suc (suc zero)) less low = absurd (omega arith)
pairs P p q r i (suc (suc (suc j))) less low = absurd (omega arith)

-- ANSWERS

some_of : (t u a b c : Bool) → a ≡ cond t false true → b ≡ cond t (cond u true false) false → c ≡ cond t (cond u false true) false
    → (a ≡ true) ⊎ ((b ≡ true) ⊎ (c ≡ true))
some_of false u a b c p q r = inl p
some_of true true a b c p q r = inr (inl q)
some_of true false a b c p q r = inr (inr r)

first_second : (t u a b : Bool) → a ≡ cond t false true → b ≡ cond t (cond u true false) false → a ≡ true → b ≡ true → ⊥
first_second false u a b p q one other = both_ways b q other
first_second true u a b p q one other = both_ways a p one

first_third : (t u a c : Bool) → a ≡ cond t false true → c ≡ cond t (cond u false true) false → a ≡ true → c ≡ true → ⊥
first_third false u a c p r one other = both_ways c r other
first_third true u a c p r one other = both_ways a p one

second_third : (t u b c : Bool) → b ≡ cond t (cond u true false) false → c ≡ cond t (cond u false true) false → b ≡ true → c ≡ true → ⊥
second_third false u b c q r one other = both_ways b q one
second_third true true b c q r one other = both_ways c r other
second_third true false b c q r one other = both_ways b q one

-- a question whose answers are: not t; t and u; t and not u
three_answers : (nodes : List Triple) (x y z : ℕ) (t u : Valuation → Bool) → IsRef nodes x → IsRef nodes y → IsRef nodes z
    → ((v : Valuation) → value_of nodes x v ≡ cond (t v) false true)
    → ((v : Valuation) → value_of nodes y v ≡ cond (t v) (cond (u v) true false) false)
    → ((v : Valuation) → value_of nodes z v ≡ cond (t v) (cond (u v) false true) false) → AreAnswers nodes (x ∷ y ∷ z ∷ [])
three_answers nodes x y z t u fx fy fz p q r = record {
  found = three (λ i. IsRef nodes (ref_at (x ∷ y ∷ z ∷ []) i)) fx fy fz;
  covered = λ v. ⊎_elim (λ h. (0, omega arith, h)) (λ h. ⊎_elim (λ k. (1, omega arith, k)) (λ k. (2, omega arith, k)) h)
      (some_of (t v) (u v) (value_of nodes x v) (value_of nodes y v) (value_of nodes z v) (p v) (q v) (r v));
  apart = pairs (λ i j. (v : Valuation) → is_in nodes (x ∷ y ∷ z ∷ []) i v ≡ true → is_in nodes (x ∷ y ∷ z ∷ []) j v ≡ true → ⊥)
      (λ v. first_second (t v) (u v) (value_of nodes x v) (value_of nodes y v) (p v) (q v))
      (λ v. first_third (t v) (u v) (value_of nodes x v) (value_of nodes z v) (p v) (r v))
      (λ v. second_third (t v) (u v) (value_of nodes y v) (value_of nodes z v) (q v) (r v));
}

one_pair : (P : ℕ → ℕ → Type 0) → P 0 1 → (i j : ℕ) → i < j → j < 2 → P i j
one_pair P p zero zero less low = absurd (omega arith)
one_pair P p (suc i) zero less low = absurd (omega arith)
one_pair P p zero (suc zero) less low = p
one_pair P p (suc i) (suc zero) less low = absurd (omega arith)
one_pair P p i (suc (suc j)) less low = absurd (omega arith)

either_of : (t u a b : Bool) → a ≡ cond t (cond u true false) true → b ≡ cond t (cond u false true) false → (a ≡ true) ⊎ (b ≡ true)
either_of false u a b p q = inl p
either_of true true a b p q = inl p
either_of true false a b p q = inr q

not_both : (t u a b : Bool) → a ≡ cond t (cond u true false) true → b ≡ cond t (cond u false true) false → a ≡ true → b ≡ true → ⊥
not_both false u a b p q one other = both_ways b q other
not_both true true a b p q one other = both_ways b q other
not_both true false a b p q one other = both_ways a p one

two_answers : (nodes : List Triple) (x y : ℕ) (t u : Valuation → Bool) → IsRef nodes x → IsRef nodes y
    → ((v : Valuation) → value_of nodes x v ≡ cond (t v) (cond (u v) true false) true)
    → ((v : Valuation) → value_of nodes y v ≡ cond (t v) (cond (u v) false true) false) → AreAnswers nodes (x ∷ y ∷ [])
two_answers nodes x y t u fx fy p q = record {
  found = two_tests (λ i. IsRef nodes (ref_at (x ∷ y ∷ []) i)) fx fy;
  covered = λ v. ⊎_elim (λ h. (0, omega arith, h)) (λ h. (1, omega arith, h))
      (either_of (t v) (u v) (value_of nodes x v) (value_of nodes y v) (p v) (q v));
  apart = one_pair (λ i j. (v : Valuation) → is_in nodes (x ∷ y ∷ []) i v ≡ true → is_in nodes (x ∷ y ∷ []) j v ≡ true → ⊥)
      (λ v. not_both (t v) (u v) (value_of nodes x v) (value_of nodes y v) (p v) (q v));
}

-- THE REFERENCES

pub at_six : (v : Valuation) → value_of counting_nodes 6 v ≡ cond (v 0) false true
unfolding value_among
at_six v = refl

at_seven : (v : Valuation) → value_of counting_nodes 7 v ≡ cond (v 0) (cond (v 2) true false) false
unfolding value_among
at_seven v = refl

at_eight : (v : Valuation) → value_of counting_nodes 8 v ≡ cond (v 0) (cond (v 2) false true) false
unfolding value_among
at_eight v = refl

at_nine : (v : Valuation) → value_of counting_nodes 9 v ≡ cond (v 0) (cond (v 3) true false) false
unfolding value_among
at_nine v = refl

at_ten : (v : Valuation) → value_of counting_nodes 10 v ≡ cond (v 0) (cond (v 3) false true) false
unfolding value_among
at_ten v = refl

pub at_eleven : (v : Valuation) → value_of counting_nodes 11 v ≡ cond (v 0) (cond (v 3) true false) true
unfolding value_among
at_eleven v = refl

pub at_one : (v : Valuation) → value_of counting_nodes 1 v ≡ true
unfolding value_among
at_one v = refl

low_variables : (v w : Valuation) → v 0 ≡ w 0 → v 2 ≡ w 2 → v 3 ≡ w 3 → (i : ℕ) → i < 10 → v (node_at counting_nodes i).var ≡ w (node_at counting_nodes i).var
low_variables v w a b c zero low = c
low_variables v w a b c (suc zero) low = c
low_variables v w a b c (suc (suc zero)) low = b
low_variables v w a b c (suc (suc (suc zero))) low = b
low_variables v w a b c (suc (suc (suc (suc zero)))) low = a
low_variables v w a b c (suc (suc (suc (suc (suc zero))))) low = a
low_variables v w a b c (suc (suc (suc (suc (suc (suc zero)))))) low = a
low_variables v w a b c (suc (suc (suc (suc (suc (suc (suc zero))))))) low = a
low_variables v w a b c (suc (suc (suc (suc (suc (suc (suc (suc zero)))))))) low = a
low_variables v w a b c (suc (suc (suc (suc (suc (suc (suc (suc (suc zero))))))))) low = a
low_variables v w a b c (suc (suc (suc (suc (suc (suc (suc (suc (suc (suc i)))))))))) low = absurd (omega arith)

reads : (r : ℕ) (v w : Valuation) → IsSameValuation counting v w → value_of counting_nodes r v ≡ value_of counting_nodes r w
reads r v w same = value_among-reads counting_nodes v w (low_variables v w (same 0 zero_read) (same 2 two_read) (same 3 three_read)) 10 (omega arith) r

-- WHAT THEY SAY

nothing_got : {A : Type 0} {B : Type 0} (x : A) → Nothing ≡ Some x → B
nothing_got x h = cc

first_test : AreTestAnswers counting counting_nodes 0 (6 ∷ 7 ∷ 8 ∷ []) (row1 (pos 1) (pos 9) ∷ row1 (negsuc 0) (negsuc 9) ∷ [])
first_test = record {
  absent = λ v h. let t : v 0 ≡ false = when_false (v 0) (sym (at_six v) ∙ h) in rw t refl;
  present = said;
}
  where
    said : (i : ℕ) (r : Row) (v : Valuation) → slice_get (row1 (pos 1) (pos 9) ∷ row1 (negsuc 0) (negsuc 9) ∷ []) i ≡ Some r
        → is_in counting_nodes (6 ∷ 7 ∷ 8 ∷ []) (i + 1) v ≡ true → counting.row v 0 ≡ Some r
    said zero r v got h = let t : (v 0 ≡ true) × (v 2 ≡ true) = both_true (v 0) (v 2) (sym (at_seven v) ∙ h) in rw (t.0, t.1) got
    said (suc zero) r v got h = let t : (v 0 ≡ true) × (v 2 ≡ false) = true_then_false (v 0) (v 2) (sym (at_eight v) ∙ h) in rw (t.0, t.1) got
    said (suc (suc i)) r v got h = nothing_got r got

second_test : AreTestAnswers counting counting_nodes 1 (6 ∷ 9 ∷ 10 ∷ []) (row1 (pos 1) (pos 10) ∷ row1 (negsuc 0) (negsuc 10) ∷ [])
second_test = record {
  absent = λ v h. let t : v 0 ≡ false = when_false (v 0) (sym (at_six v) ∙ h) in rw t refl;
  present = said;
}
  where
    said : (i : ℕ) (r : Row) (v : Valuation) → slice_get (row1 (pos 1) (pos 10) ∷ row1 (negsuc 0) (negsuc 10) ∷ []) i ≡ Some r
        → is_in counting_nodes (6 ∷ 9 ∷ 10 ∷ []) (i + 1) v ≡ true → counting.row v 1 ≡ Some r
    said zero r v got h = let t : (v 0 ≡ true) × (v 3 ≡ true) = both_true (v 0) (v 3) (sym (at_nine v) ∙ h) in rw (t.0, t.1) got
    said (suc zero) r v got h = let t : (v 0 ≡ true) × (v 3 ≡ false) = true_then_false (v 0) (v 3) (sym (at_ten v) ∙ h) in rw (t.0, t.1) got
    said (suc (suc i)) r v got h = nothing_got r got

memory : AreUpdateAnswers counting counting_nodes 0 (6 ∷ 7 ∷ 8 ∷ []) (form1 (pos 0) (pos 0) ∷ form1 (pos 1) (pos 1) ∷ form1 (pos 1) (pos 0) ∷ [])
memory = record { becomes = said }
  where
    said : (i : ℕ) (f : Form) (v : Valuation) → slice_get (form1 (pos 0) (pos 0) ∷ form1 (pos 1) (pos 1) ∷ form1 (pos 1) (pos 0) ∷ []) i ≡ Some f
        → is_in counting_nodes (6 ∷ 7 ∷ 8 ∷ []) i v ≡ true → counting.update v 0 ≡ f
    said zero f v got h = let t : v 0 ≡ false = when_false (v 0) (sym (at_six v) ∙ h) in rw t (same_Some (form1 (pos 0) (pos 0)) f got)
    said (suc zero) f v got h =
        let t : (v 0 ≡ true) × (v 2 ≡ true) = both_true (v 0) (v 2) (sym (at_seven v) ∙ h) in rw (t.0, t.1) (same_Some (form1 (pos 1) (pos 1)) f got)
    said (suc (suc zero)) f v got h =
        let t : (v 0 ≡ true) × (v 2 ≡ false) = true_then_false (v 0) (v 2) (sym (at_eight v) ∙ h) in rw (t.0, t.1) (same_Some (form1 (pos 1) (pos 0)) f got)
    said (suc (suc (suc i))) f v got h = nothing_got f got

good_at : (t u : Bool) → cond t (cond u true false) true ≡ true → cond t u true ≡ true
good_at true true h = refl
good_at true false h = h
good_at false u h = refl

bad_at : (t u : Bool) → cond t (cond u false true) false ≡ true → cond t u true ≡ false
bad_at true true h = sym h
bad_at true false h = refl
bad_at false u h = sym h

sides : AreSides counting counting_nodes (11 ∷ 10 ∷ [])
sides = record {
  good = λ v h. good_at (v 0) (v 3) (sym (at_eleven v) ∙ h);
  bad = λ v h. bad_at (v 0) (v 3) (sym (at_ten v) ∙ h);
}

answers : HaveAnswers counting_nodes counting_questions
answers = record {
  many = refl;
  one = four (λ i. AreAnswers counting_nodes (list_at counting_questions.questions i))
      (three_answers counting_nodes 6 7 8 (λ v. v 0) (λ v. v 2) (omega arith) (omega arith) (omega arith) at_six at_seven at_eight)
      (three_answers counting_nodes 6 9 10 (λ v. v 0) (λ v. v 3) (omega arith) (omega arith) (omega arith) at_six at_nine at_ten)
      (three_answers counting_nodes 6 7 8 (λ v. v 0) (λ v. v 2) (omega arith) (omega arith) (omega arith) at_six at_seven at_eight)
      (two_answers counting_nodes 11 10 (λ v. v 0) (λ v. v 3) (omega arith) (omega arith) at_eleven at_ten);
  tests = two_tests (λ t. length (list_at counting_questions.questions t) ≡ length (rows_at counting_questions.rows t) + 1) refl refl;
  memories = one_memory;
  sides = refl;
}
  where
    one_memory : (k : ℕ) → k < 1 → length (list_at counting_questions.questions (2 + k)) ≡ length (forms_at counting_questions.forms k)
    one_memory zero low = refl
    one_memory (suc k) low = absurd (omega arith)

pub asked : AreQuestions counting counting_diagrams counting_questions
asked = record {
  variables = refl;
  answers = answers;
  many_tests = refl;
  many_memories = refl;
  tests = two_tests (λ t. AreTestAnswers counting counting_nodes t (list_at counting_questions.questions t) (rows_at counting_questions.rows t)) first_test
      second_test;
  updates = one_memory;
  observer = sides;
  unread = λ i b v w low less same. reads (ref_at (list_at counting_questions.questions i) b) v w same;
}
  where
    one_memory : (k : ℕ) → k < 1
        → AreUpdateAnswers counting counting_nodes k (list_at counting_questions.questions (2 + k)) (forms_at counting_questions.forms k)
    one_memory zero low = memory
    one_memory (suc k) low = absurd (omega arith)

pub allowed : IsMeant counting_nodes counting.allowed 1
allowed = (omega arith, at_one)

-- NO ANSWER TWICE

two_differ : {A : Type 0} (a b x : A) → (a ≡ b → ⊥) → (i j : ℕ) → slice_get (a ∷ b ∷ []) i ≡ Some x → slice_get (a ∷ b ∷ []) j ≡ Some x → i ≡ j
two_differ a b x apart zero zero g h = refl
two_differ a b x apart zero (suc zero) g h = absurd (apart (same_Some a b (g ∙ sym h)))
two_differ a b x apart (suc zero) zero g h = absurd (apart (same_Some a b (h ∙ sym g)))
two_differ a b x apart (suc zero) (suc zero) g h = refl
two_differ a b x apart (suc (suc i)) j g h = nothing_got x g
two_differ a b x apart i (suc (suc j)) g h = nothing_got x h

three_differ : {A : Type 0} (a b c x : A) → (a ≡ b → ⊥) → (a ≡ c → ⊥) → (b ≡ c → ⊥) → (i j : ℕ) → slice_get (a ∷ b ∷ c ∷ []) i ≡ Some x
    → slice_get (a ∷ b ∷ c ∷ []) j ≡ Some x → i ≡ j
three_differ a b c x p q r zero zero g h = refl
three_differ a b c x p q r zero (suc zero) g h = absurd (p (same_Some a b (g ∙ sym h)))
three_differ a b c x p q r zero (suc (suc zero)) g h = absurd (q (same_Some a c (g ∙ sym h)))
three_differ a b c x p q r (suc zero) zero g h = absurd (p (same_Some a b (h ∙ sym g)))
three_differ a b c x p q r (suc zero) (suc zero) g h = refl
three_differ a b c x p q r (suc zero) (suc (suc zero)) g h = absurd (r (same_Some b c (g ∙ sym h)))
three_differ a b c x p q r (suc (suc zero)) zero g h = absurd (q (same_Some a c (h ∙ sym g)))
three_differ a b c x p q r (suc (suc zero)) (suc zero) g h = absurd (r (same_Some b c (h ∙ sym g)))
three_differ a b c x p q r (suc (suc zero)) (suc (suc zero)) g h = refl
three_differ a b c x p q r (suc (suc (suc i))) j g h = nothing_got x g
three_differ a b c x p q r i (suc (suc (suc j))) g h = nothing_got x h

signs : (a b : ℕ) → pos a ≡ negsuc b → ⊥
signs a b h = cc

amounts : (a b : ℕ) → pos a ≡ pos b → a ≡ b
amounts a b h = cc

firsts : (c d k l : ℤ) → form1 c k ≡ form1 d l → c ≡ d
firsts c d k l h = ap (λ (f : Form). get_or f.coefficients 0 (pos 0)) h

pub distinct : AreDistinct counting_questions
distinct = record { rows = of_rows; forms = of_forms }
  where
    of_rows : (t i j : ℕ) (r : Row) → slice_get (rows_at counting_questions.rows t) i ≡ Some r
        → slice_get (rows_at counting_questions.rows t) j ≡ Some r → i ≡ j
    of_rows zero i j r g h = two_differ (row1 (pos 1) (pos 9)) (row1 (negsuc 0) (negsuc 9)) r (λ e. signs 9 9 (ap (λ (x : Row). x.bound) e)) i j g h
    of_rows (suc zero) i j r g h = two_differ (row1 (pos 1) (pos 10)) (row1 (negsuc 0) (negsuc 10)) r (λ e. signs 10 10 (ap (λ (x : Row). x.bound) e)) i j g h
    of_rows (suc (suc t)) i j r g h = nothing_got r g

    of_forms : (k i j : ℕ) (f : Form) → slice_get (forms_at counting_questions.forms k) i ≡ Some f → slice_get (forms_at counting_questions.forms k) j ≡ Some f
        → i ≡ j
    of_forms zero i j f g h = three_differ (form1 (pos 0) (pos 0)) (form1 (pos 1) (pos 1)) (form1 (pos 1) (pos 0)) f
        (λ e. let n = amounts 0 1 (ap (λ (x : Form). x.constant) e) in omega arith)
        (λ e. let n = amounts 0 1 (firsts (pos 0) (pos 1) (pos 0) (pos 0) e) in omega arith)
        (λ e. let n = amounts 1 0 (ap (λ (x : Form). x.constant) e) in omega arith)
        i j g h
    of_forms (suc k) i j f g h = nothing_got f g
