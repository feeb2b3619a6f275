-- The questions of a flat system, put together.
use Rattle.std.proofs.Common.{◌≡◌, ◌≢◌, inl, inr, ◌↔◌, ℕ, zero, suc, ◌+◌, ◌<◌, Bool, true, false, not, List, [], ◌∷◌, ◌++◌, length, length-append, map, refl}
use Rattle.std.proofs.Common.{sym, ◌∙◌, ap, subst, arith, Option}
use Rattle.std.proofs.lemmas.List.{get_or_append_left, get_or-append-add, get_or-map, length-map}
use Rattle.std.proofs.{lemmas.Bool.cases_lt, lemmas.Bool.cases_eq, lemmas.Bool.false≢true, Math.Seq.get_or-append_seam}
use Rattle.rv_rows.specs.{declared.linear.Row.Row, declared.linear.Form.Form}
use Rattle.rv_diagram.specs.{declared.Triple.Triple, Nodes.Valuation, Nodes.Diagrams, Nodes.IsMeant, Nodes.IsRef, Nodes.value_of, Several.ref_at}
use Rattle.rv_diagram.specs.Growing.{Extends}
use Rattle.rv_diagram.proofs.Growing.{extends_trans}
use Rattle.rv_flat.specs.{declared.flat.Flat.Flat, Lists.variable_of}
use Rattle.rv_control.specs.Control.{control_of}
use Rattle.rv_proofs.specs.Systems.{System}
use Rattle.rv_terms.specs.{declared.parted.Part.Part, declared.parted.Term.Term, Parts.no_form, Parts.part_at, Parts.holds, Parts.form_at, Parts.IsTerm}
use Rattle.rv_terms.proofs.{Combining.form_is, Classes.part_iff}
use Rattle.rv_cases.specs.{Conditions.is_in, Conditions.list_at, Questions.rows_at, Questions.forms_at}
use Rattle.rv_forms.specs.{Choices.refs_in, Choices.forms_in, Terms.columns_of, Terms.parts_at, Terms.AreUpdatesRead}
use Rattle.rv_tested.specs.Exact.{AreExact, form_answer, side_answer, row_answer, IsTestRead, IsMemoryRead, AreAsked}
use Rattle.rv_tested.specs.Testing.{AreTestsRead, IsObserverAsked}
use Rattle.rv_tested.proofs.Asking.{exact_later}

ref_is : (parts : List Part) (i : ℕ) → i < length parts → ref_at (refs_in parts) i ≡ (part_at parts i).under
ref_is parts i lt = get_or-map (λ (p : Part). p.under) parts i (record { under = 0; form = no_form }) 0 lt

form_is_at : (parts : List Part) (i : ℕ) → i < length parts → form_answer (forms_in parts) i ≡ (part_at parts i).form
form_is_at parts i lt = get_or-map (λ (p : Part). p.form) parts i (record { under = 0; form = no_form }) no_form lt

-- the parts of a term as exact answers
pub term_exact : (nodes : List Triple) (columns : ℕ) (f : Valuation → Form) (parts : List Part) → IsTerm nodes columns parts
    → ((v : Valuation) → form_at nodes parts v ≡ f v)
    → AreExact Form nodes f (length (forms_in parts)) (form_answer (forms_in parts)) (refs_in parts)
term_exact nodes columns f parts t is =
    let refs_many : length (refs_in parts) ≡ length parts = length-map parts (λ (p : Part). p.under) in
    let forms_many : length (forms_in parts) ≡ length parts = length-map parts (λ (p : Part). p.form) in
    record {
      size = refs_many ∙ sym forms_many;
      found = λ i lt. let low : i < length parts = omega (arith, lt, refs_many) in subst (IsRef nodes) (sym (ref_is parts i low)) (t.refs i low);
      exact = λ i lt v.
          let low : i < length parts = omega (arith, lt, forms_many) in
          subst (λ x. (value_of nodes x v ≡ true) ↔ (f v ≡ form_answer (forms_in parts) i)) (sym (ref_is parts i low))
          (subst (λ (x : Form). (holds nodes parts i v ≡ true) ↔ (f v ≡ x)) (sym (form_is_at parts i low))
          (subst (λ (x : Form). (holds nodes parts i v ≡ true) ↔ (x ≡ (part_at parts i).form)) (is v) (part_iff nodes columns parts i v t low)));
      covers = λ v.
          let c = t.covers v in
          (c.0, omega (arith, c.1, forms_many), sym (is v) ∙ form_is nodes parts c.0 v t.disjoint c.1 c.2 ∙ sym (form_is_at parts c.0 c.1));
      different = λ i j one two e.
          let a : i < length parts = omega (arith, one, forms_many) in
          let b : j < length parts = omega (arith, two, forms_many) in
          by i j a b (sym (form_is_at parts i a) ∙ e ∙ form_is_at parts j b);
    }
  where
    by : (i j : ℕ) → i < length parts → j < length parts → (part_at parts i).form ≡ (part_at parts j).form → i ≡ j
    by i j a b e = elim (cases_eq i j) [
      | inl same ↦ same
      | inr off ↦ elim (cases_lt i j) [
        | inl less ↦ absurd (t.different i j less b e)
        | inr more ↦ absurd (t.different j i (omega arith) a (sym e))
      ]
    ]

pub memory_exact : (f : Flat) (old new : Diagrams) (terms : List Term) (k : ℕ) → AreUpdatesRead f old new terms → k < length terms
    → IsMemoryRead (control_of f) new.nodes k (refs_in (parts_at terms k)) (forms_in (parts_at terms k))
memory_exact f old new terms k read lt =
    term_exact new.nodes (columns_of f) (λ v. (control_of f).update v k) (parts_at terms k) (read.each k lt).term (λ v. read.becomes k v lt)

-- the two sides of the observer
not_iff : (b c o : Bool) → b ≡ o → c ≡ not b → (c ≡ true) ↔ (o ≡ false)
not_iff true c o e n = (λ h. absurd (false≢true (sym n ∙ h)), λ h. absurd (false≢true (sym h ∙ sym e)))
not_iff false c o e n = (λ h. sym e, λ h. n)

either_side : (o : Bool) → (i : ℕ) × (i < 2) × (o ≡ side_answer i)
either_side true = (0, omega arith, refl)
either_side false = (1, omega arith, refl)

side_apart : (i j : ℕ) → i < 2 → j < 2 → side_answer i ≡ side_answer j → i ≡ j
side_apart zero zero a b e = refl
side_apart zero (suc zero) a b e = absurd (false≢true (sym e))
side_apart (suc zero) zero a b e = absurd (false≢true e)
side_apart (suc zero) (suc zero) a b e = refl
side_apart zero (suc (suc j)) a b e = absurd (omega arith)
side_apart (suc zero) (suc (suc j)) a b e = absurd (omega arith)
side_apart (suc (suc i)) j a b e = absurd (omega arith)

pub sides_exact : (nodes : List Triple) (f : Valuation → Bool) (r n : ℕ) → IsRef nodes r → IsRef nodes n → ((v : Valuation) → value_of nodes r v ≡ f v)
    → ((v : Valuation) → value_of nodes n v ≡ not (value_of nodes r v)) → AreExact Bool nodes f 2 side_answer (r ∷ n ∷ [])
sides_exact nodes f r n found other is negation = record {
  size = refl;
  found = refs;
  exact = exact;
  covers = λ v. either_side (f v);
  different = side_apart;
}
  where
    refs : (i : ℕ) → i < 2 → IsRef nodes (ref_at (r ∷ n ∷ []) i)
    refs zero lt = found
    refs (suc zero) lt = other
    refs (suc (suc i)) lt = absurd (omega arith)

    exact : (i : ℕ) → i < 2 → (v : Valuation) → (is_in nodes (r ∷ n ∷ []) i v ≡ true) ↔ (f v ≡ side_answer i)
    exact zero lt v = (λ h. sym (is v) ∙ h, λ h. is v ∙ h)
    exact (suc zero) lt v = not_iff (value_of nodes r v) (value_of nodes n v) (f v) (is v) (negation v)
    exact (suc (suc i)) lt v = absurd (omega arith)

-- POSITIONS

list_before : (xs ys : List (List ℕ)) (i : ℕ) → i < length xs → list_at (xs ++ ys) i ≡ list_at xs i
list_before xs ys i lt = get_or_append_left xs ys [] i lt

list_after : (xs ys : List (List ℕ)) (i k : ℕ) → i ≡ length xs + k → list_at (xs ++ ys) i ≡ list_at ys k
list_after xs ys i k e = ap (λ n. list_at (xs ++ ys) n) e ∙ get_or-append-add xs ys k []

pub all_asked : (f : Flat) (a b c d : Diagrams) (terms : List Term) (observer : ℕ) (first more whole : List (List ℕ)) (rows : List (List Row))
    (forms : List (List Form)) → a.variables ≡ length f.variables → Extends a b → Extends b c
    → AreUpdatesRead f a b terms → AreTestsRead f c.nodes (control_of f).tests first rows → more ≡ first ++ map (λ (t : Term). refs_in t.parts) terms
    → forms ≡ map (λ (t : Term). forms_in t.parts) terms → IsObserverAsked c d observer more whole → IsMeant c.nodes (control_of f).observer observer
    → AreAsked (control_of f) d (record { questions = whole; rows = rows; forms = forms })
all_asked f a b c d terms observer first more whole rows forms size ab bc updates tests more_is forms_are asked meant =
    let s : System = control_of f in
    let refs : List (List ℕ) = map (λ (t : Term). refs_in t.parts) terms in
    let refs_many : length refs ≡ length terms = length-map terms (λ (t : Term). refs_in t.parts) in
    let forms_many : length forms ≡ length terms =
    ap (λ (l : List (List Form)). length l) forms_are ∙ length-map terms (λ (t : Term). forms_in t.parts) in
    let more_many : length more ≡ length first + length terms =
    ap (λ (l : List (List ℕ)). length l) more_is ∙ length-append first refs ∙ ap (λ n. length first + n) refs_many in
    let whole_many : length whole ≡ length more + 1 =
    ap (λ (l : List (List ℕ)). length l) asked.asked ∙ length-append more ((observer ∷ asked.negation ∷ []) ∷ []) in
    let early : (i : ℕ) → i < length more → list_at whole i ≡ list_at more i =
    λ i lt. ap (λ (l : List (List ℕ)). list_at l i) asked.asked ∙ list_before more ((observer ∷ asked.negation ∷ []) ∷ []) i lt in
    let test_place : (t : ℕ) → t < length first → list_at whole t ≡ list_at first t =
    λ t lt. early t (omega (arith, lt, more_many)) ∙ ap (λ (l : List (List ℕ)). list_at l t) more_is ∙ list_before first refs t lt in
    let memory_place : (i k : ℕ) → i ≡ length first + k → k < length terms → list_at whole i ≡ refs_in (parts_at terms k) =
    λ i k e lt. early i (omega (arith, e, lt, more_many)) ∙ ap (λ (l : List (List ℕ)). list_at l i) more_is ∙ list_after first refs i k e
    ∙ get_or-map (λ (t : Term). refs_in t.parts) terms k (record { parts = [] }) [] lt in
    let forms_place : (k : ℕ) → k < length terms → forms_at forms k ≡ forms_in (parts_at terms k) =
    λ k lt. ap (λ (l : List (List Form)). forms_at l k) forms_are ∙ get_or-map (λ (t : Term). forms_in t.parts) terms k (record { parts = [] }) [] lt in
    let observer_place : (i : ℕ) → i ≡ length more → list_at whole i ≡ observer ∷ asked.negation ∷ [] =
    λ i e. ap (λ (l : List (List ℕ)). list_at l i) asked.asked ∙ ap (λ n. list_at (more ++ (observer ∷ asked.negation ∷ []) ∷ []) n) e
    ∙ get_or-append_seam more (observer ∷ asked.negation ∷ []) [] [] in
    let cd : Extends c d = asked.extends in
    record {
      variables = cd.variables ∙ bc.variables ∙ ab.variables ∙ size ∙ sym (length-map f.variables variable_of);
      many = omega (arith, whole_many, more_many, tests.many, updates.many);
      many_tests = tests.many_rows;
      many_memories = omega (arith, forms_many, updates.many);
      tests = λ t lt. subst (λ (l : List ℕ). IsTestRead s d.nodes t l (rows_at rows t)) (sym (test_place t (omega (arith, lt, tests.many))))
          (exact_later (Option Row) c d (λ v. s.row v t) (length (rows_at rows t) + 1) (row_answer (rows_at rows t)) (list_at first t) cd (tests.each t lt));
      memories = λ k lt.
          let low : k < length terms = omega (arith, lt, updates.many) in
          let place : list_at whole (length rows + k) ≡ refs_in (parts_at terms k) =
          memory_place (length rows + k) k (omega (arith, tests.many, tests.many_rows)) low in
          subst (λ (l : List ℕ). IsMemoryRead s d.nodes k l (forms_at forms k)) (sym place)
          (subst (λ (l : List Form). IsMemoryRead s d.nodes k (refs_in (parts_at terms k)) l) (sym (forms_place k low))
          (exact_later Form b d (λ v. s.update v k) (length (forms_in (parts_at terms k))) (form_answer (forms_in (parts_at terms k)))
          (refs_in (parts_at terms k)) (extends_trans b c d bc cd) (memory_exact f a b terms k updates low)));
      observer =
          let place : list_at whole (length rows + length forms) ≡ observer ∷ asked.negation ∷ [] =
          observer_place (length rows + length forms) (omega (arith, tests.many, tests.many_rows, forms_many, more_many)) in
          subst (λ (l : List ℕ). AreExact Bool d.nodes s.observer 2 side_answer l) (sym place)
          (sides_exact d.nodes s.observer observer asked.negation (omega (arith, meant.0, cd.longer)) asked.found
          (λ v. cd.kept observer meant.0 v ∙ meant.1 v) (λ v. asked.means v ∙ ap not (sym (cd.kept observer meant.0 v))));
    }
