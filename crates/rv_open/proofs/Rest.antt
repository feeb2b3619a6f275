-- What is left of a reference where the rows of tests hold.
use Rattle.std.proofs.Common.{◌≡◌, ℕ, zero, suc, ◌+◌, ◌<◌, Bool, true, false, ◌&&◌, List, [], length, arith, refl, sym, ◌∙◌, ap, subst, ⊎_elim, Some, slice_get}
use Rattle.std.proofs.Common.{get_or}
use Rattle.std.specs.Prelude.{ℤ, pos, ◌≤ℤ◌, not}
use Rattle.std.proofs.lemmas.{Bool.cases_lt, Bool.cases_Bool, Option.get_or_from_slice_get, Option.slice_get-get_or}
use Rattle.rv_base.proofs.Truths.{both_of, without_is, of_not_true}
use Rattle.rv_diagram.specs.{Nodes.Valuation, Nodes.Diagrams, Nodes.Answers, Nodes.IsRef, Nodes.choice, Nodes.value_of, Several.ref_at}
use Rattle.rv_diagram.proofs.Several.{same_truth}
use Rattle.rv_diagram.specs.Growing.{Extends}
use Rattle.rv_diagram.proofs.Growing.{extends_refl, extends_trans, grows_extends}
use Rattle.rv_rows.specs.{declared.linear.Row.Row, Rows.Holds}
use Rattle.rv_proofs.specs.Systems.{System, Agrees}
use Rattle.rv_symbolic.specs.Growing.{Finds}
use Rattle.rv_cases.specs.{declared.asking.Questions.Questions, Questions.rows_at, Questions.AreQuestions}
use Rattle.rv_cases.specs.Conditions.{is_in, list_at, AreRefs}
use Rattle.rv_open.specs.{Columns.HasNoColumns, Columns.is_counted, Given.HoldAmong, Given.HoldOfTests}
use Rattle.rv_open.proofs.Open.{row_holds, row_bound, counted_parts, counted_from}

-- A ROW

pub left_whole : (d : Diagrams) (row : Row) (answer rest : ℕ) → IsRef d.nodes rest → pos 0 ≤ℤ row.bound
    → Finds d d (λ v. (value_of d.nodes rest v ≡ true) × (value_of d.nodes answer v ≡ true → Holds row [])) rest
left_whole d row answer rest found h = record {
  extends = extends_refl d;
  found = found;
  exact = λ v. ((λ e. (e, λ on. row_holds row h)), (λ p. p.0));
}

pub left_cut : (old new : Diagrams) (row : Row) (answer nothing rest r : ℕ) → (pos 0 ≤ℤ row.bound → ⊥)
    → ((v : Valuation) → value_of old.nodes nothing v ≡ false) → Answers old new (choice old.nodes answer nothing rest) r
    → Finds old new (λ v. (value_of old.nodes rest v ≡ true) × (value_of old.nodes answer v ≡ true → Holds row [])) r
left_cut old new row answer nothing rest r below none a = record {
  extends = grows_extends old new a.grows;
  found = a.found;
  exact = λ v. (there v, back v);
}
  where
    is : (v : Valuation) → value_of new.nodes r v ≡ (value_of old.nodes rest v && not (value_of old.nodes answer v))
    is v = a.means v ∙ without_is (value_of old.nodes rest v) (value_of old.nodes answer v) (value_of old.nodes nothing v) (none v)

    there : (v : Valuation) → value_of new.nodes r v ≡ true → (value_of old.nodes rest v ≡ true) × (value_of old.nodes answer v ≡ true → Holds row [])
    there v e =
        let both : (value_of old.nodes rest v ≡ true) × (not (value_of old.nodes answer v) ≡ true) =
        both_of (value_of old.nodes rest v) (not (value_of old.nodes answer v)) (sym (is v) ∙ e) in
        (both.0, λ on. let off : value_of old.nodes answer v ≡ false = of_not_true (value_of old.nodes answer v) both.1 in let wrong : ⊥ = cc in absurd wrong)

    cut : (a b : Bool) → a ≡ true → b ≡ false → (a && not b) ≡ true
    cut true false e f = refl
    cut true true e f = cc
    cut false b e f = cc

    back : (v : Valuation) → (value_of old.nodes rest v ≡ true) × (value_of old.nodes answer v ≡ true → Holds row []) → value_of new.nodes r v ≡ true
    back v p = is v ∙ cut (value_of old.nodes rest v) (value_of old.nodes answer v) p.0
        (⊎_elim (λ on. absurd (below (row_bound row (p.1 on)))) (λ off. off) (cases_Bool (value_of old.nodes answer v)))

-- THE ROWS OF A TEST

pub left_start : (d : Diagrams) (from : ℕ) (answers : List ℕ) (rows : List Row) → IsRef d.nodes from
    → Finds d d (λ v. (value_of d.nodes from v ≡ true) × HoldAmong d.nodes answers rows 0 v) from
left_start d from answers rows found = record {
  extends = extends_refl d;
  found = found;
  exact = λ v. ((λ e. (e, λ i r l at on. absurd (omega (arith, l)))), (λ p. p.0));
}

pub answer_is : (answers : List ℕ) (n answer : ℕ) → slice_get answers n ≡ Some answer → answer ≡ ref_at answers n
answer_is answers n answer at = sym (get_or_from_slice_get answers n answer 0 at)

pub left_more : (d0 d1 d2 : Diagrams) (from rest r n answer : ℕ) (answers : List ℕ) (rows : List Row) (row : Row) → IsRef d0.nodes answer
    → slice_get rows n ≡ Some row → slice_get answers (n + 1) ≡ Some answer
    → Finds d0 d1 (λ v. (value_of d0.nodes from v ≡ true) × HoldAmong d0.nodes answers rows n v) rest
    → Finds d1 d2 (λ v. (value_of d1.nodes rest v ≡ true) × (value_of d1.nodes answer v ≡ true → Holds row [])) r
    → Finds d0 d2 (λ v. (value_of d0.nodes from v ≡ true) × HoldAmong d0.nodes answers rows (n + 1) v) r
left_more d0 d1 d2 from rest r n answer answers rows row found row_is at one two = record {
  extends = extends_trans d0 d1 d2 one.extends two.extends;
  found = two.found;
  exact = λ v. (there v, back v);
}
  where
    same : (v : Valuation) → value_of d1.nodes answer v ≡ is_in d0.nodes answers (n + 1) v
    same v = let e = one.extends in e.kept answer found v ∙ ap (λ (x : ℕ). value_of d0.nodes x v) (answer_is answers (n + 1) answer at)

    there : (v : Valuation) → value_of d2.nodes r v ≡ true → (value_of d0.nodes from v ≡ true) × HoldAmong d0.nodes answers rows (n + 1) v
    there v e =
        let late = (two.exact v).0 e in
        let early = (one.exact v).0 late.0 in (
          early.0,
          λ i x l x_is on. ⊎_elim
              (λ lt. early.1 i x lt x_is on)
              (λ ge. let here : n ≡ i = omega (arith, l, ge) in
              let x_there : slice_get rows n ≡ Some x = subst (λ (k : ℕ). slice_get rows k ≡ Some x) (sym here) x_is in
              let is_row : row ≡ x = cc in
              let on_there : is_in d0.nodes answers (n + 1) v ≡ true = subst (λ (k : ℕ). is_in d0.nodes answers (k + 1) v ≡ true) (sym here) on in
              subst (λ (y : Row). Holds y []) is_row (late.1 (same v ∙ on_there)))
              (cases_lt i n),
        )

    back : (v : Valuation) → (value_of d0.nodes from v ≡ true) × HoldAmong d0.nodes answers rows (n + 1) v → value_of d2.nodes r v ≡ true
    back v p = (two.exact v).1 (
      (one.exact v).1 (p.0, λ i x l x_is on. p.1 i x (omega (arith, l)) x_is on),
      λ on. p.1 n row (omega arith) row_is (sym (same v) ∙ on),
    )

-- TESTS

pub tests_start : (d : Diagrams) (from : ℕ) (q : Questions) → IsRef d.nodes from
    → Finds d d (λ v. (value_of d.nodes from v ≡ true) × HoldOfTests d.nodes q 0 v) from
tests_start d from q found = record {
  extends = extends_refl d;
  found = found;
  exact = λ v. ((λ e. (e, λ t l. absurd (omega (arith, l)))), (λ p. p.0));
}

pub refs_there : (d0 d1 : Diagrams) (answers : List ℕ) → Extends d0 d1 → AreRefs d0.nodes answers → AreRefs d1.nodes answers
refs_there d0 d1 answers e refs i l = let r = refs i l in let m = e.longer in omega (arith, r, m)

pub tests_more : (d0 d1 d2 : Diagrams) (from rest r n : ℕ) (q : Questions) → AreRefs d0.nodes (list_at q.questions n)
    → length (list_at q.questions n) ≡ length (rows_at q.rows n) + 1
    → Finds d0 d1 (λ v. (value_of d0.nodes from v ≡ true) × HoldOfTests d0.nodes q n v) rest
    → Finds d1 d2 (λ v. (value_of d1.nodes rest v ≡ true) × HoldAmong d1.nodes (list_at q.questions n) (rows_at q.rows n) (length (rows_at q.rows n)) v) r
    → Finds d0 d2 (λ v. (value_of d0.nodes from v ≡ true) × HoldOfTests d0.nodes q (n + 1) v) r
tests_more d0 d1 d2 from rest r n q refs many one two = record {
  extends = extends_trans d0 d1 d2 one.extends two.extends;
  found = two.found;
  exact = λ v. (there v, back v);
}
  where
    same : (v : Valuation) (i : ℕ) → i < length (rows_at q.rows n)
        → is_in d1.nodes (list_at q.questions n) (i + 1) v ≡ is_in d0.nodes (list_at q.questions n) (i + 1) v
    same v i l = let e = one.extends in e.kept (ref_at (list_at q.questions n) (i + 1)) (refs (i + 1) (omega (arith, l, many))) v

    there : (v : Valuation) → value_of d2.nodes r v ≡ true → (value_of d0.nodes from v ≡ true) × HoldOfTests d0.nodes q (n + 1) v
    there v e =
        let late = (two.exact v).0 e in
        let early = (one.exact v).0 late.0 in
        let here : HoldAmong d0.nodes (list_at q.questions n) (rows_at q.rows n) (length (rows_at q.rows n)) v =
        λ i x l x_is on. late.1 i x l x_is (same v i l ∙ on) in (
          early.0,
          λ t l. ⊎_elim
              (λ lt. early.1 t lt)
              (λ ge. let e : n ≡ t = omega (arith, l, ge) in
              subst (λ (k : ℕ). HoldAmong d0.nodes (list_at q.questions k) (rows_at q.rows k) (length (rows_at q.rows k)) v) e here)
              (cases_lt t n),
        )

    back : (v : Valuation) → (value_of d0.nodes from v ≡ true) × HoldOfTests d0.nodes q (n + 1) v → value_of d2.nodes r v ≡ true
    back v p = (two.exact v).1 (
      (one.exact v).1 (p.0, λ t l. p.1 t (omega (arith, l))),
      λ i x l x_is on. p.1 n (omega arith) i x l x_is (sym (same v i l) ∙ on),
    )

-- VALUATIONS THAT COUNT

module _ (s : System) (d : Diagrams) (q : Questions) (of : AreQuestions s d q) where
  pub test_refs : (t : ℕ) → t < length q.rows → AreRefs d.nodes (list_at q.questions t)
  test_refs t l = let a = of.answers in let m = a.many in let one = a.one t (omega (arith, l, m)) in one.found

  pub test_many : (t : ℕ) → t < length q.rows → length (list_at q.questions t) ≡ length (rows_at q.rows t) + 1
  test_many t l = let a = of.answers in a.tests t l

  no_row : Row
  no_row = record { coefficients = []; bound = pos 0 }

  told : (v : Valuation) (t i : ℕ) (r : Row) → HoldOfTests d.nodes q (length q.rows) v → t < s.tests → s.row v t ≡ Some r
      → i < length (list_at q.questions t) → is_in d.nodes (list_at q.questions t) i v ≡ true → Holds r []
  told v t zero r hold l at low on =
      let none = (of.tests t l).absent v on in
      let wrong : ⊥ = cc in absurd wrong
  told v t (suc j) r hold l at low on =
      let many = of.many_tests in
      let low_rows : t < length q.rows = omega (arith, l, many) in
      let count = test_many t low_rows in
      let there : j < length (rows_at q.rows t) = omega (arith, low, count) in
      let x : Row = get_or (rows_at q.rows t) j no_row in
      let x_is : slice_get (rows_at q.rows t) j ≡ Some x = slice_get-get_or (rows_at q.rows t) j no_row there in
      let e : suc j ≡ j + 1 = omega arith in
      let on_next : is_in d.nodes (list_at q.questions t) (j + 1) v ≡ true = subst (λ (k : ℕ). is_in d.nodes (list_at q.questions t) k v ≡ true) e on in
      let row_is : s.row v t ≡ Some x = (of.tests t l).present j x v x_is on_next in
      let same : x ≡ r = cc in
      subst (λ (y : Row). Holds y []) same (hold t low_rows j x there x_is on_next)

  agree_there : (none : HasNoColumns s) (v : Valuation) → HoldOfTests d.nodes q (length q.rows) v → Agrees s v []
  agree_there none v hold = record {
    size = sym none.columns;
    rows = λ t r l at.
        let a = of.answers in
        let m = a.many in
        let many = of.many_tests in
        let one = a.one t (omega (arith, l, m, many)) in
        let (i, low, on) = one.covered v in
        told v t i r hold l at low on;
  }

  agree_back : (v : Valuation) → Agrees s v [] → HoldOfTests d.nodes q (length q.rows) v
  agree_back v a t l i r low at on =
      let many = of.many_tests in
      let less : t < s.tests = omega (arith, l, many) in
      a.rows t r less ((of.tests t less).present i r v at on)

  pub open_counted : (none : HasNoColumns s) (d1 : Diagrams) (from r : ℕ) → ((v : Valuation) → value_of d.nodes from v ≡ s.allowed v)
      → Finds d d1 (λ v. (value_of d.nodes from v ≡ true) × HoldOfTests d.nodes q (length q.rows) v) r
      → (v : Valuation) → value_of d1.nodes r v ≡ is_counted s v
  open_counted none d1 from r allowed finds v = same_truth (value_of d1.nodes r v) (is_counted s v)
      (λ e. let p = (finds.exact v).0 e in counted_from s none v (sym (allowed v) ∙ p.0) (agree_there none v p.1))
      (λ e. let p = counted_parts s none v e in (finds.exact v).1 (allowed v ∙ p.0, agree_back v p.1))
