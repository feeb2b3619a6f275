-- The rows of order tests, each under its answer.
use Rattle.std.proofs.Common.{◌≡◌, ◌⊎◌, ◌↔◌, ◌+◌, ◌<◌, ◌≤◌, ◌∙◌, ℕ, zero, suc, ℤ, Bool, true, List, [], length, Some, slice_get, ap}
use Rattle.std.proofs.Common.{sym, subst, arith, inl, inr}
use Rattle.std.proofs.{lemmas.Bool.cases_lt, lemmas.Option.same_Some, lemmas.Option.none-some, lemmas.Option.slice_get_within}
use Rattle.rv_base.proofs.Lists.{item_at}
use Rattle.rv_diagram.specs.{declared.Triple.Triple, Nodes.Valuation, Nodes.Diagrams, Several.ref_at, Growing.Extends}
use Rattle.rv_rows.specs.{declared.linear.Row.Row, Rows.Holds}
use Rattle.rv_proofs.specs.{Systems.System, Systems.IsSystem, Systems.IsTestRow, Boxes.HasOneColumn, Boxes.IsInBox}
use Rattle.rv_proofs.proofs.Tightened.{tight_unit}
use Rattle.rv_cases.specs.{declared.asking.Questions.Questions, Conditions.is_in, Conditions.AreRefs, Conditions.list_at, Questions.rows_at}
use Rattle.rv_cases.specs.{Questions.AreQuestions}
use Rattle.rv_ends.specs.{declared.ends.Ends.Ends, Claiming.claim_with, Columns.HoldsAlone, Columns.IsFit, Intervals.IsWithin}
use Rattle.rv_ends.specs.Cuts.{AreCut, MeetsFirst, MeetsTests, IsFree}
use Rattle.rv_ends.specs.Sides.{box_at, AreEnds, AreEndsOf}
use Rattle.rv_ends.proofs.Within.{free_within, within_each}

-- one row more
pub meets_more : (nodes : List Triple) (answers : List ℕ) (rows : List Row) (n : ℕ) (r : Row) (v : Valuation) (point : List ℤ) → slice_get rows n ≡ Some r
    → (MeetsFirst nodes answers rows n v point × (is_in nodes answers (n + 1) v ≡ true → HoldsAlone r point)) ↔ MeetsFirst nodes answers rows (n + 1) v point
meets_more nodes answers rows n r v point at = (to, from)
  where
    to : MeetsFirst nodes answers rows n v point × (is_in nodes answers (n + 1) v ≡ true → HoldsAlone r point) → MeetsFirst nodes answers rows (n + 1) v point
    to h i q low got on = go (cases_lt i n)
      where
        go : (i < n) ⊎ (n ≤ i) → HoldsAlone q point
        go (inl less) = h.0 i q less got on
        go (inr more) =
            let e : i ≡ n = omega (arith, low, more) in
            let is : r ≡ q = same_Some r q (sym at ∙ ap (slice_get rows) (sym e) ∙ got) in
            subst (λ (x : Row). HoldsAlone x point) is (h.1 (subst (λ (j : ℕ). is_in nodes answers (j + 1) v ≡ true) e on))

    from : MeetsFirst nodes answers rows (n + 1) v point → MeetsFirst nodes answers rows n v point × (is_in nodes answers (n + 1) v ≡ true → HoldsAlone r point)
    from h = (λ i q low. h i q (omega (arith, low)), λ on. h n r (omega arith) at on)

-- one test more
pub tests_more : (nodes : List Triple) (q : Questions) (n : ℕ) (answers : List ℕ) (rows : List Row) (v : Valuation) (point : List ℤ)
    → list_at q.questions n ≡ answers → rows_at q.rows n ≡ rows
    → (MeetsTests nodes q n v point × MeetsFirst nodes answers rows (length rows) v point) ↔ MeetsTests nodes q (n + 1) v point
tests_more nodes q n answers rows v point asked known = (to, from)
  where
    there : MeetsFirst nodes answers rows (length rows) v point
        → MeetsFirst nodes (list_at q.questions n) (rows_at q.rows n) (length (rows_at q.rows n)) v point
    there h = subst (λ (l : List ℕ). MeetsFirst nodes l (rows_at q.rows n) (length (rows_at q.rows n)) v point) (sym asked)
        (subst (λ (rs : List Row). MeetsFirst nodes answers rs (length rs) v point) (sym known) h)

    to : MeetsTests nodes q n v point × MeetsFirst nodes answers rows (length rows) v point → MeetsTests nodes q (n + 1) v point
    to h t low = go (cases_lt t n)
      where
        go : (t < n) ⊎ (n ≤ t) → MeetsFirst nodes (list_at q.questions t) (rows_at q.rows t) (length (rows_at q.rows t)) v point
        go (inl less) = h.0 t less
        go (inr more) =
            let e : t ≡ n = omega (arith, low, more) in
            subst (λ (j : ℕ). MeetsFirst nodes (list_at q.questions j) (rows_at q.rows j) (length (rows_at q.rows j)) v point) (sym e) (there h.1)

    from : MeetsTests nodes q (n + 1) v point → MeetsTests nodes q n v point × MeetsFirst nodes answers rows (length rows) v point
    from h = (
      λ t low. h t (omega (arith, low)),
      subst (λ (rs : List Row). MeetsFirst nodes answers rs (length rs) v point) known
          (subst (λ (l : List ℕ). MeetsFirst nodes l (rows_at q.rows n) (length (rows_at q.rows n)) v point) asked (h n (omega arith))),
    )

-- the same rows in a store that has grown
pub meets_later : (old new : Diagrams) (answers : List ℕ) (rows : List Row) (v : Valuation) (point : List ℤ) → Extends old new → AreRefs old.nodes answers
    → length answers ≡ length rows + 1
    → MeetsFirst new.nodes answers rows (length rows) v point ↔ MeetsFirst old.nodes answers rows (length rows) v point
meets_later old new answers rows v point x refs many = (
  λ h i r low got on. h i r low got (same i low ∙ on),
  λ h i r low got on. h i r low got (sym (same i low) ∙ on),
)
  where
    same : (i : ℕ) → i < length rows → is_in new.nodes answers (i + 1) v ≡ is_in old.nodes answers (i + 1) v
    same i low = x.kept (ref_at answers (i + 1)) (refs (i + 1) (omega (arith, low, many))) v

pub refs_later : (old new : Diagrams) (answers : List ℕ) → Extends old new → AreRefs old.nodes answers → AreRefs new.nodes answers
refs_later old new answers x refs i low = let h = refs i low in let longer = x.longer in omega (arith, h, longer)

-- a row of a test fits
pub test_fits : (s : System) (r : Row) → IsTestRow s r → IsFit s.columns r
test_fits s r is = record { narrow = let w = is.wide in omega (arith, w); unit = tight_unit r r is.tight; bound = is.bound }

module _ (s : System) (is : IsSystem s) (d : Diagrams) (q : Questions) (asked : AreQuestions s d q) where
  -- under its answer
  pub answer_fits : (t i : ℕ) (r : Row) (v : Valuation) → t < length q.rows → slice_get (rows_at q.rows t) i ≡ Some r
      → is_in d.nodes (list_at q.questions t) (i + 1) v ≡ true → IsFit s.columns r
  answer_fits t i r v known got on =
      let many = asked.many_tests in
      let low : t < s.tests = omega (arith, known, many) in
      test_fits s r (is.rows v t r low ((asked.tests t low).present i r v got on))

  pub asked_refs : (t : ℕ) → t < length q.rows → AreRefs d.nodes (list_at q.questions t)
  asked_refs t known = let all = asked.answers.many in (asked.answers.one t (omega (arith, known, all))).found

  pub asked_many : (t : ℕ) → t < length q.rows → length (list_at q.questions t) ≡ length (rows_at q.rows t) + 1
  asked_many t known = asked.answers.tests t known

  known_test : (t : ℕ) → t < s.tests → t < length q.rows
  known_test t low = let many = asked.many_tests in omega (arith, low, many)

  known_question : (t : ℕ) → t < s.tests → t < length q.questions
  known_question t low =
      let many = asked.many_tests in
      let all = asked.answers.many in
      omega (arith, low, many, all)

  -- the rows of a valuation are those whose answers are true there
  told : (v : Valuation) (point : List ℤ) → MeetsTests d.nodes q (length q.rows) v point → (t : ℕ) (r : Row) → t < s.tests → s.row v t ≡ Some r
      → HasOneColumn r → Holds r point
  told v point meets t r low row one = go a.0 a.1 a.2
    where
      a : (j : ℕ) × (j < length (list_at q.questions t)) × (is_in d.nodes (list_at q.questions t) j v ≡ true)
      a = (asked.answers.one t (known_question t low)).covered v

      go : (j : ℕ) → j < length (list_at q.questions t) → is_in d.nodes (list_at q.questions t) j v ≡ true → Holds r point
      go zero inside on = absurd (none-some r (sym ((asked.tests t low).absent v on) ∙ row))
      go (suc i) inside on =
          let size = asked.answers.tests t (known_test t low) in
          let e : (x : Row) × (slice_get (rows_at q.rows t) i ≡ Some x) = item_at (rows_at q.rows t) i (omega (arith, inside, size)) in
          let next : suc i ≡ i + 1 = omega arith in
          let holding : is_in d.nodes (list_at q.questions t) (i + 1) v ≡ true = subst (λ (j : ℕ). is_in d.nodes (list_at q.questions t) j v ≡ true) next on in
          let same : e.0 ≡ r = same_Some e.0 r (sym ((asked.tests t low).present i e.0 v e.1 holding) ∙ row) in
          subst (λ (x : Row). HoldsAlone x point) same
          (meets t (known_test t low) i e.0 (slice_get_within (rows_at q.rows t) i e.0 e.1) e.1 holding) one

  meeting : (v : Valuation) (point : List ℤ) → ((t : ℕ) (r : Row) → t < s.tests → s.row v t ≡ Some r → HasOneColumn r → Holds r point)
      → MeetsTests d.nodes q (length q.rows) v point
  meeting v point holds t known i r inside got on one =
      let many = asked.many_tests in
      let low : t < s.tests = omega (arith, known, many) in
      holds t r low ((asked.tests t low).present i r v got on) one

  -- what is within the ends is in the narrowed box of each claim without limits
  pub ends_of_tests : (nodes : List Triple) (first ends : List Ends) → length first ≡ s.columns
      → ((k : ℕ) (e : Ends) → slice_get first k ≡ Some e → IsFree d.nodes e) → AreEnds nodes s.columns ends
      → AreCut d.nodes nodes first ends (MeetsTests d.nodes q (length q.rows)) → AreEndsOf s nodes [] [] ends
  ends_of_tests nodes first ends size free are cut = record { ends = are; exact = λ reached v some point. (to reached v point, from reached v point) }
    where
      to : (reached : Valuation → Bool) (v : Valuation) (point : List ℤ) → IsInBox s (claim_with reached [] []) v point → IsWithin (box_at nodes ends v) point
      to reached v point b = (cut v point).1 (free_within d.nodes first free v point (b.size ∙ sym size), meeting v point b.narrow)

      from : (reached : Valuation → Bool) (v : Valuation) (point : List ℤ) → IsWithin (box_at nodes ends v) point → IsInBox s (claim_with reached [] []) v point
      from reached v point w = record {
        size = within_size w;
        lower = λ tick k b known e. absurd (none-some b e);
        upper = λ tick k b known e. absurd (none-some b e);
        narrow = told v point ((cut v point).0 w).1;
      }
        where
          within_size : IsWithin (box_at nodes ends v) point → length point ≡ s.columns
          within_size w = (within_each nodes ends v point w).size ∙ are.size
