-- Where a claim takes a valuation.
use Rattle.std.proofs.Common.{◌≡◌, ◌↔◌, ℕ, zero, suc, ◌+◌, ◌<◌, ◌≤◌, List, length, true, ◌&&◌, ℤ, pos, Option, Some}
use Rattle.std.proofs.Common.{[], sym, ◌∙◌, subst, arith, IsTrue}
use Rattle.std.proofs.{lemmas.Bool.and_parts, lemmas.Bool.and_from, lemmas.Option.none-some, lemmas.Option.same_Some, lemmas.Option.slice_get-get_or}
use Rattle.rv_rows.specs.{declared.linear.Row.Row, Rows.row_at}
use Rattle.rv_diagram.specs.{declared.Triple.Triple, declared.frozen.Frozen.Frozen, Nodes.Valuation, Nodes.Diagrams}
use Rattle.rv_diagram.specs.{Nodes.IsMeant, Nodes.value_of, Growing.Extends}
use Rattle.rv_proofs.specs.{Systems.System, Systems.IsSystem, Systems.IsTestRow, Scopes.IsIn, Boxes.IsInBox, Boxes.IsOpen}
use Rattle.rv_walk.specs.Ends.{has}
use Rattle.rv_diagram.proofs.Growing.{extends_trans}
use Rattle.rv_cases.proofs.Keeping.{questions_later}
use Rattle.rv_ends.proofs.Stays.{ends_of_later}
use Rattle.rv_cases.specs.{declared.asking.Questions.Questions, Conditions.is_in, Conditions.list_at, Questions.rows_at, Questions.AreQuestions}
use Rattle.rv_ends.specs.{declared.ends.Ends.Ends, Claiming.claim_with, Intervals.IsWithin, Sides.box_at, Sides.AreEnds, Sides.AreEndsOf}
use Rattle.rv_taken.specs.{Taken.IsTakenAt, Taken.IsAsked, Taken.IsLimited, Meeting.IsExactly, Meeting.IsMetIn}
use Rattle.rv_taken.specs.Meeting.{AreRowsOf, HasOpenBox}

pub few_columns : (s : System) (d : Diagrams) (q : Questions) (allowed : ℕ) (nodes : List Triple) (upper lower : List (Option ℤ)) (ends : List Ends)
    → IsAsked s d q allowed → AreEndsOf s nodes upper lower ends → length ends ≤ 128
few_columns s d q allowed nodes upper lower ends asked are =
    let few : s.columns ≤ 128 = asked.system.limits.columns in
    let size : length ends ≡ s.columns = are.ends.size in
    omega arith

pub ends_here : (s : System) (nodes : List Triple) (upper lower : List (Option ℤ)) (ends : List Ends) → AreEndsOf s nodes upper lower ends
    → AreEnds nodes (length ends) ends
ends_here s nodes upper lower ends are = subst (λ (n : ℕ). AreEnds nodes n ends) (sym are.ends.size) are.ends

-- the questions in a store, the ends of a claim there, and the allowed valuations of its control states
module _ (s : System) (d : Diagrams) (q : Questions) (reached : Frozen) (upper lower : List (Option ℤ)) (ends : List Ends) (whole : ℕ)
    (system : IsSystem s) (asks : AreQuestions s d q) (limited : IsLimited s reached upper lower) (are : AreEndsOf s d.nodes upper lower ends)
    (inside : (v : Valuation) → (value_of d.nodes whole v ≡ true) ↔ (IsTrue (s.allowed v) × IsIn reached v)) where
  row_given : (t i : ℕ) → t < length q.rows → i < length (rows_at q.rows t) → (v : Valuation)
      → is_in d.nodes (list_at q.questions t) (i + 1) v ≡ true → s.row v t ≡ Some (row_at (rows_at q.rows t) i)
  row_given t i low less v on =
      (asks.tests t (omega (arith, asks.many_tests))).present i (row_at (rows_at q.rows t) i) v
      (slice_get-get_or (rows_at q.rows t) i (record { coefficients = []; bound = pos 0 }) less) on

  pub rows_given : (t : ℕ) → t < length q.rows → AreRowsOf d.nodes ends whole (list_at q.questions t) (rows_at q.rows t)
  rows_given t low i less = record {
    fits = λ v on.
        let g : IsTestRow s (row_at (rows_at q.rows t) i) =
        system.rows v t (row_at (rows_at q.rows t) i) (omega (arith, asks.many_tests)) (row_given t i low less v on) in
        let w : length (row_at (rows_at q.rows t) i).coefficients ≡ s.columns = g.wide in
        let n : length ends ≡ s.columns = are.ends.size in
        record { narrow = omega arith; coefficients = g.coefficients; bound = g.bound };
    narrow = λ v some on one point within.
        let box : IsInBox s (claim_with (has reached) upper lower) v point =
        (are.exact (has reached) v (limited.states v ((inside v).0 some).1) point).1 within in
        box.narrow t (row_at (rows_at q.rows t) i) (omega (arith, asks.many_tests)) (row_given t i low less v on) one;
  }

  -- an answer of a present test gives its row
  row_met : (v : Valuation) (t i : ℕ) (r : Row) → t < s.tests → s.row v t ≡ Some r → i < length (list_at q.questions t)
      → is_in d.nodes (list_at q.questions t) i v ≡ true → HasOpenBox d.nodes ends q v → IsMetIn (box_at d.nodes ends v) r
  row_met v t zero r low at less on h = absurd (none-some r (sym ((asks.tests t low).absent v on) ∙ at))
  row_met v t (suc i) r low at less on h =
      let known : t < length q.rows = omega (arith, asks.many_tests) in
      let size : length (list_at q.questions t) ≡ length (rows_at q.rows t) + 1 = asks.answers.tests t known in
      let there : i < length (rows_at q.rows t) = omega arith in
      let next : suc i ≡ i + 1 = omega arith in
      let here : is_in d.nodes (list_at q.questions t) (i + 1) v ≡ true =
      subst (λ (j : ℕ). is_in d.nodes (list_at q.questions t) j v ≡ true) next on in
      let is : row_at (rows_at q.rows t) i ≡ r = same_Some _ _ (sym (row_given t i known there v here) ∙ at) in
      subst (λ (x : Row). IsMetIn (box_at d.nodes ends v) x) is (h.1 t known i there here)

  module _ (v : Valuation) (some : 0 < s.states) where
    boxed : (point : List ℤ) → IsWithin (box_at d.nodes ends v) point → IsInBox s (claim_with (has reached) upper lower) v point
    boxed point within = (are.exact (has reached) v some point).1 within

    within_box : (point : List ℤ) → IsInBox s (claim_with (has reached) upper lower) v point → IsWithin (box_at d.nodes ends v) point
    within_box point box = (are.exact (has reached) v some point).0 box

    open_to : HasOpenBox d.nodes ends q v → IsOpen s (claim_with (has reached) upper lower) v
    open_to h = record {
      some = (h.0.0, boxed h.0.0 h.0.1);
      rows = λ t r low at.
          let asked : t < length q.questions = omega (arith, asks.many_tests, asks.answers.many) in
          let (i, less, on) = (asks.answers.one t asked).covered v in
          let (point, within, holds) = row_met v t i r low at less on h in
          (point, boxed point within, holds);
    }

    open_from : IsOpen s (claim_with (has reached) upper lower) v → HasOpenBox d.nodes ends q v
    open_from o = (
      (o.some.0, within_box o.some.0 o.some.1),
      λ t low i less on.
          let (point, box, holds) = o.rows t (row_at (rows_at q.rows t) i) (omega (arith, asks.many_tests)) (row_given t i low less v on) in
          (point, within_box point box, holds),
    )

  pub taken_exact : (new : Diagrams) (r : ℕ) → IsExactly new.nodes (λ v. (value_of d.nodes whole v ≡ true) × HasOpenBox d.nodes ends q v) r
      → IsTakenAt s new (claim_with (has reached) upper lower) r
  taken_exact new r is = record {
    found = is.found;
    exact = λ v. (
      λ on.
          let g = (is.means v).0 on in
          let i = (inside v).0 g.0 in
          record { allowed = i.0; reached = i.1; is_open = open_to v (limited.states v i.1) g.1 },
      λ taken. (is.means v).1 ((inside v).1 (taken.allowed, taken.reached), open_from v (limited.states v taken.reached) taken.is_open),
    );
  }

-- the allowed valuations of the control states of a set
pub inside_both : (s : System) (a b d : Diagrams) (reached : Frozen) (allowed set whole : ℕ) → Extends a b → IsMeant a.nodes s.allowed allowed
    → ((v : Valuation) → value_of b.nodes set v ≡ value_of reached.nodes reached.root v)
    → ((v : Valuation) → value_of d.nodes whole v ≡ (value_of b.nodes allowed v && value_of b.nodes set v))
    → (v : Valuation) → (value_of d.nodes whole v ≡ true) ↔ (IsTrue (s.allowed v) × IsIn reached v)
inside_both s a b d reached allowed set whole more is thawed means v =
    let here : value_of b.nodes allowed v ≡ s.allowed v = more.kept allowed is.0 v ∙ is.1 v in
    let there : value_of b.nodes set v ≡ value_of reached.nodes reached.root v = thawed v in (
      λ on.
          let (one, two) = and_parts (value_of b.nodes allowed v) (value_of b.nodes set v) (sym (means v) ∙ on) in
          (sym here ∙ one, sym there ∙ two),
      λ h. means v ∙ and_from (value_of b.nodes allowed v) (value_of b.nodes set v) (here ∙ h.0) (there ∙ h.1),
    )

-- the store grows from the call on, over the ends, the set, and what is allowed of it
module _ (s : System) (a b t d : Diagrams) (q : Questions) (reached : Frozen) (upper lower : List (Option ℤ)) (ends : List Ends) (allowed set whole : ℕ)
    (first : Extends a b) (second : Extends b t) (third : Extends t d) (asked : IsAsked s a q allowed) (limited : IsLimited s reached upper lower)
    (are : AreEndsOf s b.nodes upper lower ends) (thawed : (v : Valuation) → value_of t.nodes set v ≡ value_of reached.nodes reached.root v)
    (means : (v : Valuation) → value_of d.nodes whole v ≡ (value_of t.nodes allowed v && value_of t.nodes set v)) where
  pub grown : Extends a d
  grown = extends_trans a b d first (extends_trans b t d second third)

  pub ends_at : AreEndsOf s d.nodes upper lower ends
  ends_at = ends_of_later s b d upper lower ends (extends_trans b t d second third) are

  inside : (v : Valuation) → (value_of d.nodes whole v ≡ true) ↔ (IsTrue (s.allowed v) × IsIn reached v)
  inside = inside_both s a t d reached allowed set whole (extends_trans a b t first second) asked.allowed thawed means

  pub rows_at_last : (i : ℕ) → i < length q.rows → AreRowsOf d.nodes ends whole (list_at q.questions i) (rows_at q.rows i)
  rows_at_last = rows_given s d q reached upper lower ends whole asked.system (questions_later s a d q grown asked.questions) limited ends_at inside

  pub taken_at_last : (new : Diagrams) (r : ℕ) → IsExactly new.nodes (λ v. (value_of d.nodes whole v ≡ true) × HasOpenBox d.nodes ends q v) r
      → IsTakenAt s new (claim_with (has reached) upper lower) r
  taken_at_last = taken_exact s d q reached upper lower ends whole asked.system (questions_later s a d q grown asked.questions) limited ends_at inside
