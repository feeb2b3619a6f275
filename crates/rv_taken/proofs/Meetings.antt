-- What is left where boxes are shut, step by step.
use Rattle.std.proofs.Common.{◌≡◌, ◌↔◌, ℕ, ◌+◌, ◌<◌, ◌≤◌, ◌^◌, List, length, Bool, true}
use Rattle.std.proofs.Common.{false, not, ◌&&◌, ℤ, pos, ◌+ℤ◌, ◌-ℤ◌, ◌<ℤ◌, Some, cond, slice_get}
use Rattle.std.proofs.Common.{None as Nothing, refl, sym, ap, ◌∙◌, subst, arith, ⊎_elim, MatchBool, Result, Ok, Err, IfOk}
use Rattle.std.proofs.{lemmas.Bool.cases_lt, lemmas.Bool.cases_Bool, lemmas.Bool.false≢true, lemmas.Bool.MatchBool-at_true, lemmas.Bool.MatchBool-at_false}
use Rattle.std.proofs.{lemmas.Int.ints, lemmas.Option.none-some, lemmas.Option.same_Some}
use Rattle.std.proofs.{lemmas.List.get_or_past, lemmas.List.length-map}
use Rattle.std.specs.Int.RustNames.{unsigned_abs}
use Rattle.rv_rows.specs.{declared.linear.Form.Form, declared.linear.Row.Row, Forms.CanAdd, Forms.number, Rows.row_at, Arithmetic.form_sum}
use Rattle.rv_diagram.specs.{declared.Triple.Triple, Nodes.Valuation, Nodes.Diagrams, Nodes.IsRef}
use Rattle.rv_diagram.specs.{Nodes.IsMeant, Nodes.Answers, Nodes.value_of, Growing.Extends, Several.ref_at}
use Rattle.rv_terms.specs.{declared.parted.Term.Term, Parts.form_at, Parts.term_width, Parts.IsTerm, Parts.IsTermOf}
use Rattle.rv_terms.proofs.{Combining.form_width, Combining.term_later, Combining.form_later, Multiples.some_part}
use Rattle.rv_cases.specs.{declared.asking.Questions.Questions, Conditions.is_in, Conditions.list_at}
use Rattle.rv_cases.specs.{Conditions.AreRefs, Questions.rows_at, Questions.HaveAnswers}
use Rattle.rv_ends.specs.{declared.sides.Side.Side, declared.ends.Ends.Ends, Intervals.Interval}
use Rattle.rv_ends.specs.{Intervals.interval_at, Intervals.IsWithin, Intervals.HasPoint}
use Rattle.rv_ends.specs.{Intervals.IsPeak, Intervals.free}
use Rattle.rv_ends.specs.Sides.{side_at, IsSide, interval_of, box_at, AreEnds}
use Rattle.rv_taken.specs.Meeting.{IsExactly, IsCrossed, IsMetIn, IsRowOf, AreRowsOf, AreMet, AreTestsMet, HasOpenBox, opposite}
use Rattle.rv_ends.proofs.Stays.{box_later}
use Rattle.rv_taken.proofs.Points.{interval_read}
use Rattle.rv_taken.proofs.Points.{uncrossed_point, point_uncrossed, peak_unmet, peak_met}

pub exactly_as : (nodes : List Triple) (p q : Valuation → Type 0) (r : ℕ) → ((v : Valuation) → p v → q v) → ((v : Valuation) → q v → p v)
    → IsExactly nodes p r → IsExactly nodes q r
exactly_as nodes p q r to from is = record { found = is.found; means = λ v. (λ on. to v ((is.means v).0 on), λ h. (is.means v).1 (from v h)) }

-- what follows from two clauses on a call's answer
pub ok_two : {A E : Type 0} (r : Result A E) (p q t : A → Type 0) → ((x : A) → p x → q x → t x) → IfOk r p → IfOk r q → IfOk r t
ok_two (Ok x) p q t f h k = f x h k
ok_two (Err e) p q t f h k = h

-- TRUTH VALUES

pub less_parts : (a b c : Bool) → (a && not (b && c)) ≡ true → (a ≡ true) × (b ≡ true → c ≡ true → ⊥)
less_parts true true true h = absurd (false≢true h)
less_parts true true false h = (refl, λ one two. absurd (false≢true two))
less_parts true false c h = (refl, λ one two. absurd (false≢true one))
less_parts false b c h = absurd (false≢true h)

pub less_from : (a b c : Bool) → a ≡ true → (b ≡ true → c ≡ true → ⊥) → (a && not (b && c)) ≡ true
less_from true true true h off = absurd (off refl refl)
less_from true true false h off = refl
less_from true false c h off = refl
less_from false b c h off = h

-- what is true but where two references are
pub without_made : (s a b new : Diagrams) (whole one other both rest r : ℕ) → IsRef s.nodes whole
    → Answers s a (λ v. value_of s.nodes one v && value_of s.nodes other v) both
    → Answers a b (λ v. not (value_of a.nodes both v)) rest
    → Answers b new (λ v. value_of b.nodes whole v && value_of b.nodes rest v) r
    → IsMeant new.nodes (λ v. value_of s.nodes whole v && not (value_of s.nodes one v && value_of s.nodes other v)) r
without_made s a b new whole one other both rest r ref p q t = (
  t.found,
  λ v. t.means v
      ∙ ap (λ (x : Bool). x && value_of b.nodes rest v)
      (q.grows.kept whole (omega (arith, ref, p.grows.longer)) v ∙ p.grows.kept whole ref v)
      ∙ ap (λ (x : Bool). value_of s.nodes whole v && x) (q.means v ∙ ap (λ (x : Bool). not x) (p.means v)),
)

-- A COLUMN

crossing_to : (on off : Bool) (h l b : ℤ) → cond (on && off) (Some (h +ℤ l)) Nothing ≡ Some b → b <ℤ pos 0
    → IsCrossed (record { high = cond on (Some h) Nothing; low = cond off (Some l) Nothing })
crossing_to true true h l b is less =
    let e : h +ℤ l ≡ b = same_Some _ _ is in
    record { upper = h; lower = l; is_high = refl; is_low = refl; crossed = omega (arith, ints) }
crossing_to true false h l b is less = absurd (none-some b is)
crossing_to false off h l b is less = absurd (none-some b is)

crossing_from : (on off : Bool) (h l : ℤ) → IsCrossed (record { high = cond on (Some h) Nothing; low = cond off (Some l) Nothing })
    → (b : ℤ) × (cond (on && off) (Some (h +ℤ l)) Nothing ≡ Some b) × (b <ℤ pos 0)
crossing_from true true h l x =
    let u : h ≡ x.upper = same_Some _ _ x.is_high in
    let d : l ≡ x.lower = same_Some _ _ x.is_low in
    let c : (x.upper +ℤ x.lower) <ℤ pos 0 = x.crossed in
    (h +ℤ l, refl, omega (arith, ints))
crossing_from true false h l x = absurd (none-some x.lower x.is_low)
crossing_from false off h l x = absurd (none-some x.upper x.is_high)

pub side_width : (nodes : List Triple) (n : ℕ) (s : Side) → IsSide nodes n s → 0 ≡ term_width s.end.parts
side_width nodes n s is = sym (is.term.widths 0 (some_part nodes 0 s.end.parts is.term))

pub can_add : (nodes : List Triple) (a b : Side) → IsSide nodes (2 ^ 60) a → IsSide nodes (2 ^ 60) b → (v : Valuation)
    → CanAdd (form_at nodes a.end.parts v) (form_at nodes b.end.parts v)
can_add nodes a b is are v =
    let none : (s : Side) → IsSide nodes (2 ^ 60) s → (k : ℕ) → number k (form_at nodes s.end.parts v).coefficients ≡ pos 0 =
    λ s one k. get_or_past (form_at nodes s.end.parts v).coefficients k (pos 0)
    (let w : length (form_at nodes s.end.parts v).coefficients ≡ 0 = form_width nodes 0 s.end.parts one.term v in omega arith) in
    let one : unsigned_abs (form_at nodes a.end.parts v).constant ≤ 2 ^ 60 = is.small v in
    let two : unsigned_abs (form_at nodes b.end.parts v).constant ≤ 2 ^ 60 = are.small v in
    record {
      coefficients = λ k. nothing (number k (form_at nodes a.end.parts v).coefficients) (number k (form_at nodes b.end.parts v).coefficients)
          (none a is k) (none b are k);
      constant = small (form_at nodes a.end.parts v).constant (form_at nodes b.end.parts v).constant one two;
    }
  where
    nothing : (x y : ℤ) → x ≡ pos 0 → y ≡ pos 0 → unsigned_abs (x +ℤ y) < 2 ^ 110
    nothing x y e f = omega (arith, ints)

    small : (x y : ℤ) → unsigned_abs x ≤ 2 ^ 60 → unsigned_abs y ≤ 2 ^ 60 → unsigned_abs (x +ℤ y) < 2 ^ 110
    small x y h k = omega (arith, ints)

-- the width of a column: the sum of its bounds, where there are both
module _ (s a b : Diagrams) (more : Extends s a) (last : Extends a b) (ends : Ends) (high : IsSide s.nodes (2 ^ 60) ends.high)
    (low : IsSide s.nodes (2 ^ 60) ends.low) (end : Term) (there : ℕ)
    (sum : IsTermOf a.nodes (term_width ends.high.end.parts)
    (λ v. form_sum (form_at s.nodes ends.high.end.parts v) (form_at s.nodes ends.low.end.parts v)) end.parts)
    (found : IsRef b.nodes there)
    (means : (v : Valuation) → value_of b.nodes there v ≡ (value_of a.nodes ends.high.there v && value_of a.nodes ends.low.there v)) where
  form_is : (v : Valuation) → form_at b.nodes end.parts v ≡ form_sum (form_at s.nodes ends.high.end.parts v) (form_at s.nodes ends.low.end.parts v)
  form_is v = form_later a b end.parts v last sum.term.refs ∙ sum.exact v

  pub width_side : IsSide b.nodes (2 ^ 61) (record { there = there; end = end })
  width_side = record {
    there = found;
    term = term_later a b 0 end.parts last
        (subst (λ (n : ℕ). IsTerm a.nodes n end.parts) (sym (side_width s.nodes (2 ^ 60) ends.high high)) sum.term);
    small = λ v. subst (λ (f : Form). unsigned_abs f.constant ≤ 2 ^ 61) (sym (form_is v)) (both (form_at s.nodes ends.high.end.parts v).constant
        (form_at s.nodes ends.low.end.parts v).constant (high.small v) (low.small v));
  }
    where
      both : (x y : ℤ) → unsigned_abs x ≤ 2 ^ 60 → unsigned_abs y ≤ 2 ^ 60 → unsigned_abs (x +ℤ y) ≤ 2 ^ 61
      both x y h k = omega (arith, ints)

  width_at : (v : Valuation) → side_at b.nodes (record { there = there; end = end }) v
      ≡ cond (value_of s.nodes ends.high.there v && value_of s.nodes ends.low.there v)
      (Some ((form_at s.nodes ends.high.end.parts v).constant +ℤ (form_at s.nodes ends.low.end.parts v).constant)) Nothing
  width_at v =
      ap (λ (f : Form). cond (value_of b.nodes there v) (Some f.constant) Nothing) (form_is v)
      ∙ ap (λ (x : Bool). cond x (Some ((form_at s.nodes ends.high.end.parts v).constant +ℤ (form_at s.nodes ends.low.end.parts v).constant)) Nothing)
      (means v ∙ ap (λ (x : Bool). x && value_of a.nodes ends.low.there v) (more.kept ends.high.there high.there v)
      ∙ ap (λ (x : Bool). value_of s.nodes ends.high.there v && x) (more.kept ends.low.there low.there v))

  pub crossing_exact : (new : List Triple) (r : ℕ) → IsRef new r
      → ((v : Valuation) → (value_of new r v ≡ true)
      ↔ ((z : ℤ) × (side_at b.nodes (record { there = there; end = end }) v ≡ Some z) × (z <ℤ pos 0)))
      → IsExactly new (λ v. IsCrossed (interval_of s.nodes v ends)) r
  crossing_exact new r ref below = record {
    found = ref;
    means = λ v. (
      λ on. let (z, is, less) = (below v).0 on in crossing_to (value_of s.nodes ends.high.there v) (value_of s.nodes ends.low.there v)
          (form_at s.nodes ends.high.end.parts v).constant (form_at s.nodes ends.low.end.parts v).constant z (sym (width_at v) ∙ is) less,
      λ x. let (z, is, less) = crossing_from (value_of s.nodes ends.high.there v) (value_of s.nodes ends.low.there v)
          (form_at s.nodes ends.high.end.parts v).constant (form_at s.nodes ends.low.end.parts v).constant x in (below v).1 (z, width_at v ∙ is, less),
    );
  }

-- one column less
pub without_crossed : (s a : Diagrams) (new : List Triple) (ends : List Ends) (x : Ends) (column open' crossed r : ℕ) → Extends s a → IsRef s.nodes open'
    → slice_get ends column ≡ Some x → IsExactly a.nodes (λ v. IsCrossed (interval_of s.nodes v x)) crossed
    → IsMeant new (λ v. value_of a.nodes open' v && not (value_of a.nodes crossed v && value_of a.nodes crossed v)) r
    → IsExactly new (λ v. (value_of s.nodes open' v ≡ true) × (IsCrossed (interval_at (box_at s.nodes ends v) column) → ⊥)) r
without_crossed s a new ends x column open' crossed r more ref got is (found, means) = record {
  found = found;
  means = λ v.
      let at : interval_at (box_at s.nodes ends v) column ≡ interval_of s.nodes v x = interval_read (interval_of s.nodes v) free ends column x got in (
        λ on. let (one, off) = less_parts (value_of a.nodes open' v) (value_of a.nodes crossed v) (value_of a.nodes crossed v) (sym (means v) ∙ on) in
            (sym (more.kept open' ref v) ∙ one, λ c. let y = (is.means v).1 (subst IsCrossed at c) in off y y),
        λ h. means v ∙ less_from (value_of a.nodes open' v) (value_of a.nodes crossed v) (value_of a.nodes crossed v) (more.kept open' ref v ∙ h.0)
            (λ on also. h.1 (subst IsCrossed (sym at) ((is.means v).0 on))),
      );
}

-- of the first n columns none is crossed
abbrev pub AreUncrossed : List Interval → ℕ → Type 0
AreUncrossed box n = (k : ℕ) → k < n → IsCrossed (interval_at box k) → ⊥

pub uncrossed_first : (nodes : List Triple) (ends : List Ends) (whole : ℕ) → IsRef nodes whole
    → IsExactly nodes (λ v. (value_of nodes whole v ≡ true) × AreUncrossed (box_at nodes ends v) 0) whole
uncrossed_first nodes ends whole ref = record { found = ref; means = λ v. (λ on. (on, λ k low. absurd (omega arith)), λ h. h.0) }

pub uncrossed_more : (s a : Diagrams) (new : List Triple) (ends : List Ends) (n whole open' r : ℕ) → Extends s a → AreEnds s.nodes (length ends) ends
    → IsExactly a.nodes (λ v. (value_of s.nodes whole v ≡ true) × AreUncrossed (box_at s.nodes ends v) n) open'
    → IsExactly new (λ v. (value_of a.nodes open' v ≡ true) × (IsCrossed (interval_at (box_at a.nodes ends v) n) → ⊥)) r
    → IsExactly new (λ v. (value_of s.nodes whole v ≡ true) × AreUncrossed (box_at s.nodes ends v) (n + 1)) r
uncrossed_more s a new ends n whole open' r more are is next =
    exactly_as new (λ v. (value_of a.nodes open' v ≡ true) × (IsCrossed (interval_at (box_at a.nodes ends v) n) → ⊥)) _ r
    (λ v h. let g = (is.means v).0 h.0 in (
      g.0,
      λ k low x. ⊎_elim (λ less. g.1 k less x)
          (λ ge. let e : k ≡ n = omega arith in h.1 (subst (λ (box : List Interval). IsCrossed (interval_at box n))
          (sym (box_later s a (length ends) ends v more are))
          (subst (λ (j : ℕ). IsCrossed (interval_at (box_at s.nodes ends v) j)) e x)))
          (cases_lt k n),
    ))
    (λ v h. (
      (is.means v).1 (h.0, λ k low. h.1 k (omega arith)),
      λ x. h.1 n (omega arith) (subst (λ (box : List Interval). IsCrossed (interval_at box n)) (box_later s a (length ends) ends v more are) x),
    ))
    next

pub uncrossed_all : (s : Diagrams) (new : List Triple) (ends : List Ends) (n whole r : ℕ) → n ≡ length ends
    → IsExactly new (λ v. (value_of s.nodes whole v ≡ true) × AreUncrossed (box_at s.nodes ends v) n) r
    → IsExactly new (λ v. (value_of s.nodes whole v ≡ true) × HasPoint (box_at s.nodes ends v)) r
uncrossed_all s new ends n whole r all is =
    let size : (v : Valuation) → length (box_at s.nodes ends v) ≡ length ends = λ v. length-map ends (interval_of s.nodes v) in
    exactly_as new (λ v. (value_of s.nodes whole v ≡ true) × AreUncrossed (box_at s.nodes ends v) n) _ r
    (λ v h. (h.0, uncrossed_point (box_at s.nodes ends v) (λ k low. h.1 k (let z : length (box_at s.nodes ends v) ≡ length ends = size v in omega arith))))
    (λ v h. (h.0, λ k low. point_uncrossed (box_at s.nodes ends v) h.1 k (let z : length (box_at s.nodes ends v) ≡ length ends = size v in omega arith)))
    is

-- A ROW

-- where no point meets the row, by the greatest value of its opposite
pub unmet_exact : (old new : List Triple) (top : Side) (box : List Interval) (r : Row) (v : Valuation) (x : ℕ) (least : ℤ) → least ≡ pos 0 -ℤ r.bound
    → IsPeak box (opposite r.coefficients) (side_at old top v)
    → (value_of new x v ≡ true) ↔ ((z : ℤ) × (side_at old top v ≡ Some z) × (z <ℤ least))
    → MatchBool (value_of new x v) (IsMetIn box r → ⊥) (IsMetIn box r)
unmet_exact old new top box r v x least e peak below = go (value_of new x v) refl
  where
    go : (b : Bool) → value_of new x v ≡ b → MatchBool b (IsMetIn box r → ⊥) (IsMetIn box r)
    go true on = let (z, is, less) = below.0 on in peak_unmet box r (side_at old top v) peak z is (subst (λ (y : ℤ). z <ℤ y) e less)
    go false off = peak_met box r (side_at old top v) peak
        (λ z is less. false≢true (sym off ∙ below.1 (z, is, subst (λ (y : ℤ). z <ℤ y) (sym e) less)))

pub row_met : (s a : Diagrams) (new : List Triple) (ends : List Ends) (open' under shut r : ℕ) (row : Row) → Extends s a → IsRef s.nodes open'
    → IsRef s.nodes under → ((v : Valuation) → value_of s.nodes open' v ≡ true → HasPoint (box_at s.nodes ends v))
    → ((v : Valuation) → HasPoint (box_at s.nodes ends v)
    → MatchBool (value_of a.nodes shut v) (IsMetIn (box_at s.nodes ends v) row → ⊥) (IsMetIn (box_at s.nodes ends v) row))
    → IsMeant new (λ v. value_of a.nodes open' v && not (value_of a.nodes under v && value_of a.nodes shut v)) r
    → IsExactly new (λ v. (value_of s.nodes open' v ≡ true) × (value_of s.nodes under v ≡ true → IsMetIn (box_at s.nodes ends v) row)) r
row_met s a new ends open' under shut r row more ref known opened exact (found, means) = record {
  found = found;
  means = λ v. (
    λ on. let (one, off) = less_parts (value_of a.nodes open' v) (value_of a.nodes under v) (value_of a.nodes shut v) (sym (means v) ∙ on) in
        let here : value_of s.nodes open' v ≡ true = sym (more.kept open' ref v) ∙ one in
        (here, λ two. met v here (λ three. off (more.kept under known v ∙ two) three)),
    λ h. means v ∙ less_from (value_of a.nodes open' v) (value_of a.nodes under v) (value_of a.nodes shut v) (more.kept open' ref v ∙ h.0)
        (λ two three. MatchBool-at_true (IsMetIn (box_at s.nodes ends v) row → ⊥) (IsMetIn (box_at s.nodes ends v) row) three
        (exact v (opened v h.0))
        (h.1 (sym (more.kept under known v) ∙ two))),
  );
}
  where
    met : (v : Valuation) → value_of s.nodes open' v ≡ true → (value_of a.nodes shut v ≡ true → ⊥) → IsMetIn (box_at s.nodes ends v) row
    met v here off = ⊎_elim (λ t. absurd (off t))
        (λ f. MatchBool-at_false (IsMetIn (box_at s.nodes ends v) row → ⊥) (IsMetIn (box_at s.nodes ends v) row) f (exact v (opened v here)))
        (cases_Bool (value_of a.nodes shut v))

-- a row in a store that has grown, under a reference that is true at most where the other was
pub row_of_later : (s a : Diagrams) (ends : List Ends) (open' fewer under : ℕ) (row : Row) → Extends s a → AreEnds s.nodes (length ends) ends
    → IsRef s.nodes under → ((v : Valuation) → value_of a.nodes fewer v ≡ true → value_of s.nodes open' v ≡ true)
    → IsRowOf s.nodes ends open' under row → IsRowOf a.nodes ends fewer under row
row_of_later s a ends open' fewer under row more are known within is = record {
  fits = λ v on. is.fits v (sym (more.kept under known v) ∙ on);
  narrow = λ v some on one point inside. is.narrow v (within v some) (sym (more.kept under known v) ∙ on) one point
      (subst (λ (box : List Interval). IsWithin box point) (box_later s a (length ends) ends v more are) inside);
}

pub rows_of_later : (s a : Diagrams) (ends : List Ends) (open' fewer : ℕ) (answers : List ℕ) (rows : List Row) → Extends s a
    → AreEnds s.nodes (length ends) ends → AreRefs s.nodes answers → length answers ≡ length rows + 1
    → ((v : Valuation) → value_of a.nodes fewer v ≡ true → value_of s.nodes open' v ≡ true)
    → AreRowsOf s.nodes ends open' answers rows → AreRowsOf a.nodes ends fewer answers rows
rows_of_later s a ends open' fewer answers rows more are refs many within is i low =
    row_of_later s a ends open' fewer (ref_at answers (i + 1)) (row_at rows i) more are (refs (i + 1) (omega arith)) within (is i low)

pub opened_later : (s a : Diagrams) (ends : List Ends) (open' fewer : ℕ) → Extends s a → AreEnds s.nodes (length ends) ends
    → ((v : Valuation) → value_of a.nodes fewer v ≡ true → value_of s.nodes open' v ≡ true)
    → ((v : Valuation) → value_of s.nodes open' v ≡ true → HasPoint (box_at s.nodes ends v))
    → (v : Valuation) → value_of a.nodes fewer v ≡ true → HasPoint (box_at a.nodes ends v)
opened_later s a ends open' fewer more are within opened v on =
    subst HasPoint (sym (box_later s a (length ends) ends v more are)) (opened v (within v on))

-- the rows of a test
pub met_first : (nodes : List Triple) (ends : List Ends) (answers : List ℕ) (rows : List Row) (open' : ℕ) → IsRef nodes open'
    → IsExactly nodes (λ v. (value_of nodes open' v ≡ true) × AreMet nodes ends answers rows 0 v) open'
met_first nodes ends answers rows open' ref = record { found = ref; means = λ v. (λ on. (on, λ i low. absurd (omega arith)), λ h. h.0) }

pub met_more : (s a : Diagrams) (new : List Triple) (ends : List Ends) (answers : List ℕ) (rows : List Row) (n open' rest r : ℕ) (row : Row) → Extends s a
    → AreEnds s.nodes (length ends) ends → IsRef s.nodes (ref_at answers (n + 1)) → row_at rows n ≡ row
    → IsExactly a.nodes (λ v. (value_of s.nodes open' v ≡ true) × AreMet s.nodes ends answers rows n v) rest
    → IsExactly new (λ v. (value_of a.nodes rest v ≡ true) × (is_in a.nodes answers (n + 1) v ≡ true → IsMetIn (box_at a.nodes ends v) row)) r
    → IsExactly new (λ v. (value_of s.nodes open' v ≡ true) × AreMet s.nodes ends answers rows (n + 1) v) r
met_more s a new ends answers rows n open' rest r row more are ref at is next =
    exactly_as new (λ v. (value_of a.nodes rest v ≡ true) × (is_in a.nodes answers (n + 1) v ≡ true → IsMetIn (box_at a.nodes ends v) row)) _ r
    (λ v h. let g = (is.means v).0 h.0 in (
      g.0,
      λ i low on. ⊎_elim (λ less. g.1 i less on)
          (λ ge. let e : n ≡ i = omega arith in subst (λ (j : ℕ). IsMetIn (box_at s.nodes ends v) (row_at rows j)) e (here v
          (h.1 (more.kept (ref_at answers (n + 1)) ref v ∙ subst (λ (j : ℕ). is_in s.nodes answers (j + 1) v ≡ true) (sym e) on))))
          (cases_lt i n),
    ))
    (λ v h. (
      (is.means v).1 (h.0, λ i low. h.1 i (omega arith)),
      λ on. there v (h.1 n (omega arith) (sym (more.kept (ref_at answers (n + 1)) ref v) ∙ on)),
    ))
    next
  where
    here : (v : Valuation) → IsMetIn (box_at a.nodes ends v) row → IsMetIn (box_at s.nodes ends v) (row_at rows n)
    here v m = subst (λ (box : List Interval). IsMetIn box (row_at rows n)) (box_later s a (length ends) ends v more are)
        (subst (λ (x : Row). IsMetIn (box_at a.nodes ends v) x) (sym at) m)

    there : (v : Valuation) → IsMetIn (box_at s.nodes ends v) (row_at rows n) → IsMetIn (box_at a.nodes ends v) row
    there v m = subst (λ (box : List Interval). IsMetIn box row) (sym (box_later s a (length ends) ends v more are))
        (subst (λ (x : Row). IsMetIn (box_at s.nodes ends v) x) at m)

-- the tests
pub tests_first : (nodes : List Triple) (ends : List Ends) (q : Questions) (open' : ℕ) → IsRef nodes open'
    → IsExactly nodes (λ v. (value_of nodes open' v ≡ true) × AreTestsMet nodes ends q 0 v) open'
tests_first nodes ends q open' ref = record { found = ref; means = λ v. (λ on. (on, λ t low. absurd (omega arith)), λ h. h.0) }

-- the rows of one test mean the same in a store that has grown
met_same : (s a : Diagrams) (ends : List Ends) (answers : List ℕ) (rows : List Row) (v : Valuation) → Extends s a → AreEnds s.nodes (length ends) ends
    → AreRefs s.nodes answers → length answers ≡ length rows + 1
    → AreMet a.nodes ends answers rows (length rows) v ↔ AreMet s.nodes ends answers rows (length rows) v
met_same s a ends answers rows v more are refs many = (
  λ h i low on. subst (λ (box : List Interval). IsMetIn box (row_at rows i)) (box_later s a (length ends) ends v more are)
      (h i low (more.kept (ref_at answers (i + 1)) (refs (i + 1) (omega arith)) v ∙ on)),
  λ h i low on. subst (λ (box : List Interval). IsMetIn box (row_at rows i)) (sym (box_later s a (length ends) ends v more are))
      (h i low (sym (more.kept (ref_at answers (i + 1)) (refs (i + 1) (omega arith)) v) ∙ on)),
)

pub tests_more : (s a : Diagrams) (new : List Triple) (ends : List Ends) (q : Questions) (n open' rest r : ℕ) → Extends s a
    → AreEnds s.nodes (length ends) ends → AreRefs s.nodes (list_at q.questions n)
    → length (list_at q.questions n) ≡ length (rows_at q.rows n) + 1
    → IsExactly a.nodes (λ v. (value_of s.nodes open' v ≡ true) × AreTestsMet s.nodes ends q n v) rest
    → IsExactly new (λ v. (value_of a.nodes rest v ≡ true)
    × AreMet a.nodes ends (list_at q.questions n) (rows_at q.rows n) (length (rows_at q.rows n)) v) r
    → IsExactly new (λ v. (value_of s.nodes open' v ≡ true) × AreTestsMet s.nodes ends q (n + 1) v) r
tests_more s a new ends q n open' rest r more are refs many is next =
    exactly_as new (λ v. (value_of a.nodes rest v ≡ true)
    × AreMet a.nodes ends (list_at q.questions n) (rows_at q.rows n) (length (rows_at q.rows n)) v) _ r
    (λ v h. let g = (is.means v).0 h.0 in (
      g.0,
      λ t low. ⊎_elim (λ less. g.1 t less)
          (λ ge. let e : n ≡ t = omega arith in
          subst (λ (j : ℕ). AreMet s.nodes ends (list_at q.questions j) (rows_at q.rows j) (length (rows_at q.rows j)) v) e
          ((met_same s a ends (list_at q.questions n) (rows_at q.rows n) v more are refs many).0 h.1))
          (cases_lt t n),
    ))
    (λ v h. (
      (is.means v).1 (h.0, λ t low. h.1 t (omega arith)),
      (met_same s a ends (list_at q.questions n) (rows_at q.rows n) v more are refs many).1 (h.1 n (omega arith)),
    ))
    next

-- one test more, by its own lists
pub tests_step : (s a : Diagrams) (new : List Triple) (ends : List Ends) (q : Questions) (n open' rest r : ℕ) (answers : List ℕ) (rows : List Row) → Extends s a
    → AreEnds s.nodes (length ends) ends → HaveAnswers s.nodes q → n < length q.rows → list_at q.questions n ≡ answers → rows_at q.rows n ≡ rows
    → IsExactly a.nodes (λ v. (value_of s.nodes open' v ≡ true) × AreTestsMet s.nodes ends q n v) rest
    → IsExactly new (λ v. (value_of a.nodes rest v ≡ true) × AreMet a.nodes ends answers rows (length rows) v) r
    → IsExactly new (λ v. (value_of s.nodes open' v ≡ true) × AreTestsMet s.nodes ends q (n + 1) v) r
tests_step s a new ends q n open' rest r answers rows more are have low one two is next =
    tests_more s a new ends q n open' rest r more are
    (have.one n (let m : length q.questions ≡ length q.rows + length q.forms + 1 = have.many in omega arith)).found (have.tests n low) is
    (subst (λ (l : List ℕ). IsExactly new (λ v. (value_of a.nodes rest v ≡ true) × AreMet a.nodes ends l (rows_at q.rows n) (length (rows_at q.rows n)) v) r)
    (sym one)
    (subst (λ (l : List Row). IsExactly new (λ v. (value_of a.nodes rest v ≡ true) × AreMet a.nodes ends answers l (length l) v) r) (sym two) next))

-- all of the box
pub opened_exact : (s a : Diagrams) (new : List Triple) (ends : List Ends) (q : Questions) (whole some r : ℕ) → Extends s a
    → AreEnds s.nodes (length ends) ends → HaveAnswers s.nodes q
    → IsExactly a.nodes (λ v. (value_of s.nodes whole v ≡ true) × HasPoint (box_at s.nodes ends v)) some
    → IsExactly new (λ v. (value_of a.nodes some v ≡ true) × AreTestsMet a.nodes ends q (length q.rows) v) r
    → IsExactly new (λ v. (value_of s.nodes whole v ≡ true) × HasOpenBox s.nodes ends q v) r
opened_exact s a new ends q whole some r more are have is next =
    exactly_as new (λ v. (value_of a.nodes some v ≡ true) × AreTestsMet a.nodes ends q (length q.rows) v) _ r
    (λ v h. let g = (is.means v).0 h.0 in (g.0, (g.1, λ t low. (same v t low).0 (h.1 t low))))
    (λ v h. ((is.means v).1 (h.0, h.1.0), λ t low. (same v t low).1 (h.1.1 t low)))
    next
  where
    same : (v : Valuation) (t : ℕ) → t < length q.rows
        → AreMet a.nodes ends (list_at q.questions t) (rows_at q.rows t) (length (rows_at q.rows t)) v
        ↔ AreMet s.nodes ends (list_at q.questions t) (rows_at q.rows t) (length (rows_at q.rows t)) v
    same v t low = met_same s a ends (list_at q.questions t) (rows_at q.rows t) v more are
        (have.one t (let m : length q.questions ≡ length q.rows + length q.forms + 1 = have.many in omega arith)).found (have.tests t low)
