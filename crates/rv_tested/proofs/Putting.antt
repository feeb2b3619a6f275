-- One row after another is put to the answers of a test.
use Rattle.std.proofs.Common.{◌≡◌, ◌≢◌, ◌⊎◌, inl, inr, ◌↔◌, ℕ, ◌+◌, ◌<◌, Bool, true, false, cond, ◌||◌, List, [], ◌∷◌, ◌++◌, length, refl, sym, ◌∙◌, ap, subst}
use Rattle.std.proofs.Common.{arith, Option, Some, None as Nothing}
use Rattle.std.proofs.lemmas.Bool.{cases_lt, cases_eq, false≢true, or_left, or_right}
use Rattle.std.proofs.lemmas.List.{length-set, get_or_append_left, get_or-set_same, get_or-set_other, length_push}
use Rattle.std.proofs.Math.Seq.{get_or-append_seam}
use Rattle.std.specs.Prelude.{slice_set}
use Rattle.rv_rows.specs.{declared.linear.Row.Row, Rows.row_at}
use Rattle.rv_diagram.specs.{declared.Triple.Triple, Nodes.Valuation, Nodes.Diagrams, Nodes.IsRef, Nodes.value_of, Several.ref_at}
use Rattle.rv_diagram.specs.Growing.{Extends}
use Rattle.rv_cases.specs.Conditions.{is_in}
use Rattle.rv_tested.specs.{declared.rows.Answered.Answered, Rows.IsLaid, Rows.HasRows, Rows.IsPut, Rows.IsAnswered}
use Rattle.rv_cases.proofs.Gathering.{before-at}
use Rattle.rv_base.proofs.{Options.some_same, Truths.or_false, Truths.or_true}

no_some : (r : Row) → Nothing ≡ Some r → ⊥
no_some r e = cc

-- ONE VALUATION

-- another row than the one that is put
new_exact : (b u : Bool) (row r : Row) (o : Option Row) → (u ≡ true) ↔ (o ≡ Some r) → (b ≡ true → o ≡ Nothing) → (row ≡ r → ⊥)
    → (u ≡ true) ↔ (cond b (Some row) o ≡ Some r)
new_exact true u row r o iff none off = (λ t. absurd (no_some r (sym (none refl) ∙ iff.0 t)), λ e. absurd (off (some_same row r e)))
new_exact false u row r o iff none off = iff

-- the row that is put, where none had it
here_exact : (b : Bool) (row : Row) (o : Option Row) → (o ≡ Some row → ⊥) → (b ≡ true) ↔ (cond b (Some row) o ≡ Some row)
here_exact true row o off = (λ t. refl, λ e. refl)
here_exact false row o off = (λ t. absurd (false≢true t), λ e. absurd (off e))

-- the row that is put, where one had it
joined_exact : (b u : Bool) (row r : Row) (o : Option Row) → (u ≡ true) ↔ (o ≡ Some r) → row ≡ r → ((u || b) ≡ true) ↔ (cond b (Some row) o ≡ Some r)
joined_exact true u row r o iff same = (λ t. ap Some same, λ e. or_true u)
joined_exact false u row r o iff same = (λ t. iff.0 (sym (or_false u) ∙ t), λ e. or_false u ∙ iff.1 e)

put_or_old : (b : Bool) (row r : Row) (o : Option Row) → cond b (Some row) o ≡ Some r → (row ≡ r) ⊎ (o ≡ Some r)
put_or_old true row r o e = inl (some_same row r e)
put_or_old false row r o e = inr e

-- ANSWERS

pub laid_later : (old new : Diagrams) (a : Answered) → Extends old new → IsLaid old.nodes a → IsLaid new.nodes a
laid_later old new a e laid = record { size = laid.size; found = λ i lt. omega (arith, laid.found i lt, e.longer) }

pub in_later : (old new : Diagrams) (a : Answered) (i : ℕ) (v : Valuation) → Extends old new → IsLaid old.nodes a → i < length a.rows + 1
    → is_in new.nodes a.refs i v ≡ is_in old.nodes a.refs i v
in_later old new a i v e laid lt = e.kept (ref_at a.refs i) (laid.found i (omega (arith, laid.size))) v

pub rows_as : (nodes : List Triple) (f g : Valuation → Option Row) (a : Answered) → ((v : Valuation) → f v ≡ g v) → HasRows nodes f a → HasRows nodes g a
rows_as nodes f g a same h = record {
  exact = λ i lt v. subst (λ (o : Option Row). (is_in nodes a.refs (i + 1) v ≡ true) ↔ (o ≡ Some (row_at a.rows i))) (same v) (h.exact i lt v);
  covers = λ v r e. h.covers v r (same v ∙ e);
  different = h.different;
}

pub rows_later : (old new : Diagrams) (f : Valuation → Option Row) (a : Answered) → Extends old new → IsLaid old.nodes a → HasRows old.nodes f a
    → HasRows new.nodes f a
rows_later old new f a e laid h = record {
  exact = λ i lt v. subst (λ b. (b ≡ true) ↔ (f v ≡ Some (row_at a.rows i))) (sym (in_later old new a (i + 1) v e laid (omega arith))) (h.exact i lt v);
  covers = h.covers;
  different = h.different;
}

-- nothing is put
cond-none : {A : Type 0} (b : Bool) (x y : A) → b ≡ false → y ≡ cond b x y
cond-none true x y e = cc
cond-none false x y e = refl

pub put_none : (old new : Diagrams) (q : Valuation → Bool) (g : Valuation → Row) (a : Answered) → Extends old new → IsLaid old.nodes a
    → ((v : Valuation) → q v ≡ false) → IsPut old.nodes new.nodes q g a a
put_none old new q g a e laid none = record {
  laid = laid_later old new a e laid;
  first = refl;
  rows = λ f h free. rows_as new.nodes f (λ v. cond (q v) (Some (g v)) (f v)) a (λ v. cond-none (q v) (Some (g v)) (f v) (none v))
      (rows_later old new f a e laid h);
}

-- two steps are one
both_put : (p q r : Bool) (g h k : Row) (o : Option Row) → p ≡ (q || r) → (q ≡ true → g ≡ k) → (r ≡ true → h ≡ k)
    → cond r (Some h) (cond q (Some g) o) ≡ cond p (Some k) o
both_put p true true g h k o e one two = ap Some (two refl) ∙ (λ i. cond (sym e i) (Some k) o)
both_put p true false g h k o e one two = ap Some (one refl) ∙ (λ i. cond (sym e i) (Some k) o)
both_put p false true g h k o e one two = ap Some (two refl) ∙ (λ i. cond (sym e i) (Some k) o)
both_put p false false g h k o e one two = λ i. cond (sym e i) (Some k) o

free_still : (q : Bool) (g : Row) (o : Option Row) → (q ≡ true → ⊥) → o ≡ Nothing → cond q (Some g) o ≡ Nothing
free_still true g o off e = absurd (off refl)
free_still false g o off e = e

pub put_both : (a b c : List Triple) (p q r : Valuation → Bool) (g h k : Valuation → Row) (x y z : Answered) → IsPut a b q g x y → IsPut b c r h y z
    → ((v : Valuation) → q v ≡ true → r v ≡ true → ⊥) → ((v : Valuation) → p v ≡ (q v || r v))
    → ((v : Valuation) → q v ≡ true → g v ≡ k v) → ((v : Valuation) → r v ≡ true → h v ≡ k v) → IsPut a c p k x z
put_both a b c p q r g h k x y z one two apart whole first second = record {
  laid = two.laid;
  first = two.first ∙ one.first;
  rows = λ f has free.
      rows_as c (λ v. cond (r v) (Some (h v)) (cond (q v) (Some (g v)) (f v))) (λ v. cond (p v) (Some (k v)) (f v)) z
      (λ v. both_put (p v) (q v) (r v) (g v) (h v) (k v) (f v) (whole v) (first v) (second v))
      (two.rows (λ v. cond (q v) (Some (g v)) (f v))
      (one.rows f has (λ v t. free v (whole v ∙ or_left (q v) (r v) t)))
      (λ v t. free_still (q v) (g v) (f v) (λ s. apart v s t) (free v (whole v ∙ or_right (q v) (r v) t))));
}

same_put : (p q : Bool) (g k : Row) (o : Option Row) → p ≡ q → (q ≡ true → g ≡ k) → cond q (Some g) o ≡ cond p (Some k) o
same_put p true g k o e same = ap Some (same refl) ∙ (λ i. cond (sym e i) (Some k) o)
same_put p false g k o e same = λ i. cond (sym e i) (Some k) o

-- the same step, of an equal set and equal rows
pub put_as : (a b : List Triple) (p q : Valuation → Bool) (g k : Valuation → Row) (x y : Answered) → IsPut a b q g x y
    → ((v : Valuation) → p v ≡ q v) → ((v : Valuation) → q v ≡ true → g v ≡ k v) → IsPut a b p k x y
put_as a b p q g k x y one whole same = record {
  laid = one.laid;
  first = one.first;
  rows = λ f has free. rows_as b (λ v. cond (q v) (Some (g v)) (f v)) (λ v. cond (p v) (Some (k v)) (f v)) y
      (λ v. same_put (p v) (q v) (g v) (k v) (f v) (whole v) (same v)) (one.rows f has (λ v t. free v (whole v ∙ t)));
}

-- a step in a store that had grown before
pub put_after : (a b : Diagrams) (c : List Triple) (q : Valuation → Bool) (g : Valuation → Row) (x y : Answered) → Extends a b → IsLaid a.nodes x
    → IsPut b.nodes c q g x y → IsPut a.nodes c q g x y
put_after a b c q g x y e laid one = record {
  laid = one.laid;
  first = one.first;
  rows = λ f has free. one.rows f (rows_later a b f x e laid has) free;
}

-- A ROW

row_before : (rows : List Row) (row : Row) (i : ℕ) → i < length rows → row_at (rows ++ row ∷ []) i ≡ row_at rows i
row_before rows row i lt = get_or_append_left rows (row ∷ []) (row_at [] 0) i lt

row_last : (rows : List Row) (row : Row) (i : ℕ) → i ≡ length rows → row_at (rows ++ row ∷ []) i ≡ row
row_last rows row i e = ap (λ n. row_at (rows ++ row ∷ []) n) e ∙ get_or-append_seam rows row [] (row_at [] 0)

ref_last : (refs : List ℕ) (r i : ℕ) → i ≡ length refs → ref_at (refs ++ r ∷ []) i ≡ r
ref_last refs r i e = ap (λ n. ref_at (refs ++ r ∷ []) n) e ∙ get_or-append_seam refs r [] 0

last_or_before : (i n : ℕ) → i < n + 1 → (i < n) ⊎ (i ≡ n)
last_or_before i n lt = elim (cases_lt i n) [ inl less ↦ inl less | inr ge ↦ inr (omega arith) ]

-- a row that was not there
pub put_new : (s : Diagrams) (under : ℕ) (row : Row) (a b : Answered) → IsRef s.nodes under → IsLaid s.nodes a
    → ((i : ℕ) → i < length a.rows → row_at a.rows i ≢ row) → b.refs ≡ a.refs ++ under ∷ [] → b.rows ≡ a.rows ++ row ∷ []
    → IsPut s.nodes s.nodes (value_of s.nodes under) (λ v. row) a b
put_new s under row a b found laid fresh refs_are rows_are =
    let many : length b.rows ≡ length a.rows + 1 = ap (λ (l : List Row). length l) rows_are ∙ length_push a.rows row in
    let long : length b.refs ≡ length a.refs + 1 = ap (λ (l : List ℕ). length l) refs_are ∙ length_push a.refs under in
    let old_row : (i : ℕ) → i < length a.rows → row_at b.rows i ≡ row_at a.rows i =
    λ i lt. ap (λ (l : List Row). row_at l i) rows_are ∙ row_before a.rows row i lt in
    let new_row : (i : ℕ) → i ≡ length a.rows → row_at b.rows i ≡ row = λ i e. ap (λ (l : List Row). row_at l i) rows_are ∙ row_last a.rows row i e in
    let old_ref : (i : ℕ) → i < length a.refs → ref_at b.refs i ≡ ref_at a.refs i =
    λ i lt. ap (λ (l : List ℕ). ref_at l i) refs_are ∙ before-at a.refs under i lt in
    let new_ref : (i : ℕ) → i ≡ length a.refs → ref_at b.refs i ≡ under = λ i e. ap (λ (l : List ℕ). ref_at l i) refs_are ∙ ref_last a.refs under i e in
    record {
      laid = record {
        size = omega (arith, many, long, laid.size);
        found = λ i lt. elim (last_or_before i (length a.refs) (omega (arith, long))) [
          | inl less ↦ subst (IsRef s.nodes) (sym (old_ref i less)) (laid.found i less)
          | inr e ↦ subst (IsRef s.nodes) (sym (new_ref i e)) found
        ];
      };
      first = old_ref 0 (omega (arith, laid.size));
      rows = λ f has free. record {
        exact = λ i lt v. elim (last_or_before i (length a.rows) (omega (arith, many))) [
          | inl less ↦ subst (λ x. (value_of s.nodes x v ≡ true) ↔ (cond (value_of s.nodes under v) (Some row) (f v) ≡ Some (row_at b.rows i)))
              (sym (old_ref (i + 1) (omega (arith, laid.size))))
              (subst (λ (r : Row). (is_in s.nodes a.refs (i + 1) v ≡ true) ↔ (cond (value_of s.nodes under v) (Some row) (f v) ≡ Some r)) (sym (old_row i less))
              (new_exact (value_of s.nodes under v) (is_in s.nodes a.refs (i + 1) v) row (row_at a.rows i) (f v) (has.exact i less v) (free v)
              (λ e. fresh i less (sym e))))
          | inr e ↦ subst (λ x. (value_of s.nodes x v ≡ true) ↔ (cond (value_of s.nodes under v) (Some row) (f v) ≡ Some (row_at b.rows i)))
              (sym (new_ref (i + 1) (omega (arith, laid.size))))
              (subst (λ (r : Row). (value_of s.nodes under v ≡ true) ↔ (cond (value_of s.nodes under v) (Some row) (f v) ≡ Some r)) (sym (new_row i e))
              (here_exact (value_of s.nodes under v) row (f v) (λ t. let c = has.covers v row t in fresh c.0 c.1 c.2)))
        ];
        covers = λ v r e. elim (put_or_old (value_of s.nodes under v) row r (f v) e) [
          | inl same ↦ (length a.rows, omega (arith, many), new_row (length a.rows) refl ∙ same)
          | inr old ↦ let c = has.covers v r old in (c.0, omega (arith, many, c.1), old_row c.0 c.1 ∙ c.2)
        ];
        different = λ i j low less e. elim (last_or_before i (length a.rows) (omega (arith, many))) [
          | inl one ↦ elim (last_or_before j (length a.rows) (omega (arith, many))) [
            | inl two ↦ has.different i j one two (sym (old_row i one) ∙ e ∙ old_row j two)
            | inr two ↦ absurd (fresh i one (sym (old_row i one) ∙ e ∙ new_row j two))
          ]
          | inr one ↦ elim (last_or_before j (length a.rows) (omega (arith, many))) [
            | inl two ↦ absurd (fresh j two (sym (old_row j two) ∙ sym e ∙ new_row i one))
            | inr two ↦ omega (arith, one, two)
          ]
        ];
      };
    }

-- a row that was there
pub put_joined : (old new : Diagrams) (under joined k : ℕ) (row : Row) (a b : Answered) → Extends old new → IsLaid old.nodes a → IsRef new.nodes joined
    → k < length a.rows → row_at a.rows k ≡ row
    → ((v : Valuation) → value_of new.nodes joined v ≡ (is_in old.nodes a.refs (k + 1) v || value_of old.nodes under v))
    → b.refs ≡ slice_set a.refs (k + 1) joined → b.rows ≡ a.rows
    → IsPut old.nodes new.nodes (value_of old.nodes under) (λ v. row) a b
put_joined old new under joined k row a b e laid found low is means refs_are rows_are =
    let long : length b.refs ≡ length a.refs = ap (λ (l : List ℕ). length l) refs_are ∙ length-set a.refs (k + 1) joined in
    let many : length b.rows ≡ length a.rows = ap (λ (l : List Row). length l) rows_are in
    let same_row : (i : ℕ) → row_at b.rows i ≡ row_at a.rows i = λ i. ap (λ (l : List Row). row_at l i) rows_are in
    let here : ref_at b.refs (k + 1) ≡ joined =
    ap (λ (l : List ℕ). ref_at l (k + 1)) refs_are ∙ get_or-set_same a.refs (k + 1) joined 0 (omega (arith, laid.size)) in
    let other : (i : ℕ) → i ≢ k + 1 → ref_at b.refs i ≡ ref_at a.refs i =
    λ i off. ap (λ (l : List ℕ). ref_at l i) refs_are ∙ get_or-set_other a.refs (k + 1) i joined 0 off in
    record {
      laid = record {
        size = long ∙ laid.size ∙ ap (λ n. n + 1) (sym many);
        found = λ i lt. elim (cases_eq i (k + 1)) [
          | inl at ↦ subst (λ n. IsRef new.nodes (ref_at b.refs n)) (sym at) (subst (IsRef new.nodes) (sym here) found)
          | inr off ↦ subst (IsRef new.nodes) (sym (other i off)) (omega (arith, laid.found i (omega (arith, long)), e.longer))
        ];
      };
      first = other 0 (omega arith);
      rows = λ f has free. record {
        exact = λ i lt v. subst (λ (r : Row). (is_in new.nodes b.refs (i + 1) v ≡ true) ↔ (cond (value_of old.nodes under v) (Some row) (f v) ≡ Some r))
            (sym (same_row i))
            (elim (cases_eq i k) [
              | inl at ↦ subst (λ n. (is_in new.nodes b.refs (n + 1) v ≡ true) ↔ (cond (value_of old.nodes under v) (Some row) (f v) ≡ Some (row_at a.rows n)))
                  (sym at)
                  (subst (λ t. (t ≡ true) ↔ (cond (value_of old.nodes under v) (Some row) (f v) ≡ Some (row_at a.rows k)))
                  (sym (ap (λ x. value_of new.nodes x v) here ∙ means v))
                  (joined_exact (value_of old.nodes under v) (is_in old.nodes a.refs (k + 1) v) row (row_at a.rows k) (f v) (has.exact k low v) (sym is)))
              | inr off ↦ subst (λ t. (t ≡ true) ↔ (cond (value_of old.nodes under v) (Some row) (f v) ≡ Some (row_at a.rows i)))
                  (sym (ap (λ x. value_of new.nodes x v) (other (i + 1) (λ q. off (omega (arith, q))))
                  ∙ in_later old new a (i + 1) v e laid (omega (arith, lt, many))))
                  (new_exact (value_of old.nodes under v) (is_in old.nodes a.refs (i + 1) v) row (row_at a.rows i) (f v)
                  (has.exact i (omega (arith, lt, many)) v) (free v)
                  (λ q. off (has.different i k (omega (arith, lt, many)) low (sym q ∙ sym is))))
            ]);
        covers = λ v r t. elim (put_or_old (value_of old.nodes under v) row r (f v) t) [
          | inl same ↦ (k, omega (arith, many), same_row k ∙ is ∙ same)
          | inr before ↦ let c = has.covers v r before in (c.0, omega (arith, many, c.1), same_row c.0 ∙ c.2)
        ];
        different = λ i j one two q. has.different i j (omega (arith, many)) (omega (arith, many)) (sym (same_row i) ∙ q ∙ same_row j);
      };
    }

pub answered_later : (old new : Diagrams) (f : Valuation → Option Row) (a : Answered) → Extends old new → IsAnswered old.nodes f a
    → IsAnswered new.nodes f a
answered_later old new f a e is = record {
  laid = laid_later old new a e is.laid;
  absent = λ v. in_later old new a 0 v e is.laid (omega arith) ∙ is.absent v;
  rows = rows_later old new f a e is.laid is.rows;
}
