-- The rows of a comparison are put to the answers of a test.
use Rattle.std.proofs.Common.{◌≡◌, ◌↔◌, inl, inr, ℕ, ◌+◌, ◌<◌, ◌≤◌, Bool, true, false, cond, ◌||◌, ◌&&◌, List, length, refl, sym, ◌∙◌, ap, subst, arith, Option}
use Rattle.std.proofs.Common.{Some, None as Nothing}
use Rattle.std.proofs.lemmas.Bool.{false≢true, and_parts, cases_eq}
use Rattle.std.proofs.lemmas.List.{length-set, get_or-set_same, get_or-set_other}
use Rattle.std.specs.Prelude.{slice_set, is_none}
use Rattle.rv_rows.specs.{declared.linear.Row.Row, declared.linear.Form.Form, Rows.row_at, Arithmetic.test_row}
use Rattle.rv_diagram.specs.{declared.Triple.Triple, Nodes.Valuation, Nodes.Diagrams, Nodes.IsRef, Nodes.value_of, Several.ref_at}
use Rattle.rv_diagram.specs.Growing.{Extends}
use Rattle.rv_control.specs.Tightening.{tightened}
use Rattle.rv_cases.specs.Conditions.{is_in}
use Rattle.rv_terms.specs.{declared.parted.Part.Part, Parts.part_at, Parts.holds, Parts.form_at, Parts.among, Parts.AreRefs, Parts.AreDisjoint, Parts.Covers}
use Rattle.rv_terms.proofs.{Combining.among-more, Combining.among_some, Combining.among_has, Combining.form_is, Summing.and-or}
use Rattle.rv_tested.specs.{declared.rows.Answered.Answered, Rows.IsLaid, Rows.HasRows, Rows.IsPut, Rows.IsAnswered, Rows.first_of}
use Rattle.rv_tested.proofs.Putting.{rows_as, rows_later, put_none, put_both, put_as, put_after}
use Rattle.rv_base.proofs.Truths.{and_false}

-- TWO SIDES

side_whole : (p x : Bool) → p ≡ ((p && x) || cond x false p)
side_whole true true = refl
side_whole true false = refl
side_whole false true = refl
side_whole false false = refl

side_apart : (p x : Bool) → (p && x) ≡ true → cond x false p ≡ true → ⊥
side_apart true true e h = false≢true h
side_apart true false e h = false≢true e
side_apart false x e h = false≢true e

side_on : (p x : Bool) → (p && x) ≡ true → true ≡ x
side_on true x e = sym e
side_on false x e = absurd (false≢true e)

side_off : (p x : Bool) → cond x false p ≡ true → false ≡ x
side_off p true e = absurd (false≢true e)
side_off p false e = refl

pub sides_put : (s t u w : Diagrams) (form : Form) (p x : Valuation → Bool) (on off : ℕ) (a b c : Answered) → Extends s t → IsLaid s.nodes a
    → ((v : Valuation) → value_of t.nodes on v ≡ (p v && x v)) → ((v : Valuation) → value_of u.nodes off v ≡ cond (x v) false (p v))
    → IsPut t.nodes u.nodes (value_of t.nodes on) (λ v. tightened (test_row true form)) a b
    → IsPut u.nodes w.nodes (value_of u.nodes off) (λ v. tightened (test_row false form)) b c
    → IsPut s.nodes w.nodes p (λ v. tightened (test_row (x v) form)) a c
sides_put s t u w form p x on off a b c e laid one two first second =
    put_after s t w.nodes p (λ v. tightened (test_row (x v) form)) a c e laid
    (put_both t.nodes u.nodes w.nodes p (value_of t.nodes on) (value_of u.nodes off) (λ v. tightened (test_row true form))
    (λ v. tightened (test_row false form)) (λ v. tightened (test_row (x v) form)) a b c first second
    (λ v h k. side_apart (p v) (x v) (sym (one v) ∙ h) (sym (two v) ∙ k))
    (λ v. side_whole (p v) (x v) ∙ (λ i. sym (one v) i || sym (two v) i))
    (λ v h. ap (λ b. tightened (test_row b form)) (side_on (p v) (x v) (sym (one v) ∙ h)))
    (λ v h. ap (λ b. tightened (test_row b form)) (side_off (p v) (x v) (sym (two v) ∙ h))))

-- THE PARTS OF A TERM

pub rows_first : (s : Diagrams) (here truth : ℕ) (parts : List Part) (a : Answered) → Extends s s → IsLaid s.nodes a
    → IsPut s.nodes s.nodes (λ v. value_of s.nodes here v && among s.nodes parts 0 v)
    (λ v. tightened (test_row (value_of s.nodes truth v) (form_at s.nodes parts v))) a a
rows_first s here truth parts a e laid = put_none s s (λ v. value_of s.nodes here v && among s.nodes parts 0 v)
    (λ v. tightened (test_row (value_of s.nodes truth v) (form_at s.nodes parts v))) a e laid (λ v. and_false (value_of s.nodes here v))

-- one part more
pub rows_more : (s t u : Diagrams) (here truth i : ℕ) (parts : List Part) (part : Part) (a b c : Answered) → Extends s t
    → IsRef s.nodes here → IsRef s.nodes truth → AreRefs s.nodes parts → AreDisjoint s.nodes parts → i < length parts → part ≡ part_at parts i
    → IsPut s.nodes t.nodes (λ v. value_of s.nodes here v && among s.nodes parts i v)
    (λ v. tightened (test_row (value_of s.nodes truth v) (form_at s.nodes parts v))) a b
    → IsPut t.nodes u.nodes (λ v. value_of t.nodes here v && value_of t.nodes part.under v)
    (λ v. tightened (test_row (value_of t.nodes truth v) part.form)) b c
    → IsPut s.nodes u.nodes (λ v. value_of s.nodes here v && among s.nodes parts (i + 1) v)
    (λ v. tightened (test_row (value_of s.nodes truth v) (form_at s.nodes parts v))) a c
rows_more s t u here truth i parts part a b c e here_ref truth_ref refs disjoint low is before one =
    let under : (v : Valuation) → value_of t.nodes part.under v ≡ holds s.nodes parts i v =
    λ v. ap (λ (x : Part). value_of t.nodes x.under v) is ∙ e.kept (part_at parts i).under (refs i low) v in
    let there : (v : Valuation) → (value_of t.nodes here v && value_of t.nodes part.under v) ≡ (value_of s.nodes here v && holds s.nodes parts i v) =
    λ v i. e.kept here here_ref v i && under v i in
    let form : (v : Valuation) → holds s.nodes parts i v ≡ true → part.form ≡ form_at s.nodes parts v =
    λ v h. ap (λ (x : Part). x.form) is ∙ sym (form_is s.nodes parts i v disjoint low h) in
    put_both s.nodes t.nodes u.nodes (λ v. value_of s.nodes here v && among s.nodes parts (i + 1) v)
    (λ v. value_of s.nodes here v && among s.nodes parts i v) (λ v. value_of t.nodes here v && value_of t.nodes part.under v)
    (λ v. tightened (test_row (value_of s.nodes truth v) (form_at s.nodes parts v)))
    (λ v. tightened (test_row (value_of t.nodes truth v) part.form))
    (λ v. tightened (test_row (value_of s.nodes truth v) (form_at s.nodes parts v))) a b c before one
    (λ v h k.
    let old = among_some s.nodes parts i v (and_parts (value_of s.nodes here v) (among s.nodes parts i v) h).1 in
    let new = and_parts (value_of s.nodes here v) (holds s.nodes parts i v) (sym (there v) ∙ k) in
    disjoint old.0 i old.1 low v old.2 new.1)
    (λ v. ap (λ b. value_of s.nodes here v && b) (among-more s.nodes parts i v)
    ∙ and-or (value_of s.nodes here v) (among s.nodes parts i v) (holds s.nodes parts i v)
    ∙ ap (λ b. (value_of s.nodes here v && among s.nodes parts i v) || b) (sym (there v)))
    (λ v h. refl)
    (λ v h. let new = and_parts (value_of s.nodes here v) (holds s.nodes parts i v) (sym (there v) ∙ h) in
    λ j. tightened (test_row (e.kept truth truth_ref v j) (form v new.1 j)))

and_all : (h b : Bool) → b ≡ true → h ≡ (h && b)
and_all true b e = sym e
and_all false b e = refl

-- all parts
pub rows_all : (s u : Diagrams) (here truth n : ℕ) (parts : List Part) (a c : Answered) → Covers s.nodes parts → length parts ≤ n
    → IsPut s.nodes u.nodes (λ v. value_of s.nodes here v && among s.nodes parts n v)
    (λ v. tightened (test_row (value_of s.nodes truth v) (form_at s.nodes parts v))) a c
    → IsPut s.nodes u.nodes (value_of s.nodes here) (λ v. tightened (test_row (value_of s.nodes truth v) (form_at s.nodes parts v))) a c
rows_all s u here truth n parts a c covers le put =
    put_as s.nodes u.nodes (value_of s.nodes here) (λ v. value_of s.nodes here v && among s.nodes parts n v)
    (λ v. tightened (test_row (value_of s.nodes truth v) (form_at s.nodes parts v)))
    (λ v. tightened (test_row (value_of s.nodes truth v) (form_at s.nodes parts v))) a c put
    (λ v. let k = covers v in and_all (value_of s.nodes here v) (among s.nodes parts n v) (among_has s.nodes parts n k.0 v (omega (arith, k.1, le)) k.2))
    (λ v h. refl)

-- A COMPARISON

none_is : (o : Option Row) → is_none o ≡ true → o ≡ Nothing
none_is Nothing e = refl
none_is (Some r) e = absurd (false≢true e)

left_none : (o : Option Row) (t : Bool) (r : Row) → cond t false (is_none o) ≡ is_none (first_of o (cond t (Some r) Nothing))
left_none Nothing true r = refl
left_none Nothing false r = refl
left_none (Some x) true r = refl
left_none (Some x) false r = refl

here_first : (o : Option Row) (t : Bool) (r : Row) → cond (is_none o && t) (Some r) o ≡ first_of o (cond t (Some r) Nothing)
here_first Nothing true r = refl
here_first Nothing false r = refl
here_first (Some x) t r = refl

-- the first reference is another one
first_set : (nodes : List Triple) (f : Valuation → Option Row) (left : ℕ) (a b : Answered) → HasRows nodes f a → b.refs ≡ slice_set a.refs 0 left
    → b.rows ≡ a.rows → HasRows nodes f b
first_set nodes f left a b has refs_are rows_are =
    let many : length b.rows ≡ length a.rows = ap (λ (l : List Row). length l) rows_are in
    let same_row : (i : ℕ) → row_at b.rows i ≡ row_at a.rows i = λ i. ap (λ (l : List Row). row_at l i) rows_are in
    let same_ref : (i : ℕ) → ref_at b.refs (i + 1) ≡ ref_at a.refs (i + 1) =
    λ i. ap (λ (l : List ℕ). ref_at l (i + 1)) refs_are ∙ get_or-set_other a.refs 0 (i + 1) left 0 (λ e. absurd (omega (arith, e))) in
    record {
      exact = λ i lt v. subst (λ x. (value_of nodes x v ≡ true) ↔ (f v ≡ Some (row_at b.rows i))) (sym (same_ref i))
          (subst (λ (r : Row). (is_in nodes a.refs (i + 1) v ≡ true) ↔ (f v ≡ Some r)) (sym (same_row i)) (has.exact i (omega (arith, many)) v));
      covers = λ v r e. let c = has.covers v r e in (c.0, omega (arith, many, c.1), same_row c.0 ∙ c.2);
      different = λ i j one two e. has.different i j (omega (arith, many)) (omega (arith, many)) (sym (same_row i) ∙ e ∙ same_row j);
    }

pub compared_put : (s t u w : Diagrams) (absent there here left : ℕ) (g : Valuation → Row) (a b c : Answered)
    → Extends s t → Extends t u → Extends u w → IsLaid s.nodes a → absent ≡ ref_at a.refs 0
    → ((v : Valuation) → value_of t.nodes here v ≡ (value_of s.nodes absent v && value_of s.nodes there v))
    → ((v : Valuation) → value_of w.nodes left v ≡ cond (value_of s.nodes there v) false (value_of s.nodes absent v)) → IsRef w.nodes left
    → IsPut t.nodes u.nodes (value_of t.nodes here) g a b → c.refs ≡ slice_set b.refs 0 left → c.rows ≡ b.rows
    → (f : Valuation → Option Row) → IsAnswered s.nodes f a
    → IsAnswered w.nodes (λ v. first_of (f v) (cond (value_of s.nodes there v) (Some (g v)) Nothing)) c
compared_put s t u w absent there here left g a b c st tu uw laid first here_is left_is left_ref put refs_are rows_are f is =
    let long : length c.refs ≡ length b.refs = ap (λ (l : List ℕ). length l) refs_are ∙ length-set b.refs 0 left in
    let many : length c.rows ≡ length b.rows = ap (λ (l : List Row). length l) rows_are in
    let some : 0 < length b.refs = omega (arith, put.laid.size) in
    let at : ref_at c.refs 0 ≡ left = ap (λ (l : List ℕ). ref_at l 0) refs_are ∙ get_or-set_same b.refs 0 left 0 some in
    let none : (v : Valuation) → value_of s.nodes absent v ≡ is_none (f v) = λ v. ap (λ x. value_of s.nodes x v) first ∙ is.absent v in
    let now : (v : Valuation) → value_of t.nodes here v ≡ (is_none (f v) && value_of s.nodes there v) =
    λ v. here_is v ∙ ap (λ x. x && value_of s.nodes there v) (none v) in
    record {
      laid = record {
        size = long ∙ put.laid.size ∙ ap (λ n. n + 1) (sym many);
        found = λ i lt. elim (cases_eq i 0) [
          | inl zeroth ↦ subst (λ n. IsRef w.nodes (ref_at c.refs n)) (sym zeroth) (subst (IsRef w.nodes) (sym at) left_ref)
          | inr off ↦ subst (IsRef w.nodes) (sym (ap (λ (l : List ℕ). ref_at l i) refs_are ∙ get_or-set_other b.refs 0 i left 0 off))
              (omega (arith, put.laid.found i (omega (arith, long)), uw.longer))
        ];
      };
      absent = λ v. ap (λ x. value_of w.nodes x v) at ∙ left_is v ∙ ap (λ x. cond (value_of s.nodes there v) false x) (none v)
          ∙ left_none (f v) (value_of s.nodes there v) (g v);
      rows = first_set w.nodes (λ v. first_of (f v) (cond (value_of s.nodes there v) (Some (g v)) Nothing)) left b c
          (rows_as w.nodes (λ v. cond (value_of t.nodes here v) (Some (g v)) (f v))
          (λ v. first_of (f v) (cond (value_of s.nodes there v) (Some (g v)) Nothing)) b
          (λ v. ap (λ x. cond x (Some (g v)) (f v)) (now v) ∙ here_first (f v) (value_of s.nodes there v) (g v))
          (rows_later u w (λ v. cond (value_of t.nodes here v) (Some (g v)) (f v)) b uw put.laid
          (put.rows f (rows_later s t f a st laid is.rows)
          (λ v h. none_is (f v) (and_parts (is_none (f v)) (value_of s.nodes there v) (sym (now v) ∙ h)).0))))
          refs_are rows_are;
    }
