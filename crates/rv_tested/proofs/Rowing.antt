-- The row of a test among comparisons, one after another.
use Rattle.std.proofs.Common.{◌≡◌, ◌⊎◌, inl, inr, ◌↔◌, ℕ, zero, suc, ◌+◌, ◌<◌, Bool, true, false, ◌&&◌, cond, List, [], ◌∷◌, ◌++◌, length, refl, sym, ◌∙◌, ap}
use Rattle.std.proofs.Common.{subst, arith, Option, Some, None as Nothing}
use Rattle.std.proofs.lemmas.Bool.{cases_Bool, false≢true, and_left, and_right}
use Rattle.std.proofs.{lemmas.Option.get_or_from_slice_get, lemmas.Option.slice_get_within, lemmas.List.map_more}
use Rattle.std.specs.Prelude.{slice_get, is_none}
use Rattle.rv_tree.specs.{declared.tree.Op.Op, Places.Sites}
use Rattle.rv_tree.specs.declared.tree.Op.TheVariants as op
use Rattle.rv_types.specs.Lists.{Side, Test, sides_of}
use Rattle.rv_rows.specs.{declared.linear.Row.Row, declared.linear.Form.Form, Rows.row_at, Arithmetic.test_row}
use Rattle.rv_diagram.specs.{declared.Triple.Triple, Nodes.Valuation as Numbered, Nodes.Diagrams, Nodes.IsRef, Nodes.value_of, Several.ref_at}
use Rattle.rv_diagram.proofs.Calls.{value_of-true}
use Rattle.rv_diagram.specs.Growing.{Extends}
use Rattle.rv_agreement.specs.Valuations.{Valuation, Reading, Linear, Comparison, Tested, is_of_integers, reads_at, read, side_form, tested, tested_form, width}
use Rattle.rv_agreement.specs.{Agreement.IsWell, Trees.System, Evaluation.is_there, Checks.same_sites}
use Rattle.rv_agreement.proofs.Chosen.{sites_itself, sites_told}
use Rattle.rv_flat.specs.{declared.flat.Flat.Flat, FlatInstants.system_of}
use Rattle.rv_control.specs.{Control.has_side, Control.is_present, Control.row_among, Named.named, Named.truth_at, Named.variables_of, Symbolic.symbolic}
use Rattle.rv_control.specs.{Tightening.tightened}
use Rattle.rv_control.proofs.Readings.{is_symbolic}
use Rattle.rv_terms.specs.{declared.parted.Part.Part, Parts.form_at}
use Rattle.rv_cases.specs.Conditions.{is_in}
use Rattle.rv_tested.specs.Testing.{AreSidesRead, IsTestTerm, row_in, first_comparisons}
use Rattle.rv_tested.specs.{declared.compared.Compared.Compared, declared.rows.Answered.Answered, declared.testing.Sides.Sides, Compared.comparison_in}
use Rattle.rv_tested.specs.{Rows.IsAnswered, Rows.first_of, Exact.AreExact, Exact.row_answer}

first_nothing : (a : Option Row) → a ≡ first_of a Nothing
first_nothing Nothing = refl
first_nothing (Some r) = refl

chosen_first : (b : Bool) (r : Row) (x y : Option Row) → cond b (Some r) (first_of x y) ≡ first_of (cond b (Some r) x) y
chosen_first true r x y = refl
chosen_first false r x y = refl

module _ (s : System) (w : Valuation) (row : List (Option Reading)) (at : Sites) (side : Side) where
  -- the first of two lists of comparisons has the row, or the second where that has none
  pub among-append : (xs ys : List Comparison) → row_among s w row (xs ++ ys) at side ≡ first_of (row_among s w row xs at side) (row_among s w row ys at side)
  unfolding row_among
  among-append [] ys = refl
  among-append (c ∷ cs) ys =
      let own : Row = tightened (test_row (w.test c.at side) (tested_form (width s) w.test (tested s w row c) side)) in
      let here : Bool = same_sites c.at at && is_present (tested s w row c) side in
      ap (λ (o : Option Row). cond here (Some own) o) (among-append cs ys)
      ∙ chosen_first here own (row_among s w row cs at side) (row_among s w row ys at side)

  -- a comparison alone
  pub among-one : (c : Comparison) → row_among s w row (c ∷ []) at side ≡ cond (same_sites c.at at && is_present (tested s w row c) side)
      (Some (tightened (test_row (w.test c.at side) (tested_form (width s) w.test (tested s w row c) side)))) Nothing
  unfolding row_among
  among-one c = refl

  pub among-none : row_among s w row [] at side ≡ Nothing
  unfolding row_among
  among-none = refl

pub other_place : (s : System) (w : Valuation) (row : List (Option Reading)) (at : Sites) (side : Side) (cs : List Comparison) (c : Comparison)
    → same_sites c.at at ≡ false → row_among s w row cs at side ≡ row_among s w row (cs ++ c ∷ []) at side
other_place s w row at side cs c off =
    let none : row_among s w row (c ∷ []) at side ≡ Nothing = among-one s w row at side c
    ∙ ap (λ b. cond b (Some (tightened (test_row (w.test c.at side) (tested_form (width s) w.test (tested s w row c) side)))) Nothing)
    (and_left (same_sites c.at at) (is_present (tested s w row c) side) off) in
    first_nothing (row_among s w row cs at side) ∙ ap (λ (o : Option Row). first_of (row_among s w row cs at side) o) (sym none)
    ∙ sym (among-append s w row at side cs (c ∷ []))

pub other_side : (s : System) (w : Valuation) (row : List (Option Reading)) (at : Sites) (side : Side) (cs : List Comparison) (c : Comparison)
    → has_side (sides_of c.operator) side ≡ false → row_among s w row cs at side ≡ row_among s w row (cs ++ c ∷ []) at side
other_side s w row at side cs c off =
    let t : Tested = tested s w row c in
    let absent : is_present t side ≡ false = and_right t.there (is_of_integers t.operator t.left t.right && has_side (sides_of t.operator) side)
    (and_right (is_of_integers t.operator t.left t.right) (has_side (sides_of t.operator) side) off) in
    let none : row_among s w row (c ∷ []) at side ≡ Nothing = among-one s w row at side c
    ∙ ap (λ b. cond b (Some (tightened (test_row (w.test c.at side) (tested_form (width s) w.test (tested s w row c) side)))) Nothing)
    (and_right (same_sites c.at at) (is_present t side) absent) in
    first_nothing (row_among s w row cs at side) ∙ ap (λ (o : Option Row). first_of (row_among s w row cs at side) o) (sym none)
    ∙ sym (among-append s w row at side cs (c ∷ []))

-- two forms are integers
of_integers : (o : Op) (f g : Form) → is_of_integers o (Linear f) (Linear g) ≡ true
of_integers op.Arrow f g = refl
of_integers op.Implies f g = refl
of_integers op.Or f g = refl
of_integers op.Xor f g = refl
of_integers op.And f g = refl
of_integers op.Equal f g = refl
of_integers op.Differs f g = refl
of_integers op.Less f g = refl
of_integers op.AtMost f g = refl
of_integers op.Greater f g = refl
of_integers op.AtLeast f g = refl
of_integers op.Plus f g = refl
of_integers op.Minus f g = refl
of_integers op.Times f g = refl
of_integers op.Slash f g = refl
of_integers op.Div f g = refl
of_integers op.Mod f g = refl

-- The row of a comparison of the test, by what is read of it.
pub own_row : (s : System) (w : Valuation) (row : List (Option Reading)) (at : Sites) (side : Side) (c : Comparison) (there truth : Bool) (f g form : Form)
    → c.at ≡ at → has_side (sides_of c.operator) side ≡ true → there ≡ is_there Reading (reads_at s w) row c.clock
    → (there ≡ true → read s w row c.left ≡ Linear f) → (there ≡ true → read s w row c.right ≡ Linear g) → truth ≡ w.test at side
    → form ≡ side_form side f g
    → row_among s w row (c ∷ []) at side ≡ cond there (Some (tightened (test_row truth form))) Nothing
own_row s w row at side c there truth f g form place has is left right truth_is form_is =
    among-one s w row at side c ∙ by there is left right
  where
    t : Tested
    t = tested s w row c

    here : same_sites c.at at ≡ true
    here = ap (λ p. same_sites p at) place ∙ sites_itself at

    by : (b : Bool) → b ≡ is_there Reading (reads_at s w) row c.clock → (b ≡ true → read s w row c.left ≡ Linear f)
        → (b ≡ true → read s w row c.right ≡ Linear g)
        → cond (same_sites c.at at && is_present t side) (Some (tightened (test_row (w.test c.at side) (tested_form (width s) w.test t side)))) Nothing
        ≡ cond b (Some (tightened (test_row truth form))) Nothing
    by true e one two =
        let whole : is_of_integers c.operator (read s w row c.left) (read s w row c.right) ≡ true =
        (λ i. is_of_integers c.operator (one refl i) (two refl i)) ∙ of_integers c.operator f g in
        let present : (same_sites c.at at && is_present t side) ≡ true = λ i. here i && (sym e i && (whole i && has i)) in
        let same_truth : w.test c.at side ≡ truth = ap (λ p. w.test p side) place ∙ sym truth_is in
        let same_form : tested_form (width s) w.test t side ≡ form = (λ i. tested_form (width s) w.test
        (record { at = c.at; operator = c.operator; there = t.there; left = one refl i; right = two refl i }) side) ∙ sym form_is in
        λ i. cond (present i) (Some (tightened (test_row (same_truth i) (same_form i)))) Nothing
    by false e one two =
        ap (λ b. cond b (Some (tightened (test_row (w.test c.at side) (tested_form (width s) w.test t side)))) Nothing)
        (and_right (same_sites c.at at) (is_present t side)
        (and_left t.there (is_of_integers t.operator t.left t.right && has_side (sides_of t.operator) side) (sym e)))

-- places
pub sites_apart : (p q : Sites) → (p ≡ q → ⊥) → same_sites p q ≡ false
sites_apart p q off = elim (cases_Bool (same_sites p q)) [ inl t ↦ absurd (off (sites_told p q t)) | inr e ↦ e ]

-- answers of an equal function
pub answered_as : (nodes : List Triple) (f g : Numbered → Option Row) (a : Answered) → ((v : Numbered) → f v ≡ g v) → IsAnswered nodes f a
    → IsAnswered nodes g a
answered_as nodes f g a same is = record {
  laid = is.laid;
  absent = λ v. is.absent v ∙ ap (λ (o : Option Row). is_none o) (same v);
  rows = record {
    exact = λ i lt v. subst (λ (o : Option Row). (is_in nodes a.refs (i + 1) v ≡ true) ↔ (o ≡ Some (row_at a.rows i))) (same v) (is.rows.exact i lt v);
    covers = λ v r e. is.rows.covers v r (same v ∙ e);
    different = is.rows.different;
  };
}

-- a comparison more
pub comparisons_more : (f : Flat) (cs : List Compared) (i : ℕ) (c : Compared) → slice_get cs i ≡ Some c
    → first_comparisons f cs (i + 1) ≡ first_comparisons f cs i ++ comparison_in f.memories c ∷ []
comparisons_more f cs i c got =
    map_more (comparison_in f.memories) cs i c (slice_get_within cs i c got)
    ∙ ap (λ (x : Compared). first_comparisons f cs i ++ comparison_in f.memories x ∷ []) (get_or_from_slice_get cs i c c got)

-- THE ANSWERS OF A TEST

some_or_none : (o : Option Row) → (o ≡ Nothing) ⊎ ((r : Row) × (o ≡ Some r))
some_or_none Nothing = inl refl
some_or_none (Some r) = inr (r, refl)

none_iff : (b : Bool) (o : Option Row) → b ≡ is_none o → (b ≡ true) ↔ (o ≡ Nothing)
none_iff b Nothing e = (λ t. refl, λ n. e)
none_iff b (Some r) e = (λ t. absurd (false≢true (sym e ∙ t)), λ n. absurd (no_some r n))
  where
    no_some : (r : Row) → Some r ≡ Nothing → ⊥
    no_some r n = cc

pub answered_exact : (nodes : List Triple) (f : Numbered → Option Row) (a : Answered) → IsAnswered nodes f a
    → AreExact (Option Row) nodes f (length a.rows + 1) (row_answer a.rows) a.refs
answered_exact nodes f a is = record {
  size = is.laid.size;
  found = is.laid.found;
  exact = exact;
  covers = λ v. elim (some_or_none (f v)) [
    | inl none ↦ (0, omega arith, none)
    | inr some ↦ let c = is.rows.covers v some.0 some.1 in (suc c.0, omega (arith, c.1), some.1 ∙ ap Some (sym c.2))
  ];
  different = different;
}
  where
    exact : (i : ℕ) → i < length a.rows + 1 → (v : Numbered) → (is_in nodes a.refs i v ≡ true) ↔ (f v ≡ row_answer a.rows i)
    exact zero lt v = none_iff (is_in nodes a.refs 0 v) (f v) (is.absent v)
    exact (suc i) lt v = subst (λ n. (is_in nodes a.refs n v ≡ true) ↔ (f v ≡ Some (row_at a.rows i))) (let e : i + 1 ≡ suc i = omega arith in e)
        (is.rows.exact i (omega arith) v)

    some_is : (x y : Row) → Some x ≡ Some y → x ≡ y
    some_is x y e = cc

    different : (i j : ℕ) → i < length a.rows + 1 → j < length a.rows + 1 → row_answer a.rows i ≡ row_answer a.rows j → i ≡ j
    different zero zero lt less e = refl
    different zero (suc j) lt less e = absurd (cc)
    different (suc i) zero lt less e = absurd (cc)
    different (suc i) (suc j) lt less e = ap suc (is.rows.different i j (omega arith) (omega arith) (some_is (row_at a.rows i) (row_at a.rows j) e))

-- WHAT A COMPARISON GIVES A TEST

-- the row in some comparisons and one more that is at another place, or has no such test
pub skip_place : (f : Flat) (cs : List Comparison) (c : Comparison) (at : Sites) (side : Side) (v : Numbered) → (c.at ≡ at → ⊥)
    → row_in f cs at side v ≡ row_in f (cs ++ c ∷ []) at side v
skip_place f cs c at side v off = other_place (system_of f) (named f v) (symbolic (system_of f) (named f v)) at side cs c (sites_apart c.at at off)

pub skip_side : (f : Flat) (cs : List Comparison) (c : Comparison) (at : Sites) (side : Side) (v : Numbered) → has_side (sides_of c.operator) side ≡ false
    → row_in f cs at side v ≡ row_in f (cs ++ c ∷ []) at side v
skip_side f cs c at side v off = other_side (system_of f) (named f v) (symbolic (system_of f) (named f v)) at side cs c off

-- and one more that is of the test
pub row_more : (f : Flat) (well : IsWell (system_of f)) (a b : Diagrams) (cs : List Comparison) (c : Comparison) (x : Sides) (at : Sites) (side : Side)
    (truth : ℕ) (parts : List Part) → Extends a b → AreSidesRead f a.nodes c x → IsRef a.nodes truth
    → ((v : Numbered) → value_of a.nodes truth v ≡ truth_at (variables_of f) v (Test at side)) → c.at ≡ at → has_side (sides_of c.operator) side ≡ true
    → IsTestTerm a.nodes b.nodes side x.left.parts x.right.parts parts
    → (v : Numbered)
    → first_of (row_in f cs at side v) (cond (value_of b.nodes x.there v)
    (Some (tightened (test_row (value_of b.nodes truth v) (form_at b.nodes parts v)))) Nothing)
    ≡ row_in f (cs ++ c ∷ []) at side v
row_more f well a b cs c x at side truth parts e sides found truth_is place has formed v =
    let s : System = system_of f in
    let w : Valuation = named f v in
    let row : List (Option Reading) = symbolic s w in
    let instant = is_symbolic s w well in
    let own : row_among s w row (c ∷ []) at side ≡ cond (value_of b.nodes x.there v)
    (Some (tightened (test_row (value_of b.nodes truth v) (form_at b.nodes parts v)))) Nothing =
    own_row s w row at side c (value_of b.nodes x.there v) (value_of b.nodes truth v) (form_at a.nodes x.left.parts v) (form_at a.nodes x.right.parts v)
    (form_at b.nodes parts v) place has
    (e.kept x.there sides.there_ref v ∙ sides.there v row instant)
    (λ t. sides.left.shows v row instant (sym (sides.there v row instant) ∙ sym (e.kept x.there sides.there_ref v) ∙ t))
    (λ t. sides.right.shows v row instant (sym (sides.there v row instant) ∙ sym (e.kept x.there sides.there_ref v) ∙ t))
    (e.kept truth found v ∙ truth_is v) (formed.exact v) in
    ap (λ (o : Option Row). first_of (row_in f cs at side v) o) (sym own) ∙ sym (among-append s w row at side cs (c ∷ []))

-- no row anywhere
pub none_answered : (nodes : List Triple) (refs : List ℕ) (rows : List Row) → refs ≡ 1 ∷ [] → rows ≡ []
    → IsAnswered nodes (λ v. Nothing) (record { refs = refs; rows = rows })
none_answered nodes refs rows one none =
    let many : length rows ≡ 0 = ap (λ (l : List Row). length l) none in
    let long : length refs ≡ 1 = ap (λ (l : List ℕ). length l) one in
    let first : ref_at refs 0 ≡ 1 = ap (λ (l : List ℕ). ref_at l 0) one in
    record {
      laid = record {
        size = omega (arith, many, long);
        found = λ i lt. let zeroth : 0 ≡ i = omega (arith, lt, long) in
            subst (λ n. IsRef nodes (ref_at refs n)) zeroth (subst (IsRef nodes) (sym first) (omega arith));
      };
      absent = λ v. ap (λ r. value_of nodes r v) first ∙ value_of-true nodes v;
      rows = record {
        exact = λ i lt v. absurd (omega (arith, lt, many));
        covers = λ v r e. absurd (cc);
        different = λ i j lt less e. absurd (omega (arith, lt, many));
      };
    }
