-- Cases that are alike are one, where no question has one row or form in two answers.
use Rattle.std.proofs.Common.{ℕ, zero, suc, ◌+◌, ◌-◌, ◌<◌, ◌≡◌, ◌⊎◌, Bool, true, false, List, [], ◌∷◌, ◌++◌, length, sym, ap, ◌∙◌, subst, ⊎_elim, inl, inr}
use Rattle.std.proofs.Common.{arith, slice_get, Some, get_or, Option, pos, None as Nothing}
use Rattle.std.proofs.lemmas.Option.{slice_get_within, slice_get-get_or, same_Some}
use Rattle.std.proofs.{lemmas.Bool.cases_lt, lemmas.Bool.cases_eq, lemmas.List.get_or_append_left, Math.Seq.get_or-append_seam}
use Rattle.std.specs.List.{Contains}
use Rattle.rv_rows.specs.{declared.linear.Row.Row, declared.linear.Form.Form}
use Rattle.rv_diagram.specs.{declared.Triple.Triple, Nodes.Valuation, Nodes.Diagrams, Nodes.value_of, Several.ref_at}
use Rattle.rv_proofs.specs.{Systems.System, Systems.updates_among, declared.report.Case.Case}
use Rattle.rv_cases.specs.Questions.{AreTestAnswers, AreUpdateAnswers, AreSides, AreQuestions, AreDistinct, rows_at, forms_at, memory_answers, observer_answers}
use Rattle.rv_cases.specs.{declared.asking.Questions.Questions, Conditions.is_in, Conditions.list_at, Conditions.AreAnswers, Telling.AreTold, Made.IsMadeFor}
use Rattle.rv_cases.specs.{Made.AreMadeOf, Made.AreDifferent}
use Rattle.rv_cases.proofs.Keeping.{questions_later}
use Rattle.rv_proofs.proofs.{CaseRows.nothing, Claims.updates_long}
use Rattle.rv_diagram.proofs.Several.{same_truth}

pub no_form : Form
no_form = record { coefficients = []; constant = pos 0 }

-- WHAT IS ONE AT BOTH VALUATIONS

row_there : (s : System) (p : Valuation → Bool) (n : ℕ) (tests : List ℕ) (rows : List Row) (t : ℕ) → AreTold s p n tests rows → Contains tests t
    → (r : Row) × (i : ℕ) × (slice_get tests i ≡ Some t) × (slice_get rows i ≡ Some r)
row_there s p n tests rows t h (i, low, is) = (
  get_or rows i nothing,
  i,
  slice_get-get_or tests i t low ∙ ap (λ (x : ℕ). Some x) is,
  slice_get-get_or rows i nothing (omega (arith, h.counts)),
)

same_row : (s : System) (p q : Valuation → Bool) (n : ℕ) (tests : List ℕ) (rows : List Row) (v w : Valuation) → AreTold s p n tests rows
    → AreTold s q n tests rows
    → p v ≡ true → q w ≡ true → (t : ℕ) → t < n → s.row v t ≡ s.row w t
same_row s p q n tests rows v w h g pv qw t low =
    let both : Contains tests t → s.row v t ≡ s.row w t = λ has.
    let there : (r : Row) × (i : ℕ) × (slice_get tests i ≡ Some t) × (slice_get rows i ≡ Some r) = row_there s p n tests rows t h has in
    h.present there.1 t there.0 v there.2 there.3 pv ∙ sym (g.present there.1 t there.0 w there.2 there.3 qw) in
    ⊎_elim both (λ off. ⊎_elim both (λ none. off v pv ∙ sym (none w qw)) (g.absent t low)) (h.absent t low)

update_at : (s : System) (v : Valuation) (n k : ℕ) → k < n → get_or (updates_among s v n) k no_form ≡ s.update v k
update_at s v zero k low = absurd (omega arith)
update_at s v (suc n) k low =
    let size : length (updates_among s v n) ≡ n = updates_long s v n in
    ⊎_elim
    (λ lt. get_or_append_left (updates_among s v n) (s.update v n ∷ []) no_form k (omega (arith, size)) ∙ update_at s v n k lt)
    (λ ge. let e : k ≡ n = omega arith in
    ap (λ (x : ℕ). get_or (updates_among s v n ++ s.update v n ∷ []) x no_form) (e ∙ sym size) ∙ get_or-append_seam (updates_among s v n) (s.update v
    n) [] no_form
    ∙ ap (s.update v) (sym e))
    (cases_lt k n)

same_update : (s : System) (n : ℕ) (updates : List Form) (v w : Valuation) → updates_among s v n ≡ updates → updates_among s w n ≡ updates
    → (k : ℕ) → k < n → s.update v k ≡ s.update w k
same_update s n updates v w e f k low = sym (update_at s v n k low) ∙ ap (λ (l : List Form). get_or l k no_form) (e ∙ sym f) ∙ update_at s w n k low

-- SO IT IS ONE ANSWER

-- valuations have the same answers where each answer of one is that of the other
same_answers : (nodes : List Triple) (answers : List ℕ) (v w : Valuation) → AreAnswers nodes answers
    → ((b c : ℕ) → b < length answers → c < length answers → is_in nodes answers b v ≡ true → is_in nodes answers c w ≡ true → b ≡ c)
    → (b : ℕ) → b < length answers → is_in nodes answers b v ≡ is_in nodes answers b w
same_answers nodes answers v w a one b low = same_truth (is_in nodes answers b v) (is_in nodes answers b w)
    (λ on. let c : (i : ℕ) × (i < length answers) × (is_in nodes answers i w ≡ true) = a.covered w in
    ap (λ x. is_in nodes answers x w) (one b c.0 low c.1 on c.2) ∙ c.2)
    (λ on. let c : (i : ℕ) × (i < length answers) × (is_in nodes answers i v ≡ true) = a.covered v in
    ap (λ x. is_in nodes answers x v) (sym (one c.0 b c.1 low c.2 on)) ∙ c.2)

-- what the answer b to the question of a test says of a row
abbrev IsRowOf : List Row → ℕ → Option Row → Type 0
IsRowOf rows b o = ((b ≡ 0) × (o ≡ Nothing)) ⊎ ((i : ℕ) × (r : Row) × (b ≡ i + 1) × (slice_get rows i ≡ Some r) × (o ≡ Some r))

row_told : (s : System) (nodes : List Triple) (t : ℕ) (answers : List ℕ) (rows : List Row) → AreTestAnswers s nodes t answers rows
    → length answers ≡ length rows + 1 → (b : ℕ) (v : Valuation) → b < length answers → is_in nodes answers b v ≡ true → IsRowOf rows b (s.row v t)
row_told s nodes t answers rows a size b v low on = ⊎_elim
    (λ z. inl (z, a.absent v (ap (λ x. is_in nodes answers x v) (sym z) ∙ on)))
    (λ some.
    let e : b ≡ (b - 1) + 1 = omega arith in
    let got : slice_get rows (b - 1) ≡ Some (get_or rows (b - 1) nothing) = slice_get-get_or rows (b - 1) nothing (omega arith) in
    inr (
      b - 1,
      get_or rows (b - 1) nothing,
      e,
      got,
      a.present (b - 1) (get_or rows (b - 1) nothing) v got (ap (λ x. is_in nodes answers x v) (sym e) ∙ on),
    ))
    (cases_eq b 0)

one_row : (rows : List Row) (b c : ℕ) (o p : Option Row) → ((i j : ℕ) (r : Row) → slice_get rows i ≡ Some r → slice_get rows j ≡ Some r → i ≡ j)
    → o ≡ p → IsRowOf rows b o → IsRowOf rows c p → b ≡ c
one_row rows b c o p distinct same (inl (z, n)) (inl (y, m)) = z ∙ sym y
one_row rows b c o p distinct same (inl (z, n)) (inr (j, r, e, got, is)) = let clash : Nothing ≡ Some r = sym n ∙ same ∙ is in cc
one_row rows b c o p distinct same (inr (i, r, e, got, is)) (inl (y, m)) = let clash : Nothing ≡ Some r = sym m ∙ sym same ∙ is in cc
one_row rows b c o p distinct same (inr (i, r, e, got, is)) (inr (j, u, f, other, at)) =
    let equal : r ≡ u = same_Some r u (sym is ∙ same ∙ at) in
    let place : i ≡ j = distinct i j u (got ∙ ap (λ (x : Row). Some x) equal) other in
    omega arith

form_told : (s : System) (nodes : List Triple) (k : ℕ) (answers : List ℕ) (forms : List Form) → AreUpdateAnswers s nodes k answers forms
    → length answers ≡ length forms → (b : ℕ) (v : Valuation) → b < length answers → is_in nodes answers b v ≡ true
    → slice_get forms b ≡ Some (s.update v k)
form_told s nodes k answers forms a size b v low on =
    let got : slice_get forms b ≡ Some (get_or forms b no_form) = slice_get-get_or forms b no_form (omega arith) in
    got ∙ ap (λ (x : Form). Some x) (sym (a.becomes b (get_or forms b no_form) v got on))

side_told : (s : System) (nodes : List Triple) (answers : List ℕ) → AreSides s nodes answers → length answers ≡ 2 → (b : ℕ) (v : Valuation)
    → b < length answers → is_in nodes answers b v ≡ true → ((b ≡ 0) × (s.observer v ≡ true)) ⊎ ((b ≡ 1) × (s.observer v ≡ false))
side_told s nodes answers a size b v low on = ⊎_elim
    (λ z. inl (z, a.good v (ap (λ x. is_in nodes answers x v) (sym z) ∙ on)))
    (λ some. let e : b ≡ 1 = omega arith in inr (e, a.bad v (ap (λ x. is_in nodes answers x v) (sym e) ∙ on)))
    (cases_eq b 0)

one_side : (b c : ℕ) (o p : Bool) → o ≡ p → ((b ≡ 0) × (o ≡ true)) ⊎ ((b ≡ 1) × (o ≡ false)) → ((c ≡ 0) × (p ≡ true)) ⊎ ((c ≡ 1) × (p ≡ false)) → b ≡ c
one_side b c o p same (inl (z, n)) (inl (y, m)) = z ∙ sym y
one_side b c o p same (inl (z, n)) (inr (y, m)) = let clash : true ≡ false = sym n ∙ same ∙ m in cc
one_side b c o p same (inr (z, n)) (inl (y, m)) = let clash : true ≡ false = sym m ∙ sym same ∙ n in cc
one_side b c o p same (inr (z, n)) (inr (y, m)) = z ∙ sym y

module _ (s : System) (d : Diagrams) (q : Questions) (asked : AreQuestions s d q) (distinct : AreDistinct q) (v w : Valuation)
    (rows : (t : ℕ) → t < s.tests → s.row v t ≡ s.row w t) (updates : (k : ℕ) → k < s.memories → s.update v k ≡ s.update w k)
    (observer : s.observer v ≡ s.observer w) where
  test_same : (t : ℕ) → t < s.tests → (b : ℕ) → b < length (list_at q.questions t)
      → is_in d.nodes (list_at q.questions t) b v ≡ is_in d.nodes (list_at q.questions t) b w
  test_same t low =
      let known : t < length q.rows = omega (arith, asked.many_tests) in
      let size : length (list_at q.questions t) ≡ length (rows_at q.rows t) + 1 = asked.answers.tests t known in
      same_answers d.nodes (list_at q.questions t) v w (asked.answers.one t (omega (arith, asked.answers.many)))
      (λ b c lb lc on other. one_row (rows_at q.rows t) b c (s.row v t) (s.row w t) (distinct.rows t) (rows t low)
      (row_told s d.nodes t (list_at q.questions t) (rows_at q.rows t) (asked.tests t low) size b v lb on)
      (row_told s d.nodes t (list_at q.questions t) (rows_at q.rows t) (asked.tests t low) size c w lc other))

  memory_same : (k : ℕ) → k < s.memories → (b : ℕ) → b < length (memory_answers q k)
      → is_in d.nodes (memory_answers q k) b v ≡ is_in d.nodes (memory_answers q k) b w
  memory_same k low =
      let known : k < length q.forms = omega (arith, asked.many_memories) in
      let size : length (memory_answers q k) ≡ length (forms_at q.forms k) = asked.answers.memories k known in
      same_answers d.nodes (memory_answers q k) v w (asked.answers.one (length q.rows + k) (omega (arith, asked.answers.many)))
      (λ b c lb lc on other. distinct.forms k b c (s.update w k)
      (form_told s d.nodes k (memory_answers q k) (forms_at q.forms k) (asked.updates k low) size b v lb on ∙ ap (λ (x : Form). Some x) (updates k low))
      (form_told s d.nodes k (memory_answers q k) (forms_at q.forms k) (asked.updates k low) size c w lc other))

  side_same : (b : ℕ) → b < length (observer_answers q) → is_in d.nodes (observer_answers q) b v ≡ is_in d.nodes (observer_answers q) b w
  side_same =
      same_answers d.nodes (observer_answers q) v w (asked.answers.one (length q.rows + length q.forms) (omega (arith, asked.answers.many)))
      (λ b c lb lc on other. one_side b c (s.observer v) (s.observer w) observer
      (side_told s d.nodes (observer_answers q) asked.observer asked.answers.sides b v lb on)
      (side_told s d.nodes (observer_answers q) asked.observer asked.answers.sides c w lc other))

  all_same : (i b : ℕ) → i < length q.questions → b < length (list_at q.questions i)
      → is_in d.nodes (list_at q.questions i) b v ≡ is_in d.nodes (list_at q.questions i) b w
  all_same i b low less = ⊎_elim
      (λ test. test_same i (omega (arith, asked.many_tests)) b less)
      (λ later. ⊎_elim
      (λ memory.
      let e : length q.rows + (i - length q.rows) ≡ i = omega arith in
      subst (λ (x : ℕ). b < length (list_at q.questions x) → is_in d.nodes (list_at q.questions x) b v ≡ is_in d.nodes (list_at q.questions x) b w) e
      (memory_same (i - length q.rows) (omega (arith, asked.many_memories)) b) less)
      (λ last.
      let e : length q.rows + length q.forms ≡ i = omega (arith, asked.answers.many) in
      subst (λ (x : ℕ). b < length (list_at q.questions x) → is_in d.nodes (list_at q.questions x) b v ≡ is_in d.nodes (list_at q.questions x) b w) e
      (side_same b) less)
      (cases_lt i (length q.rows + length q.forms)))
      (cases_lt i (length q.rows))

pub made_different : (s : System) (d : Diagrams) (q : Questions) (p : Valuation → Bool) (cases : List Case) → AreQuestions s d q → AreDistinct q
    → AreMadeOf d q p cases → AreDifferent cases
made_different s d q p cases asked distinct is i j b c got other tests rows updates observer =
    let li : i < length is.conditions = let l : i < length cases = slice_get_within cases i b got in omega (arith, is.many) in
    let lj : j < length is.conditions = let l : j < length cases = slice_get_within cases j c other in omega (arith, is.many) in
    let first : (v : Valuation) × (is_in is.new.nodes is.conditions i v ≡ true) = is.parted.filled i li in
    let second : (v : Valuation) × (is_in is.new.nodes is.conditions j v ≡ true) = is.parted.filled j lj in
    let v : Valuation = first.0 in
    let w : Valuation = second.0 in
    let here : value_of is.new.nodes (ref_at is.conditions i) v ≡ true = first.1 in
    let there : value_of is.new.nodes (ref_at is.conditions j) w ≡ true = second.1 in
    let now : AreQuestions s is.new q = questions_later s d is.new q is.extends asked in
    let m : IsMadeFor is.new q (ref_at is.conditions i) b = is.made i b got in
    let o : IsMadeFor is.new q (ref_at is.conditions j) c = is.made j c other in
    let told : AreTold s (value_of is.new.nodes (ref_at is.conditions j)) s.tests b.tests b.rows =
    subst (λ (l : List ℕ). AreTold s (value_of is.new.nodes (ref_at is.conditions j)) s.tests l b.rows) (sym tests)
    (subst (λ (l : List Row). AreTold s (value_of is.new.nodes (ref_at is.conditions j)) s.tests c.tests l) (sym rows) (o.tests s now)) in
    let row : (t : ℕ) → t < s.tests → s.row v t ≡ s.row w t =
    same_row s (value_of is.new.nodes (ref_at is.conditions i)) (value_of is.new.nodes (ref_at is.conditions j)) s.tests b.tests b.rows v w (m.tests s
    now) told here there in
    let update : (k : ℕ) → k < s.memories → s.update v k ≡ s.update w k =
    same_update s s.memories b.updates v w (m.updates s now v here) (o.updates s now w there ∙ sym updates) in
    let seen : s.observer v ≡ s.observer w = m.observer s now v here ∙ observer ∙ sym (o.observer s now w there) in
    let moved : is_in is.new.nodes is.conditions i w ≡ true =
    is.joined v w (is.parted.only i li v here) (is.parted.only j lj w there)
    (λ x y lx ly. all_same s d q asked distinct v w row update seen x y lx ly) i li here in
    ⊎_elim
    (λ less. absurd (is.parted.apart i j less lj w moved there))
    (λ le. ⊎_elim (λ less. absurd (is.parted.apart j i less li w there moved)) (λ ge. omega arith) (cases_lt j i))
    (cases_lt i j)
