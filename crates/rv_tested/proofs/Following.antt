-- Steps over comparisons and over tests.
use Rattle.std.proofs.Common.{◌≡◌, ◌⊎◌, inl, inr, ℕ, ◌+◌, ◌-◌, ◌<◌, ◌≤◌, List, [], ◌∷◌, ◌++◌, length, length-append, map, refl, sym, ◌∙◌, ap, subst, ⊎_elim}
use Rattle.std.proofs.Common.{arith, Option, Some, None as Nothing}
use Rattle.std.proofs.lemmas.List.{length-map, get_or_append_left, get_or_push, get_or-map}
use Rattle.std.proofs.{lemmas.Bool.cases_lt, lemmas.Option.get_or_from_slice_get}
use Rattle.std.specs.Prelude.{slice_get, slice_index_or}
use Rattle.rv_types.specs.declared.typed.Kind.TheVariants as kind
use Rattle.rv_types.specs.Lists.{Variable, MainTick, Tick, Kept, Next, Input, Test}
use Rattle.rv_rows.specs.declared.linear.Row.{Row}
use Rattle.rv_diagram.specs.{declared.Triple.Triple, Nodes.Valuation, Nodes.Diagrams}
use Rattle.rv_diagram.specs.Growing.{Extends}
use Rattle.rv_agreement.specs.{Agreement.Fits, Agreement.IsNamed, Trees.FlatTree, Valuations.Reading, Valuations.IsSymbolic}
use Rattle.rv_flat.specs.{declared.flat.Flat.Flat, declared.parts.Bit.Bit, FlatInstants.system_of, Lists.variable_of, Systems.flow_item, Tame.IsOver}
use Rattle.rv_control.specs.{Control.control_of, Control.order_tests, Named.named, Named.variables_of}
use Rattle.rv_bits.specs.{declared.around.FlowRefs.FlowRefs, Shown.AreFlowRefs, Shown.clock_bit, Shown.is_there_at}
use Rattle.rv_bits.proofs.Fitting.{over_fits}
use Rattle.rv_cases.specs.{Conditions.list_at, Questions.rows_at}
use Rattle.rv_tested.specs.{declared.compared.Compared.Compared, declared.rows.Answered.Answered, declared.testing.Sides.Sides, Compared.comparison_in}
use Rattle.rv_tested.specs.{Exact.IsTestRead, Exact.row_answer, Rows.IsAnswered, Testing.AreSidesRead, Testing.AreTestsRead, Testing.row_of_variable}
use Rattle.rv_tested.proofs.{Asking.exact_later, Rowing.answered_as, Rowing.answered_exact, Siding.sides_later}
use Rattle.rv_base.proofs.Lists.{push_got}

pub over_inside : (f : Flat) (n : ℕ) (k : Option ℕ) (t : FlatTree) → Fits (system_of f) (length (system_of f).flows) k kind.Int t → n ≡ length f.flows
    → IsOver n t
over_inside f n k t fit e = subst (λ m. IsOver m t) (length-map f.flows (flow_item f.memories) ∙ sym e)
    (over_fits (system_of f) (length (system_of f).flows) k kind.Int t fit)

-- whether a clock is there, by the references of the flows
pub clock_there : (f : Flat) (nodes : List Triple) (r : FlowRefs) → AreFlowRefs f nodes r → length r.on ≡ length f.flows → (k : Option ℕ)
    → IsNamed (length (system_of f).flows) k → (v : Valuation) (row : List (Option Reading)) → IsSymbolic (system_of f) (named f v) row
    → clock_bit nodes r.on k v ≡ is_there_at f v row k
clock_there f nodes r are all Nothing is v row instant = refl
clock_there f nodes r are all (Some c) is v row instant =
    are.on_shows c v row (let e = length-map f.flows (flow_item f.memories) in omega (arith, is, all, e)) instant

-- one comparison more is read
pub read_more : (f : Flat) (a b : Diagrams) (cs : List Compared) (xs : List Sides) (c : Compared) (x : Sides) → Extends a b
    → slice_get cs (length xs) ≡ Some c
    → ((i : ℕ) (d : Compared) (y : Sides) → slice_get cs i ≡ Some d → slice_get xs i ≡ Some y → AreSidesRead f a.nodes (comparison_in f.memories d) y)
    → AreSidesRead f b.nodes (comparison_in f.memories c) x
    → (i : ℕ) (d : Compared) (y : Sides) → slice_get cs i ≡ Some d → slice_get (xs ++ x ∷ []) i ≡ Some y → AreSidesRead f b.nodes (comparison_in f.memories d) y
read_more f a b cs xs c x e at before here i d y one two = ⊎_elim
    (λ old. sides_later f a b (comparison_in f.memories d) y e (before i d y one old.1))
    (λ new.
    let same : c ≡ d = some_is c d (sym at ∙ ap (λ n. slice_get cs n) (sym new.0) ∙ one) in
    subst (λ (z : Compared). AreSidesRead f b.nodes (comparison_in f.memories z) y) same
    (subst (λ (z : Sides). AreSidesRead f b.nodes (comparison_in f.memories c) z) new.1 here))
    (push_got xs x y i two)
  where
    some_is : (p q : Compared) → Some p ≡ Some q → p ≡ q
    some_is p q z = cc

-- COUNTS

-- one variable more
pub tests_more : (x : Variable) (xs : List Variable) → order_tests (x ∷ xs) ≡ order_tests (x ∷ []) + order_tests xs
unfolding order_tests
tests_more MainTick xs = omega arith
tests_more (Tick p) xs = omega arith
tests_more (Kept p b) xs = omega arith
tests_more Next xs = omega arith
tests_more (Input j b) xs = omega arith
tests_more (Test p side) xs = omega arith

pub no_tests : order_tests [] ≡ 0
unfolding order_tests
no_tests = refl

pub at_most_one : (x : Variable) → order_tests (x ∷ []) ≤ 1
unfolding order_tests
at_most_one MainTick = omega arith
at_most_one (Tick p) = omega arith
at_most_one (Kept p b) = omega arith
at_most_one Next = omega arith
at_most_one (Input j b) = omega arith
at_most_one (Test p side) = omega arith

-- THE NEXT TEST

-- the variable of a test
pub variable_there : (f : Flat) (i t : ℕ) (x : Bit) → slice_get f.variables i ≡ Some x
    → i ≡ length (variables_of f) - order_tests (variables_of f) + t → i < length f.variables
    → slice_index_or (variables_of f) (length (variables_of f) - order_tests (variables_of f) + t) Next ≡ variable_of x
variable_there f i t x got e lt =
    ap (λ n. slice_index_or (variables_of f) n Next) (sym e) ∙ get_or-map variable_of f.variables i x Next lt
    ∙ ap variable_of (get_or_from_slice_get f.variables i x x got)

pub test_answered : (f : Flat) (nodes : List Triple) (t : ℕ) (x : Variable) (a : Answered)
    → slice_index_or (variables_of f) (length (variables_of f) - order_tests (variables_of f) + t) Next ≡ x
    → IsAnswered nodes (row_of_variable f x) a → IsTestRead (control_of f) nodes t a.refs a.rows
test_answered f nodes t x a e is =
    answered_exact nodes (λ v. (control_of f).row v t) a
    (answered_as nodes (row_of_variable f x) (λ v. (control_of f).row v t) a (λ v. ap (λ y. row_of_variable f y v) (sym e)) is)

-- the questions of one test more
pub one_test_more : (f : Flat) (a b : Diagrams) (n : ℕ) (questions : List (List ℕ)) (rows : List (List Row)) (x : Answered) → Extends a b
    → AreTestsRead f a.nodes n questions rows → IsTestRead (control_of f) b.nodes n x.refs x.rows
    → AreTestsRead f b.nodes (n + 1) (questions ++ x.refs ∷ []) (rows ++ x.rows ∷ [])
one_test_more f a b n questions rows x e before here = record {
  many = length-append questions (x.refs ∷ []) ∙ ap (λ m. m + 1) before.many;
  many_rows = length-append rows (x.rows ∷ []) ∙ ap (λ m. m + 1) before.many_rows;
  each = λ t lt. elim (cases_lt t n) [
    | inl less ↦
        subst (λ (l : List ℕ). IsTestRead (control_of f) b.nodes t l (rows_at (rows ++ x.rows ∷ []) t))
        (sym (get_or_append_left questions (x.refs ∷ []) [] t (omega (arith, less, before.many))))
        (subst (λ (l : List Row). IsTestRead (control_of f) b.nodes t (list_at questions t) l)
        (sym (get_or_append_left rows (x.rows ∷ []) [] t (omega (arith, less, before.many_rows))))
        (exact_later (Option Row) a b (λ v. (control_of f).row v t) (length (rows_at rows t) + 1) (row_answer (rows_at rows t)) (list_at questions t) e
        (before.each t less)))
    | inr ge ↦
        let at : n ≡ t = omega arith in
        subst (λ m. IsTestRead (control_of f) b.nodes m (list_at (questions ++ x.refs ∷ []) m) (rows_at (rows ++ x.rows ∷ []) m)) at
        (subst (λ (l : List ℕ). IsTestRead (control_of f) b.nodes n l (rows_at (rows ++ x.rows ∷ []) n)) (sym (get_or_push questions x.refs [] n before.many))
        (subst (λ (l : List Row). IsTestRead (control_of f) b.nodes n x.refs l) (sym (get_or_push rows x.rows [] n before.many_rows)) here))
  ];
}

pub none_read : (f : Flat) (nodes : List Triple) (questions : List (List ℕ)) (rows : List (List Row)) → questions ≡ [] → rows ≡ []
    → AreTestsRead f nodes 0 questions rows
none_read f nodes questions rows one two = record {
  many = ap (λ (l : List (List ℕ)). length l) one;
  many_rows = ap (λ (l : List (List Row)). length l) two;
  each = λ t lt. absurd (omega arith);
}
