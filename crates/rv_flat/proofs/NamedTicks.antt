-- What an expression has depends on the flows that it names alone, and one that fits names those before it.
use Rattle.std.proofs.Common.{◌≡◌, ℕ, ◌+◌, ◌<◌, ◌*ℤ◌, true, false, not, ◌&&◌, cond, refl, ap, Option, None as Nothing, Some}
use Rattle.std.proofs.lemmas.Bool.{ltb-true}
use Rattle.std.specs.Prelude.{nat_lt, nat_le, slice_get}
use Rattle.rv_base.specs.{declared.value.Value.Value, declared.value.Value.TheVariants.Flag, declared.value.Value.TheVariants.Whole}
use Rattle.rv_tree.specs.Places.{Sites}
use Rattle.rv_types.specs.{declared.typed.Kind.Kind, Types.same_kind}
use Rattle.rv_types.specs.declared.typed.Kind.TheVariants as kind
use Rattle.rv_meaning.specs.Meaning.{is_true, number, operate}
use Rattle.rv_agreement.specs.Checks.{same_clock, is_of, clock_fits, fits, form_fits, all_fit}
use Rattle.rv_agreement.specs.Trees.{FlatTree, Node, TreeForm, FlatTrees, Flow, Not, Binary, Scale, If, AtMostOne, When, Current, None, More, System, nth_item}
use Rattle.rv_agreement.specs.{Agreement.IsNamed, Evaluation.Found, Evaluation.value, Evaluation.form_value, Evaluation.trues, Evaluation.integers}
use Rattle.rv_flat.specs.FlatInstants.{Row, nth, held, is_on, is_on_at}
use Rattle.rv_flat.specs.Tame.{IsOver, FormIsOver, AreOver}
use Rattle.rv_flat.proofs.Tested.{current_fits, if_fits, operator_fits, when_fits}
use Rattle.rv_base.proofs.Truths.{both_of}

-- an expression that fits is over the first flows
module _ (s : System) (n : ℕ) where
  pub clock_named : (k : Option ℕ) → clock_fits s n k ≡ true → IsNamed n k
  clock_named Nothing fit = tt
  clock_named (Some c) fit = ltb-true c n (both_of (nat_lt c n) (is_of kind.Bool (slice_get s.kinds c)) fit).0

  mutual
    pub over : (k : Option ℕ) (j : Kind) (e : FlatTree) → fits s n k j e ≡ true → IsOver n e
    over k j (Node at form) fit = form_over k j at form fit

    form_over : (k : Option ℕ) (j : Kind) (at : Sites) (form : TreeForm) → form_fits s n k j at form ≡ true → FormIsOver n form
    form_over k j at (Flow c) fit = ltb-true c n (both_of (nat_lt c n) (is_of j (slice_get s.kinds c) && same_clock k (nth_item s.flows c).clock) fit).0
    form_over k j at (Not e) fit = over k kind.Bool e (both_of (same_kind j kind.Bool) (fits s n k kind.Bool e) fit).1
    form_over k j at (Binary o a b) fit = let parts = (operator_fits s n k j at o a b fit).1 in (over k parts.0 a parts.1, over k parts.0 b parts.2)
    form_over k j at (Scale z e) fit = over k kind.Int e (both_of (same_kind j kind.Int) (fits s n k kind.Int e) fit).1
    form_over k j at (If c a b) fit =
        let parts = if_fits s n k j at c a b fit in (over k kind.Bool c parts.0, (over k j a parts.1, over k j b parts.2))
    form_over k j at (AtMostOne es) fit = all_over k es (both_of (same_kind j kind.Bool) (all_fit s n k es) fit).1
    form_over k j at (When c e) fit = over (nth_item s.flows c).clock j e (when_fits s n k j at c e fit)
    form_over k j at (Current m i e) fit = let parts = current_fits s n k j at m i e fit in (clock_named i parts.0, over i j e parts.1)
    form_over k j at _ fit = tt

    all_over : (k : Option ℕ) (es : FlatTrees) → all_fit s n k es ≡ true → AreOver n es
    all_over k None fit = tt
    all_over k (More e es) fit =
        let parts = both_of (fits s n k kind.Bool e) (all_fit s n k es) fit in (over k kind.Bool e parts.0, all_over k es parts.1)

-- two rows that agree on the first flows, as many as are said
module _ (found : Found Value) (row other : Row) (n : ℕ) (agree : (k : ℕ) → k < n → nth row k ≡ nth other k) where
  pub same_there : (k : Option ℕ) → IsNamed n k → is_on_at row k ≡ is_on_at other k
  same_there Nothing named = refl
  same_there (Some c) named = ap is_on (agree c named)

  mutual
    pub same_value : (e : FlatTree) → IsOver n e → value Value integers found row e ≡ value Value integers found other e
    same_value (Node at form) is = same_form at form is

    same_form : (at : Sites) (form : TreeForm) → FormIsOver n form → form_value Value integers found row at form ≡ form_value Value integers found other at form
    same_form at (Flow c) is = ap held (agree c is)
    same_form at (Not e) is = ap (λ v. Flag (not (is_true v))) (same_value e is)
    same_form at (Binary o a b) is = λ i. operate o false (same_value a is.0 i) (same_value b is.1 i)
    same_form at (Scale z e) is = ap (λ v. Whole (z *ℤ number v)) (same_value e is)
    same_form at (If c a b) is = λ i. cond (is_true (same_value c is.0 i)) (same_value a is.1.0 i) (same_value b is.1.1 i)
    same_form at (AtMostOne es) is = ap (λ c. Flag (nat_le c 1)) (same_trues es is)
    same_form at (When c e) is = same_value e is
    same_form at (Current m k e) is = λ i. cond (same_there k is.0 i) (same_value e is.1 i) (found.kept m)
    same_form at _ is = refl

    same_trues : (es : FlatTrees) → AreOver n es → trues Value integers found row es ≡ trues Value integers found other es
    same_trues None is = refl
    same_trues (More e es) is = λ i. cond (is_true (same_value e is.0 i)) 1 0 + same_trues es is.1 i

-- what is over some flows is over more
named_more : (n m : ℕ) (k : Option ℕ) → ((c : ℕ) → c < n → c < m) → IsNamed n k → IsNamed m k
named_more n m Nothing le is = tt
named_more n m (Some c) le is = le c is

mutual
  pub over_more : (n m : ℕ) (e : FlatTree) → ((k : ℕ) → k < n → k < m) → IsOver n e → IsOver m e
  over_more n m (Node at form) le is = form_over_more n m form le is

  form_over_more : (n m : ℕ) (form : TreeForm) → ((k : ℕ) → k < n → k < m) → FormIsOver n form → FormIsOver m form
  form_over_more n m (Flow c) le is = le c is
  form_over_more n m (Not e) le is = over_more n m e le is
  form_over_more n m (Binary o a b) le is = (over_more n m a le is.0, over_more n m b le is.1)
  form_over_more n m (Scale z e) le is = over_more n m e le is
  form_over_more n m (If c a b) le is = (over_more n m c le is.0, (over_more n m a le is.1.0, over_more n m b le is.1.1))
  form_over_more n m (AtMostOne es) le is = all_over_more n m es le is
  form_over_more n m (When c e) le is = over_more n m e le is
  form_over_more n m (Current j k e) le is = (named_more n m k le is.0, over_more n m e le is.1)
  form_over_more n m _ le is = tt

  all_over_more : (n m : ℕ) (es : FlatTrees) → ((k : ℕ) → k < n → k < m) → AreOver n es → AreOver m es
  all_over_more n m None le is = tt
  all_over_more n m (More e es) le is = (over_more n m e le is.0, all_over_more n m es le is.1)
