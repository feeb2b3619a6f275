-- A state in whole numbers agrees with a valuation, which is one but for absent tests, and whose symbolic instant gives it.
use Rattle.std.proofs.Common.{◌≡◌, ℤ, pos, Bool, true, false, ◌&&◌, ◌||◌, List, refl, sym, ◌∙◌, ap, arith, Option, None as Nothing}
use Rattle.std.specs.{Prelude.int_le, Prelude.slice_index_or, List.Contains}
use Rattle.rv_base.specs.{declared.value.Value.Value, declared.value.Value.TheVariants.Whole}
use Rattle.rv_tree.specs.declared.tree.Op.{Op}
use Rattle.rv_tree.specs.declared.tree.Op.TheVariants as op
use Rattle.rv_types.specs.Lists.{Side}
use Rattle.rv_meaning.specs.Meaning.{number}
use Rattle.rv_rows.specs.Forms as forms
use Rattle.rv_rows.specs.Arithmetic.{test_row}
use Rattle.rv_agreement.specs.Valuations.{Valuation, Reading, Truth, Name, Linear, at_point, is_linear, form_of, width, reads_at, found_at, IsSymbolic}
use Rattle.rv_agreement.specs.Valuations.{Comparison, all_comparisons, is_of_integers, read, tested, tested_form, Agrees, IsCoded}
use Rattle.rv_agreement.specs.Agreement.{State, point, found_in, IsWholeInstant, IsNext, IsTyped, IsAgreed, IsWell, Gives, AreAlike}
use Rattle.rv_agreement.specs.{Trees.System, Trees.memory_kinds, Trees.kind_at, Evaluation.integers, Evaluation.value}
use Rattle.rv_agreement.proofs.Matching.{IsFound, IsTold, AreMatched, flow_same, there_same, assertion_same, memory_same, operands_same, clock_named}
use Rattle.rv_agreement.proofs.{LinearLemmas.told, LinearLemmas.side_told, Operators.number_at, OneRow.one_row, Found.is_found}
use Rattle.rv_rows.proofs.{FormValues.row_told, FormValues.told_row, TightLemmas.tight_same, Tightening.some_tightened}
use Rattle.rv_agreement.proofs.{Spelled.same_bits, Chosen.chosen, Chosen.spells, Chosen.is_coded, Chosen.test_is}

module _ (s : System) (v : Valuation) (now : State) (inputs : List Value) (row : List (Option Value)) (symbolic : List (Option Reading)) where
  -- the truth of a test of a comparison whose operands match, by what these have
  operands_told : (c : Comparison) (side : Side) → AreMatched s v now inputs row symbolic (point s now inputs) c
      → int_le (forms.value (tested_form (width s) v.test (tested s v symbolic c) side) (point s now inputs)) (pos 0)
      ≡ told side (number (value Value integers (found_in now inputs) row c.left)) (number (value Value integers (found_in now inputs) row c.right))
  operands_told c side matched =
      let is = λ (a : Reading). sym (number_at (point s now inputs) (width s) v.test a) in
      side_told (point s now inputs) side (form_of (width s) v.test (read s v symbolic c.left)) (form_of (width s) v.test (read s v symbolic c.right))
      ∙ (λ i. told side (is (read s v symbolic c.left) i) (is (read s v symbolic c.right) i))
      ∙ (λ i. told side (number (sym matched.0 i)) (number (sym matched.1 i)))

  -- where the point meets the rows, the present tests tell the truth
  pub tell_agreed : Agrees s v symbolic (point s now inputs) → (c : Comparison) → Contains (all_comparisons s) c
      → IsTold s v now inputs row symbolic (point s now inputs) c
  tell_agreed agrees c w on matched integral side side_is =
      let form = tested_form (width s) v.test (tested s v symbolic c) side in
      let tight = some_tightened (test_row (v.test c.at side) form) in
      let holds = agrees c side tight.0 w (record { there = on; whole = integral; side_is = side_is }, tight.1) in
      row_told (point s now inputs) (v.test c.at side) form
      ((tight_same (test_row (v.test c.at side) form) tight.0 tight.1 (point s now inputs)).0 holds)
      ∙ operands_told c side matched

  -- and where they tell it, it meets the rows
  agrees_told : IsWell s → IsFound s v now inputs row symbolic (point s now inputs) → IsSymbolic s v symbolic → IsWholeInstant s now inputs row
      → ((c : Comparison) → Contains (all_comparisons s) c → IsTold s v now inputs row symbolic (point s now inputs) c)
      → Agrees s v symbolic (point s now inputs)
  agrees_told well found instant rows tell c side r w is =
      let matched = operands_same s v now inputs row symbolic (point s now inputs) well found instant tell rows c w is.0.there in
      let truth = tell c w is.0.there matched is.0.whole side is.0.side_is in
      let form = tested_form (width s) v.test (tested s v symbolic c) side in
      (tight_same (test_row (v.test c.at side) form) r is.1 (point s now inputs)).1
      (told_row (point s now inputs) (v.test c.at side) form (truth ∙ sym (operands_told c side matched)))

-- whether a value is an integer
abbrev is_whole : Value → Bool
is_whole (Whole z) = true
is_whole v = false

linear_at : (x : List ℤ) (a : Reading) → is_linear a ≡ is_whole (at_point x a)
linear_at x (Truth b) = refl
linear_at x (Name l) = refl
linear_at x (Linear f) = refl

integral_at : (x : List ℤ) (o : Op) (a b c d : Reading) → at_point x a ≡ at_point x c → at_point x b ≡ at_point x d
    → is_of_integers o a b ≡ is_of_integers o c d
integral_at x o a b c d left right = by o
  where
    linear : (p q : Reading) → at_point x p ≡ at_point x q → is_linear p ≡ is_linear q
    linear p q e = linear_at x p ∙ ap is_whole e ∙ sym (linear_at x q)

    by : (o : Op) → is_of_integers o a b ≡ is_of_integers o c d
    by op.Equal = λ i. linear a c left i && linear b d right i
    by op.Differs = λ i. linear a c left i && linear b d right i
    by _ = refl

-- there is a valuation that agrees
pub some_agreed : (s : System) (now : State) (inputs : List Value) (row : List (Option Value)) → IsWell s → IsTyped s now inputs
    → IsWholeInstant s now inputs row
    → (v : Valuation) × (symbolic : List (Option Reading)) × IsCoded s v × IsAgreed s v symbolic now inputs
some_agreed s now inputs row well typed rows =
    let v = chosen s now inputs row in
    let one = one_row Reading (reads_at s v) s (found_at s v) well in
    let spelling = spells s now inputs row well typed in
    let found = is_found s v now inputs typed spelling row one.0 in
    let agrees = agrees_told s v now inputs row one.0 well found one.1 rows (λ c w on matched integral side is. test_is s now inputs row well typed c w side) in
    (v, one.0, is_coded s now inputs row well typed, (spelling, one.1, agrees))

-- it gives the instant
pub gives : (s : System) (now next : State) (inputs : List Value) (row : List (Option Value)) (v : Valuation) (symbolic : List (Option Reading))
    → IsWell s → IsTyped s now inputs → IsWholeInstant s now inputs row → IsNext s now inputs row next → IsAgreed s v symbolic now inputs
    → Gives s v symbolic now inputs row next
gives s now next inputs row v symbolic well typed rows is_next agreed =
    let x = point s now inputs in
    let found = is_found s v now inputs typed agreed.0 row symbolic in
    let tell = tell_agreed s v now inputs row symbolic agreed.2 in
    record {
      flows = flow_same s v _ _ _ _ _ well found agreed.1 tell rows;
      assertions = assertion_same s v _ _ _ _ _ well found agreed.1 tell rows;
      observer = flow_same s v _ _ _ _ _ well found agreed.1 tell rows s.observer well.observer;
      ticks = λ k lt. is_next.ticked k lt ∙ (λ i. agreed.0.ticks k (omega (arith, well.ticks, lt)) i
          || there_same s v _ _ _ _ _ well found agreed.1 tell rows (slice_index_or s.tick_clocks k Nothing) (well.tick_clocks k lt) i);
      memories = λ m lt. is_next.kept m lt ∙ memory_same s v _ _ _ _ _ well found agreed.1 tell rows m lt;
    }

-- two valuations that agree are alike
pub alike : (s : System) (now : State) (inputs : List Value) (row : List (Option Value)) (v w : Valuation) (first second : List (Option Reading))
    → IsWell s → IsTyped s now inputs → IsWholeInstant s now inputs row → IsAgreed s v first now inputs → IsAgreed s w second now inputs → AreAlike s v w first
alike s now inputs row v w first second well typed rows one other =
    let x = point s now inputs in
    let found = is_found s v now inputs typed one.0 row first in
    let tell = tell_agreed s v now inputs row first one.2 in
    let other_found = is_found s w now inputs typed other.0 row second in
    let other_tell = tell_agreed s w now inputs row second other.2 in
    record {
      ticks = λ k lt. sym (one.0.ticks k lt) ∙ other.0.ticks k lt;
      memories = λ m b lt less. same_bits s.labels (kind_at (memory_kinds s) m) _ _ _ (one.0.memories m lt) (other.0.memories m lt) b less;
      inputs = λ j b lt less. same_bits s.labels (kind_at s.inputs j) _ _ _ (one.0.given j lt) (other.0.given j lt) b less;
      tests = λ c side in' present.
          let named = clock_named s v _ _ _ _ _ well found one.1 tell rows c in' in
          let on = sym (there_same s w _ _ _ _ _ well other_found other.1 other_tell rows c.clock named)
          ∙ there_same s v _ _ _ _ _ well found one.1 tell rows c.clock named ∙ present.there in
          let matched = operands_same s v _ _ _ _ _ well found one.1 tell rows c in' present.there in
          let other_matched = operands_same s w _ _ _ _ _ well other_found other.1 other_tell rows c in' on in
          let integral = integral_at x c.operator _ _ _ _ (sym other_matched.0 ∙ matched.0) (sym other_matched.1 ∙ matched.1) ∙ present.whole in
          tell c in' present.there matched present.whole side present.side_is
          ∙ sym (other_tell c in' on other_matched integral side present.side_is);
    }
