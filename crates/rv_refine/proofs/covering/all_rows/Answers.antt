use Rattle.std.proofs.Common.{List, All, length, length-append, arith, sym, subst, ap}
use Rattle.std.proofs.lemmas.List.Elements.{All-push}
use Rattle.rv_rows.specs.declared.linear.Row.{Row}
use Rattle.rv_refine.specs.Plans.{ArePremises}
use Rattle.rv_refine.proofs.Planning.{premises_are}
use Rattle.rv_refine.proofs.covering.all_rows.Goals as goal

pub loop-place-preserved : goal.loop-place-preserved
loop-place-preserved c = record {
  many = omega (arith, simp length-append at (ap (λ (rs : List (List Row)). length rs) c.in_ok-push.ensures.ok), c.loop-place.invariant.many);
  rows = λ s planned.
      let (few, less) = c.are_few-few.ensures c.if-not-few.false in
      let tests = planned.tests in
      let size = c.len.ensures in
      let rows = c.in_ok-rows.ensures s.memories planned.sides in
      subst (All (ArePremises s)) (sym c.in_ok-push.ensures.ok)
      (All-push (ArePremises s) c.loop-place.all c.in_ok-rows.rows (c.loop-place.invariant.rows s planned)
      (premises_are s c.in_ok-rows.rows rows (omega (arith, few, size)) (omega (arith, less, tests, size, c.len-tests.ensures))));
}
