use Rattle.std.proofs.Common.{◌≡◌, length, arith}
use Rattle.rv_rows.specs.{declared.linear.Row.Row, Tight.Fits}
use Rattle.rv_cover.proofs.Rowing.{chosen_few, chosen_all}
use Rattle.rv_cover.proofs.rows.chosen.Goals as goal

pub loop-place-preserved : goal.loop-place-preserved
loop-place-preserved c = record {
  few = chosen_few c.loop-place.list c.add_if.new.list c.at.result.now c.loop-place.place c.in_ok-add_if.ensures c.loop-place.invariant.few;
  kept = λ s kept. chosen_all (λ (r : Row). (length r.coefficients ≡ s.memories) × Fits r) c.args.rows.now c.loop-place.list c.add_if.new.list
      c.loop-place.place c.at.result.now c.at.ensures.value kept.0 c.in_ok-add_if.ensures (c.loop-place.invariant.kept s kept);
}

pub returns-clause-kept : goal.returns-clause-kept
returns-clause-kept c s kept = (
  c.loop-place.invariant.kept s kept,
  let few = c.loop-place.invariant.few in let most = kept.1 in omega (arith, few, most),
)
