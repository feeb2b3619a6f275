use Rattle.std.proofs.Common.{List, [], subst}
use Rattle.rv_diagram.specs.declared.frozen.Frozen.{Frozen}
use Rattle.rv_rows.specs.declared.linear.Row.{Row}
use Rattle.rv_boxes.specs.Certifying.{IsLocationOf}
use Rattle.rv_cover.proofs.seeking.assembled.Goals as goal

pub returns-then-counts : goal.returns-then-counts
returns-then-counts c = record {
  one = c.in_ok-one.one;
  two = c.in_ok-two.two;
  locations = c.in_ok-whole.ensures;
  one_is = subst (λ (f : Frozen). IsLocationOf f [] c.args.initial c.in_ok-one.one) c.in_ok-first_set.ensures
      (subst (λ (rows : List Row). IsLocationOf c.in_ok-first_set.first_set rows c.args.initial c.in_ok-one.one) c.new-nothing.ensures c.in_ok-one.ensures);
  two_is = subst (λ (f : Frozen). IsLocationOf f c.args.rows c.args.others c.in_ok-two.two) c.in_ok-rest_set.ensures c.in_ok-two.ensures;
  counts = c.counts.ensures.0 c.if-counts.true;
}
