use Rattle.rv_diagram.specs.Nodes.{value_of}
use Rattle.rv_pairs.specs.Labels.{active}
use Rattle.rv_pairs.proofs.Counting.{given_added}
use Rattle.rv_pairs.proofs.labels.label_given.Goals as goal

pub loop-place-preserved : goal.loop-place-preserved
loop-place-preserved c = record {
  labels = c.in_ok-label_row.ensures.labels;
  rows = λ v. given_added (value_of c.args.store.now.nodes c.args.under v) c.args.given.now (active c.args.store.now.nodes c.args.labels.now v)
      (active c.args.store.now.nodes c.loop-place.labels v) (active c.args.store.now.nodes c.label_row.new.labels v) c.loop-place.place c.at.result.now
      c.at.ensures.value (c.loop-place.invariant.rows v) (c.in_ok-label_row.ensures.rows v);
}
