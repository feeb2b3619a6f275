use Rattle.std.proofs.Common.{◌∙◌}
use Rattle.rv_paths.proofs.Settings.{setting_of}
use Rattle.rv_paths.proofs.search.search.Goals as goal

pub end_at-requires-clause-setting : goal.end_at-requires-clause-setting
end_at-requires-clause-setting c =
    let (s, of, plan, first) = c.requires in (
      s,
      setting_of s c.args.store.now c.loop-visit.store c.args.relation.now c.args.plan.now c.loop-visit.tree.nodes c.next_node.new.tree.nodes
          c.loop-visit.invariant.same c.next_node.ensures.same of plan (c.loop-visit.invariant.nodes s of plan first),
    )

pub grow-requires-clause-setting : goal.grow-requires-clause-setting
grow-requires-clause-setting c =
    let (s, of, plan, first) = c.requires in (
      s,
      setting_of s c.args.store.now c.end_at.new.store c.args.relation.now c.args.plan.now c.loop-visit.tree.nodes c.next_node.new.tree.nodes
          (c.end_at.ensures.same ∙ c.loop-visit.invariant.same) c.next_node.ensures.same of plan (c.loop-visit.invariant.nodes s of plan first),
    )

pub loop-visit-preserved : goal.loop-visit-preserved
loop-visit-preserved c = record {
  same = c.grow.ensures.same ∙ c.end_at.ensures.same ∙ c.loop-visit.invariant.same;
  nodes = λ s of plan first.
      c.in_ok-grow.ensures.nodes s
      (setting_of s c.args.store.now c.end_at.new.store c.args.relation.now c.args.plan.now c.loop-visit.tree.nodes c.next_node.new.tree.nodes
      (c.end_at.ensures.same ∙ c.loop-visit.invariant.same) c.next_node.ensures.same of plan (c.loop-visit.invariant.nodes s of plan first));
}
