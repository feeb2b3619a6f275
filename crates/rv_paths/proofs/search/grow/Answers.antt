use Rattle.std.proofs.Common.{◌∙◌, arith, refl}
use Rattle.rv_paths.proofs.Settings.{setting_of}
use Rattle.rv_paths.proofs.search.grow.Goals as goal

pub grow_by-requires-clause-setting : goal.grow_by-requires-clause-setting
grow_by-requires-clause-setting c =
    let (s, set) = c.requires.setting in (
      s,
      setting_of s c.args.store.now c.loop-case.store c.args.relation.now c.args.plan.now c.loop-case.nodes c.loop-case.nodes c.loop-case.invariant.same
          refl set.relation set.plan (c.loop-case.invariant.nodes s set),
    )

pub loop-case-preserved : goal.loop-case-preserved
loop-case-preserved c = record {
  same = c.grow_by.ensures.same ∙ c.loop-case.invariant.same;
  more = omega (arith, c.in_ok-grow_by.ensures.more);
  nodes = λ s set.
      c.in_ok-grow_by.ensures.nodes s
      (setting_of s c.args.store.now c.loop-case.store c.args.relation.now c.args.plan.now c.loop-case.nodes c.loop-case.nodes c.loop-case.invariant.same refl
      set.relation set.plan (c.loop-case.invariant.nodes s set));
}
