use Rattle.std.proofs.Common.{arith}
use Rattle.rv_diagram.proofs.Growing.{extends_trans}
use Rattle.rv_refine.proofs.Framing.{held_later}
use Rattle.rv_refine.proofs.covering.targets_in.Goals as goal

pub add_target-requires-clause-plan : goal.add_target-requires-clause-plan
add_target-requires-clause-plan c =
    let (s, held, plan) = c.requires.plan in
    (s, held_later c.args.store.now c.loop-place.store c.args.frame.now c.loop-place.invariant.extends held, plan)

pub add_target-requires-clause-observer : goal.add_target-requires-clause-observer
add_target-requires-clause-observer c =
    let found = c.requires.observer in
    let e = c.loop-place.invariant.extends in
    omega (arith, found, e.longer)

pub loop-place-preserved : goal.loop-place-preserved
loop-place-preserved c = record {
  extends = extends_trans c.args.store.now c.loop-place.store c.add_target.new.store c.loop-place.invariant.extends c.add_target.ensures.extends;
  targets = λ s plan. c.in_ok-add_target.ensures.targets s plan (c.loop-place.invariant.targets s plan);
}
