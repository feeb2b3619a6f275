use Rattle.std.proofs.Common.{◌≡◌, ◌<◌, length, subst, arith}
use Rattle.rv_flatten.specs.Building.{AreAsserted, numbers_of}
use Rattle.rv_flatten.proofs.AssertedParts.{none_asserted, instance_more}
use Rattle.rv_flatten.proofs.assertions.flat_assertions.Goals as goal

pub loop-instance-init : goal.loop-instance-init
loop-instance-init c = none_asserted c.args.given.now.expanded.now (numbers_of c.args.given.now c.args.found.now) c.new-made.result c.new-made.ensures

pub loop-instance-preserved : goal.loop-instance-preserved
loop-instance-preserved c =
    let x = c.args.given.now.expanded.now in
    let within : c.loop-instance.instance < length x.instances.now = subst (λ n. c.loop-instance.instance < n) c.len-instance-end.ensures
    c.loop-instance-test.true in
    instance_more x c.requires.given.known (numbers_of c.args.given.now c.args.found.now) c.loop-instance.instance c.loop-instance.made
    c.push_assertions.new.made within c.in_ok-push_assertions.ensures c.loop-instance.invariant

pub returns : goal.returns
returns c =
    let x = c.args.given.now.expanded.now in
    let all : c.loop-instance.instance ≡ length x.instances.now = omega
    (arith, c.loop-instance-test.false, c.loop-instance.auto.instance-end, c.len-instance-end.ensures) in
    subst (λ n. AreAsserted x (numbers_of c.args.given.now c.args.found.now) n c.loop-instance.made) all c.loop-instance.invariant
