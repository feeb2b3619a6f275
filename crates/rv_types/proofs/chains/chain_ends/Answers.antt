use Rattle.std.proofs.Common.{◌≡◌, ◌+◌, ◌*◌, ◌∙◌, ap, arith, rules, map}
use Rattle.rv_types.specs.Chains.{follow, after}
use Rattle.rv_types.proofs.ChainLaws.{twice_as_far, far_enough}
use Rattle.rv_types.proofs.chains.chain_ends.Goals as goal

pub loop-steps-preserved : goal.loop-steps-preserved
loop-steps-preserved c =
    let items : c.in_ok-jumps-2.jumps.items ≡ map (follow c.loop-steps.jumps.items) c.loop-steps.jumps.items = search rules in
    let twice : c.loop-steps.steps + c.loop-steps.steps ≡ c.loop-steps.steps * 2 = omega arith in
    record {
      some = omega arith;
      far = λ k. twice_as_far c.args.clocks.now c.loop-steps.jumps.items c.in_ok-jumps-2.jumps.items c.loop-steps.steps items c.loop-steps.invariant.far k
          ∙ ap (λ m. after c.args.clocks.now m k) twice;
    }

pub returns : goal.returns
returns c = far_enough c.args.clocks.now c.loop-steps.jumps.items c.loop-steps.steps c.loop-steps-test.false c.loop-steps.invariant.far
