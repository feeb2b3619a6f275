use Rattle.std.proofs.Common.{ℕ, [], get_or, below_more}
use Rattle.rv_types.specs.Names.{texts}
use Rattle.rv_instances.specs.{Expanded.program_of, Giving.IsGiven, Giving.number_at}
use Rattle.rv_instances.proofs.givers.give_equation.Goals as goal

pub loop-number-preserved : goal.loop-number-preserved
loop-number-preserved c =
    let x = c.args.expanded.now in
    record {
      given = c.give_left.ensures.given;
      kept = λ k g. c.give_left.ensures.kept k (c.loop-number.invariant.kept k g);
      lefts = below_more (λ (j : ℕ). IsGiven c.give_left.new.found (number_at (program_of x) x.instances.now c.args.instance
          (get_or (texts c.args.equation.now.lefts) j []))) c.loop-number.number
          (λ j lt. c.give_left.ensures.kept _ (c.loop-number.invariant.lefts j lt)) c.give_left.ensures.left;
      end = c.loop-number.invariant.end;
    }
