use Rattle.std.proofs.Common.{◌≡◌, ap, ◌∙◌, arith, rules, min, nat_abs}
use Rattle.rv_types.specs.Constants.{whole_in, weight_under}
use Rattle.rv_base.specs.Limits.{too_heavy}
use Rattle.rv_types.proofs.Weights.{no_larger}
use Rattle.rv_types.proofs.weighing.of_operator.Goals as goal

pub returns-clause-bound : goal.returns-clause-bound
returns-clause-bound c =
    let s : c.size_of_whole.result ≡ nat_abs (whole_in c.args.a.now.value) = search rules in
    let w = c.weight_of-weight.ensures c.args.a.now.weight c.args.b.now.weight (omega arith) (omega arith)
    ∙ ap (λ n. min (weight_under c.args.op n c.args.a.now.weight c.args.b.now.weight) too_heavy) s in
    let v = c.value_of-value.ensures (weight_under c.args.op (nat_abs (whole_in c.args.a.now.value)) c.args.a.now.weight c.args.b.now.weight) w in
    no_larger c.args.op c.args.a.now.value c.args.b.now.value c.args.a.now.weight c.args.b.now.weight _ _ c.requires.a c.requires.b w v
