use Rattle.std.proofs.Common.{◌∷◌, ◌++◌, map, ap, ◌∙◌}
use Rattle.rv_instances.specs.Timed.{ToldOperator, operator_listed}
use Rattle.rv_instances.proofs.PutCalls.{put_listed}
use Rattle.rv_instances.proofs.timed.put_operator.Goals as goal

pub returns-then-number-len : goal.returns-then-number-len
returns-then-number-len c before after x at is =
    ap (map operator_listed) c.set.ensures ∙ put_listed operator_listed c.args.found.now before after x c.args.number c.made_operator.result at is
    ∙ ap (λ (y : ToldOperator). before ++ y ∷ after) c.made_operator.ensures
