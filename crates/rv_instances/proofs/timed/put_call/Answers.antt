use Rattle.std.proofs.Common.{◌∷◌, ◌++◌, map, ap, ◌∙◌}
use Rattle.rv_instances.specs.Expanded.{ToldCall, told}
use Rattle.rv_instances.proofs.PutCalls.{put_listed}
use Rattle.rv_instances.proofs.timed.put_call.Goals as goal

pub returns-then-number-len : goal.returns-then-number-len
returns-then-number-len c before after x at is =
    ap (map told) c.set.ensures ∙ put_listed told c.args.found.now before after x c.args.number c.made_call.result at is
    ∙ ap (λ (y : ToldCall). before ++ y ∷ after) c.made_call.ensures
