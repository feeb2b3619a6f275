use Rattle.std.proofs.Common.{◌∷◌, ◌++◌, map, ap, ◌∙◌}
use Rattle.rv_instances.specs.Timed.{ToldDelay, delay_listed}
use Rattle.rv_instances.proofs.PutCalls.{put_listed}
use Rattle.rv_instances.proofs.timed.put_delay.Goals as goal

pub returns-then-number-len : goal.returns-then-number-len
returns-then-number-len c before after x at is =
    ap (map delay_listed) c.set.ensures ∙ put_listed delay_listed c.args.found.now before after x c.args.number c.made_delay.result at is
    ∙ ap (λ (y : ToldDelay). before ++ y ∷ after) c.made_delay.ensures
