use Rattle.std.proofs.lemmas.Result.{IfOk-weaker}
use Rattle.rv_words.proofs.Additions.{given, top_shape}
use Rattle.rv_words.proofs.building.build_counted.Goals as goal

pub returns : goal.returns
returns c = IfOk-weaker c.arg.result _ _
    (λ m h. top_shape m (given h c.word.ensures.rule c.word.ensures.local (c.new.ensures.app, c.new.ensures.local))) c.arg.ensures
