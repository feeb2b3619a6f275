use Rattle.std.proofs.lemmas.Result.{IfOk-weaker}
use Rattle.rv_words.proofs.Additions.{given, top_shape}
use Rattle.rv_words.proofs.building.build_replay.Goals as goal

pub returns : goal.returns
returns c =
    let one = given c.in_ok-arg.ensures c.word.ensures.rule c.word.ensures.local (c.new.ensures.app, c.new.ensures.local) in
    let two = given c.in_ok-arg-2.ensures c.word-2.ensures.rule c.word-2.ensures.local one in
    IfOk-weaker c.arg-3.result _ _ (λ m h. top_shape m (given h c.word-3.ensures.rule c.word-3.ensures.local two)) c.arg-3.ensures
