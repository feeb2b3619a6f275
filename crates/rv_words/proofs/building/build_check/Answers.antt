use Rattle.std.proofs.lemmas.Result.{IfOk-weaker}
use Rattle.rv_words.proofs.Additions.{given, top_shape}
use Rattle.rv_words.proofs.building.build_check.Goals as goal

pub returns : goal.returns
returns c =
    let one = given c.in_ok-arg.ensures c.word.ensures.rule c.word.ensures.local (c.new.ensures.app, c.new.ensures.local) in
    let two = given c.in_ok-arg-2.ensures c.word-2.ensures.rule c.word-2.ensures.local one in
    let three = given c.in_ok-arg-3.ensures c.word-3.ensures.rule c.word-3.ensures.local two in
    IfOk-weaker c.arg-4.result _ _ (λ m h. top_shape m (given h c.option.ensures.rule c.option.ensures.local three)) c.arg-4.ensures
