use Rattle.std.proofs.lemmas.Result.{IfOk-weaker}
use Rattle.rv_words.proofs.Additions.{given, top_shape}
use Rattle.rv_words.proofs.building.build_prove.Goals as goal

pub returns : goal.returns
returns c =
    let one = given c.in_ok-arg.ensures c.word.ensures.rule c.word.ensures.local (c.new.ensures.app, c.new.ensures.local) in
    let two = given c.in_ok-arg-2.ensures c.word-2.ensures.rule c.word-2.ensures.local one in
    let three = given c.in_ok-arg-3.ensures c.option.ensures.rule c.option.ensures.local two in
    let four = given c.in_ok-arg-4.ensures c.option-2.ensures.rule c.option-2.ensures.local three in
    IfOk-weaker c.arg-5.result _ _ (λ m h. top_shape m (given h c.option-3.ensures.rule c.option-3.ensures.local four)) c.arg-5.ensures
