use Rattle.std.proofs.lemmas.Result.{IfOk-weaker}
use Rattle.rv_words.proofs.Additions.{entered, required}
use Rattle.rv_words.proofs.building.build_reaver.Goals as goal

pub returns : goal.returns
returns c =
    let none = required _ c.subcommand_required.result c.subcommand_required.ensures c.new.ensures.app in
    let one = entered c.in_ok-subcommand.ensures c.in_ok-build_prove.ensures none in
    let two = entered c.in_ok-subcommand-2.ensures c.in_ok-build_check.ensures one in
    let three = entered c.in_ok-subcommand-3.ensures c.in_ok-build_replay.ensures two in
    let four = entered c.in_ok-subcommand-4.ensures c.in_ok-build_counted.ensures three in
    IfOk-weaker c.subcommand-5.result _ _ (λ m h. entered h c.in_ok-build_counted-2.ensures four) c.subcommand-5.ensures
