use Rattle.std.proofs.lemmas.Result.{IfOk-weaker}
use Rattle.rv_types.specs.Lists.{sites_of}
use Rattle.rv_flatten.proofs.PlaceWalks.{sequence_numbers}
use Rattle.rv_flatten.proofs.positions.flow_numbers.Goals as goal

pub returns : goal.returns
returns c p main instances known laid are =
    IfOk-weaker c.numbers_of.result _ _ (λ numbers is. sequence_numbers p main instances known c.args.layout.now laid
    (λ m i of number. c.instance_numbers.ensures p main instances c.args.layout.now m i known laid of number) (sites_of c.args.sequence.now) numbers are is)
    c.numbers_of.ensures
