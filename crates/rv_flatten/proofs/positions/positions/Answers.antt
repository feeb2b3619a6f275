use Rattle.std.proofs.{Common.◌≡◌, Common.◌+◌, Common.replicate, Common.◌∙◌, Common.ap, Common.arith, lemmas.Result.IfOk-weaker}
use Rattle.rv_tree.specs.Places.{index_of}
use Rattle.rv_instances.specs.{Flowing.place_at, Layouts.all_places}
use Rattle.rv_flatten.specs.Positions.{told}
use Rattle.rv_flatten.proofs.{FlowTotals.few_flows, Standings.stands_at}
use Rattle.rv_flatten.proofs.positions.positions.Goals as goal

pub returns : goal.returns
returns c p main instances sequence known are many numbers =
    let places = all_places p instances in
    let placed = c.flow_places.ensures p main instances known.named known.declared known.sited known.all in
    IfOk-weaker c.standing.result _ _ (λ at is k lt.
    let q = place_at places k in
    let same : 0 + index_of sequence q ≡ index_of sequence q = omega arith in
    stands_at places sequence c.args.numbers.now placed.rising (few_flows p main instances known) are.once numbers 0 at (omega arith)
    (is ∙ ap (λ n. told (replicate n 0) 0 c.args.numbers.now) many) k lt (are.flows q (placed.only k lt)) ∙ same) c.standing.ensures
