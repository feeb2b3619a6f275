use Rattle.std.proofs.Common.{◌≡◌, length, arith}
use Rattle.rv_diagram.specs.Nodes.{valuation_of}
use Rattle.rv_cases.proofs.Placing.{not_none}
use Rattle.rv_cases.proofs.splitting.place_in.Goals as goal

pub returns-clause-known : goal.returns-clause-known
returns-clause-known c =
    let all : length c.args.answers.now ≡ c.loop-place.place = omega (arith, c.loop-place-test.false, c.loop-place.auto) in
    absurd (not_none c.args.store.now.nodes c.args.answers.now (valuation_of c.args.sample.now) c.loop-place.place c.requires.answers all
    c.loop-place.invariant)

pub returns-clause-here : goal.returns-clause-here
returns-clause-here c =
    let all : length c.args.answers.now ≡ c.loop-place.place = omega (arith, c.loop-place-test.false, c.loop-place.auto) in
    absurd (not_none c.args.store.now.nodes c.args.answers.now (valuation_of c.args.sample.now) c.loop-place.place c.requires.answers all
    c.loop-place.invariant)
