use Rattle.std.proofs.Common.{◌≡◌, ◌∙◌, true, false, sym, subst}
use Rattle.rv_diagram.specs.{Nodes.Diagrams, Growing.Extends}
use Rattle.rv_rise.proofs.{Giving.given_there, Giving.given_later, Giving.asked_there}
use Rattle.rv_rise.proofs.rounds.closed_in.Goals as goal

pub first_claim-requires : goal.first_claim-requires
first_claim-requires c = let (s, given) = c.requires in (s, c.args.questions.now, given)

pub asked_of-requires : goal.asked_of-requires
asked_of-requires c = let (s, given) = c.requires in (s, record { relation = given.relation; questions = given.questions })

pub one_round-requires : goal.one_round-requires
one_round-requires c =
    let (s, given) = c.requires in
    let (kept, below) = c.in_ok-claim.ensures.first s c.args.questions.now given in (
      s,
      given_later s c.args.store.now c.asked_of.new.store c.args.relation.now c.args.questions.now c.args.frame.now c.asked_of.ensures.extends given,
      c.in_ok-asked.ensures.asked s (record { relation = given.relation; questions = given.questions }),
      kept,
      λ (e : true ≡ false). cc,
    )

pub all_rounds-requires : goal.all_rounds-requires
all_rounds-requires c =
    let (s, given) = c.requires in
    let (kept, below) = c.in_ok-claim.ensures.first s c.args.questions.now given in
    let later = given_later s c.args.store.now c.asked_of.new.store c.args.relation.now c.args.questions.now c.args.frame.now c.asked_of.ensures.extends
    given in
    let asked = c.in_ok-asked.ensures.asked s (record { relation = given.relation; questions = given.questions }) in
    let g = c.in_ok-one_round.ensures.grown s later asked kept (λ (e : true ≡ false). cc) in (
      s,
      given_there s c.asked_of.new.store c.one_round.new.store c.args.relation.now c.args.questions.now c.args.frame.now c.one_round.ensures.same later,
      asked_there s c.asked_of.new.store c.one_round.new.store c.in_ok-asked.asked c.one_round.ensures.same asked,
      g.kept,
      g.first,
      g.below below,
    )

pub returns-in_err-one_round-clause-extends : goal.returns-in_err-one_round-clause-extends
returns-in_err-one_round-clause-extends c =
    subst (λ (d : Diagrams). Extends c.args.store.now d) (sym c.one_round.ensures.same) c.asked_of.ensures.extends

pub returns-clause-extends : goal.returns-clause-extends
returns-clause-extends c =
    subst (λ (d : Diagrams). Extends c.args.store.now d) (sym (c.all_rounds.ensures.same ∙ c.one_round.ensures.same)) c.asked_of.ensures.extends

pub returns-clause-least : goal.returns-clause-least
returns-clause-least c s given =
    let (kept, below) = c.in_ok-claim.ensures.first s c.args.questions.now given in
    let later = given_later s c.args.store.now c.asked_of.new.store c.args.relation.now c.args.questions.now c.args.frame.now c.asked_of.ensures.extends
    given in
    let asked = c.in_ok-asked.ensures.asked s (record { relation = given.relation; questions = given.questions }) in
    let g = c.in_ok-one_round.ensures.grown s later asked kept (λ (e : true ≡ false). cc) in
    c.all_rounds.ensures.least s
    (given_there s c.asked_of.new.store c.one_round.new.store c.args.relation.now c.args.questions.now c.args.frame.now c.one_round.ensures.same later)
    (asked_there s c.asked_of.new.store c.one_round.new.store c.in_ok-asked.asked c.one_round.ensures.same asked) g.kept g.first (g.below below)
