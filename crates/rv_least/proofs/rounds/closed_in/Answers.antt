use Rattle.std.proofs.Common.{◌∙◌, sym}
use Rattle.rv_least.proofs.Opening.{given_later}
use Rattle.rv_least.proofs.rounds.closed_in.Goals as goal

pub first_claim-requires : goal.first_claim-requires
first_claim-requires c = let (s, given) = c.requires in (s, c.args.questions.now, given)

pub asked_of-requires : goal.asked_of-requires
asked_of-requires c =
    let (s, given) = c.requires in let r = given.relation in let f = given.frame in (s, r.system, given.questions, sym f.columns)

pub all_rounds-requires : goal.all_rounds-requires
all_rounds-requires c =
    let (s, given) = c.requires in
    let r = given.relation in
    let f = given.frame in
    let q = given.questions in
    let first = c.in_ok-first.ensures.first s c.args.questions.now given (c.len-memories.ensures ∙ q.many_memories) in (
      s,
      given_later s c.args.store.now c.asked_of.new.store c.args.relation.now c.args.questions.now c.args.frame.now c.asked_of.ensures.extends given,
      c.in_ok-asked.ensures.asked s r.system q (sym f.columns),
      first.0,
      first.1,
    )

pub returns-clause-least : goal.returns-clause-least
returns-clause-least c s given =
    let r = given.relation in
    let f = given.frame in
    let q = given.questions in
    let first = c.in_ok-first.ensures.first s c.args.questions.now given (c.len-memories.ensures ∙ q.many_memories) in
    c.all_rounds.ensures.least s
    (given_later s c.args.store.now c.asked_of.new.store c.args.relation.now c.args.questions.now c.args.frame.now c.asked_of.ensures.extends given)
    (c.in_ok-asked.ensures.asked s r.system q (sym f.columns)) first.0 first.1
