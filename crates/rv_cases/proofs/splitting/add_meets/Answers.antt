use Rattle.std.proofs.Common.{◌&&◌, ◌∙◌, ap}
use Rattle.rv_cases.specs.Conditions.{is_in}
use Rattle.rv_cases.proofs.Gathering.{in_later, answers_later, gathers_later, meets_later, and-implied}
use Rattle.rv_cases.proofs.splitting.add_meets.Goals as goal

pub returns-then-within-clause-gathers : goal.returns-then-within-clause-gathers
returns-then-within-clause-gathers c =
    gathers_later c.args.store.now c.is_within.new.store c.add_meet.new.store.nodes
    (λ v. is_in c.is_within.new.store.nodes c.args.conditions.now c.args.i v && is_in c.is_within.new.store.nodes c.args.answers.now c.place_in-likely.result v)
    (is_in c.args.store.now.nodes c.args.conditions.now c.args.i) c.args.made.now.items c.add_meet.new.made.items c.in_ok-within.ensures.extends
    (λ v. ap (λ x. x && is_in c.is_within.new.store.nodes c.args.answers.now c.place_in-likely.result v)
    (in_later c.args.store.now c.is_within.new.store c.args.conditions.now c.in_ok-within.ensures.extends c.requires.conditions c.args.i c.requires.i v)
    ∙ ap (λ x. is_in c.args.store.now.nodes c.args.conditions.now c.args.i v && x)
    (in_later c.args.store.now c.is_within.new.store c.args.answers.now c.in_ok-within.ensures.extends c.requires.answers.found c.place_in-likely.result
    c.place_in-likely.ensures.known v)
    ∙ and-implied (is_in c.args.store.now.nodes c.args.conditions.now c.args.i v) (is_in c.args.store.now.nodes c.args.answers.now c.place_in-likely.result v)
    (c.in_ok-within.ensures.within c.if-within.true v))
    c.in_ok-_whole.ensures.gathers

pub returns-then-within-clause-met : goal.returns-then-within-clause-met
returns-then-within-clause-met c h =
    c.in_ok-_whole.ensures.met
    (meets_later c.args.store.now c.is_within.new.store c.args.conditions.now c.args.answers.now c.args.made.now.items c.in_ok-within.ensures.extends
    c.requires.conditions c.requires.answers.found c.requires.made h)

pub add_each-requires-clause-answers : goal.add_each-requires-clause-answers
add_each-requires-clause-answers c =
    answers_later c.args.store.now c.is_within.new.store c.args.answers.now c.in_ok-within.ensures.extends c.requires.answers

pub returns-clause-gathers : goal.returns-clause-gathers
returns-clause-gathers c =
    gathers_later c.args.store.now c.is_within.new.store c.add_each.new.store.nodes (is_in c.is_within.new.store.nodes c.args.conditions.now c.args.i)
    (is_in c.args.store.now.nodes c.args.conditions.now c.args.i) c.args.made.now.items c.add_each.new.made.items c.in_ok-within.ensures.extends
    (in_later c.args.store.now c.is_within.new.store c.args.conditions.now c.in_ok-within.ensures.extends c.requires.conditions c.args.i c.requires.i)
    c.in_ok-add_each.ensures.gathers

pub returns-clause-met : goal.returns-clause-met
returns-clause-met c h =
    c.in_ok-add_each.ensures.met
    (meets_later c.args.store.now c.is_within.new.store c.args.conditions.now c.args.answers.now c.args.made.now.items c.in_ok-within.ensures.extends
    c.requires.conditions c.requires.answers.found c.requires.made h)
