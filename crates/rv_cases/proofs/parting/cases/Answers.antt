use Rattle.std.proofs.{Common.ℕ, Common.sym, Common.subst, Common.arith, lemmas.Result.IfOk-weaker}
use Rattle.rv_diagram.specs.Nodes.{IsOrderedOver}
use Rattle.rv_proofs.specs.Cases.{AreCases}
use Rattle.rv_cases.specs.Made.{is_allowed_in, AreMadeOf, AreDifferent}
use Rattle.rv_cases.proofs.{Covering.made_cases, Differing.made_different}
use Rattle.rv_cases.proofs.parting.cases.Goals as goal

pub take_cases-answer-requires-clause-allowed : goal.take_cases-answer-requires-clause-allowed
take_cases-answer-requires-clause-allowed c = c.requires.3.0

pub take_cases-answer-requires-clause-answers : goal.take_cases-answer-requires-clause-answers
take_cases-answer-requires-clause-answers c = c.requires.2.answers

pub take_cases-answer-requires-clause-few : goal.take_cases-answer-requires-clause-few
take_cases-answer-requires-clause-few c =
    let asked = c.requires.2 in
    let limits = c.requires.1.limits in
    omega (arith, asked.answers.many, asked.many_tests, asked.many_memories, limits.tests, limits.memories)

pub take_cases-answer-requires-clause-from : goal.take_cases-answer-requires-clause-from
take_cases-answer-requires-clause-from c = subst (λ (n : ℕ). IsOrderedOver n c.args.from.now) (sym c.requires.2.variables) c.requires.4.ordered

pub returns-clause-parted : goal.returns-clause-parted
returns-clause-parted c s system asked meant control =
    IfOk-weaker c.take_cases-answer.result
    (AreMadeOf c.args.store.now c.args.questions.now (is_allowed_in c.args.store.now.nodes c.args.allowed c.args.from.now)) (AreCases s c.args.from.now)
    (λ cases is. made_cases s c.args.store.now c.args.questions.now c.args.allowed c.args.from.now cases system asked meant control is)
    c.take_cases-answer.ensures.made

pub returns-clause-different : goal.returns-clause-different
returns-clause-different c s asked distinct =
    IfOk-weaker c.take_cases-answer.result
    (AreMadeOf c.args.store.now c.args.questions.now (is_allowed_in c.args.store.now.nodes c.args.allowed c.args.from.now)) AreDifferent
    (λ cases is. made_different s c.args.store.now c.args.questions.now (is_allowed_in c.args.store.now.nodes c.args.allowed c.args.from.now) cases
    asked distinct is)
    c.take_cases-answer.ensures.made
