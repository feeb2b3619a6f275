use Rattle.std.proofs.Common.{◌≡◌, ◌<◌, ℕ, List, [], length, subst, arith}
use Rattle.std.proofs.lemmas.Option.{get_or_from_slice_get}
use Rattle.rv_cases.specs.Conditions.{list_at, AreAnswers}
use Rattle.rv_cover.proofs.answers.test_answers.Goals as goal

pub add_if-requires-clause-answers : goal.add_if-requires-clause-answers
add_if-requires-clause-answers c =
    let low : c.loop-test.test < length c.args.questions.now.questions = omega (arith, c.requires.answers.many) in
    let is : list_at c.args.questions.now.questions c.loop-test.test ≡ c.at-answers.result.now =
    get_or_from_slice_get c.args.questions.now.questions c.loop-test.test c.at-answers.result.now [] c.at-answers.ensures.value in
    subst (λ (l : List ℕ). AreAnswers c.args.store.now.nodes l) is (c.requires.answers.one c.loop-test.test low)
