use Rattle.std.proofs.Common.{◌≡◌, ◌<◌, ℕ, List, [], length, ap, subst, arith}
use Rattle.std.proofs.lemmas.Option.{get_or_from_slice_get}
use Rattle.rv_cases.specs.{Conditions.list_at, Conditions.AreAnswers, Questions.rows_at}
use Rattle.rv_cover.proofs.answers.told_rows.Goals as goal

pub told_row-requires-clause-answers : goal.told_row-requires-clause-answers
told_row-requires-clause-answers c =
    let low : c.loop-test.test < length c.args.questions.now.questions = omega (arith, c.requires.answers.many) in
    let is : list_at c.args.questions.now.questions c.loop-test.test ≡ c.at-answers.result.now =
    get_or_from_slice_get c.args.questions.now.questions c.loop-test.test c.at-answers.result.now [] c.at-answers.ensures.value in
    subst (λ (l : List ℕ). AreAnswers c.args.store.now.nodes l) is (c.requires.answers.one c.loop-test.test low)

pub told_row-requires-clause-many : goal.told_row-requires-clause-many
told_row-requires-clause-many c =
    let known : c.loop-test.test < length c.args.questions.now.rows = omega arith in
    let is : list_at c.args.questions.now.questions c.loop-test.test ≡ c.at-answers.result.now =
    get_or_from_slice_get c.args.questions.now.questions c.loop-test.test c.at-answers.result.now [] c.at-answers.ensures.value in
    let rows_are : rows_at c.args.questions.now.rows c.loop-test.test ≡ c.at-rows.result.now =
    get_or_from_slice_get c.args.questions.now.rows c.loop-test.test c.at-rows.result.now [] c.at-rows.ensures.value in
    let size = c.requires.answers.tests c.loop-test.test known in
    omega (arith, size, ap length is, ap length rows_are)
