use Rattle.std.proofs.Common.{arith}
use Rattle.rv_rise.proofs.Widths.{first_answers, first_wide}
use Rattle.rv_rise.proofs.columns.columns_of.Goals as goal

pub at-answers-requires : goal.at-answers-requires
at-answers-requires c =
    let (s, is, are) = c.requires in
    let a = are.answers in
    let m = a.many in
    omega (arith, m, c.len-tests.ensures)

pub columns_in-requires-clause-answers : goal.columns_in-requires-clause-answers
columns_in-requires-clause-answers c =
    let (s, is, are) = c.requires in
    (first_answers s c.args.store.now c.args.questions.now are (omega (arith, c.len-memories.ensures, c.if-memories-eq0.false)) c.at-answers.result.now
    c.at-forms.result.now (rw (← c.len-tests.ensures) c.at-answers.ensures.value) c.at-forms.ensures.value).0

pub columns_in-requires-clause-many : goal.columns_in-requires-clause-many
columns_in-requires-clause-many c =
    let (s, is, are) = c.requires in
    (first_answers s c.args.store.now c.args.questions.now are (omega (arith, c.len-memories.ensures, c.if-memories-eq0.false)) c.at-answers.result.now
    c.at-forms.result.now (rw (← c.len-tests.ensures) c.at-answers.ensures.value) c.at-forms.ensures.value).1

pub returns-then-memories-eq0 : goal.returns-then-memories-eq0
returns-then-memories-eq0 c s is are some = absurd (omega (arith, some, are.many_memories, c.len-memories.ensures, c.if-memories-eq0.true))

pub returns : goal.returns
returns c s is are some =
    c.columns_in.ensures s.columns (λ i g v at on. first_wide s c.args.store.now c.args.questions.now is are some c.at-answers.result.now
    c.at-forms.result.now (rw (← c.len-tests.ensures) c.at-answers.ensures.value) c.at-forms.ensures.value i g v at on)
