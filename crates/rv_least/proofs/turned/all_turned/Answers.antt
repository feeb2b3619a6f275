use Rattle.std.proofs.Common.{◌≡◌, ◌+◌, ◌<◌, List, length, arith, sym, ap, subst}
use Rattle.rv_rows.specs.declared.linear.Form.{Form}
use Rattle.rv_cases.specs.Questions.{memory_answers}
use Rattle.rv_least.specs.Turned.{sign_of, AreAllTurned}
use Rattle.rv_least.proofs.Turning.{all_more, answers_at, forms_there, asked_here, turned_here}
use Rattle.rv_least.proofs.turned.all_turned.Goals as goal

pub loop-memory-init : goal.loop-memory-init
loop-memory-init c = λ s is q. record { size = ap length c.new-lists.ensures; each = λ k l. absurd (omega (arith, l)) }

pub overflow_add-question : goal.overflow_add-question
overflow_add-question c =
    let (s, is, q) = c.requires in
    let l = is.limits in
    let tests = l.tests in
    let memories = l.memories in
    omega (arith, tests, memories, q.many_tests, q.many_memories, c.len-tests.ensures, c.loop-memory-test.true, c.len-memory-end.ensures)

pub at-answers-requires : goal.at-answers-requires
at-answers-requires c =
    let (s, is, q) = c.requires in
    omega (arith, q.answers.many, c.len-tests.ensures, c.loop-memory-test.true, c.len-memory-end.ensures)

pub turned_forms-requires-clause-found : goal.turned_forms-requires-clause-found
turned_forms-requires-clause-found c =
    let (s, is, q) = c.requires in
    let k = c.loop-memory.memory in
    let known : k < s.memories = omega (arith, q.many_memories, c.loop-memory-test.true, c.len-memory-end.ensures) in
    let e : memory_answers c.args.questions.now k ≡ c.as_slice-given.result.now = answers_at c.args.questions.now c.len-tests.result k
    c.at-answers.result.now c.as_slice-given.result.now c.len-tests.ensures c.at-answers.ensures.value c.as_slice-given.ensures in
    let here = asked_here s is c.args.store.now c.args.questions.now q k known c.as_slice-given.result.now c.at-forms.result.now e
    (forms_there c.args.questions.now.forms k c.at-forms.result.now c.at-forms.ensures.value) in
    let answers = here.0 in
    answers.found

pub turned_forms-requires-clause-many : goal.turned_forms-requires-clause-many
turned_forms-requires-clause-many c =
    let (s, is, q) = c.requires in
    let k = c.loop-memory.memory in
    let known : k < s.memories = omega (arith, q.many_memories, c.loop-memory-test.true, c.len-memory-end.ensures) in
    let e : memory_answers c.args.questions.now k ≡ c.as_slice-given.result.now = answers_at c.args.questions.now c.len-tests.result k
    c.at-answers.result.now c.as_slice-given.result.now c.len-tests.ensures c.at-answers.ensures.value c.as_slice-given.ensures in
    (asked_here s is c.args.store.now c.args.questions.now q k known c.as_slice-given.result.now c.at-forms.result.now e
    (forms_there c.args.questions.now.forms k c.at-forms.result.now c.at-forms.ensures.value)).1

pub turned_forms-requires-clause-update : goal.turned_forms-requires-clause-update
turned_forms-requires-clause-update c =
    let (s, is, q) = c.requires in
    let k = c.loop-memory.memory in
    let known : k < s.memories = omega (arith, q.many_memories, c.loop-memory-test.true, c.len-memory-end.ensures) in
    let e : memory_answers c.args.questions.now k ≡ c.as_slice-given.result.now = answers_at c.args.questions.now c.len-tests.result k
    c.at-answers.result.now c.as_slice-given.result.now c.len-tests.ensures c.at-answers.ensures.value c.as_slice-given.ensures in (
      s,
      k,
      (asked_here s is c.args.store.now c.args.questions.now q k known c.as_slice-given.result.now c.at-forms.result.now e
          (forms_there c.args.questions.now.forms k c.at-forms.result.now c.at-forms.ensures.value)).2,
    )

pub loop-memory-preserved : goal.loop-memory-preserved
loop-memory-preserved c = λ s is q.
    let k = c.loop-memory.memory in
    let known : k < s.memories = omega (arith, q.many_memories, c.loop-memory-test.true, c.len-memory-end.ensures) in
    let e : memory_answers c.args.questions.now k ≡ c.as_slice-given.result.now = answers_at c.args.questions.now c.len-tests.result k
    c.at-answers.result.now c.as_slice-given.result.now c.len-tests.ensures c.at-answers.ensures.value c.as_slice-given.ensures in
    let given = (asked_here s is c.args.store.now c.args.questions.now q k known c.as_slice-given.result.now c.at-forms.result.now e
    (forms_there c.args.questions.now.forms k c.at-forms.result.now c.at-forms.ensures.value)).2 in
    subst (λ (ls : List (List Form)). AreAllTurned s c.args.store.now.nodes c.args.questions.now (sign_of c.args.sign) (k + 1) ls)
    (sym c.in_ok-push.ensures.ok)
    (all_more s c.args.store.now.nodes c.args.questions.now (sign_of c.args.sign) k c.loop-memory.lists c.in_ok-list.list (c.loop-memory.invariant s is q)
    (turned_here s c.args.store.now.nodes k (sign_of c.args.sign) c.as_slice-given.result.now (memory_answers c.args.questions.now k) c.in_ok-list.list
    (sym e) (c.in_ok-list.ensures s k given)))

pub returns : goal.returns
returns c = λ s is q.
    let e : c.loop-memory.memory ≡ s.memories = omega (arith, c.loop-memory-test.false, c.loop-memory.auto, c.len-memory-end.ensures, q.many_memories) in
    subst (λ n. AreAllTurned s c.args.store.now.nodes c.args.questions.now (sign_of c.args.sign) n c.loop-memory.lists) e
    (c.loop-memory.invariant s is q)
