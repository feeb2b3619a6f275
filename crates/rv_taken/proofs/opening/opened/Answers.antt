use Rattle.std.proofs.Common.{length, List, sym, subst, arith}
use Rattle.std.proofs.lemmas.Result.{IfOk-weaker}
use Rattle.rv_diagram.proofs.Growing.{extends_trans}
use Rattle.rv_cases.specs.{Conditions.list_at, Questions.rows_at}
use Rattle.rv_cases.proofs.Keeping.{have_later}
use Rattle.rv_ends.specs.{Intervals.HasPoint, Intervals.Interval}
use Rattle.rv_ends.proofs.Stays.{ends_later, box_later}
use Rattle.rv_taken.proofs.Meetings.{rows_of_later, opened_exact}
use Rattle.rv_taken.proofs.opening.opened.Goals as goal

pub without_tests-requires-clause-answers : goal.without_tests-requires-clause-answers
without_tests-requires-clause-answers c =
    have_later c.args.store.now c.without_empty.new.store c.args.questions.now c.in_ok-some.ensures.extends c.requires.answers

pub without_tests-requires-clause-ends : goal.without_tests-requires-clause-ends
without_tests-requires-clause-ends c =
    ends_later c.args.store.now c.without_empty.new.store (length c.args.ends.now) c.args.ends.now c.in_ok-some.ensures.extends c.requires.ends

pub without_tests-requires-clause-opened : goal.without_tests-requires-clause-opened
without_tests-requires-clause-opened c v on = subst (λ (box : List Interval). HasPoint box)
    (sym (box_later c.args.store.now c.without_empty.new.store (length c.args.ends.now) c.args.ends.now v c.in_ok-some.ensures.extends c.requires.ends))
    ((c.in_ok-some.ensures.exact.means v).0 on).1

pub without_tests-requires-clause-rows : goal.without_tests-requires-clause-rows
without_tests-requires-clause-rows c t low =
    rows_of_later c.args.store.now c.without_empty.new.store c.args.ends.now c.args.whole c.in_ok-some.some
    (list_at c.args.questions.now.questions t) (rows_at c.args.questions.now.rows t) c.in_ok-some.ensures.extends c.requires.ends
    (c.requires.answers.one t (omega (arith, c.requires.answers.many))).found (c.requires.answers.tests t low)
    (λ v on. ((c.in_ok-some.ensures.exact.means v).0 on).0) (c.requires.rows t low)

pub returns-clause-extends : goal.returns-clause-extends
returns-clause-extends c = extends_trans c.args.store.now c.without_empty.new.store c.without_tests.new.store c.in_ok-some.ensures.extends
    c.without_tests.ensures.extends

pub returns-clause-exact : goal.returns-clause-exact
returns-clause-exact c = IfOk-weaker c.without_tests.result _ _
    (λ r is. opened_exact c.args.store.now c.without_empty.new.store c.without_tests.new.store.nodes c.args.ends.now c.args.questions.now c.args.whole
    c.in_ok-some.some r c.in_ok-some.ensures.extends c.requires.ends c.requires.answers c.in_ok-some.ensures.exact is)
    c.without_tests.ensures.exact
