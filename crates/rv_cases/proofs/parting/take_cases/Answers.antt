use Rattle.std.proofs.Common.{◌<◌, ℕ, sym, subst, length, List}
use Rattle.rv_diagram.specs.Several.{ref_at}
use Rattle.rv_diagram.proofs.Growing.{extends_trans}
use Rattle.rv_cases.specs.Conditions.{AreRefs, AreAnswers, AreWithin, list_at}
use Rattle.rv_cases.specs.{Questions.HaveAnswers, Questions.IsSettledFor, Made.is_allowed_in}
use Rattle.rv_cases.proofs.Keeping.{have_later, settled_from, taken}
use Rattle.rv_cases.proofs.parting.take_cases.Goals as goal

pub split_whole-requires-clause-questions : goal.split_whole-requires-clause-questions
split_whole-requires-clause-questions c =
    let have : HaveAnswers c.allowed_within.new.store.nodes c.args.questions.now =
    have_later c.args.store.now c.allowed_within.new.store c.args.questions.now c.in_ok-whole.ensures.extends c.requires.answers in
    subst (λ (l : List (List ℕ)). (q : ℕ) → q < length l → AreAnswers c.allowed_within.new.store.nodes (list_at l q)) (sym c.as_slice.ensures) have.one

pub make_cases-requires-clause-conditions : goal.make_cases-requires-clause-conditions
make_cases-requires-clause-conditions c = subst (λ (l : List ℕ). AreRefs c.split_whole.new.store.nodes l) (sym c.as_slice-2.ensures.value)
    c.in_ok-conditions.ensures.parted.found

pub make_cases-requires-clause-answers : goal.make_cases-requires-clause-answers
make_cases-requires-clause-answers c = have_later c.args.store.now c.split_whole.new.store c.args.questions.now
    (extends_trans c.args.store.now c.allowed_within.new.store c.split_whole.new.store c.in_ok-whole.ensures.extends c.in_ok-conditions.ensures.extends)
    c.requires.answers

pub make_cases-requires-clause-settled : goal.make_cases-requires-clause-settled
make_cases-requires-clause-settled c =
    let have : HaveAnswers c.allowed_within.new.store.nodes c.args.questions.now =
    have_later c.args.store.now c.allowed_within.new.store c.args.questions.now c.in_ok-whole.ensures.extends c.requires.answers in
    let within : (i : ℕ) → i < length c.args.questions.now.questions → AreWithin c.allowed_within.new.store.nodes c.split_whole.new.store.nodes
    (list_at c.args.questions.now.questions i) c.in_ok-conditions.conditions.items =
    subst (λ (l : List (List ℕ)). (i : ℕ) → i < length l → AreWithin c.allowed_within.new.store.nodes c.split_whole.new.store.nodes (list_at l i)
    c.in_ok-conditions.conditions.items) c.as_slice.ensures c.in_ok-conditions.ensures.answered in
    subst (λ (l : List ℕ). (j : ℕ) → j < length l → IsSettledFor c.split_whole.new.store.nodes c.args.questions.now (ref_at l j)) (sym
    c.as_slice-2.ensures.value)
    (settled_from c.allowed_within.new.store c.split_whole.new.store c.args.questions.now c.in_ok-conditions.conditions.items c.in_ok-conditions.ensures.extends
    have within)

pub returns-clause-made : goal.returns-clause-made
returns-clause-made c =
    taken c.args.store.now c.allowed_within.new.store c.split_whole.new.store c.args.questions.now
    (is_allowed_in c.args.store.now.nodes c.args.allowed c.args.from.now) c.in_ok-whole.whole c.as_slice.result.now c.in_ok-conditions.conditions.items
    c.as_slice-2.result.now c.in_ok-cases.cases c.as_slice.ensures c.as_slice-2.ensures.value c.requires.answers c.in_ok-whole.ensures.extends
    c.in_ok-conditions.ensures.extends c.in_ok-whole.ensures.means c.in_ok-conditions.ensures.parted c.in_ok-conditions.ensures.joined
    c.in_ok-cases.ensures.many c.in_ok-cases.ensures.made

pub returns-clause-extends : goal.returns-clause-extends
returns-clause-extends c = extends_trans c.args.store.now c.allowed_within.new.store c.split_whole.new.store c.in_ok-whole.ensures.extends
    c.in_ok-conditions.ensures.extends
