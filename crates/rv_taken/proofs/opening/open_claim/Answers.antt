use Rattle.std.proofs.Common.{◌∙◌, ℕ, [], sym, subst, arith}
use Rattle.rv_diagram.specs.Nodes.{IsOrderedOver}
use Rattle.rv_diagram.proofs.Growing.{extends_trans, grows_extends}
use Rattle.rv_cases.proofs.Keeping.{have_later}
use Rattle.rv_ends.proofs.Stays.{ends_of_later}
use Rattle.rv_taken.proofs.Openings.{few_columns, ends_here, grown, ends_at, rows_at_last, taken_at_last}
use Rattle.rv_taken.proofs.opening.open_claim.Goals as goal

pub limited-requires-clause-ends : goal.limited-requires-clause-ends
limited-requires-clause-ends c = let (s, asked, are, lim) = c.requires in ends_here s c.args.store.now.nodes [] [] c.args.tests.now are

pub limited-requires-clause-upper : goal.limited-requires-clause-upper
limited-requires-clause-upper c = let (s, asked, are, lim) = c.requires in lim.upper_small

pub limited-requires-clause-lower : goal.limited-requires-clause-lower
limited-requires-clause-lower c = let (s, asked, are, lim) = c.requires in lim.lower_small

pub thaw-requires : goal.thaw-requires
thaw-requires c =
    let (s, asked, are, lim) = c.requires in
    subst (λ (n : ℕ). IsOrderedOver n c.args.reached.now) (sym (c.in_ok-ends.ensures.extends.variables ∙ asked.questions.variables)) lim.control.ordered

pub and-requires-clause-a : goal.and-requires-clause-a
and-requires-clause-a c =
    let (s, asked, are, lim) = c.requires in
    omega (arith, asked.allowed.0, c.in_ok-ends.ensures.extends.longer, c.in_ok-set.ensures.ok.grows.longer)

pub opened-requires-clause-answers : goal.opened-requires-clause-answers
opened-requires-clause-answers c =
    let (s, asked, are, lim) = c.requires in
    have_later c.args.store.now c.and.new.self c.args.questions.now
    (grown s c.args.store.now c.limited.new.store c.thaw.new.self c.and.new.self c.args.questions.now c.args.reached.now c.args.upper.now
    c.args.lower.now c.in_ok-ends.ends c.args.allowed c.in_ok-set.set c.in_ok-whole.whole c.in_ok-ends.ensures.extends
    (grows_extends c.limited.new.store c.thaw.new.self c.in_ok-set.ensures.ok.grows)
    (grows_extends c.thaw.new.self c.and.new.self c.in_ok-whole.ensures.ok.grows) asked lim
    (c.in_ok-ends.ensures.ends s asked.system (sym asked.questions.variables) are lim.uppers lim.lowers)
    c.in_ok-set.ensures.ok.means c.in_ok-whole.ensures.ok.means)
    asked.questions.answers

pub opened-requires-clause-ends : goal.opened-requires-clause-ends
opened-requires-clause-ends c =
    let (s, asked, are, lim) = c.requires in
    ends_here s c.and.new.self.nodes c.args.upper.now c.args.lower.now c.in_ok-ends.ends
    (ends_at s c.args.store.now c.limited.new.store c.thaw.new.self c.and.new.self c.args.questions.now c.args.reached.now c.args.upper.now
    c.args.lower.now c.in_ok-ends.ends c.args.allowed c.in_ok-set.set c.in_ok-whole.whole c.in_ok-ends.ensures.extends
    (grows_extends c.limited.new.store c.thaw.new.self c.in_ok-set.ensures.ok.grows)
    (grows_extends c.thaw.new.self c.and.new.self c.in_ok-whole.ensures.ok.grows) asked lim
    (c.in_ok-ends.ensures.ends s asked.system (sym asked.questions.variables) are lim.uppers lim.lowers)
    c.in_ok-set.ensures.ok.means c.in_ok-whole.ensures.ok.means)

pub opened-requires-clause-few : goal.opened-requires-clause-few
opened-requires-clause-few c =
    let (s, asked, are, lim) = c.requires in
    few_columns s c.args.store.now c.args.questions.now c.args.allowed c.and.new.self.nodes c.args.upper.now c.args.lower.now c.in_ok-ends.ends asked
    (ends_at s c.args.store.now c.limited.new.store c.thaw.new.self c.and.new.self c.args.questions.now c.args.reached.now c.args.upper.now
    c.args.lower.now c.in_ok-ends.ends c.args.allowed c.in_ok-set.set c.in_ok-whole.whole c.in_ok-ends.ensures.extends
    (grows_extends c.limited.new.store c.thaw.new.self c.in_ok-set.ensures.ok.grows)
    (grows_extends c.thaw.new.self c.and.new.self c.in_ok-whole.ensures.ok.grows) asked lim
    (c.in_ok-ends.ensures.ends s asked.system (sym asked.questions.variables) are lim.uppers lim.lowers)
    c.in_ok-set.ensures.ok.means c.in_ok-whole.ensures.ok.means)

pub opened-requires-clause-rows : goal.opened-requires-clause-rows
opened-requires-clause-rows c =
    let (s, asked, are, lim) = c.requires in
    rows_at_last s c.args.store.now c.limited.new.store c.thaw.new.self c.and.new.self c.args.questions.now c.args.reached.now c.args.upper.now
    c.args.lower.now c.in_ok-ends.ends c.args.allowed c.in_ok-set.set c.in_ok-whole.whole c.in_ok-ends.ensures.extends
    (grows_extends c.limited.new.store c.thaw.new.self c.in_ok-set.ensures.ok.grows)
    (grows_extends c.thaw.new.self c.and.new.self c.in_ok-whole.ensures.ok.grows) asked lim
    (c.in_ok-ends.ensures.ends s asked.system (sym asked.questions.variables) are lim.uppers lim.lowers)
    c.in_ok-set.ensures.ok.means c.in_ok-whole.ensures.ok.means

pub returns-in_err-taken-clause-extends : goal.returns-in_err-taken-clause-extends
returns-in_err-taken-clause-extends c =
    let (s, asked, are, lim) = c.requires in
    extends_trans c.args.store.now c.and.new.self c.opened.new.store
    (grown s c.args.store.now c.limited.new.store c.thaw.new.self c.and.new.self c.args.questions.now c.args.reached.now c.args.upper.now
    c.args.lower.now c.in_ok-ends.ends c.args.allowed c.in_ok-set.set c.in_ok-whole.whole c.in_ok-ends.ensures.extends
    (grows_extends c.limited.new.store c.thaw.new.self c.in_ok-set.ensures.ok.grows)
    (grows_extends c.thaw.new.self c.and.new.self c.in_ok-whole.ensures.ok.grows) asked lim
    (c.in_ok-ends.ensures.ends s asked.system (sym asked.questions.variables) are lim.uppers lim.lowers)
    c.in_ok-set.ensures.ok.means c.in_ok-whole.ensures.ok.means)
    c.opened.ensures.extends

pub returns-clause-extends : goal.returns-clause-extends
returns-clause-extends c =
    let (s, asked, are, lim) = c.requires in
    extends_trans c.args.store.now c.and.new.self c.opened.new.store
    (grown s c.args.store.now c.limited.new.store c.thaw.new.self c.and.new.self c.args.questions.now c.args.reached.now c.args.upper.now
    c.args.lower.now c.in_ok-ends.ends c.args.allowed c.in_ok-set.set c.in_ok-whole.whole c.in_ok-ends.ensures.extends
    (grows_extends c.limited.new.store c.thaw.new.self c.in_ok-set.ensures.ok.grows)
    (grows_extends c.thaw.new.self c.and.new.self c.in_ok-whole.ensures.ok.grows) asked lim
    (c.in_ok-ends.ensures.ends s asked.system (sym asked.questions.variables) are lim.uppers lim.lowers)
    c.in_ok-set.ensures.ok.means c.in_ok-whole.ensures.ok.means)
    c.opened.ensures.extends

pub returns-clause-taken : goal.returns-clause-taken
returns-clause-taken c s asked are lim =
    taken_at_last s c.args.store.now c.limited.new.store c.thaw.new.self c.and.new.self c.args.questions.now c.args.reached.now c.args.upper.now
    c.args.lower.now c.in_ok-ends.ends c.args.allowed c.in_ok-set.set c.in_ok-whole.whole c.in_ok-ends.ensures.extends
    (grows_extends c.limited.new.store c.thaw.new.self c.in_ok-set.ensures.ok.grows)
    (grows_extends c.thaw.new.self c.and.new.self c.in_ok-whole.ensures.ok.grows) asked lim
    (c.in_ok-ends.ensures.ends s asked.system (sym asked.questions.variables) are lim.uppers lim.lowers)
    c.in_ok-set.ensures.ok.means c.in_ok-whole.ensures.ok.means
    c.opened.new.store c.in_ok-taken.taken c.in_ok-taken.ensures.exact

pub returns-clause-ends : goal.returns-clause-ends
returns-clause-ends c s asked are lim =
    ends_of_later s c.and.new.self c.opened.new.store c.args.upper.now c.args.lower.now c.in_ok-ends.ends c.in_ok-taken.ensures.extends
    (ends_at s c.args.store.now c.limited.new.store c.thaw.new.self c.and.new.self c.args.questions.now c.args.reached.now c.args.upper.now
    c.args.lower.now c.in_ok-ends.ends c.args.allowed c.in_ok-set.set c.in_ok-whole.whole c.in_ok-ends.ensures.extends
    (grows_extends c.limited.new.store c.thaw.new.self c.in_ok-set.ensures.ok.grows)
    (grows_extends c.thaw.new.self c.and.new.self c.in_ok-whole.ensures.ok.grows) asked lim
    (c.in_ok-ends.ensures.ends s asked.system (sym asked.questions.variables) are lim.uppers lim.lowers)
    c.in_ok-set.ensures.ok.means c.in_ok-whole.ensures.ok.means)
