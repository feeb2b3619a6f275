use Rattle.std.proofs.Common.{sym, subst}
use Rattle.rv_diagram.specs.{Nodes.Diagrams, Growing.Extends}
use Rattle.rv_diagram.proofs.Growing.{extends_trans}
use Rattle.rv_leaving.specs.Exits.{AreTakenFrom, AreLeft}
use Rattle.rv_pairs.proofs.Counting.{labels_stay}
use Rattle.rv_rise.proofs.{Fitting.among_small, Giving.given_later, Giving.asked_later}
use Rattle.rv_rise.proofs.Passing.{given_within, reached_ordered, part_from, steps_are}
use Rattle.rv_rise.proofs.steps.steps_in.Goals as goal

pub rows_of-requires : goal.rows_of-requires
rows_of-requires c =
    let (s, given, asked, kept, begun) = c.requires in
    kept.size

pub with_claim-requires-clause-labels : goal.with_claim-requires-clause-labels
with_claim-requires-clause-labels c =
    let (s, given, asked, kept, begun) = c.requires in
    asked.labels

pub with_claim-requires-clause-given : goal.with_claim-requires-clause-given
with_claim-requires-clause-given c =
    let (s, given, asked, kept, begun) = c.requires in
    given_within s c.args.store.now c.args.relation.now c.args.questions.now c.args.frame.now given c.args.claim.now kept c.in_ok-given.given
    c.in_ok-given.ensures

pub open_within-requires-clause-allowed : goal.open_within-requires-clause-allowed
open_within-requires-clause-allowed c =
    let (s, given, asked, kept, begun) = c.requires in
    let later = asked_later s c.args.store.now c.with_claim.new.store c.args.asked.now c.with_claim.ensures.extends asked in
    later.found

pub open_within-requires-clause-labels : goal.open_within-requires-clause-labels
open_within-requires-clause-labels c =
    c.in_ok-labels.ensures.labels

pub open_within-requires-clause-reached : goal.open_within-requires-clause-reached
open_within-requires-clause-reached c =
    let (s, given, asked, kept, begun) = c.requires in
    reached_ordered s c.args.store.now c.with_claim.new.store c.args.relation.now c.args.questions.now c.args.frame.now given c.with_claim.ensures.extends
    c.args.claim.now kept

pub part_of-requires : goal.part_of-requires
part_of-requires c =
    c.in_ok-taken.ensures.found

pub risen_limits-requires-clause-asked : goal.risen_limits-requires-clause-asked
risen_limits-requires-clause-asked c =
    let (s, given, asked, kept, begun) = c.requires in
    let e2 : Extends c.args.store.now c.open_within.new.store = extends_trans c.args.store.now c.with_claim.new.store c.open_within.new.store
    c.with_claim.ensures.extends c.open_within.ensures.extends in
    let e3 : Extends c.args.store.now c.part_of.new.store = extends_trans c.args.store.now c.open_within.new.store c.part_of.new.store e2
    c.part_of.ensures.extends in
    let later = given_later s c.args.store.now c.part_of.new.store c.args.relation.now c.args.questions.now c.args.frame.now e3 given in
    let r = given.relation in
    let f = given.frame in
    (s, r.system, later.questions, f.sides)

pub risen_limits-requires-clause-sure : goal.risen_limits-requires-clause-sure
risen_limits-requires-clause-sure c =
    let p = c.in_ok-part.ensures.part in p.sure

pub risen_limits-requires-clause-taken : goal.risen_limits-requires-clause-taken
risen_limits-requires-clause-taken c =
    let p = c.in_ok-part.ensures.part in p.here

pub risen_limits-requires-clause-within : goal.risen_limits-requires-clause-within
risen_limits-requires-clause-within c =
    let p = c.in_ok-part.ensures.part in p.within

pub risen_limits-requires-clause-labels : goal.risen_limits-requires-clause-labels
risen_limits-requires-clause-labels c =
    labels_stay c.with_claim.new.store c.part_of.new.store c.in_ok-labels.labels
    (extends_trans c.with_claim.new.store c.open_within.new.store c.part_of.new.store c.open_within.ensures.extends c.part_of.ensures.extends)
    c.in_ok-labels.ensures.labels

pub risen_limits-requires-clause-sizes : goal.risen_limits-requires-clause-sizes
risen_limits-requires-clause-sizes c =
    let (s, given, asked, kept, begun) = c.requires in
    sym kept.size

pub risen_limits-requires-clause-thresholds : goal.risen_limits-requires-clause-thresholds
risen_limits-requires-clause-thresholds c =
    let (s, given, asked, kept, begun) = c.requires in
    let f = given.frame in
    f.small

pub risen_limits-requires-clause-small : goal.risen_limits-requires-clause-small
risen_limits-requires-clause-small c =
    let (s, given, asked, kept, begun) = c.requires in
    let f = given.frame in
    among_small c.args.frame.now.thresholds f.small c.args.claim.now.limits kept.among

pub leaving-requires : goal.leaving-requires
leaving-requires c =
    let (s, given, asked, kept, begun) = c.requires in
    let e2 : Extends c.args.store.now c.open_within.new.store = extends_trans c.args.store.now c.with_claim.new.store c.open_within.new.store
    c.with_claim.ensures.extends c.open_within.ensures.extends in
    let e3 : Extends c.args.store.now c.part_of.new.store = extends_trans c.args.store.now c.open_within.new.store c.part_of.new.store e2
    c.part_of.ensures.extends in
    let e4 : Extends c.args.store.now c.risen_limits.new.store = subst (λ (d : Diagrams). Extends c.args.store.now d) (sym c.risen_limits.ensures.same) e3 in
    let later4 = given_later s c.args.store.now c.risen_limits.new.store c.args.relation.now c.args.questions.now c.args.frame.now e4 given in
    let k = kept.control in
    let from4 : AreTakenFrom s c.risen_limits.new.store.nodes c.args.claim.now.reached c.in_ok-part.part.here =
    subst (λ (d : Diagrams). AreTakenFrom s d.nodes c.args.claim.now.reached c.in_ok-part.part.here) (sym c.risen_limits.ensures.same)
    (part_from s c.args.store.now c.args.relation.now c.args.questions.now c.args.frame.now given c.args.asked.now asked c.args.claim.now kept
    c.args.first begun c.in_ok-given.given c.in_ok-given.ensures c.with_claim.new.store c.in_ok-labels.labels c.with_claim.ensures.extends
    c.in_ok-labels.ensures.labels c.in_ok-labels.ensures.rows c.open_within.new.store c.in_ok-taken.taken c.open_within.ensures.extends
    c.in_ok-taken.ensures.exact
    c.part_of.new.store c.in_ok-part.part c.part_of.ensures.extends c.in_ok-part.ensures.part) in
    (s, later4.relation, k, from4)

pub returns-in_err-taken-clause-extends : goal.returns-in_err-taken-clause-extends
returns-in_err-taken-clause-extends c =
    extends_trans c.args.store.now c.with_claim.new.store c.open_within.new.store c.with_claim.ensures.extends c.open_within.ensures.extends

pub returns-in_err-part-clause-extends : goal.returns-in_err-part-clause-extends
returns-in_err-part-clause-extends c =
    let e2 : Extends c.args.store.now c.open_within.new.store = extends_trans c.args.store.now c.with_claim.new.store c.open_within.new.store
    c.with_claim.ensures.extends c.open_within.ensures.extends in
    let e3 : Extends c.args.store.now c.part_of.new.store = extends_trans c.args.store.now c.open_within.new.store c.part_of.new.store e2
    c.part_of.ensures.extends in
    e3

pub returns-in_err-risen-clause-extends : goal.returns-in_err-risen-clause-extends
returns-in_err-risen-clause-extends c =
    let e2 : Extends c.args.store.now c.open_within.new.store = extends_trans c.args.store.now c.with_claim.new.store c.open_within.new.store
    c.with_claim.ensures.extends c.open_within.ensures.extends in
    let e3 : Extends c.args.store.now c.part_of.new.store = extends_trans c.args.store.now c.open_within.new.store c.part_of.new.store e2
    c.part_of.ensures.extends in
    let e4 : Extends c.args.store.now c.risen_limits.new.store = subst (λ (d : Diagrams). Extends c.args.store.now d) (sym c.risen_limits.ensures.same) e3 in
    e4

pub returns-in_err-next-clause-extends : goal.returns-in_err-next-clause-extends
returns-in_err-next-clause-extends c =
    let e2 : Extends c.args.store.now c.open_within.new.store = extends_trans c.args.store.now c.with_claim.new.store c.open_within.new.store
    c.with_claim.ensures.extends c.open_within.ensures.extends in
    let e3 : Extends c.args.store.now c.part_of.new.store = extends_trans c.args.store.now c.open_within.new.store c.part_of.new.store e2
    c.part_of.ensures.extends in
    let e4 : Extends c.args.store.now c.risen_limits.new.store = subst (λ (d : Diagrams). Extends c.args.store.now d) (sym c.risen_limits.ensures.same) e3 in
    subst (λ (d : Diagrams). Extends c.args.store.now d) (sym c.leaving.ensures.same) e4

pub returns-clause-extends : goal.returns-clause-extends
returns-clause-extends c =
    let e2 : Extends c.args.store.now c.open_within.new.store = extends_trans c.args.store.now c.with_claim.new.store c.open_within.new.store
    c.with_claim.ensures.extends c.open_within.ensures.extends in
    let e3 : Extends c.args.store.now c.part_of.new.store = extends_trans c.args.store.now c.open_within.new.store c.part_of.new.store e2
    c.part_of.ensures.extends in
    let e4 : Extends c.args.store.now c.risen_limits.new.store = subst (λ (d : Diagrams). Extends c.args.store.now d) (sym c.risen_limits.ensures.same) e3 in
    subst (λ (d : Diagrams). Extends c.args.store.now d) (sym c.leaving.ensures.same) e4

pub returns-clause-steps : goal.returns-clause-steps
returns-clause-steps c s given asked kept begun =
    let e2 : Extends c.args.store.now c.open_within.new.store = extends_trans c.args.store.now c.with_claim.new.store c.open_within.new.store
    c.with_claim.ensures.extends c.open_within.ensures.extends in
    let e3 : Extends c.args.store.now c.part_of.new.store = extends_trans c.args.store.now c.open_within.new.store c.part_of.new.store e2
    c.part_of.ensures.extends in
    let e4 : Extends c.args.store.now c.risen_limits.new.store = subst (λ (d : Diagrams). Extends c.args.store.now d) (sym c.risen_limits.ensures.same) e3 in
    let later4 = given_later s c.args.store.now c.risen_limits.new.store c.args.relation.now c.args.questions.now c.args.frame.now e4 given in
    let later = given_later s c.args.store.now c.part_of.new.store c.args.relation.now c.args.questions.now c.args.frame.now e3 given in
    let r = given.relation in
    let f = given.frame in
    let k = kept.control in
    let from4 : AreTakenFrom s c.risen_limits.new.store.nodes c.args.claim.now.reached c.in_ok-part.part.here =
    subst (λ (d : Diagrams). AreTakenFrom s d.nodes c.args.claim.now.reached c.in_ok-part.part.here) (sym c.risen_limits.ensures.same)
    (part_from s c.args.store.now c.args.relation.now c.args.questions.now c.args.frame.now given c.args.asked.now asked c.args.claim.now kept
    c.args.first begun c.in_ok-given.given c.in_ok-given.ensures c.with_claim.new.store c.in_ok-labels.labels c.with_claim.ensures.extends
    c.in_ok-labels.ensures.labels c.in_ok-labels.ensures.rows c.open_within.new.store c.in_ok-taken.taken c.open_within.ensures.extends
    c.in_ok-taken.ensures.exact
    c.part_of.new.store c.in_ok-part.part c.part_of.ensures.extends c.in_ok-part.ensures.part) in
    let left : AreLeft s c.part_of.new.store.nodes c.args.claim.now.reached c.in_ok-part.part.here c.in_ok-next.next =
    subst (λ (d : Diagrams). AreLeft s d.nodes c.args.claim.now.reached c.in_ok-part.part.here c.in_ok-next.next) c.risen_limits.ensures.same
    (c.in_ok-next.ensures.left s later4.relation k from4) in
    steps_are s c.args.store.now c.args.relation.now c.args.questions.now c.args.frame.now given c.args.asked.now asked c.args.claim.now kept
    c.args.first begun c.in_ok-given.given c.in_ok-given.ensures c.with_claim.new.store c.in_ok-labels.labels c.with_claim.ensures.extends
    c.in_ok-labels.ensures.labels c.in_ok-labels.ensures.rows c.open_within.new.store c.in_ok-taken.taken c.open_within.ensures.extends
    c.in_ok-taken.ensures.exact
    c.part_of.new.store c.in_ok-part.part c.part_of.ensures.extends c.in_ok-part.ensures.part
    (record { next = c.in_ok-next.next; risen = c.in_ok-risen.risen }) left (c.in_ok-risen.ensures.risen s r.system later.questions f.sides)
    c.in_ok-risen.ensures.changed
