use Rattle.std.proofs.Common.{◌≡◌, ◌∙◌, pos, negsuc, sym, subst}
use Rattle.rv_diagram.specs.Nodes.{Diagrams}
use Rattle.rv_diagram.specs.Growing.{Extends}
use Rattle.rv_diagram.proofs.Growing.{extends_trans}
use Rattle.rv_boxes.specs.Claiming.{claim_of}
use Rattle.rv_least.proofs.{Opening.given_later, Opening.opened_there, Turning.all_later}
use Rattle.rv_least.proofs.rounds.steps_in.Goals as goal

pub opened-requires : goal.opened-requires
opened-requires c = let (s, given, asked, kept) = c.requires in (s, c.args.frame.now, given, asked.tests, kept)

pub risen_limits-requires-clause-system : goal.risen_limits-requires-clause-system
risen_limits-requires-clause-system c =
    let (s, given, asked, kept) = c.requires in
    let r = given.relation in
    let e = c.opened.ensures.extends in
    let later = given_later s c.args.store.now c.opened.new.store c.args.relation.now c.args.questions.now c.args.frame.now e given in (
      s,
      claim_of c.args.claim.now,
      pos 1,
      r.system,
      c.in_ok-opening.ensures.opened s c.args.frame.now given asked.tests kept,
      later.questions,
      all_later s c.args.store.now c.opened.new.store e c.args.questions.now given.questions (pos 1) c.args.asked.now.updates asked.updates,
      kept.uppers,
    )

pub risen_limits-requires-clause-thresholds : goal.risen_limits-requires-clause-thresholds
risen_limits-requires-clause-thresholds c = let (s, given, asked, kept) = c.requires in let f = given.frame in f.small

pub risen_limits-requires-2-clause-system : goal.risen_limits-requires-2-clause-system
risen_limits-requires-2-clause-system c =
    let (s, given, asked, kept) = c.requires in
    let r = given.relation in
    let e : Extends c.args.store.now c.risen_limits.new.store = subst (λ (d : Diagrams). Extends c.args.store.now d) (sym c.risen_limits.ensures.same)
    c.opened.ensures.extends in
    let later = given_later s c.args.store.now c.risen_limits.new.store c.args.relation.now c.args.questions.now c.args.frame.now e given in (
      s,
      claim_of c.args.claim.now,
      negsuc 0,
      r.system,
      opened_there s c.opened.new.store c.risen_limits.new.store (claim_of c.args.claim.now) c.in_ok-opening.opening c.risen_limits.ensures.same
          (c.in_ok-opening.ensures.opened s c.args.frame.now given asked.tests kept),
      later.questions,
      all_later s c.args.store.now c.risen_limits.new.store e c.args.questions.now given.questions (negsuc 0) c.args.asked.now.opposites asked.opposites,
      kept.lowers,
    )

pub risen_limits-requires-2-clause-thresholds : goal.risen_limits-requires-2-clause-thresholds
risen_limits-requires-2-clause-thresholds c = let (s, given, asked, kept) = c.requires in let f = given.frame in f.turned_small

pub next_of-requires : goal.next_of-requires
next_of-requires c =
    let (s, given, asked, kept) = c.requires in
    let same : c.risen_limits-2.new.store ≡ c.opened.new.store = c.risen_limits-2.ensures.same ∙ c.risen_limits.ensures.same in
    let e : Extends c.args.store.now c.risen_limits-2.new.store = subst (λ (d : Diagrams). Extends c.args.store.now d) (sym same) c.opened.ensures.extends in
    let later = given_later s c.args.store.now c.risen_limits-2.new.store c.args.relation.now c.args.questions.now c.args.frame.now e given in
    let o = opened_there s c.opened.new.store c.risen_limits-2.new.store (claim_of c.args.claim.now) c.in_ok-opening.opening same
    (c.in_ok-opening.ensures.opened s c.args.frame.now given asked.tests kept) in
    (s, c.args.frame.now, later.relation, given.frame, kept, o.taken)

pub returns-in_err-upper-clause-extends : goal.returns-in_err-upper-clause-extends
returns-in_err-upper-clause-extends c =
    subst (λ (d : Diagrams). Extends c.args.store.now d) (sym c.risen_limits.ensures.same) c.opened.ensures.extends

pub returns-in_err-lower-clause-extends : goal.returns-in_err-lower-clause-extends
returns-in_err-lower-clause-extends c =
    let same : c.risen_limits-2.new.store ≡ c.opened.new.store = c.risen_limits-2.ensures.same ∙ c.risen_limits.ensures.same in
    subst (λ (d : Diagrams). Extends c.args.store.now d) (sym same) c.opened.ensures.extends

pub returns-in_err-next-clause-extends : goal.returns-in_err-next-clause-extends
returns-in_err-next-clause-extends c =
    let same : c.risen_limits-2.new.store ≡ c.opened.new.store = c.risen_limits-2.ensures.same ∙ c.risen_limits.ensures.same in
    let e : Extends c.args.store.now c.risen_limits-2.new.store = subst (λ (d : Diagrams). Extends c.args.store.now d) (sym same) c.opened.ensures.extends in
    extends_trans c.args.store.now c.risen_limits-2.new.store c.next_of.new.store e c.next_of.ensures.extends

pub returns-clause-extends : goal.returns-clause-extends
returns-clause-extends c =
    let same : c.risen_limits-2.new.store ≡ c.opened.new.store = c.risen_limits-2.ensures.same ∙ c.risen_limits.ensures.same in
    let e : Extends c.args.store.now c.risen_limits-2.new.store = subst (λ (d : Diagrams). Extends c.args.store.now d) (sym same) c.opened.ensures.extends in
    extends_trans c.args.store.now c.risen_limits-2.new.store c.next_of.new.store e c.next_of.ensures.extends

pub returns-clause-steps : goal.returns-clause-steps
returns-clause-steps c s given asked kept =
    let r = given.relation in
    let e = c.opened.ensures.extends in
    let first = given_later s c.args.store.now c.opened.new.store c.args.relation.now c.args.questions.now c.args.frame.now e given in
    let opened = c.in_ok-opening.ensures.opened s c.args.frame.now given asked.tests kept in
    let e2 : Extends c.args.store.now c.risen_limits.new.store = subst (λ (d : Diagrams). Extends c.args.store.now d) (sym c.risen_limits.ensures.same) e in
    let second = given_later s c.args.store.now c.risen_limits.new.store c.args.relation.now c.args.questions.now c.args.frame.now e2 given in
    let same : c.risen_limits-2.new.store ≡ c.opened.new.store = c.risen_limits-2.ensures.same ∙ c.risen_limits.ensures.same in
    let e3 : Extends c.args.store.now c.risen_limits-2.new.store = subst (λ (d : Diagrams). Extends c.args.store.now d) (sym same) e in
    let third = given_later s c.args.store.now c.risen_limits-2.new.store c.args.relation.now c.args.questions.now c.args.frame.now e3 given in
    let o = opened_there s c.opened.new.store c.risen_limits-2.new.store (claim_of c.args.claim.now) c.in_ok-opening.opening same opened in
    record {
      next = c.in_ok-next.ensures.next s c.args.frame.now third.relation given.frame kept o.taken;
      upper = c.in_ok-upper.ensures.risen s (claim_of c.args.claim.now) (pos 1) r.system opened first.questions
          (all_later s c.args.store.now c.opened.new.store e c.args.questions.now given.questions (pos 1) c.args.asked.now.updates asked.updates) kept.uppers;
      upper_changed = c.in_ok-upper.ensures.changed;
      lower = c.in_ok-lower.ensures.risen s (claim_of c.args.claim.now) (negsuc 0) r.system
          (opened_there s c.opened.new.store c.risen_limits.new.store (claim_of c.args.claim.now) c.in_ok-opening.opening c.risen_limits.ensures.same opened)
          second.questions
          (all_later s c.args.store.now c.risen_limits.new.store e2 c.args.questions.now given.questions (negsuc 0) c.args.asked.now.opposites
          asked.opposites) kept.lowers;
      lower_changed = c.in_ok-lower.ensures.changed;
    }
