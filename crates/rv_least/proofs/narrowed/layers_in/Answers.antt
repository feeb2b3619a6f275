use Rattle.std.proofs.Common.{◌∙◌, Ok, ap, refl, sym, subst}
use Rattle.rv_diagram.specs.{Nodes.Diagrams, Growing.Extends}
use Rattle.rv_diagram.proofs.Growing.{extends_trans}
use Rattle.rv_symbolic.proofs.Scheduling.{relation_after}
use Rattle.rv_boxes.specs.{Claiming.claim_of, Narrowed.narrowed}
use Rattle.rv_boxes.proofs.Narrowing.{narrowed_plain, bad_layers, not_good}
use Rattle.rv_least.proofs.narrowed.layers_in.Goals as goal

pub opened_anew-requires : goal.opened_anew-requires
opened_anew-requires c = let (s, given, least, bad) = c.requires in (s, c.args.frame.now, given, refl, least.kept)

pub relation_in-requires-clause-relation : goal.relation_in-requires-clause-relation
relation_in-requires-clause-relation c =
    let (s, given, least, bad) = c.requires in
    (s, relation_after s c.args.store.now c.opened_anew.new.store c.args.relation.now c.opened_anew.ensures.extends given.relation)

pub relation_in-requires-clause-taken : goal.relation_in-requires-clause-taken
relation_in-requires-clause-taken c =
    let (s, given, least, bad) = c.requires in
    let o = c.in_ok-opening.ensures.opened s c.args.frame.now given refl least.kept in
    let t = o.taken in
    t.found

pub walk-requires : goal.walk-requires
walk-requires c =
    let (s, given, least, bad) = c.requires in
    let r = given.relation in
    let kept = least.kept in
    let of = least.least in
    let o = c.in_ok-opening.ensures.opened s c.args.frame.now given refl kept in
    let later = relation_after s c.args.store.now c.opened_anew.new.store c.args.relation.now c.opened_anew.ensures.extends r in
    let n = c.in_ok-narrowed.ensures.narrowed s c.args.frame.now c.args.claim.now later given.frame kept o.taken in (
      narrowed s n.taken,
      n.relation,
      narrowed_plain s r.system c.args.frame.now.thresholds (claim_of c.args.claim.now) of.claim kept.states n.taken n.exact,
    )

pub unreachable-requires : goal.unreachable-requires
unreachable-requires c =
    let (s, given, least, bad) = c.requires in
    let r = given.relation in
    let kept = least.kept in
    let of = least.least in
    let o = c.in_ok-opening.ensures.opened s c.args.frame.now given refl kept in
    let later = relation_after s c.args.store.now c.opened_anew.new.store c.args.relation.now c.opened_anew.ensures.extends r in
    let n = c.in_ok-narrowed.ensures.narrowed s c.args.frame.now c.args.claim.now later given.frame kept o.taken in
    let plain = narrowed_plain s r.system c.args.frame.now.thresholds (claim_of c.args.claim.now) of.claim kept.states n.taken n.exact in
    let good = c.walk.ensures.good (narrowed s n.taken) c.in-Good.field-0 n.relation plain (c.in_ok-layers.was ∙ ap Ok c.in-Good.is) in
    not_good s r.system c.args.frame.now.thresholds (claim_of c.args.claim.now) of.claim kept.states n.taken n.exact of c.in-Good.field-0 good bad.0 bad.1
    bad.2

pub returns-in_err-narrowed-clause-extends : goal.returns-in_err-narrowed-clause-extends
returns-in_err-narrowed-clause-extends c = extends_trans c.args.store.now c.opened_anew.new.store c.relation_in.new.store c.opened_anew.ensures.extends
    c.relation_in.ensures.extends

pub returns-in_err-layers-clause-extends : goal.returns-in_err-layers-clause-extends
returns-in_err-layers-clause-extends c =
    subst (λ (d : Diagrams). Extends c.args.store.now d) (sym c.walk.ensures.same)
    (extends_trans c.args.store.now c.opened_anew.new.store c.relation_in.new.store c.opened_anew.ensures.extends c.relation_in.ensures.extends)

pub returns-clause-extends : goal.returns-clause-extends
returns-clause-extends c =
    subst (λ (d : Diagrams). Extends c.args.store.now d) (sym c.walk.ensures.same)
    (extends_trans c.args.store.now c.opened_anew.new.store c.relation_in.new.store c.opened_anew.ensures.extends c.relation_in.ensures.extends)

pub returns-clause-layers : goal.returns-clause-layers
returns-clause-layers c s given least =
    let r = given.relation in
    let kept = least.kept in
    let of = least.least in
    let o = c.in_ok-opening.ensures.opened s c.args.frame.now given refl kept in
    let later = relation_after s c.args.store.now c.opened_anew.new.store c.args.relation.now c.opened_anew.ensures.extends r in
    let n = c.in_ok-narrowed.ensures.narrowed s c.args.frame.now c.args.claim.now later given.frame kept o.taken in
    let plain = narrowed_plain s r.system c.args.frame.now.thresholds (claim_of c.args.claim.now) of.claim kept.states n.taken n.exact in
    let bad = c.walk.ensures.bad (narrowed s n.taken) c.in-Bad.layers n.relation plain (c.in_ok-layers.was ∙ ap Ok c.in-Bad.is) in
    bad_layers s r.system c.args.frame.now.thresholds (claim_of c.args.claim.now) of.claim kept.states n.taken n.exact of c.in-Bad.layers bad
