use Rattle.std.proofs.Common.{◌<◌, arith, sym, subst}
use Rattle.rv_diagram.specs.{Nodes.Diagrams, Growing.Extends}
use Rattle.rv_claimed.proofs.Sought.{searched_later, means_of}
use Rattle.rv_claimed.proofs.searching.found_in.Goals as goal

pub opened-requires : goal.opened-requires
opened-requires c =
    let (s, thresholds, is) = c.requires in
    let means = means_of s c.args.store.now c.args.relation.now c.args.questions.now is.given c.parts.result.now c.parts.ensures in
    let size = means.states in (s, thresholds, is, omega (arith, size, c.len-bits.ensures, c.if-bits-eq0.false))

pub searched-requires : goal.searched-requires
searched-requires c =
    let (s, thresholds, is) = c.requires in
    let means = means_of s c.args.store.now c.args.relation.now c.args.questions.now is.given c.parts.result.now c.parts.ensures in
    let size = means.states in
    let some : 0 < s.states = omega (arith, size, c.len-bits.ensures, c.if-bits-eq0.false) in (
      s,
      thresholds,
      searched_later s thresholds c.args.store.now c.opened.new.store c.args.relation.now c.args.questions.now c.args.claim.now c.opened.ensures.extends is,
      rw c.in-Some.is at c.in_ok-taken.ensures.opened s thresholds is some,
    )

pub returns-in-Some-clause-extends : goal.returns-in-Some-clause-extends
returns-in-Some-clause-extends c =
    subst (λ (d : Diagrams). Extends c.args.store.now d) (sym c.searched.ensures.same) c.opened.ensures.extends

pub returns-in-Some-clause-found : goal.returns-in-Some-clause-found
returns-in-Some-clause-found c s thresholds is =
    let means = means_of s c.args.store.now c.args.relation.now c.args.questions.now is.given c.parts.result.now c.parts.ensures in
    let size = means.states in
    let some : 0 < s.states = omega (arith, size, c.len-bits.ensures, c.if-bits-eq0.false) in
    c.searched.ensures.found s thresholds
    (searched_later s thresholds c.args.store.now c.opened.new.store c.args.relation.now c.args.questions.now c.args.claim.now c.opened.ensures.extends is)
    (rw c.in-Some.is at c.in_ok-taken.ensures.opened s thresholds is some)

pub returns-in-None-clause-found : goal.returns-in-None-clause-found
returns-in-None-clause-found c s thresholds is =
    let means = means_of s c.args.store.now c.args.relation.now c.args.questions.now is.given c.parts.result.now c.parts.ensures in
    let size = means.states in
    let some : 0 < s.states = omega (arith, size, c.len-bits.ensures, c.if-bits-eq0.false) in
    rw c.in-None.is at c.in_ok-taken.ensures.opened s thresholds is some
