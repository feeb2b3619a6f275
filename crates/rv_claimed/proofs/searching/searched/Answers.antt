use Rattle.std.proofs.Common.{sym, subst}
use Rattle.rv_diagram.specs.{Nodes.Diagrams, Nodes.IsOrderedOver, Nodes.IsRef}
use Rattle.rv_claimed.proofs.Sought.{searched_there, sought_of}
use Rattle.rv_claimed.proofs.searching.searched.Goals as goal

pub initial-requires : goal.initial-requires
initial-requires c = let (s, thresholds, is, opened) = c.requires in let given = is.given in (s, given.relation)

pub without-requires : goal.without-requires
without-requires c =
    let (s, thresholds, is, opened) = c.requires in
    let given = is.given in
    let of = given.relation in
    let parts = of.parts in
    let kept = is.kept in
    let set = kept.control in
    let initial = c.in_ok-first.ensures s of in
    let first = initial.control in
    record {
      a = subst (λ n. IsOrderedOver n c.args.claim.now.reached) (sym parts.variables) set.ordered;
      b = subst (λ n. IsOrderedOver n c.in_ok-first.first) (sym parts.variables) first.ordered;
    }

pub sought-requires : goal.sought-requires
sought-requires c =
    let (s, thresholds, is, opened) = c.requires in
    let given = is.given in
    let of = given.relation in
    let parts = of.parts in
    let kept = is.kept in
    let initial = c.in_ok-first.ensures s of in
    let there = searched_there s thresholds c.args.store.now c.without.new.store c.args.relation.now c.args.questions.now c.args.claim.now
    c.without.ensures.same is in (
      s,
      sought_of s c.without.new.store c.args.relation.now c.args.questions.now there.given c.parts.result.now c.parts.ensures thresholds
          c.args.claim.now there c.in_ok-first.first c.in_ok-rest.rest initial.control
          (c.in_ok-rest.ensures.control s parts.variables kept.control initial.control) c.args.taken
          (subst (λ (d : Diagrams). IsRef d.nodes c.args.taken) (sym c.without.ensures.same) opened.found),
    )

pub returns-in-Some-clause-found : goal.returns-in-Some-clause-found
returns-in-Some-clause-found c s thresholds is opened =
    let given = is.given in
    let of = given.relation in
    let parts = of.parts in
    let kept = is.kept in
    let initial = c.in_ok-first.ensures s of in
    let there = searched_there s thresholds c.args.store.now c.without.new.store c.args.relation.now c.args.questions.now c.args.claim.now
    c.without.ensures.same is in
    let found = c.in_ok-certificate.ensures.found s (sought_of s c.without.new.store c.args.relation.now c.args.questions.now there.given
    c.parts.result.now c.parts.ensures thresholds c.args.claim.now there c.in_ok-first.first c.in_ok-rest.rest initial.control
    (c.in_ok-rest.ensures.control s parts.variables kept.control initial.control) c.args.taken
    (subst (λ (d : Diagrams). IsRef d.nodes c.args.taken) (sym c.without.ensures.same) opened.found)) in
    record { document = rw c.in-Some.is at found; good = opened.good }
