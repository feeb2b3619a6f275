use Rattle.std.proofs.Common.{arith}
use Rattle.rv_proofs.specs.Scopes.{implications}
use Rattle.rv_accept.proofs.{Ranged.entry_asked, Ranged.few_implications, Judged.few_judged, Judged.kept_kind, Judged.all_implied, Judged.first_implied}
use Rattle.rv_accept.proofs.implying.first_unimplied.Goals as goal

pub first_of_kind-requires : goal.first_of_kind-requires
first_of_kind-requires c = let (s, is, range, facts) = c.requires.given in
    let (k, j, at) = c.requires.entry in
    (s, is, facts.limits, entry_asked s c.args.certificate.now k j c.args.location.now c.args.entry.now range at)

pub overflow_cast-result : goal.overflow_cast-result
overflow_cast-result c = let (s, is, range, facts) = c.requires.given in
    let (k, j, at) = c.requires.entry in
    let h = rw c.in-Some.is at c.in_ok-n.ensures in
    let low = few_judged c.args.facts.now.rows c.args.facts.now.forms
    (implications c.args.certificate.now c.args.location.now c.args.entry.now.kind) c.in-Some.n h in
    let few = few_implications s c.args.certificate.now k j c.args.location.now c.args.entry.now range at in
    omega (arith, low, few)

pub returns-in-Some : goal.returns-in-Some
returns-in-Some c = λ s is range facts.
    let (k, j, at) = c.requires.entry in
    let h = rw c.in-Some.is at c.in_ok-n.ensures in
    first_implied s c.args.certificate.now c.args.location.now c.args.entry.now c.args.facts.now.rows c.args.facts.now.forms is
    (kept_kind s c.args.certificate.now c.args.location.now c.args.entry.now.kind
    (entry_asked s c.args.certificate.now k j c.args.location.now c.args.entry.now range at)) facts c.in-Some.n h

pub returns-in-None : goal.returns-in-None
returns-in-None c = λ s is range facts.
    let (k, j, at) = c.requires.entry in
    let h = rw c.in-None.is at c.in_ok-n.ensures in
    all_implied s c.args.certificate.now c.args.location.now c.args.entry.now c.args.facts.now.rows c.args.facts.now.forms is
    (kept_kind s c.args.certificate.now c.args.location.now c.args.entry.now.kind
    (entry_asked s c.args.certificate.now k j c.args.location.now c.args.entry.now range at)) facts h
