use Rattle.std.proofs.{Common.◌<◌, Common.length, Common.sym, Common.subst, Common.refl, Common.arith, lemmas.Option.slice_get_within}
use Rattle.rv_proofs.specs.{Verdicts.IsTarget, declared.certificate.EntryKind.EntryKind}
use Rattle.rv_accept.proofs.Later.{elsewhere_step, target_there}
use Rattle.rv_accept.proofs.entry.step_misses.Goals as goal

pub bounds-led-target : goal.bounds-led-target
bounds-led-target c = let (s, fits, range, are) = c.requires.given in
    let (j, is) = c.requires.entry in
    let (into, at) = target_there c.args.certificate.now c.args.location.now c.args.entry.now.kind _ _
    ((range.counts c.args.k c.args.location.now is.location).entries j c.args.entry.now is.entry) c.in-Go.is in
    let low : c.in-Go.target < length c.args.certificate.now.locations = slice_get_within c.args.certificate.now.locations c.in-Go.target into at in
    omega (arith, low, are.size)

pub bounds-led-k : goal.bounds-led-k
bounds-led-k c = let (s, fits, range, are) = c.requires.given in
    let (j, is) = c.requires.entry in
    let low : c.args.k < length c.args.certificate.now.locations = slice_get_within c.args.certificate.now.locations c.args.k c.args.location.now is.location in
    omega (arith, low, are.size)

pub returns-in-Go-clause-exact : goal.returns-in-Go-clause-exact
returns-in-Go-clause-exact c = let (s, fits, range, are) = c.requires.given in
    let (j, is) = c.requires.entry in
    let (into, at) = target_there c.args.certificate.now c.args.location.now c.args.entry.now.kind _ _
    ((range.counts c.args.k c.args.location.now is.location).entries j c.args.entry.now is.entry) c.in-Go.is in
    elsewhere_step c.misses_target.result c.args.store.now c.args.certificate.now c.args.k j c.in-Go.target c.args.location.now c.args.entry.now into
    c.args.scope c.args.led.now is (subst (λ (x : EntryKind). IsTarget c.args.certificate.now c.args.location.now x into) (sym c.in-Go.is) at) at
    c.misses_target.ensures.exact

pub returns-in-Loop-clause-exact : goal.returns-in-Loop-clause-exact
returns-in-Loop-clause-exact c = let (j, is) = c.requires.entry in
    elsewhere_step c.misses_target-in-Loop.result c.args.store.now c.args.certificate.now c.args.k j c.args.k c.args.location.now c.args.entry.now
    c.args.location.now c.args.scope c.args.led.now is
    (subst (λ (x : EntryKind). IsTarget c.args.certificate.now c.args.location.now x c.args.location.now) (sym c.in-Loop.is) refl) is.location
    c.misses_target-in-Loop.ensures.exact
