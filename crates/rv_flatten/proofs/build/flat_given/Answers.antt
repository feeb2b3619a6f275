use Rattle.std.proofs.Common.{◌≡◌, ◌≤◌, [], sym, ◌∙◌, ap, subst}
use Rattle.rv_types.specs.{Instances.name_at, Scopes.observer_faults, Settled.node_number}
use Rattle.rv_instances.specs.{AllInstances.AreCounted, Fitting.AreFew}
use Rattle.rv_flatten.specs.Building.{program_given, main_given}
use Rattle.rv_flatten.proofs.GivenParts.{main_name}
use Rattle.rv_flatten.proofs.build.flat_given.Goals as goal

pub found_in-requires-clause-counted : goal.found_in-requires-clause-counted
found_in-requires-clause-counted c = subst (AreCounted (program_given c.args.given.now)) (ap (name_at (program_given c.args.given.now)) (sym c.requires.main))
    c.requires.fits.counted

pub found_in-requires-clause-limits : goal.found_in-requires-clause-limits
found_in-requires-clause-limits c = subst (AreFew (program_given c.args.given.now)) (ap (name_at (program_given c.args.given.now)) (sym c.requires.main))
    c.requires.fits.few

pub flat_by-requires-clause-counted : goal.flat_by-requires-clause-counted
flat_by-requires-clause-counted c = subst (AreCounted (program_given c.args.given.now)) (ap (name_at (program_given c.args.given.now)) (sym c.requires.main))
    c.requires.fits.counted

pub flat_by-requires-clause-limits : goal.flat_by-requires-clause-limits
flat_by-requires-clause-limits c = subst (AreFew (program_given c.args.given.now)) (ap (name_at (program_given c.args.given.now)) (sym c.requires.main))
    c.requires.fits.few

pub flat_by-requires-clause-few : goal.flat_by-requires-clause-few
flat_by-requires-clause-few c = subst (λ n. n ≤ 200000) (sym c.requires.fits.nodes) c.requires.fits.few.expressions

pub flat_by-requires-clause-observer : goal.flat_by-requires-clause-observer
flat_by-requires-clause-observer c =
    let p = program_given c.args.given.now in let s = c.requires.fits.settled in
    let main : s.0 ≡ main_given c.args.given.now = sym (main_name p s.0 c.args.typed.now s.1) ∙ ap (name_at p) (sym c.requires.main) in
    subst (λ m. observer_faults p m ≡ []) main s.1.observer

pub flat_by-requires-clause-main : goal.flat_by-requires-clause-main
flat_by-requires-clause-main c =
    let p = program_given c.args.given.now in let s = c.requires.fits.settled in
    let main : s.0 ≡ main_given c.args.given.now = sym (main_name p s.0 c.args.typed.now s.1) ∙ ap (name_at p) (sym c.requires.main) in
    s.1.main_number ∙ ap (node_number p) main
