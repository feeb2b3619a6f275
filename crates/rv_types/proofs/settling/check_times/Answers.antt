use Rattle.std.proofs.Common.{◌≡◌, [], rules}
use Rattle.rv_tree.specs.Tree.{program_tree}
use Rattle.rv_types.specs.{Clocks.clock_faults, Settled.HasCause}
use Rattle.rv_types.proofs.Refusals.{of_clocks, of_observer}
use Rattle.rv_types.proofs.settling.check_times.Goals as goal

pub returns-in_err-clocks-clause-refused : goal.returns-in_err-clocks-clause-refused
returns-in_err-clocks-clause-refused c x named =
    let p = program_tree c.args.p.now in
    let cause : HasCause p x c.in_err-clocks.field-0.0 =
    of_clocks p x c.in_err-clocks.field-0.0 named.has_main named.names c.requires.types c.in_err-clocks.ensures.refused in
    search rules

-- the clocks are right where the observer is judged
pub returns-in_err-check_observer-clause-refused : goal.returns-in_err-check_observer-clause-refused
returns-in_err-check_observer-clause-refused c x named =
    let p = program_tree c.args.p.now in
    let clocks : clock_faults p ≡ [] = search rules in
    let cause : HasCause p x c.in_err-check_observer.field-0.0 =
    of_observer p x c.in_err-check_observer.field-0.0 named.has_main named.names c.requires.types clocks
    (c.in_err-check_observer.ensures.refused x named.main_number) in
    search rules
