use Rattle.std.proofs.Common.{◌≡◌, rules, None, Some, inr}
use Rattle.rv_tree.specs.Tree.{program_tree}
use Rattle.rv_types.specs.{Earliest.first, Scopes.type_faults}
use Rattle.rv_types.proofs.{FirstLaws.first_none, Refusals.of_types}
use Rattle.rv_types.proofs.settling.check_types.Goals as goal

pub returns-in-None-clause-right : goal.returns-in-None-clause-right
returns-in-None-clause-right c =
    let none : first (type_faults (program_tree c.args.p.now)) ≡ None = search rules in
    first_none (type_faults (program_tree c.args.p.now)) none

pub returns-in-Some-clause-refused : goal.returns-in-Some-clause-refused
returns-in-Some-clause-refused c x named =
    let p = program_tree c.args.p.now in
    let found : Some c.in-Some.fault ≡ first (type_faults p) = search rules in
    of_types p x c.in-Some.fault named.has_main named.names (inr found)
