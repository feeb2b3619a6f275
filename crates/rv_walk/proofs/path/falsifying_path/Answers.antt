use Rattle.std.proofs.Common.{Bool, List, Option, Result, IfOk, subst}
use Rattle.rv_diagram.specs.declared.store.StoreFault.{StoreFault}
use Rattle.rv_symbolic.proofs.Extending.{map_ok}
use Rattle.rv_walk.specs.Trails.{AreControlSets, IsPathThrough}
use Rattle.rv_walk.proofs.Trailing.{falsified, shortest, always_found}
use Rattle.rv_walk.proofs.path.falsifying_path.Goals as goal

pub returns-clause-falsifies : goal.returns-clause-falsifies
returns-clause-falsifies c s words is without each e =
    let are : AreControlSets s c.in_ok-first.first c.args.layers.now.sets = record { initial = c.in_ok-first.ensures s is; each = each } in
    falsified s c.in_ok-first.first c.args.layers.now.sets without are words
    (subst (λ (o : Result (Option (List (List Bool))) StoreFault). IfOk o (IsPathThrough s c.in_ok-first.first c.args.layers.now.sets)) e
    (c.path_through.ensures.through s is are))

pub returns-clause-shortest : goal.returns-clause-shortest
returns-clause-shortest c s words is without bad e =
    let are : AreControlSets s c.in_ok-first.first c.args.layers.now.sets =
    record { initial = c.in_ok-first.ensures s is; each = λ t set got. (bad.layers.each t set got).control } in
    shortest s c.args.layers.now c.in_ok-first.first words (λ claim v. c.control_claims.ensures.all_open s claim v without) bad are.initial
    (subst (λ (o : Result (Option (List (List Bool))) StoreFault). IfOk o (IsPathThrough s c.in_ok-first.first c.args.layers.now.sets)) e
    (c.path_through.ensures.through s is are))

pub returns-clause-found : goal.returns-clause-found
returns-clause-found c s is without bad =
    let are : AreControlSets s c.in_ok-first.first c.args.layers.now.sets =
    record { initial = c.in_ok-first.ensures s is; each = λ t set got. (bad.layers.each t set got).control } in
    map_ok c.path_through.result (IsPathThrough s c.in_ok-first.first c.args.layers.now.sets) _
    (λ o p. always_found s c.args.layers.now c.in_ok-first.first o bad are.initial p)
    (c.path_through.ensures.through s is are)
