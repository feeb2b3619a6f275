use Rattle.std.proofs.Common.{◌≡◌, Option, false}
use Rattle.std.specs.Prelude.{MatchOption}
use Rattle.rv_diagram.specs.Nodes.{Valuation}
use Rattle.rv_symbolic.proofs.Extending.{map_ok}
use Rattle.rv_walk.specs.{declared.sets.Extended.Extended, Extended.fresh_of, Extended.IsExtended}
use Rattle.rv_walk.proofs.Joining.{extended_found}
use Rattle.rv_walk.proofs.sets.extend.Goals as goal

pub returns-clause-control : goal.returns-clause-control
returns-clause-control c s is left right =
    map_ok c.extend_in-answer.result (λ (found : Option Extended). MatchOption found ((v : Valuation)
    → fresh_of c.args.reached.now c.args.next.now v ≡ false) (IsExtended c.args.store.now.variables c.args.reached.now c.args.next.now)) _
    (λ found h. extended_found s c.args.reached.now c.args.next.now left right c.args.store.now.variables found is h) c.extend_in-answer.ensures.exact
