use Rattle.std.proofs.Common.{ℕ, subst}
use Rattle.rv_symbolic.proofs.Extending.{map_ok}
use Rattle.rv_walk.specs.Extended.{IsWithout}
use Rattle.rv_walk.proofs.Joining.{without_control}
use Rattle.rv_walk.proofs.sets.without.Goals as goal

pub returns-clause-control : goal.returns-clause-control
returns-clause-control c s is left right =
    map_ok c.without_in-answer.result (IsWithout c.args.store.now.variables c.args.a.now c.args.b.now) _
    (λ f h. without_control s c.args.b.now c.args.a.now right left f
    (subst (λ (m : ℕ). IsWithout m c.args.a.now c.args.b.now f) is h)) c.without_in-answer.ensures.exact
