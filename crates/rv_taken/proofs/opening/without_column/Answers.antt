use Rattle.std.proofs.Common.{◌≡◌, ◌&&◌, not, true}
use Rattle.rv_diagram.specs.Nodes.{value_of, IsMeant}
use Rattle.rv_symbolic.proofs.Extending.{map_ok}
use Rattle.rv_ends.specs.{Intervals.interval_at, Sides.box_at}
use Rattle.rv_taken.specs.Meeting.{IsExactly, IsCrossed}
use Rattle.rv_taken.proofs.Meetings.{without_crossed}
use Rattle.rv_taken.proofs.opening.without_column.Goals as goal

pub crossing-requires-clause-high : goal.crossing-requires-clause-high
crossing-requires-clause-high c = c.requires.ends.high c.args.column c.at.result.now c.at.ensures.value

pub crossing-requires-clause-low : goal.crossing-requires-clause-low
crossing-requires-clause-low c = c.requires.ends.low c.args.column c.at.result.now c.at.ensures.value

pub returns-clause-exact : goal.returns-clause-exact
returns-clause-exact c =
    map_ok c.without.result
    (IsMeant c.without.new.store.nodes (λ v. value_of c.crossing.new.store.nodes c.args.whole v
    && not (value_of c.crossing.new.store.nodes c.in_ok-crossed.crossed v && value_of c.crossing.new.store.nodes c.in_ok-crossed.crossed v)))
    (IsExactly c.without.new.store.nodes (λ v. (value_of c.args.store.now.nodes c.args.whole v ≡ true)
    × (IsCrossed (interval_at (box_at c.args.store.now.nodes c.args.ends.now v) c.args.column) → ⊥)))
    (λ r m. without_crossed c.args.store.now c.crossing.new.store c.without.new.store.nodes c.args.ends.now c.at.result.now c.args.column c.args.whole
    c.in_ok-crossed.crossed r c.in_ok-crossed.ensures.extends c.requires.whole c.at.ensures.value c.in_ok-crossed.ensures.exact m)
    c.without.ensures.exact
