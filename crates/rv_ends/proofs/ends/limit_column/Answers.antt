use Rattle.std.proofs.Common.{◌≡◌, ◌↔◌, ◌^◌, ℤ, sym, subst, true, Option, Bool}
use Rattle.rv_diagram.specs.Nodes.{value_of}
use Rattle.rv_ends.specs.{Intervals.IsAtMost, Sides.side_at}
use Rattle.rv_ends.proofs.{Stays.side_later, Stays.side_at_later, Limiting.limit_cut}
use Rattle.rv_ends.proofs.ends.limit_column.Goals as goal

pub limit_side-requires-2-clause-side : goal.limit_side-requires-2-clause-side
limit_side-requires-2-clause-side c =
    side_later c.args.store.now c.limit_side.new.store (2 ^ 60) c.args.ends.now.low c.in_ok-high.ensures.extends c.requires.low

pub returns-clause-high : goal.returns-clause-high
returns-clause-high c =
    side_later c.limit_side.new.store c.limit_side-2.new.store (2 ^ 60) c.in_ok-high.high c.in_ok-low.ensures.extends c.in_ok-high.ensures.side

pub returns-clause-exact : goal.returns-clause-exact
returns-clause-exact c v =
    let old = c.args.store.now.nodes in
    let mid = c.limit_side.new.store.nodes in
    let new = c.limit_side-2.new.store.nodes in
    let ends = c.args.ends.now in
    let high : side_at new c.in_ok-high.high v ≡ side_at mid c.in_ok-high.high v =
    side_at_later c.limit_side.new.store c.limit_side-2.new.store (2 ^ 60) c.in_ok-high.high v c.in_ok-low.ensures.extends c.in_ok-high.ensures.side in
    let low : side_at mid ends.low v ≡ side_at old ends.low v =
    side_at_later c.args.store.now c.limit_side.new.store (2 ^ 60) ends.low v c.in_ok-high.ensures.extends c.requires.low in
    let tick : value_of mid c.args.ticked v ≡ value_of old c.args.ticked v = c.in_ok-high.ensures.extends.kept c.args.ticked c.requires.ticked v in
    limit_cut (side_at old ends.high v) (side_at old ends.low v) (side_at new c.in_ok-high.high v) (side_at new c.in_ok-low.low v)
    (value_of old c.args.ticked v) c.args.upper c.args.lower
    (λ x. subst (λ (o : Option ℤ). IsAtMost o x ↔ (IsAtMost (side_at old ends.high v) x × (value_of old c.args.ticked v ≡ true → IsAtMost c.args.upper x)))
    (sym high) (c.in_ok-high.ensures.exact v x))
    (λ x. subst (λ (b : Bool). IsAtMost (side_at new c.in_ok-low.low v) x ↔ (IsAtMost (side_at old ends.low v) x × (b ≡ true → IsAtMost c.args.lower x))) tick
    (subst (λ (o : Option ℤ). IsAtMost (side_at new c.in_ok-low.low v) x
    ↔ (IsAtMost o x × (value_of mid c.args.ticked v ≡ true → IsAtMost c.args.lower x))) low
    (c.in_ok-low.ensures.exact v x)))
