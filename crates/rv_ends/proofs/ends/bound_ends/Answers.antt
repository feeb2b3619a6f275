use Rattle.std.proofs.Common.{◌∙◌, ◌^◌, ap, sym, subst, FitsSigned, rules}
use Rattle.std.proofs.lemmas.Int.{to_z-of_z}
use Rattle.std.specs.Int.{w128}
use Rattle.rv_diagram.specs.Nodes.{value_of}
use Rattle.rv_ends.specs.{declared.sides.Side.Side, Sides.side_at, Sides.IsSide}
use Rattle.rv_ends.proofs.{Stays.side_later, Stays.side_at_later, Limiting.high_cut, Limiting.low_cut}
use Rattle.rv_ends.proofs.ends.bound_ends.Goals as goal

pub returns-then-is_high-clause-low : goal.returns-then-is_high-clause-low
returns-then-is_high-clause-low c =
    subst (λ (s : Side). IsSide c.tighten.new.store.nodes (2 ^ 60) s) (sym c.in_ok-low.ensures)
    (side_later c.args.store.now c.tighten.new.store (2 ^ 60) c.args.ends.now.low c.in_ok-high.ensures.extends c.requires.low)

pub returns-then-is_high-clause-exact : goal.returns-then-is_high-clause-exact
returns-then-is_high-clause-exact c v =
    let fits : FitsSigned w128 c.args.bound = search rules in
    let exact = simp to_z-of_z at c.in_ok-high.ensures.exact in
    let old = c.args.store.now.nodes in
    let new = c.tighten.new.store.nodes in
    let ends = c.args.ends.now in
    high_cut (side_at old ends.high v) (side_at old ends.low v) (side_at new c.in_ok-high.high v) (side_at new c.in_ok-low.low v)
    (value_of old c.args.under v) c.args.is_high c.args.bound c.if-is_high.true (exact v)
    (ap (λ (s : Side). side_at new s v) c.in_ok-low.ensures
    ∙ side_at_later c.args.store.now c.tighten.new.store (2 ^ 60) ends.low v c.in_ok-high.ensures.extends c.requires.low)

pub returns-clause-high : goal.returns-clause-high
returns-clause-high c =
    subst (λ (s : Side). IsSide c.tighten-2.new.store.nodes (2 ^ 60) s) (sym c.in_ok-high-2.ensures)
    (side_later c.args.store.now c.tighten-2.new.store (2 ^ 60) c.args.ends.now.high c.in_ok-low-2.ensures.extends c.requires.high)

pub returns-clause-exact : goal.returns-clause-exact
returns-clause-exact c v =
    let fits : FitsSigned w128 c.args.bound = search rules in
    let exact = simp to_z-of_z at c.in_ok-low-2.ensures.exact in
    let old = c.args.store.now.nodes in
    let new = c.tighten-2.new.store.nodes in
    let ends = c.args.ends.now in
    low_cut (side_at old ends.high v) (side_at old ends.low v) (side_at new c.in_ok-high-2.high v) (side_at new c.in_ok-low-2.low v)
    (value_of old c.args.under v) c.args.is_high c.args.bound c.if-is_high.false (exact v)
    (ap (λ (s : Side). side_at new s v) c.in_ok-high-2.ensures
    ∙ side_at_later c.args.store.now c.tighten-2.new.store (2 ^ 60) ends.high v c.in_ok-low-2.ensures.extends c.requires.high)
