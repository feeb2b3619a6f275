use Rattle.std.proofs.Common.{◌≡◌, ◌↔◌, ◌^◌, subst, ℕ, ℤ, pos, ◌<ℤ◌, true, Some}
use Rattle.rv_diagram.specs.Nodes.{Valuation, IsRef, value_of}
use Rattle.rv_terms.specs.Parts.{IsTerm}
use Rattle.rv_diagram.proofs.Growing.{grows_extends}
use Rattle.rv_ends.specs.Sides.{side_at, interval_of}
use Rattle.rv_taken.specs.Meeting.{IsExactly, IsCrossed}
use Rattle.rv_taken.proofs.Meetings.{ok_two, side_width, can_add, width_side, crossing_exact}
use Rattle.rv_taken.proofs.opening.crossing.Goals as goal

pub sum-requires-clause-a : goal.sum-requires-clause-a
sum-requires-clause-a c =
    subst (λ (n : ℕ). IsTerm c.args.store.now.nodes n c.args.ends.now.high.end.parts)
    (side_width c.args.store.now.nodes (2 ^ 60) c.args.ends.now.high c.requires.high)
    c.requires.high.term

pub sum-requires-clause-b : goal.sum-requires-clause-b
sum-requires-clause-b c =
    subst (λ (n : ℕ). IsTerm c.args.store.now.nodes n c.args.ends.now.low.end.parts)
    (side_width c.args.store.now.nodes (2 ^ 60) c.args.ends.now.high c.requires.high)
    c.requires.low.term

pub sum-requires-clause-room : goal.sum-requires-clause-room
sum-requires-clause-room c = can_add c.args.store.now.nodes c.args.ends.now.high c.args.ends.now.low c.requires.high c.requires.low

pub below-requires : goal.below-requires
below-requires c = record {
  side = (
    2 ^ 61,
    width_side c.args.store.now c.sum.new.store c.and.new.self (grows_extends c.args.store.now c.sum.new.store c.in_ok-end.ensures.grows)
        (grows_extends c.sum.new.store c.and.new.self c.in_ok-there.ensures.ok.grows) c.args.ends.now c.requires.high c.requires.low c.in_ok-end.end
        c.in_ok-there.there c.in_ok-end.ensures.exact c.in_ok-there.ensures.ok.found c.in_ok-there.ensures.ok.means,
  );
}

pub returns-clause-exact : goal.returns-clause-exact
returns-clause-exact c =
    ok_two c.below.result (IsRef c.below.new.store.nodes)
    (λ r. (v : Valuation) → (value_of c.below.new.store.nodes r v ≡ true)
    ↔ ((b : ℤ) × (side_at c.and.new.self.nodes (record { there = c.in_ok-there.there; end = c.in_ok-end.end }) v ≡ Some b) × (b <ℤ pos 0)))
    (IsExactly c.below.new.store.nodes (λ v. IsCrossed (interval_of c.args.store.now.nodes v c.args.ends.now)))
    (λ r ref means. crossing_exact c.args.store.now c.sum.new.store c.and.new.self
    (grows_extends c.args.store.now c.sum.new.store c.in_ok-end.ensures.grows)
    (grows_extends c.sum.new.store c.and.new.self c.in_ok-there.ensures.ok.grows) c.args.ends.now c.requires.high c.requires.low c.in_ok-end.end
    c.in_ok-there.there c.in_ok-end.ensures.exact c.in_ok-there.ensures.ok.found c.in_ok-there.ensures.ok.means c.below.new.store.nodes r ref means)
    c.below.ensures.found c.below.ensures.exact
