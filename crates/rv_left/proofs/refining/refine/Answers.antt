use Rattle.std.proofs.Common.{◌≡◌, ◌≤◌, ◌∙◌, ℕ, Some, None, List, length, refl, sym, ap, subst, arith}
use Rattle.rv_diagram.specs.{Nodes.Diagrams, declared.frozen.Frozen.Frozen}
use Rattle.rv_split.specs.Partitions.{IsPartition, IsStateSet}
use Rattle.rv_left.specs.Turns.{IsTurned, AreOver}
use Rattle.rv_left.proofs.Turning.{turned_over, turned_within, turned_less}
use Rattle.rv_left.proofs.refining.refine.Goals as goal

pub loop-at-init : goal.loop-at-init
loop-at-init c = record {
  same = refl;
  partition = c.requires.partition;
  union = λ v. (λ h. h, λ h. h);
  state = refl;
  limit = refl;
  within = omega arith;
  over = λ k low. absurd (omega (arith, low));
}

pub turn-requires-clause-partition : goal.turn-requires-clause-partition
turn-requires-clause-partition c =
    subst (λ (d : Diagrams). IsPartition d.variables c.loop-at.partition) (sym c.loop-at.invariant.same) c.loop-at.invariant.partition

pub turn-requires-clause-few : goal.turn-requires-clause-few
turn-requires-clause-few c = omega (arith, c.loop-at.invariant.limit, c.requires.few)

pub turn-requires-clause-failing : goal.turn-requires-clause-failing
turn-requires-clause-failing c =
    subst (λ (d : Diagrams). IsStateSet d.variables c.loop-at.partition.state c.args.failing.now) (sym c.loop-at.invariant.same)
    (subst (λ (l : List ℕ). IsStateSet c.args.store.now.variables l c.args.failing.now) (sym c.loop-at.invariant.state) c.requires.failing)

pub loop-at-preserved : goal.loop-at-preserved
loop-at-preserved c =
    let inv = c.loop-at.invariant in
    let here : IsTurned c.loop-at.partition.limit c.loop-at.partition.state c.args.failing.now c.loop-at.partition.parts c.turn.new.partition.parts
    c.loop-at.at (Some c.in-Some.next) = rw c.in-Some.is at c.in_ok-next.ensures.turned in
    let turned : IsTurned c.args.partition.now.limit c.args.partition.now.state c.args.failing.now c.loop-at.partition.parts c.turn.new.partition.parts
    c.loop-at.at (Some c.in-Some.next) =
    subst (λ (l : List ℕ). IsTurned c.args.partition.now.limit l c.args.failing.now c.loop-at.partition.parts c.turn.new.partition.parts
    c.loop-at.at (Some c.in-Some.next)) inv.state
    (subst (λ (n : ℕ). IsTurned n c.loop-at.partition.state c.args.failing.now c.loop-at.partition.parts c.turn.new.partition.parts
    c.loop-at.at (Some c.in-Some.next)) inv.limit here) in
    record {
      same = c.turn.ensures.same ∙ inv.same;
      partition = subst (λ (d : Diagrams). IsPartition d.variables c.turn.new.partition) inv.same c.turn.ensures.partition;
      union = λ v. (λ h. (inv.union v).0 ((c.turn.ensures.union v).0 h), λ h. (c.turn.ensures.union v).1 ((inv.union v).1 h));
      state = c.turn.ensures.state ∙ inv.state;
      limit = c.turn.ensures.limit ∙ inv.limit;
      within = turned_within c.args.partition.now.limit c.args.partition.now.state c.args.failing.now c.loop-at.partition.parts
          c.turn.new.partition.parts c.loop-at.at c.in-Some.next (omega (arith, c.loop-at-test.true, c.len.ensures)) turned;
      over = turned_over c.args.partition.now.limit c.args.partition.now.state c.args.failing.now c.loop-at.partition.parts
          c.turn.new.partition.parts c.loop-at.at c.in-Some.next turned inv.over;
    }

pub loop-at-smaller : goal.loop-at-smaller
loop-at-smaller c =
    let inv = c.loop-at.invariant in
    let here : IsTurned c.loop-at.partition.limit c.loop-at.partition.state c.args.failing.now c.loop-at.partition.parts c.turn.new.partition.parts
    c.loop-at.at (Some c.in-Some.next) = rw c.in-Some.is at c.in_ok-next.ensures.turned in
    let few : length c.turn.new.partition.parts ≤ c.args.partition.now.limit =
    omega (arith, c.turn.ensures.partition.few, c.turn.ensures.limit, inv.limit) in
    turned_less c.loop-at.partition.limit c.loop-at.partition.state c.args.failing.now c.loop-at.partition.parts
    c.turn.new.partition.parts c.loop-at.at c.in-Some.next c.args.partition.now.limit (omega (arith, c.loop-at-test.true, c.len.ensures)) few here

pub returns-in_default-clause-ended : goal.returns-in_default-clause-ended
returns-in_default-clause-ended c =
    let here : IsTurned c.loop-at.partition.limit c.loop-at.partition.state c.args.failing.now c.loop-at.partition.parts c.turn.new.partition.parts
    c.loop-at.at None = rw c.in_default.is at c.in_ok-next.ensures.turned in
    let size : length c.turn.new.partition.parts ≡ length c.loop-at.partition.parts = ap (λ (l : List Frozen). length l) here.0 in
    (size ∙ here.1 ∙ c.loop-at.invariant.limit, c.turn.ensures.limit ∙ c.loop-at.invariant.limit)

pub returns-in_default-clause-union : goal.returns-in_default-clause-union
returns-in_default-clause-union c v = (
  λ h. (c.loop-at.invariant.union v).0 ((c.turn.ensures.union v).0 h),
  λ h. (c.turn.ensures.union v).1 ((c.loop-at.invariant.union v).1 h),
)

pub returns-clause-ended : goal.returns-clause-ended
returns-clause-ended c =
    let e : c.loop-at.at ≡ length c.loop-at.partition.parts = omega (arith, c.loop-at-test.false, c.len.ensures, c.loop-at.invariant.within) in
    subst (λ (n : ℕ). AreOver c.args.partition.now.state c.args.failing.now c.loop-at.partition.parts n) e c.loop-at.invariant.over
