use Rattle.std.proofs.Common.{ℕ, ◌≡◌, ◌≤◌, ◌<◌, ◌∙◌, List, length, take, refl, sym, subst, arith}
use Rattle.std.proofs.lemmas.Option.{get_or_from_slice_get}
use Rattle.rv_diagram.specs.{Nodes.Diagrams}
use Rattle.rv_split.specs.{Partitions.AreRising, Partitions.AreBelow, Partitions.AreParts, Steps.AreKeptBy, Steps.IsRound}
use Rattle.rv_split.proofs.Dividing.{AreModes, modes_none, modes_more, modes_all, listed_tick}
use Rattle.rv_split.proofs.partition.by_modes.Goals as goal

pub loop-i-init : goal.loop-i-init
loop-i-init c =
    let slice : c.as_slice.result.now ≡ c.args.state.now = c.as_slice.ensures in
    record {
      same = refl;
      state = c.in_ok-partition.ensures.state ∙ slice;
      limit = c.in_ok-partition.ensures.limit;
      parts = subst (λ (d : Diagrams). AreParts d.variables c.args.state.now c.in_ok-partition.partition.parts) (sym c.whole.ensures.same)
          (subst (λ (s : List ℕ). AreParts c.args.store.now.variables s c.in_ok-partition.partition.parts) slice c.in_ok-partition.ensures.parts);
      few = omega (arith, c.in_ok-partition.ensures.one, c.requires.limit);
      union = c.in_ok-partition.ensures.union;
      apart = λ k n v w lk ln iv iw same. omega (arith, lk, ln, c.in_ok-partition.ensures.one);
      modes = modes_none c.args.limit c.args.state.now c.in_ok-partition.partition.parts;
    }

pub loop-i-preserved : goal.loop-i-preserved
loop-i-preserved c =
    let inv = c.loop-i.invariant in
    let x_is = get_or_from_slice_get c.args.state.now c.loop-i.i c.at.result.now 0 c.at.ensures.value in
    let low : c.loop-i.i < c.args.ticks = c.loop-i-test.true in
    let kept : AreKeptBy c.at.result.now c.loop-i.partition.parts c.split_all.new.self.parts = c.in_ok-split_all.ensures.kept in
    let round : IsRound c.args.limit c.split_all.new.self.parts c.at.result.now =
    subst (λ (n : ℕ). IsRound n c.split_all.new.self.parts c.at.result.now) inv.limit c.in_ok-split_all.ensures.round in
    record {
      same = c.split_all.ensures.same ∙ inv.same;
      state = c.split_all.ensures.state ∙ inv.state;
      limit = c.split_all.ensures.limit ∙ inv.limit;
      parts = subst (λ (d : Diagrams). AreParts d.variables c.args.state.now c.split_all.new.self.parts) inv.same
          (subst (λ (s : List ℕ). AreParts c.loop-i.store.variables s c.split_all.new.self.parts) inv.state c.in_ok-split_all.ensures.parts);
      few = subst (λ (n : ℕ). length c.split_all.new.self.parts ≤ n) inv.limit c.in_ok-split_all.ensures.few;
      union = λ v. (λ h. (inv.union v).0 ((kept.union v).0 h), λ h. (kept.union v).1 ((inv.union v).1 h));
      apart = kept.apart (take c.args.ticks c.args.state.now)
          (listed_tick c.args.ticks c.loop-i.i c.at.result.now c.args.state.now low c.requires.ticks x_is) inv.apart;
      modes = modes_more c.args.limit c.loop-i.i c.at.result.now c.args.state.now c.loop-i.partition.parts c.split_all.new.self.parts
          (omega (arith, low, c.requires.ticks)) x_is kept round inv.modes;
    }

pub returns-clause-modes : goal.returns-clause-modes
returns-clause-modes c occur k lt =
    let end : c.loop-i.i ≡ c.args.ticks = omega (arith, c.loop-i-test.false, c.loop-i.auto.i-end) in
    modes_all c.args.limit (take c.args.ticks c.args.state.now) c.args.reached.now c.loop-i.partition.parts
    (subst (λ (n : ℕ). AreModes c.args.limit (take n c.args.state.now) c.loop-i.partition.parts) end c.loop-i.invariant.modes) occur
    c.loop-i.invariant.apart c.loop-i.invariant.parts.some c.loop-i.invariant.union k lt

pub returns-clause-partition : goal.returns-clause-partition
returns-clause-partition c = record {
  parts = subst (λ (d : Diagrams). AreParts d.variables c.loop-i.partition.state c.loop-i.partition.parts) c.whole.ensures.same
      (subst (λ (s : List ℕ). AreParts c.whole.new.store.variables s c.loop-i.partition.parts) (sym c.loop-i.invariant.state) c.loop-i.invariant.parts);
  few = subst (λ (n : ℕ). length c.loop-i.partition.parts ≤ n) (sym c.loop-i.invariant.limit) c.loop-i.invariant.few;
  rising = subst AreRising (sym c.loop-i.invariant.state) c.requires.rising;
  below = subst (AreBelow c.args.store.now.variables) (sym c.loop-i.invariant.state) c.requires.below;
}
