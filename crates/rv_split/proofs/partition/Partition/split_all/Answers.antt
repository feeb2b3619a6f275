use Rattle.std.proofs.Common.{ℕ, ◌≤◌, ◌<◌, ◌∙◌, List, length, refl, sym, subst, arith}
use Rattle.rv_diagram.specs.{Nodes.Diagrams}
use Rattle.rv_split.specs.{Partitions.IsStateSet, Partitions.AreParts, Steps.IsStepBy}
use Rattle.rv_split.proofs.Replacing.{kept_refl, kept_trans}
use Rattle.rv_split.proofs.Dividing.{step_kept, step_done, done_none, done_all}
use Rattle.rv_split.proofs.partition.Partition.split_all.Goals as goal

pub loop-at-init : goal.loop-at-init
loop-at-init c = record {
  same = refl;
  state = refl;
  limit = refl;
  parts = c.requires.parts;
  few = c.requires.few;
  kept = kept_refl c.args.x c.args.self.now.parts;
  done = done_none c.args.self.now.limit c.args.x c.args.self.now.parts (length c.args.self.now.parts) refl;
}

pub loop-at-preserved : goal.loop-at-preserved
loop-at-preserved c =
    let inv = c.loop-at.invariant in
    let step : IsStepBy c.args.self.now.limit c.loop-at.self.parts c.split_by.new.self.parts c.loop-at.at c.args.x =
    subst (λ (n : ℕ). IsStepBy n c.loop-at.self.parts c.split_by.new.self.parts c.loop-at.at c.args.x) inv.limit c.in_ok-split_by.ensures.step in
    record {
      same = c.split_by.ensures.same ∙ inv.same;
      state = c.split_by.ensures.state ∙ inv.state;
      limit = c.split_by.ensures.limit ∙ inv.limit;
      parts = subst (λ (d : Diagrams). AreParts d.variables c.args.self.now.state c.split_by.new.self.parts) inv.same
          (subst (λ (s : List ℕ). AreParts c.loop-at.store.variables s c.split_by.new.self.parts) inv.state c.in_ok-split_by.ensures.parts);
      few = subst (λ (n : ℕ). length c.split_by.new.self.parts ≤ n) inv.limit c.in_ok-split_by.ensures.few;
      kept = kept_trans c.args.x c.args.self.now.parts c.loop-at.self.parts c.split_by.new.self.parts inv.kept
          (step_kept c.args.self.now.limit c.loop-at.self.parts c.split_by.new.self.parts c.loop-at.at c.args.x step);
      done = step_done c.args.self.now.limit (length c.args.self.now.parts) c.loop-at.at c.args.x c.loop-at.self.parts c.split_by.new.self.parts step
          (let lt : c.loop-at.at < length c.args.self.now.parts = omega (arith, c.loop-at-test.true, c.len-count.ensures) in lt) inv.kept.grown inv.done;
    }

pub returns-clause-round : goal.returns-clause-round
returns-clause-round c = done_all c.args.self.now.limit c.args.x c.loop-at.self.parts (length c.args.self.now.parts) c.loop-at.at
    (omega (arith, c.loop-at-test.false, c.len-count.ensures)) c.loop-at.invariant.done

pub split_by-requires-clause-by : goal.split_by-requires-clause-by
split_by-requires-clause-by c =
    subst (λ (d : Diagrams). IsStateSet d.variables c.loop-at.self.state c.in_ok-by.by) (sym c.loop-at.invariant.same)
    (subst (λ (s : List ℕ). IsStateSet c.args.store.now.variables s c.in_ok-by.by) (sym c.loop-at.invariant.state)
    (c.in_ok-by.ensures.states c.args.store.now.variables c.args.self.now.state c.requires.x c.requires.listed))
