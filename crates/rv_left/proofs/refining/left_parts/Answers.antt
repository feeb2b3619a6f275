use Rattle.std.proofs.Common.{◌≡◌, ◌∙◌, ℕ, List, length, refl, sym, subst, arith}
use Rattle.rv_diagram.specs.{Nodes.Diagrams, Nodes.IsOrderedOver}
use Rattle.rv_split.specs.Partitions.{part_at}
use Rattle.rv_left.specs.Turns.{AreMarked}
use Rattle.rv_left.proofs.Turning.{marked_none}
use Rattle.rv_left.proofs.refining.left_parts.Goals as goal

pub loop-k-init : goal.loop-k-init
loop-k-init c = record {
  same = refl;
  marked = subst (λ (l : List ℕ). AreMarked c.args.parts.now c.args.failing.now 0 l) (sym c.new-left.ensures) (marked_none c.args.parts.now c.args.failing.now);
}

pub loop-k-preserved : goal.loop-k-preserved
loop-k-preserved c = record {
  same = c.mark_part.ensures.same ∙ c.loop-k.invariant.same;
  marked = c.in_ok-mark_part.ensures.marked c.loop-k.invariant.marked;
}

pub mark_part-requires-clause-parts : goal.mark_part-requires-clause-parts
mark_part-requires-clause-parts c =
    subst (λ (d : Diagrams). IsOrderedOver d.variables (part_at c.args.parts.now c.loop-k.k)) (sym c.loop-k.invariant.same)
    (c.requires.parts c.loop-k.k c.loop-k-test.true)

pub mark_part-requires-clause-failing : goal.mark_part-requires-clause-failing
mark_part-requires-clause-failing c =
    subst (λ (d : Diagrams). IsOrderedOver d.variables c.args.failing.now) (sym c.loop-k.invariant.same) c.requires.failing

pub returns-clause-marked : goal.returns-clause-marked
returns-clause-marked c =
    let e : c.loop-k.k ≡ length c.args.parts.now = omega (arith, c.loop-k-test.false, c.loop-k.auto.k-end) in
    subst (λ (n : ℕ). AreMarked c.args.parts.now c.args.failing.now n c.loop-k.left) e c.loop-k.invariant.marked
