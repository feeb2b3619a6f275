use Rattle.std.proofs.Common.{◌+◌, ℕ, Bool, List, sym, subst}
use Rattle.rv_diagram.specs.{Nodes.IsOrderedOver, declared.frozen.Frozen.Frozen}
use Rattle.rv_walk.specs.Ends.{has}
use Rattle.rv_left.specs.{Meeting.IsEither, Meeting.AreApart, Meeting.Meets, Turns.AreMarked}
use Rattle.rv_left.proofs.{Bridging.part_read, Turning.marked_apart, Turning.marked_met}
use Rattle.rv_left.proofs.refining.mark_part.Goals as goal

pub sets_meet-requires-clause-a : goal.sets_meet-requires-clause-a
sets_meet-requires-clause-a c =
    subst (λ (f : Frozen). IsOrderedOver c.args.store.now.variables f)
    (part_read c.args.parts.now c.args.k c.index-parts-k.result c.requires.low c.index-parts-k.is) c.requires.parts

pub returns-then-not-fails-clause-marked : goal.returns-then-not-fails-clause-marked
returns-then-not-fails-clause-marked c h =
    let apart : AreApart (has c.index-parts-k.result) (has c.args.failing.now) =
    subst (λ (b : Bool). IsEither (has c.index-parts-k.result) (has c.args.failing.now) b) c.if-not-fails.true c.in_ok-fails.ensures.exact in
    marked_apart c.args.parts.now c.args.failing.now c.args.k c.args.left.now h
    (subst (λ (f : Frozen). AreApart (has f) (has c.args.failing.now))
    (sym (part_read c.args.parts.now c.args.k c.index-parts-k.result c.requires.low c.index-parts-k.is)) apart)

pub returns-clause-marked : goal.returns-clause-marked
returns-clause-marked c h =
    let met : Meets (has c.index-parts-k.result) (has c.args.failing.now) =
    subst (λ (b : Bool). IsEither (has c.index-parts-k.result) (has c.args.failing.now) b) c.if-not-fails.false c.in_ok-fails.ensures.exact in
    subst (λ (l : List ℕ). AreMarked c.args.parts.now c.args.failing.now (c.args.k + 1) l) (sym c.in_ok-push.ensures.ok)
    (marked_met c.args.parts.now c.args.failing.now c.args.k c.args.left.now h
    (subst (λ (f : Frozen). Meets (has f) (has c.args.failing.now))
    (sym (part_read c.args.parts.now c.args.k c.index-parts-k.result c.requires.low c.index-parts-k.is)) met))
