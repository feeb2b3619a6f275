use Rattle.std.proofs.Common.{inl, refl, Bool, sym, subst, arith}
use Rattle.rv_diagram.specs.declared.frozen.Frozen.{Frozen}
use Rattle.rv_walk.specs.Ends.{has}
use Rattle.rv_split.proofs.Dividing.{part_is, part_set}
use Rattle.rv_left.specs.{Meeting.IsEither, Meeting.AreApart}
use Rattle.rv_left.proofs.refining.turn.Goals as goal

pub sets_meet-requires-clause-a : goal.sets_meet-requires-clause-a
sets_meet-requires-clause-a c = (part_set c.args.store.now.variables c.args.partition.now.state c.args.partition.now.parts c.args.at c.at.result.now
    c.requires.partition.parts c.requires.at c.at.ensures.value).ordered

pub overflow_add-result : goal.overflow_add-result
overflow_add-result c = omega (arith, c.requires.at, c.requires.partition.few, c.requires.few)

pub sets_meet-requires-clause-b : goal.sets_meet-requires-clause-b
sets_meet-requires-clause-b c = c.requires.failing.ordered

pub returns-then-not-fails-clause-turned : goal.returns-then-not-fails-clause-turned
returns-then-not-fails-clause-turned c =
    let apart : AreApart (has c.at.result.now) (has c.args.failing.now) =
    subst (λ (b : Bool). IsEither (has c.at.result.now) (has c.args.failing.now) b) c.if-not-fails.true c.in_ok-fails.ensures.exact in
    inl (
      refl,
      refl,
      inl (subst (λ (f : Frozen). AreApart (has f) (has c.args.failing.now))
          (sym (part_is c.args.partition.now.parts c.args.at c.at.result.now c.at.ensures.value)) apart),
    )
