use Rattle.std.proofs.Common.{ℕ, length, sym, subst}
use Rattle.rv_boxes.specs.{Boxed.IsOpenBox, Certifying.CanReach}
use Rattle.rv_boxes.proofs.entries.kind_of.Goals as goal

pub step_of-requires-clause-wanted : goal.step_of-requires-clause-wanted
step_of-requires-clause-wanted c n r at =
    let ends = c.in_ok-ends.ensures in
    let opened : IsOpenBox (length c.in_ok-ends.ends) c.args.premises.now = rw c.in-None.is at c.in_ok-refutation.ensures.opened in
    subst (λ (w : ℕ). CanReach w c.args.premises.now c.args.updates.now r) (sym ends.size)
    (c.requires.wanted (subst (λ (w : ℕ). IsOpenBox w c.args.premises.now) ends.size opened) n r at)
