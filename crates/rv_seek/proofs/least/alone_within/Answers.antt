use Rattle.std.proofs.Common.{ℕ, ◌+◌, ◌⊎◌, length, subst, IfSome}
use Rattle.rv_seek.specs.Least.{IsLeastAt, HasPlace}
use Rattle.rv_seek.proofs.LeastLemmas.{alone-of}
use Rattle.rv_seek.proofs.least.alone_within.Goals as goal

pub returns : goal.returns
returns c =
    let rows = c.args.premises.now in
    alone-of rows c.args.wanted.now c.in_ok-alone.alone c.in_ok-alone.ensures.shown
    (subst (λ (n : ℕ). IfSome c.in_ok-alone.alone (λ b. ⊥ ⊎ HasPlace n b)) c.len.ensures c.in_ok-alone.ensures.part)
    (subst (λ (n : ℕ). IsLeastAt rows c.args.wanted.now (length rows + 2) c.in_ok-alone.alone n) c.len.ensures c.in_ok-alone.ensures.here)
