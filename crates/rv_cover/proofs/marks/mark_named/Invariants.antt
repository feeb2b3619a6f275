use Rattle.std.proofs.Common.{◌≡◌}
use Rattle.rv_rows.specs.declared.farkas.Weight.{Weight}
use Rattle.rv_cover.specs.Marks.{AreMarked, OneNames}
use Rattle.rv_cover.proofs.marks.mark_named.Given as goal

abbrev pub invariant-loop-place : goal.invariant-loop-place
invariant-loop-place l = AreMarked l.initial.flags l.flags l.first (OneNames Weight l.place l.by.weights (λ w p. w.premise ≡ p))
