use Rattle.rv_rows.specs.declared.farkas.Multipliers.{Multipliers}
use Rattle.rv_cover.specs.Marks.{AreMarked, OneNames, Names}
use Rattle.rv_cover.proofs.marks.mark_each.Given as goal

abbrev pub invariant-loop-place : goal.invariant-loop-place
invariant-loop-place l = AreMarked l.initial.flags l.flags l.first (OneNames Multipliers l.place l.reach Names)
