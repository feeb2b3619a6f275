use Rattle.std.proofs.Common.{inl, inr, refl, ap, arith}
use Rattle.rv_split.specs.declared.partition.Partition.{Partition}
use Rattle.rv_left.proofs.refining.divide.Goals as goal

pub overflow_add-result : goal.overflow_add-result
overflow_add-result c = omega (arith, c.requires.at, c.requires.partition.few, c.requires.few)

pub returns-in-Ok-clause-turned : goal.returns-in-Ok-clause-turned
returns-in-Ok-clause-turned c = inr (refl, c.in-Ok.ensures.split)

pub returns-in-Err-Single-clause-turned : goal.returns-in-Err-Single-clause-turned
returns-in-Err-Single-clause-turned c =
    let single = rw c.in-Err-Single.field-0-is at c.in-Err-Single.ensures.single in
    inl (refl, ap (λ (p : Partition). p.parts) c.in-Err-Single.ensures.err, inr (single refl))
