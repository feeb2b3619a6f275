use Rattle.std.proofs.Common.{inl, inr}
use Rattle.rv_probe.proofs.probing.falsified_at.Goals as goal

pub returns-in-Ok-NeverFalse-clause-never : goal.returns-in-Ok-NeverFalse-clause-never
returns-in-Ok-NeverFalse-clause-never c = λ k e is. elim (c.replay_flat.ensures.only_falsified k is) [ inl x ↦ (cc) | inr x ↦ (cc) ]

pub returns-in-Ok-AssertionFails-clause-never : goal.returns-in-Ok-AssertionFails-clause-never
returns-in-Ok-AssertionFails-clause-never c = λ k e is. elim (c.replay_flat.ensures.only_falsified k is) [ inl x ↦ (cc) | inr x ↦ (cc) ]

pub returns-in-Err-Outgrown-clause-never : goal.returns-in-Err-Outgrown-clause-never
returns-in-Err-Outgrown-clause-never c = λ k e is. elim (c.replay_flat.ensures.only_falsified k is) [ inl x ↦ (cc) | inr x ↦ (cc) ]
