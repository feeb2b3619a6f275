use Rattle.std.proofs.Common.{inl, inr}
use Rattle.rv_probe.proofs.Typed.{number_within}
use Rattle.rv_run.proofs.Thresholds.{threshold_small}
use Rattle.rv_run.proofs.laws.probed_texts.Goals as goal

pub returns : goal.returns
returns c = λ bytes program main f z text flat. (
  λ number. elim number [ inl zero ↦ inl zero | inr w ↦ inr (w.0, w.1) ],
  λ number. elim number [
    | inl zero ↦ inl zero
    | inr w ↦ inr (w.0, w.1, number_within z (threshold_small program (c.numbers_are_small.ensures bytes program text) z (flat.thresholds.only z w.1)))
  ],
)
