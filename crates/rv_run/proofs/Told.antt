-- What a trace of a flat system has is what its document asks.
use Rattle.std.proofs.Common.{◌≡◌, ℕ, zero, suc, ◌<◌, List, [], ◌∷◌, length, get_or, refl, arith, subst}
use Rattle.rv_base.specs.{declared.value.Value.Value, declared.value.Trace.Trace}
use Rattle.rv_flat.specs.{declared.flat.Flat.Flat, Steps.AreValues, Steps.input_kinds}
use Rattle.rv_invfile.specs.Traces.{IsTraceOf}
use Rattle.rv_replay.specs.Traces.{IsFlatTrace}

-- an element that is there is found whatever stands for none
any_default : {X : Type 0} (xs : List X) (k : ℕ) (d e : X) → k < length xs → get_or xs k d ≡ get_or xs k e
any_default [] k d e lt = absurd (omega (arith, lt))
any_default (x ∷ xs) zero d e lt = refl
any_default (x ∷ xs) (suc k) d e lt = any_default xs k d e (omega (arith, lt))

pub fits_document : (f : Flat) (t : Trace) → IsFlatTrace f t → IsTraceOf f t
fits_document f t is = record {
  starts = is.starts;
  count = omega (arith, is.count);
  instants = λ k (d : List Value) lt. subst (AreValues f (input_kinds f)) (any_default t.instants k [] d lt) (is.instants k lt);
}
