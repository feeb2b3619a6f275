-- A trace that has been made is the probe.
use Rattle.std.proofs.Common.{◌≡◌, ℕ, Bool, List, map, replicate, ◌∙◌, ap}
use Rattle.std.specs.Prelude.{ℤ}
use Rattle.rv_base.specs.declared.value.Value.{Value}
use Rattle.rv_flat.specs.{declared.flat.Flat.Flat, Steps.input_kinds, Steps.memory_kinds}
use Rattle.rv_probe.specs.Probes.{probe_of, probe_value, probe_within}

pub made : (f : Flat) (b : Bool) (c d : ℤ) → d ≡ c → (n : ℕ) (starts : List Value) (instants : List (List Value))
    → starts ≡ map (probe_value b d) (memory_kinds f)
    → instants ≡ replicate n (map (probe_value b d) (input_kinds f)) → n ≡ 16 → record { starts = starts; instants = instants } ≡ probe_of f b c
unfolding probe_within
made f b c d number n starts instants e h is =
    let same : instants ≡ replicate 16 (map (probe_value b d) (input_kinds f)) = h ∙ ap (λ k. replicate k (map (probe_value b d) (input_kinds f))) is in
    let all : record { starts = starts; instants = instants } ≡ probe_of f b d = λ i. record { starts = e i; instants = same i } in
    all ∙ ap (probe_of f b) number
