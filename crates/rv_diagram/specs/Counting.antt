-- How many valuations of finitely many variables make a function true.
use Rattle.std.specs.Prelude.{◌≡◌, ℕ, zero, suc, ◌+◌, ◌<◌, Bool, true, false, if◌then◌else◌}
use Rattle.rv_diagram.specs.Nodes.{Valuation, put}

-- how many valuations of the d variables from x on make it true, where all others are false
abbrev pub count_from : ℕ → ℕ → (Valuation → Bool) → ℕ
count_from zero x f = if f (λ k. false) then 1 else 0
count_from (suc d) x f = count_from d (x + 1) (λ v. f (put v x false)) + count_from d (x + 1) (λ v. f (put v x true))

-- how many valuations of the first m variables make it true
abbrev pub count : ℕ → (Valuation → Bool) → ℕ
count m f = count_from m 0 f

-- it reads the first m variables alone
abbrev pub ReadsOnly : ℕ → (Valuation → Bool) → Type 0
ReadsOnly m f = (v w : Valuation) → ((k : ℕ) → k < m → v k ≡ w k) → f v ≡ f w
