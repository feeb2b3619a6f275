-- Where the first number above a limit is within it, none is above.
use Rattle.std.proofs.Common.{◌≡◌, inl, inr, ℕ, ◌<◌, ◌≤◌, Bool, true, false, cond, List, [], ◌∷◌, refl, subst, arith}
use Rattle.std.proofs.lemmas.Bool.Decides.{nat_tests}
use Rattle.std.specs.{Prelude.nat_lt, List.Contains}
use Rattle.rv_sizes.specs.Sizes.{first_above}
use Rattle.rv_types.proofs.Members.{cons_cases, nothing_in}

pub none_above : (limit : ℕ) (ks : List ℕ) → first_above limit ks ≤ limit → (k : ℕ) → Contains ks k → k ≤ limit
none_above limit [] few k w = nothing_in k w
none_above limit (j ∷ ks) few k w = by (nat_lt limit j) refl few (λ rest there. none_above limit ks rest k there)
  where
    by : (b : Bool) → nat_lt limit j ≡ b → cond b j (first_above limit ks) ≤ limit → (first_above limit ks ≤ limit → Contains ks k → k ≤ limit) → k ≤ limit
    by true e le again = absurd (let above : limit < j = grind (arith, nat_tests, e) in omega (arith, above, le))
    by false e le again = elim (cons_cases j ks k w) [ inl here ↦ subst (λ n. n ≤ limit) here (grind (arith, nat_tests, e)) | inr there ↦ again le there ]
