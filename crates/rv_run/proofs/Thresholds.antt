-- The thresholds of a program with small numbers are small.
use Rattle.std.proofs.Common.{zero, suc, ◌^◌, ◌≤◌, List, ℤ, neg_ℤ, inl, inr, subst, arith}
use Rattle.std.proofs.{lemmas.Int.ints, lemmas.List.Elements.All-contains_itself, lemmas.List.Elements.All-weaker}
use Rattle.std.specs.{Int.RustNames.unsigned_abs, List.All, List.Contains}
use Rattle.rv_base.specs.Limits.{too_heavy}
use Rattle.rv_tree.specs.Tree.{ProgramTree}
use Rattle.rv_source.specs.Numbers.{HasSmallNumbers}
use Rattle.rv_flat.specs.Thresholds.{IsNumberOf, in_node, in_constant, constant, beside, IsThreshold, AreThresholds}

beside_small : (z y : ℤ) → unsigned_abs z ≤ too_heavy → Contains (beside z) y → unsigned_abs y ≤ 2 ^ 41
beside_small z y h (zero, lt, is) = subst (λ x. unsigned_abs x ≤ 2 ^ 41) is (omega (arith, ints))
beside_small z y h (suc zero, lt, is) = subst (λ x. unsigned_abs x ≤ 2 ^ 41) is (omega arith)
beside_small z y h (suc (suc zero), lt, is) = subst (λ x. unsigned_abs x ≤ 2 ^ 41) is (omega (arith, ints))
beside_small z y h (suc (suc (suc k)), lt, is) = absurd (omega (arith, lt))

opposite_small : (y : ℤ) → unsigned_abs (neg_ℤ y) ≤ 2 ^ 41 → unsigned_abs y ≤ 2 ^ 41
opposite_small y h = omega (arith, ints)

module _ (p : ProgramTree) (small : HasSmallNumbers p) where
  number_small : (z : ℤ) → IsNumberOf p z → unsigned_abs z ≤ too_heavy
  number_small z (in_node n at v site inside among is) = subst (λ y. unsigned_abs y ≤ too_heavy) is (small.in_nodes n at v site inside among)
  number_small z (in_constant c at v site inside among is) = subst (λ y. unsigned_abs y ≤ too_heavy) is (small.in_constants c at v site inside among)
  number_small z (constant among) = small.constants z among

  pub threshold_small : (y : ℤ) → IsThreshold p y → unsigned_abs y ≤ 2 ^ 41
  threshold_small y (z, number, inl among) = beside_small z y (number_small z number) among
  threshold_small y (z, number, inr among) = opposite_small y (beside_small z (neg_ℤ y) (number_small z number) among)

  -- each threshold has a magnitude of at most 2^41
  pub thresholds_small : (ys : List ℤ) → AreThresholds p ys → All (λ y. unsigned_abs y ≤ 2 ^ 41) ys
  thresholds_small ys are = All-weaker (Contains ys) (λ y. unsigned_abs y ≤ 2 ^ 41) (λ y among. threshold_small y (are.only y among)) ys
      (All-contains_itself ys)
