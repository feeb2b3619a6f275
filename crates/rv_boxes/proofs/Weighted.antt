-- Weighted sums of rows at points.
use Rattle.std.proofs.Common.{◌≡◌, ℕ, ◌+◌, ℤ, pos, ◌+ℤ◌, ◌*ℤ◌, ◌≤ℤ◌, List, [], ◌∷◌, All, get_or, arith, refl, ap, sym, ◌∙◌}
use Rattle.std.proofs.{Math.IntN.*ℤ-zero, Math.IntN.zero-*ℤ, lemmas.Int.ints, lemmas.List.Elements.All-head, lemmas.List.Elements.All-tail}
use Rattle.rv_rows.specs.{declared.linear.Row.Row, declared.farkas.Weight.Weight, Rows.dot, Rows.Holds, Rows.row_at, Multipliers.weighted}
use Rattle.rv_rows.proofs.IntLemmas.{mul_add, add_mul, mul_assoc_int, mul_mono, add_mono, add_swap}
use Rattle.rv_rows.proofs.RowLemmas.{tail_of, dot-cons, get_or-tail, dot-none}

module _ (rows : List Row) where
  weighted-same : (f h : Row → ℤ) (ws : List Weight) → ((r : Row) → f r ≡ h r) → weighted f rows ws ≡ weighted h rows ws
  weighted-same f h [] e = refl
  weighted-same f h (w ∷ ws) e = rw (e (row_at rows w.premise), weighted-same f h ws e) refl

  weighted-zero : (f : Row → ℤ) (ws : List Weight) → ((r : Row) → f r ≡ pos 0) → weighted f rows ws ≡ pos 0
  weighted-zero f [] e = refl
  weighted-zero f (w ∷ ws) e = rw (e (row_at rows w.premise), weighted-zero f ws e, *ℤ-zero w.by) refl

  weighted-add : (f h : Row → ℤ) (ws : List Weight) → weighted (λ r. f r +ℤ h r) rows ws ≡ weighted f rows ws +ℤ weighted h rows ws
  weighted-add f h [] = refl
  weighted-add f h (w ∷ ws) =
      rw (weighted-add f h ws, mul_add w.by (f (row_at rows w.premise)) (h (row_at rows w.premise)))
      (add_swap (w.by *ℤ f (row_at rows w.premise)) (w.by *ℤ h (row_at rows w.premise)) (weighted f rows ws) (weighted h rows ws))

  weighted-mul : (f : Row → ℤ) (x : ℤ) (ws : List Weight) → weighted (λ r. f r *ℤ x) rows ws ≡ weighted f rows ws *ℤ x
  weighted-mul f x [] = sym (zero-*ℤ x)
  weighted-mul f x (w ∷ ws) =
      rw (weighted-mul f x ws, add_mul (w.by *ℤ f (row_at rows w.premise)) (weighted f rows ws) x, mul_assoc_int w.by (f (row_at rows w.premise)) x) refl

  -- rows that sum to numbers at each column sum to them at each point
  pub weighted-dot : (xs : List ℤ) (g : Row → List ℤ) (cs : List ℤ) (ws : List Weight)
      → ((k : ℕ) → weighted (λ r. get_or (g r) k (pos 0)) rows ws ≡ get_or cs k (pos 0))
      → weighted (λ r. dot (g r) xs) rows ws ≡ dot cs xs
  weighted-dot [] g cs ws h = weighted-zero (λ r. dot (g r) []) ws (λ r. dot-none (g r)) ∙ sym (dot-none cs)
  weighted-dot (x ∷ xs) g cs ws h =
      let rest = weighted-dot xs (λ r. tail_of (g r)) (tail_of cs) ws
      (λ k. weighted-same (λ r. get_or (tail_of (g r)) k (pos 0)) (λ r. get_or (g r) (k + 1) (pos 0)) ws (λ r. get_or-tail (g r) k)
      ∙ h (k + 1) ∙ sym (get_or-tail cs k)) in
      weighted-same (λ r. dot (g r) (x ∷ xs)) (λ r. (get_or (g r) 0 (pos 0) *ℤ x) +ℤ dot (tail_of (g r)) xs) ws (λ r. dot-cons (g r) x xs)
      ∙ weighted-add (λ r. get_or (g r) 0 (pos 0) *ℤ x) (λ r. dot (tail_of (g r)) xs) ws
      ∙ ap (λ z. z +ℤ weighted (λ r. dot (tail_of (g r)) xs) rows ws) (weighted-mul (λ r. get_or (g r) 0 (pos 0)) x ws ∙ ap (λ z. z *ℤ x) (h 0))
      ∙ ap (λ z. (get_or cs 0 (pos 0) *ℤ x) +ℤ z) rest
      ∙ sym (dot-cons cs x xs)

  -- named rows that hold sum to at most their bounds, and to their bounds where they are met exactly
  pub weighted-holds : (point : List ℤ) (ws : List Weight) → All (λ w. (pos 0 ≤ℤ w.by) × Holds (row_at rows w.premise) point) ws
      → weighted (λ r. dot r.coefficients point) rows ws ≤ℤ weighted (λ r. r.bound) rows ws
  weighted-holds point [] h = omega (arith, ints)
  weighted-holds point (w ∷ ws) h =
      let here = All-head (λ (v : Weight). (pos 0 ≤ℤ v.by) × Holds (row_at rows v.premise) point) w ws h in
      add_mono (w.by *ℤ dot (row_at rows w.premise).coefficients point) (w.by *ℤ (row_at rows w.premise).bound)
      (weighted (λ r. dot r.coefficients point) rows ws) (weighted (λ r. r.bound) rows ws)
      (mul_mono w.by (dot (row_at rows w.premise).coefficients point) (row_at rows w.premise).bound here.0 here.1)
      (weighted-holds point ws (All-tail (λ (v : Weight). (pos 0 ≤ℤ v.by) × Holds (row_at rows v.premise) point) w ws h))

  pub weighted-met : (point : List ℤ) (ws : List Weight) → All (λ w. dot (row_at rows w.premise).coefficients point ≡ (row_at rows w.premise).bound) ws
      → weighted (λ r. dot r.coefficients point) rows ws ≡ weighted (λ r. r.bound) rows ws
  weighted-met point [] h = refl
  weighted-met point (w ∷ ws) h =
      rw (
        All-head (λ (v : Weight). dot (row_at rows v.premise).coefficients point ≡ (row_at rows v.premise).bound) w ws h,
        weighted-met point ws (All-tail (λ (v : Weight). dot (row_at rows v.premise).coefficients point ≡ (row_at rows v.premise).bound) w ws h),
      ) refl
