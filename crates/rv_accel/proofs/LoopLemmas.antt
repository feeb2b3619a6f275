-- The turns of the loops that hand rows in.
use Rattle.std.proofs.Common.{◌≡◌, ◌⊎◌, ℕ, ◌+◌, ◌*◌, ◌≤◌, ◌<◌, ℤ, pos, ◌≤ℤ◌, ◌<ℤ◌, Bool, List, cond, length, get_or, take}
use Rattle.std.proofs.Common.{arith, ap, sym, ◌∙◌, subst, inl, inr}
use Rattle.std.proofs.{lemmas.Bool.cases_lt, lemmas.List.get_or_default, Math.Nat.mul-le-mul_right}
use Rattle.std.proofs.lemmas.List.Sums.{sum_by_more}
use Rattle.std.specs.{List.Contains, List.count_by, Prelude.int_lt, Prelude.int_le}
use Rattle.rv_rows.specs.{declared.linear.Row.Row, declared.linear.Form.Form, declared.farkas.Multipliers.Multipliers}
use Rattle.rv_accel.specs.{declared.proved.Proved.Proved, Pairs.gain, Taken.AreTaken}
use Rattle.rv_accel.specs.Around.{HasCopy, HasMoved, HasSum, HaveMoved, HasLevel, HasSums, HasSumsOf, HasAllSums, IsSmallPair, IsMovable, AreMovable}
use Rattle.rv_accel.specs.Around.{AreSmallSums, AreSmallSumsOf, AreAllSmall, losing, gaining, staying, loses, gains, stays}
use Rattle.rv_accel.proofs.TakenLemmas.{taken-more}

-- a list that has all rows of another
Wider : List Row → List Row → Type 0
Wider xs ys = (r : Row) → Contains xs r → Contains ys r

pub count_step : (p : Row → Bool) (rows : List Row) (n : ℕ) (r : Row) → n < length rows → get_or rows n r ≡ r
    → count_by p (take n rows) + cond (p r) 1 0 ≤ count_by p (take (n + 1) rows)
count_step p rows n r l e =
    let x = sum_by_more (λ (q : Row). cond {A = ℕ} (p q) 1 0) rows n r l in
    let y : cond {A = ℕ} (p (get_or rows n r)) 1 0 ≡ cond {A = ℕ} (p r) 1 0 = ap (λ (q : Row). cond {A = ℕ} (p q) 1 0) e in
    omega arith

one_more : (rows : List Row) (n i : ℕ) (d r : Row) (P : Row → Type 0) → n < length rows → get_or rows n r ≡ r → i < n + 1 → (i < n → P (get_or rows i d)) → P r
    → P (get_or rows i d)
one_more rows n i d r P l e m before here = go (cases_lt i n)
  where
    go : (i < n) ⊎ (n ≤ i) → P (get_or rows i d)
    go (inl b) = before b
    go (inr b) =
        let same : i ≡ n = omega arith in
        let is : get_or rows i d ≡ r = ap (λ k. get_or rows k d) same ∙ default ∙ e in
        subst P (sym is) here
      where
        default : get_or rows n d ≡ get_or rows n r
        default = get_or_default rows n d r l

module _ (Shown : Row → Multipliers → Type 0) (t : List ℤ) (rows : List Row) (n : ℕ) (r : Row) (l : n < length rows) (e : get_or rows n r ≡ r)
    (a b c : Proved) where
  pub levels-more : AreTaken Shown (HasLevel t rows n) (Unit {0}) (staying t (take n rows)) a b
      → AreTaken Shown (λ xs. gain t r ≤ℤ pos 0 → HasCopy r xs) (Unit {0}) (stays t r) b c
      → AreTaken Shown (HasLevel t rows (n + 1)) (Unit {0}) (staying t (take (n + 1) rows)) a c
  levels-more x y = taken-more Shown (HasLevel t rows n) (λ xs. gain t r ≤ℤ pos 0 → HasCopy r xs) (HasLevel t rows (n + 1)) (Unit {0}) (Unit {0}) (Unit {0})
      (staying t (take n rows)) (stays t r) (staying t (take (n + 1) rows)) a b c x y
      (λ xs ys w h1 h2 i d k m. one_more rows n i d r (λ q. gain t q ≤ℤ pos 0 → HasCopy q ys) l e k
      (λ o low. let g = h1 i d o m low in (g.0, g.1, g.2, w (g.0) (g.3))) h2) (λ s. s) (λ s. s) (count_step (λ q. int_le (gain t q) (pos 0)) rows n r l e)

  pub sums-more : (p : Row) → AreTaken Shown (HasSums t p rows n) (AreSmallSums t p rows) (losing t (take n rows)) a b
      → AreTaken Shown (λ xs. gain t r <ℤ pos 0 → HasSum t p r xs) (IsSmallPair t p r) (loses t r) b c
      → AreTaken Shown (HasSums t p rows (n + 1)) (AreSmallSums t p rows) (losing t (take (n + 1) rows)) a c
  sums-more p x y = taken-more Shown (HasSums t p rows n) (λ xs. gain t r <ℤ pos 0 → HasSum t p r xs) (HasSums t p rows (n + 1)) (AreSmallSums t p rows)
      (IsSmallPair t p r) (AreSmallSums t p rows) (losing t (take n rows)) (loses t r) (losing t (take (n + 1) rows)) a b c x y
      (λ xs ys w h1 h2 i d k m. one_more rows n i d r (λ q. gain t q <ℤ pos 0 → HasSum t p q ys) l e k
      (λ o low. let g = h1 i d o m low in (g.0, g.1, w (g.0) (g.2))) h2) (λ s. s) (λ s. subst (IsSmallPair t p) e (s n r l))
      (count_step (λ q. int_lt (gain t q) (pos 0)) rows n r l e)

  pub all-sums-more : (updates : List Form) (downs : List Row)
      → AreTaken Shown (HasAllSums t rows downs n) (AreAllSmall updates t rows downs) (gaining t (take n rows) * losing t downs) a b
      → AreTaken Shown (HasSumsOf t r downs) (AreSmallSumsOf updates t r downs) (gains t r * losing t downs) b c
      → AreTaken Shown (HasAllSums t rows downs (n + 1)) (AreAllSmall updates t rows downs) (gaining t (take (n + 1) rows) * losing t downs) a c
  all-sums-more updates downs x y = taken-more Shown (HasAllSums t rows downs n) (HasSumsOf t r downs) (HasAllSums t rows downs (n + 1))
      (AreAllSmall updates t rows downs) (AreSmallSumsOf updates t r downs) (AreAllSmall updates t rows downs) (gaining t (take n rows) * losing t downs)
      (gains t r * losing t downs) (gaining t (take (n + 1) rows) * losing t downs) a b c x y
      (λ xs ys w h1 h2 i d k m. one_more rows n i d r (λ q. HasSumsOf t q downs ys) l e k
      (λ o up j f u v low. let g = h1 i d o m up j f u v low in (g.0, g.1, w (g.0) (g.2))) h2) (λ s. s)
      (λ s. subst (λ q. AreSmallSumsOf updates t q downs) e (s n r l))
      (product (gaining t (take n rows)) (gains t r) (gaining t (take (n + 1) rows)) (losing t downs)
      (count_step (λ q. int_lt (pos 0) (gain t q)) rows n r l e))
    where
      product : (u v w k : ℕ) → u + v ≤ w → u * k + v * k ≤ w * k
      product u v w k h = let m = mul-le-mul_right k h in omega arith

  pub moved-more : (updates : List Form) → AreTaken Shown (HaveMoved t rows n) (AreMovable updates t rows) n a b
      → AreTaken Shown (HasMoved t r) (IsMovable updates t r) 1 b c
      → AreTaken Shown (HaveMoved t rows (n + 1)) (AreMovable updates t rows) (n + 1) a c
  moved-more updates x y = taken-more Shown (HaveMoved t rows n) (HasMoved t r) (HaveMoved t rows (n + 1)) (AreMovable updates t rows) (IsMovable updates t r)
      (AreMovable updates t rows) n 1 (n + 1) a b c x y
      (λ xs ys w h1 h2 i d k m. one_more rows n i d r (λ q. HasMoved t q ys) l e k
      (λ o. let g = h1 i d o m in (g.0, g.1, w (g.0) (g.2))) h2) (λ s. s) (λ s. subst (IsMovable updates t) e (s n r l)) (omega arith)
