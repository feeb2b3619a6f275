-- Sums of products column by column, and the sum of two rows.
use Rattle.std.proofs.Common.{◌≡◌, ◌⊎◌, ℕ, zero, suc, ◌+◌, ◌*◌, ◌≤◌, ◌<◌, ◌^◌, ℤ, pos, ◌+ℤ◌, ◌-ℤ◌, ◌*ℤ◌, List, [], ◌∷◌, length, take}
use Rattle.std.proofs.Common.{arith, refl, ap, sym, ◌∙◌, inl, inr, subst, add-one}
use Rattle.std.proofs.{lemmas.Int.ints, lemmas.Int.unsigned_abs-mul, Math.IntN.*ℤ-zero, Math.Nat.mul-le-mul, Math.Nat.mul-le-mul_left, lemmas.Bool.cases_lt}
use Rattle.std.proofs.lemmas.List.{get_or_past}
use Rattle.std.specs.Int.RustNames.{unsigned_abs}
use Rattle.rv_rows.specs.{declared.linear.Row.Row, Rows.dot, Rows.coefficient, Forms.number}
use Rattle.rv_rows.proofs.{IntLemmas.abs-add, IntLemmas.mul_comm_int, RowLemmas.dot-cons, RowLemmas.dot-none, RowLemmas.get_or-tail, RowLemmas.tail_of}
use Rattle.rv_poly.specs.Images.{IsNarrow}
use Rattle.rv_accel.specs.{Turns.magnitude, Pairs.gain, Pairs.IsLevelled}

-- one more product
dot-next : (ts cs : List ℤ) (i : ℕ) → i < length ts → dot cs (take (suc i) ts) ≡ dot cs (take i ts) +ℤ (number i cs *ℤ number i ts)
dot-next [] cs i h = absurd (omega arith)
dot-next (t ∷ ts) cs zero h = go _ _ _ _ (dot-cons cs t []) (dot-none (tail_of cs)) (dot-none cs)
  where
    go : (l a n e : ℤ) → l ≡ a +ℤ n → n ≡ pos 0 → e ≡ pos 0 → l ≡ e +ℤ a
    go l a n e p q r = omega (arith, ints)
dot-next (t ∷ ts) cs (suc i) h =
    let same : number i (tail_of cs) ≡ number (suc i) cs = get_or-tail cs i ∙ rw add-one refl in
    go _ _ _ _ _ _ _ (dot-cons cs t (take (suc i) ts)) (dot-next ts (tail_of cs) i (omega arith)) (dot-cons cs t (take i ts)) (ap (λ z. z *ℤ number i ts) same)
  where
    go : (l a b d e m n : ℤ) → l ≡ a +ℤ b → b ≡ d +ℤ m → e ≡ a +ℤ d → m ≡ n → l ≡ e +ℤ n
    go l a b d e m n p q r s = omega (arith, ints)

pub gain-more : (ts cs : List ℤ) (i : ℕ) (s t x new : ℤ) → i < length ts → number i ts ≡ t → x ≡ number i cs → s ≡ dot cs (take i ts) → new ≡ s +ℤ (t *ℤ x)
    → new ≡ dot cs (take (i + 1) ts)
gain-more ts cs i s t x new l t_is x_is so_far is =
    rw add-one (go _ _ _ _ _ _ (dot-next ts cs i l) is so_far (mul_comm_int t x ∙ ap (λ z. z *ℤ t) x_is ∙ ap (λ z. number i cs *ℤ z) (sym t_is)))
  where
    go : (l a m n s p : ℤ) → l ≡ a +ℤ m → n ≡ s +ℤ p → s ≡ a → p ≡ m → n ≡ l
    go l a m n s p e f g h = omega (arith, ints)

-- the sum of the magnitudes of the first steps
magnitude-suc : (ts : List ℤ) (i : ℕ) → i < length ts → magnitude (take (suc i) ts) ≡ magnitude (take i ts) + unsigned_abs (number i ts)
magnitude-suc [] i h = absurd (omega arith)
magnitude-suc (t ∷ ts) zero h = omega arith
magnitude-suc (t ∷ ts) (suc i) h = let r = magnitude-suc ts i (omega arith) in omega arith

pub magnitude-next : (ts : List ℤ) (i : ℕ) → i < length ts → magnitude (take (i + 1) ts) ≡ magnitude (take i ts) + unsigned_abs (number i ts)
magnitude-next ts i h = rw add-one (magnitude-suc ts i h)

pub magnitude-take : (ts : List ℤ) (i : ℕ) → magnitude (take i ts) ≤ magnitude ts
magnitude-take [] zero = omega arith
magnitude-take [] (suc i) = omega arith
magnitude-take (t ∷ ts) zero = omega arith
magnitude-take (t ∷ ts) (suc i) = let r = magnitude-take ts i in omega arith

-- one number of a list is at most the sum of their absolute values
pub magnitude-at : (t : List ℤ) (k : ℕ) → k < length t → unsigned_abs (number k t) ≤ magnitude t
magnitude-at [] k l = absurd (omega arith)
magnitude-at (z ∷ zs) zero l = omega arith
magnitude-at (z ∷ zs) (suc k) l = let x = magnitude-at zs k (omega arith) in omega arith

pub step-small : (m k : ℕ) (s t x new : ℤ) → unsigned_abs s ≤ 2 ^ 30 * m → k ≡ m + unsigned_abs t → unsigned_abs x ≤ 2 ^ 30 → new ≡ s +ℤ (t *ℤ x)
    → unsigned_abs new ≤ 2 ^ 30 * k
step-small m k s t x new hs hk hx is =
    let a = abs-add s (t *ℤ x) in
    let b = unsigned_abs-mul t x in
    let c = mul-le-mul_left (unsigned_abs t) hx in
    let e = ap unsigned_abs is in
    omega arith

pub step-room : (m : ℕ) (s t x : ℤ) → m ≤ 2 ^ 48 → unsigned_abs s ≤ 2 ^ 30 * m → unsigned_abs t ≤ 2 ^ 48 → unsigned_abs x ≤ 2 ^ 30
    → unsigned_abs s + unsigned_abs t * unsigned_abs x < 2 ^ 127
step-room m s t x l hs ht hx = let c = mul-le-mul ht hx in omega arith

-- a product of a weight and a number, and two of them
pub product-room : (a b : ℤ) → unsigned_abs a ≤ 2 ^ 41 → unsigned_abs b ≤ 2 ^ 60 → 0 + unsigned_abs a * unsigned_abs b < 2 ^ 127
product-room a b h k = let x = mul-le-mul h k in omega arith

pub second-room : (s a b c d : ℤ) → s ≡ pos 0 +ℤ (a *ℤ b) → unsigned_abs a ≤ 2 ^ 41 → unsigned_abs b ≤ 2 ^ 60 → unsigned_abs c ≤ 2 ^ 41
    → unsigned_abs d ≤ 2 ^ 60
    → unsigned_abs s + unsigned_abs c * unsigned_abs d < 2 ^ 127
second-room s a b c d is ha hb hc hd =
    let x = mul-le-mul ha hb in
    let y = mul-le-mul hc hd in
    let p = unsigned_abs-mul a b in
    let e : s ≡ a *ℤ b = is ∙ none (a *ℤ b) in
    let f = ap unsigned_abs e in
    omega arith
  where
    none : (z : ℤ) → pos 0 +ℤ z ≡ z
    none z = omega (arith, ints)

pub two-sum : (s a b c d r x y : ℤ) → s ≡ pos 0 +ℤ (a *ℤ b) → r ≡ s +ℤ (c *ℤ d) → b ≡ x → d ≡ y → r ≡ (a *ℤ x) +ℤ (c *ℤ y)
two-sum s a b c d r x y e f g h = go _ _ _ _ e f ∙ ap (λ z. (a *ℤ z) +ℤ (c *ℤ d)) g ∙ ap (λ z. (a *ℤ x) +ℤ (c *ℤ z)) h
  where
    go : (s p q r : ℤ) → s ≡ pos 0 +ℤ p → r ≡ s +ℤ q → r ≡ p +ℤ q
    go s p q r e f = omega (arith, ints)

-- the sum of multiples of two rows, column by column
pub levelled-is : (t : List ℤ) (p q r : Row) (by with : ℤ) → IsNarrow (length t) p → IsNarrow (length t) q → by ≡ pos 0 -ℤ gain t q → with ≡ gain t p
    → length r.coefficients ≡ length t → ((k : ℕ) → k < length t → coefficient k r ≡ (by *ℤ coefficient k p) +ℤ (with *ℤ coefficient k q))
    → r.bound ≡ (by *ℤ p.bound) +ℤ (with *ℤ q.bound) → IsLevelled t p q r
levelled-is t p q r by with np nq eb ew size below bound = record {
  coefficients = λ k. subst (λ z. coefficient k r ≡ (z *ℤ coefficient k p) +ℤ (gain t p *ℤ coefficient k q)) eb
      (subst (λ z. coefficient k r ≡ (by *ℤ coefficient k p) +ℤ (z *ℤ coefficient k q)) ew (every k (cases_lt k (length t))));
  bound = subst (λ z. r.bound ≡ (z *ℤ p.bound) +ℤ (gain t p *ℤ q.bound)) eb (subst (λ z. r.bound ≡ (by *ℤ p.bound) +ℤ (z *ℤ q.bound)) ew bound);
}
  where
    every : (k : ℕ) → (k < length t) ⊎ (length t ≤ k) → coefficient k r ≡ (by *ℤ coefficient k p) +ℤ (with *ℤ coefficient k q)
    every k (inl l) = below k l
    every k (inr l) = get_or_past r.coefficients k (pos 0) (omega arith)
        ∙ sym (ap (λ z. (by *ℤ z) +ℤ (with *ℤ coefficient k q)) (np k l) ∙ ap (λ z. (by *ℤ pos 0) +ℤ (with *ℤ z)) (nq k l)
        ∙ ap (λ z. z +ℤ (with *ℤ pos 0)) (*ℤ-zero by) ∙ ap (λ z. pos 0 +ℤ z) (*ℤ-zero with))
