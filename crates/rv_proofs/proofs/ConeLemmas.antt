-- The cone of rows along a direction.
use Rattle.std.proofs.Common.{◌≡◌, ℕ, ◌+◌, ℤ, pos, ◌+ℤ◌, ◌-ℤ◌, ◌*ℤ◌, ◌≤ℤ◌, List, [], ◌∷◌, arith, refl, sym, ap, ◌∙◌}
use Rattle.std.proofs.{lemmas.Int.ints, lemmas.List.Elements.All-weaker, Math.IntN.zero-*ℤ, Math.IntN.*ℤ-zero}
use Rattle.rv_rows.specs.{declared.linear.Row.Row, Rows.dot, Rows.Holds, Forms.number}
use Rattle.rv_rows.proofs.IntLemmas.{mul_add, add_mul, add_swap, mul_comm_int, mul_assoc_int}
use Rattle.rv_rows.proofs.RowLemmas.{tail_of, get_or-tail}
use Rattle.rv_proofs.specs.{Runs.AllHold, Cones.IsInCone, Cones.IsMoved}
use Rattle.rv_proofs.proofs.Moved.{dot-tail}

dot-moved : (cs t x y : List ℤ) → IsMoved t x y → dot cs y ≡ dot cs x +ℤ dot cs t
dot-moved [] t x y h = refl
dot-moved (c ∷ cs) t x y h =
    let rest = dot-moved cs (tail_of t) (tail_of x) (tail_of y)
    (λ k. get_or-tail y k ∙ h (k + 1) ∙ ap (λ z. z +ℤ number (k + 1) t) (sym (get_or-tail x k))
    ∙ ap (λ z. number k (tail_of x) +ℤ z) (sym (get_or-tail t k))) in
    dot-tail c cs y
    ∙ ap (λ z. (c *ℤ z) +ℤ dot cs (tail_of y)) (h 0)
    ∙ ap (λ z. z +ℤ dot cs (tail_of y)) (mul_add c (number 0 x) (number 0 t))
    ∙ ap (λ z. ((c *ℤ number 0 x) +ℤ (c *ℤ number 0 t)) +ℤ z) rest
    ∙ add_swap (c *ℤ number 0 x) (c *ℤ number 0 t) (dot cs (tail_of x)) (dot cs (tail_of t))
    ∙ ap (λ z. z +ℤ ((c *ℤ number 0 t) +ℤ dot cs (tail_of t))) (sym (dot-tail c cs x))
    ∙ ap (λ z. dot (c ∷ cs) x +ℤ z) (sym (dot-tail c cs t))

pub base_in : (rows : List Row) (t x : List ℤ) → AllHold rows x → IsInCone rows t x
base_in rows t x h = (
  1,
  0,
  omega arith,
  All-weaker (λ r. Holds r x)
      (λ r. ((pos 1 *ℤ dot r.coefficients x) -ℤ (pos 0 *ℤ dot r.coefficients t)) ≤ℤ (pos 1 *ℤ r.bound))
      (λ r b. once (dot r.coefficients x) (dot r.coefficients t) r.bound b) rows h,
)
  where
    once : (a s b : ℤ) → a ≤ℤ b → ((pos 1 *ℤ a) -ℤ (pos 0 *ℤ s)) ≤ℤ (pos 1 *ℤ b)
    once a s b h = rw (zero-*ℤ s) (omega (arith, ints))

pub moved_in : (rows : List Row) (t x y : List ℤ) → IsMoved t x y → IsInCone rows t x → IsInCone rows t y
moved_in rows t x y h (d, k, some, all) = (
  d,
  k + d,
  some,
  All-weaker
      (λ r. ((pos d *ℤ dot r.coefficients x) -ℤ (pos k *ℤ dot r.coefficients t)) ≤ℤ (pos d *ℤ r.bound))
      (λ r. ((pos d *ℤ dot r.coefficients y) -ℤ (pos (k + d) *ℤ dot r.coefficients t)) ≤ℤ (pos d *ℤ r.bound))
      (λ r b. along (dot r.coefficients x) (dot r.coefficients t) (dot r.coefficients y) (pos d *ℤ r.bound) (dot-moved r.coefficients t x y h) b) rows all,
)
  where
    shifted : (e' k' a s' s b : ℤ) → e' ≡ a +ℤ s → k' ≡ s' +ℤ s → (a -ℤ s') ≤ℤ b → (e' -ℤ k') ≤ℤ b
    shifted e' k' a s' s b z y' l = omega (arith, ints)

    along : (a s e b : ℤ) → e ≡ a +ℤ s → ((pos d *ℤ a) -ℤ (pos k *ℤ s)) ≤ℤ b → ((pos d *ℤ e) -ℤ (pos (k + d) *ℤ s)) ≤ℤ b
    along a s e b is l =
        let p = mul_add (pos d) a s in
        let q = add_mul (pos k) (pos d) s in
        let z : (pos d *ℤ e) ≡ (pos d *ℤ a) +ℤ (pos d *ℤ s) = ap (λ n. pos d *ℤ n) is ∙ p in
        let y' : (pos (k + d) *ℤ s) ≡ (pos k *ℤ s) +ℤ (pos d *ℤ s) = q in
        shifted (pos d *ℤ e) (pos (k + d) *ℤ s) (pos d *ℤ a) (pos k *ℤ s) (pos d *ℤ s) b z y' l

gather : (a b e f : ℤ) → (a -ℤ b) +ℤ (e -ℤ f) ≡ (a +ℤ e) -ℤ (b +ℤ f)
gather a b e f = omega (arith, ints)

back : (b c : ℤ) → (b -ℤ c) +ℤ c ≡ b
back b c = omega (arith, ints)

less_of : (a b c : ℤ) → a ≡ b +ℤ c → b ≡ a -ℤ c
less_of a b c e = omega (arith, ints)

less : (a b c : ℤ) → a *ℤ (b -ℤ c) ≡ (a *ℤ b) -ℤ (a *ℤ c)
less a b c = less_of (a *ℤ b) (a *ℤ (b -ℤ c)) (a *ℤ c) (ap (λ z. a *ℤ z) (sym (back b c)) ∙ mul_add a (b -ℤ c) c)

swapped : (a b c : ℤ) → a *ℤ (b *ℤ c) ≡ b *ℤ (a *ℤ c)
swapped a b c = sym (mul_assoc_int a b c) ∙ ap (λ z. z *ℤ c) (mul_comm_int a b) ∙ mul_assoc_int b a c

-- the left side at d*x - k*t
pub drawn_dot : (d k : ℕ) (cs t x y : List ℤ) → ((n : ℕ) → number n y ≡ (pos d *ℤ number n x) -ℤ (pos k *ℤ number n t))
    → dot cs y ≡ (pos d *ℤ dot cs x) -ℤ (pos k *ℤ dot cs t)
drawn_dot d k [] t x y h = rw (*ℤ-zero (pos d), *ℤ-zero (pos k)) refl
drawn_dot d k (c ∷ cs) t x y h =
    let tails : (n : ℕ) → number n (tail_of y) ≡ (pos d *ℤ number n (tail_of x)) -ℤ (pos k *ℤ number n (tail_of t)) =
    λ n. get_or-tail y n ∙ h (n + 1) ∙ (λ i. (pos d *ℤ sym (get_or-tail x n) i) -ℤ (pos k *ℤ sym (get_or-tail t n) i)) in
    let rest = drawn_dot d k cs (tail_of t) (tail_of x) (tail_of y) tails in
    dot-tail c cs y
    ∙ (λ i. (c *ℤ h 0 i) +ℤ rest i)
    ∙ spread (number 0 x) (number 0 t) (dot cs (tail_of x)) (dot cs (tail_of t))
    ∙ (λ i. (pos d *ℤ sym (dot-tail c cs x) i) -ℤ (pos k *ℤ sym (dot-tail c cs t) i))
  where
    spread : (p q e f : ℤ) → (c *ℤ ((pos d *ℤ p) -ℤ (pos k *ℤ q))) +ℤ ((pos d *ℤ e) -ℤ (pos k *ℤ f)) ≡ (pos d *ℤ ((c *ℤ p) +ℤ e)) -ℤ (pos k *ℤ ((c *ℤ q) +ℤ f))
    spread p q e f =
        (λ i. less c (pos d *ℤ p) (pos k *ℤ q) i +ℤ ((pos d *ℤ e) -ℤ (pos k *ℤ f)))
        ∙ (λ i. (swapped c (pos d) p i -ℤ swapped c (pos k) q i) +ℤ ((pos d *ℤ e) -ℤ (pos k *ℤ f)))
        ∙ gather (pos d *ℤ (c *ℤ p)) (pos k *ℤ (c *ℤ q)) (pos d *ℤ e) (pos k *ℤ f)
        ∙ (λ i. sym (mul_add (pos d) (c *ℤ p) e) i -ℤ sym (mul_add (pos k) (c *ℤ q) f) i)
