-- Laws of the integers.
use Rattle.std.proofs.Common.{◌≡◌, FitsSigned, ◌^◌, ℕ, ◌+◌, ◌*◌, ◌≤◌, ◌<◌, ℤ, pos, negsuc, ◌+ℤ◌, ◌-ℤ◌, ◌*ℤ◌, ◌≤ℤ◌, ◌<ℤ◌, arith, ap}
use Rattle.std.proofs.Math.Nat.{mul-le-mul_left}
use Rattle.std.proofs.lemmas.Int.{ints, by_lt_z, fits_signed_mul, fits_signed_from_abs, unsigned_abs-mul}
use borrow.Author.Differences.{up, down, same_in, sum_is_lem, product_is, le_out, lt_out, at_most_in}
use Rattle.std.specs.{Int.RustNames.unsigned_abs, Int.w128}

nat_spread : (u v p q a b c d : ℕ) → p + b + d ≡ q + a + c
    → (u * p + v * q) + (u * b + v * a) + (u * d + v * c) ≡ (u * q + v * p) + (u * a + v * b) + (u * c + v * d)
nat_spread u v p q a b c d e =
    let f : u * (p + b + d) ≡ u * (q + a + c) = ap (λ n. u * n) e in
    let g : v * (p + b + d) ≡ v * (q + a + c) = ap (λ n. v * n) e in
    omega arith

pub mul_add : (a b c : ℤ) → a *ℤ (b +ℤ c) ≡ (a *ℤ b) +ℤ (a *ℤ c)
mul_add a b c =
    let e = nat_spread (up a) (down a) (up (b +ℤ c)) (down (b +ℤ c)) (up b) (down b) (up c) (down c) (sum_is_lem b c) in
    let p = product_is a (b +ℤ c) in
    let q = product_is a b in
    let r = product_is a c in
    let s = sum_is_lem (a *ℤ b) (a *ℤ c) in
    same_in _ _ (omega arith)

pub mul_comm_int : (a b : ℤ) → a *ℤ b ≡ b *ℤ a
mul_comm_int a b =
    let p = product_is a b in
    let q = product_is b a in
    same_in _ _ (omega arith)

pub add_mul : (a b c : ℤ) → (a +ℤ b) *ℤ c ≡ (a *ℤ c) +ℤ (b *ℤ c)
add_mul a b c =
    let e = nat_spread (up c) (down c) (up (a +ℤ b)) (down (a +ℤ b)) (up a) (down a) (up b) (down b) (sum_is_lem a b) in
    let p = product_is (a +ℤ b) c in
    let q = product_is a c in
    let r = product_is b c in
    let s = sum_is_lem (a *ℤ c) (b *ℤ c) in
    same_in _ _ (omega arith)

pub mul_assoc_int : (a b c : ℤ) → (a *ℤ b) *ℤ c ≡ a *ℤ (b *ℤ c)
mul_assoc_int a b c =
    let p = product_is (a *ℤ b) c in
    let q = product_is a (b *ℤ c) in
    let r = product_is a b in
    let s = product_is b c in
    let r1 : up (a *ℤ b) * up c ≡ (up a * up b + down a * down b) * up c = ap (λ n. n * up c) r.0 in
    let r2 : up (a *ℤ b) * down c ≡ (up a * up b + down a * down b) * down c = ap (λ n. n * down c) r.0 in
    let r3 : down (a *ℤ b) * up c ≡ (up a * down b + down a * up b) * up c = ap (λ n. n * up c) r.1 in
    let r4 : down (a *ℤ b) * down c ≡ (up a * down b + down a * up b) * down c = ap (λ n. n * down c) r.1 in
    let s1 : up a * up (b *ℤ c) ≡ up a * (up b * up c + down b * down c) = ap (λ n. up a * n) s.0 in
    let s2 : down a * up (b *ℤ c) ≡ down a * (up b * up c + down b * down c) = ap (λ n. down a * n) s.0 in
    let s3 : up a * down (b *ℤ c) ≡ up a * (up b * down c + down b * up c) = ap (λ n. up a * n) s.1 in
    let s4 : down a * down (b *ℤ c) ≡ down a * (up b * down c + down b * up c) = ap (λ n. down a * n) s.1 in
    same_in _ _ (omega arith)

pub mul_mono : (a b c : ℤ) → pos 0 ≤ℤ a → b ≤ℤ c → (a *ℤ b) ≤ℤ (a *ℤ c)
mul_mono (pos a) b c h k =
    let p = product_is (pos a) b in
    let q = product_is (pos a) c in
    let l : up b + down c ≤ up c + down b = le_out b c k in
    let m : a * (up b + down c) ≤ a * (up c + down b) = mul-le-mul_left a l in
    at_most_in _ _ (omega arith)
mul_mono (negsuc a) b c h k = absurd (omega (arith, ints))

-- the easy direction of Farkas, rounded
pub below_next : (d a b : ℤ) → pos 1 ≤ℤ d → (d *ℤ a) <ℤ (d *ℤ (b +ℤ pos 1)) → a ≤ℤ b
below_next d a b h k = by_lt_z b a
    (λ (l : b <ℤ a).
    let low : pos 0 ≤ℤ d = omega (arith, ints) in
    let next : (b +ℤ pos 1) ≤ℤ a = omega (arith, ints) in
    let m = mul_mono d (b +ℤ pos 1) a low next in
    let m1 = le_out _ _ m in
    let k1 = lt_out _ _ k in
    absurd (omega arith))
    (λ (l : a ≤ℤ b). l)

pub abs-add : (a b : ℤ) → unsigned_abs (a +ℤ b) ≤ unsigned_abs a + unsigned_abs b
abs-add a b = omega (arith, ints)

-- what was added is at most both sums
pub abs-product : (s p : ℤ) → unsigned_abs p ≤ unsigned_abs s + unsigned_abs (s +ℤ p)
abs-product s p = omega (arith, ints)

pub add_swap : (a b c d : ℤ) → (a +ℤ b) +ℤ (c +ℤ d) ≡ (a +ℤ c) +ℤ (b +ℤ d)
add_swap a b c d = omega (arith, ints)

pub add_mono : (a b c d : ℤ) → a ≤ℤ b → c ≤ℤ d → (a +ℤ c) ≤ℤ (b +ℤ d)
add_mono a b c d h k = omega (arith, ints)

pub le_lt_trans : (a b c : ℤ) → a ≤ℤ b → b <ℤ c → a <ℤ c
le_lt_trans a b c h k = omega (arith, ints)

pub not_below_zero : (a b : ℤ) → a ≡ pos 0 → a ≤ℤ b → b <ℤ pos 0 → ⊥
not_below_zero a b e h k = omega (arith, ints)

pub fits_product : (s a b : ℤ) → unsigned_abs s + unsigned_abs a * unsigned_abs b < 2 ^ 127 → FitsSigned w128 (a *ℤ b)
fits_product s a b h = fits_signed_mul w128 a b (unsigned_abs a) (unsigned_abs b) (omega arith) (omega arith) (omega arith)

pub fits_plus : (s a b : ℤ) → unsigned_abs s + unsigned_abs a * unsigned_abs b < 2 ^ 127 → FitsSigned w128 (s +ℤ (a *ℤ b))
fits_plus s a b h =
    let p = unsigned_abs-mul a b in
    let q = abs-add s (a *ℤ b) in
    fits_signed_from_abs w128 (s +ℤ (a *ℤ b)) (omega arith)

pub fits_below : (z : ℤ) → unsigned_abs z < 2 ^ 110 → FitsSigned w128 z
fits_below z h = fits_signed_from_abs w128 z (omega arith)

pub fits_difference : (a b : ℤ) → unsigned_abs a < 2 ^ 110 → unsigned_abs b < 2 ^ 110 → FitsSigned w128 (a -ℤ b)
fits_difference a b h k = omega (arith, ints)
