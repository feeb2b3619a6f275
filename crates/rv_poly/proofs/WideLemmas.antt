-- Sums in two parts.
use Rattle.std.proofs.Common.{◌≡◌, ◌+◌, ◌*◌, ◌≤◌, ◌<◌, ◌^◌, ℤ, pos, ◌+ℤ◌, ◌*ℤ◌, ◌≤ℤ◌, ◌<ℤ◌, FitsSigned, arith, ap, sym, ◌∙◌}
use Rattle.std.proofs.{Math.Nat.mul-le-mul, lemmas.Int.ints, lemmas.Int.unsigned_abs-mul, lemmas.Int.fits_signed_from_abs}
use Rattle.std.specs.{Int.w128, Int.RustNames.unsigned_abs}
use Rattle.rv_rows.proofs.IntLemmas.{mul_add, mul_comm_int, mul_assoc_int, abs-add}

-- a product of a number in two parts
product_of : (b a p q n : ℤ) → (b *ℤ p) +ℤ q ≡ n → a *ℤ n ≡ (b *ℤ (a *ℤ p)) +ℤ (a *ℤ q)
product_of b a p q n e =
    ap (λ z. a *ℤ z) (sym e) ∙ mul_add a (b *ℤ p) q
    ∙ ap (λ z. z +ℤ (a *ℤ q)) (sym (mul_assoc_int a b p) ∙ ap (λ z. z *ℤ p) (mul_comm_int a b) ∙ mul_assoc_int b a p)

-- one step of a sum: the low parts are added first, and what goes beyond them is carried
pub step-value : (b sh sl a n p q t c l m h : ℤ) → (b *ℤ p) +ℤ q ≡ n → t ≡ sl +ℤ (a *ℤ q) → (b *ℤ c) +ℤ l ≡ t → m ≡ sh +ℤ (a *ℤ p) → h ≡ m +ℤ c
    → (b *ℤ h) +ℤ l ≡ ((b *ℤ sh) +ℤ sl) +ℤ (a *ℤ n)
step-value b sh sl a n p q t c l m h parts low carry middle high =
    let e = product_of b a p q n parts in
    let f : b *ℤ h ≡ ((b *ℤ sh) +ℤ (b *ℤ (a *ℤ p))) +ℤ (b *ℤ c) =
    ap (λ z. b *ℤ z) (high ∙ ap (λ z. z +ℤ c) middle) ∙ mul_add b (sh +ℤ (a *ℤ p)) c ∙ ap (λ z. z +ℤ (b *ℤ c)) (mul_add b sh (a *ℤ p)) in
    joined (a *ℤ n) (b *ℤ (a *ℤ p)) (a *ℤ q) (b *ℤ h) (b *ℤ sh) (b *ℤ c) sl t l e f low carry
  where
    joined : (an bap aq bh bsh bc sl t l : ℤ) → an ≡ bap +ℤ aq → bh ≡ (bsh +ℤ bap) +ℤ bc → t ≡ sl +ℤ aq → bc +ℤ l ≡ t → bh +ℤ l ≡ (bsh +ℤ sl) +ℤ an
    joined an bap aq bh bsh bc sl t l e f g k = omega (arith, ints)

pub low-room : (sl a q : ℤ) → pos 0 ≤ℤ sl → sl <ℤ pos (2 ^ 96) → unsigned_abs a ≤ 2 ^ 30 → pos 0 ≤ℤ q → q <ℤ pos (2 ^ 96)
    → unsigned_abs sl + unsigned_abs a * unsigned_abs q < 2 ^ 127
low-room sl a q l h small m n =
    let x : unsigned_abs q ≤ 2 ^ 96 = omega (arith, ints) in
    let y : unsigned_abs sl ≤ 2 ^ 96 = omega (arith, ints) in
    let p = mul-le-mul small x in
    omega arith

pub high-room : (sh a p : ℤ) → unsigned_abs sh < 2 ^ 126 → unsigned_abs a ≤ 2 ^ 30 → unsigned_abs p ≤ 2 ^ 31
    → unsigned_abs sh + unsigned_abs a * unsigned_abs p < 2 ^ 127
high-room sh a p h small part = let x = mul-le-mul small part in omega arith

pub step-small : (sh a p m : ℤ) → m ≡ sh +ℤ (a *ℤ p) → unsigned_abs a ≤ 2 ^ 30 → unsigned_abs p ≤ 2 ^ 31 → unsigned_abs m ≤ unsigned_abs sh + 2 ^ 61
step-small sh a p m e small part =
    let x = mul-le-mul small part in
    let y = unsigned_abs-mul a p in
    let z = abs-add sh (a *ℤ p) in
    let f = ap unsigned_abs e in
    omega arith

pub step-fits : (sh m c : ℤ) → unsigned_abs sh < 2 ^ 126 → unsigned_abs m ≤ unsigned_abs sh + 2 ^ 61 → unsigned_abs c ≤ 2 ^ 31 → FitsSigned w128 (m +ℤ c)
step-fits sh m c h k l = let x = abs-add m c in fits_signed_from_abs w128 (m +ℤ c) (omega arith)

pub step-high : (sh m c h : ℤ) → h ≡ m +ℤ c → unsigned_abs m ≤ unsigned_abs sh + 2 ^ 61 → unsigned_abs c ≤ 2 ^ 31 → unsigned_abs h ≤ unsigned_abs sh + 2 ^ 62
step-high sh m c h e k l = let x = abs-add m c in let f = ap unsigned_abs e in omega arith
