-- Rows with at most one coefficient other than 0, and the numbers that they allow.
use Rattle.std.proofs.Common.{◌≡◌, ◌⊎◌, ℕ, zero, suc, ◌+◌, ◌≤◌, ◌<◌, ◌^◌, ℤ, pos, negsuc, ◌+ℤ◌, ◌-ℤ◌, ◌*ℤ◌, ◌≤ℤ◌, ◌<ℤ◌, List, [], ◌∷◌, ◌++◌, length, take}
use Rattle.std.proofs.Common.{get_or, All, FitsSigned, arith, refl, ap, sym, ◌∙◌, subst, inl, inr, Bool, true, false, IsTrue}
use Rattle.std.proofs.lemmas.Int.{ints, by_lt_z, unsigned_abs-mul, fits_signed_from_abs}
use Rattle.std.proofs.lemmas.List.{get_or_default, get_or_past, get_or_append_left, get_or_push, length_push, get_or-take, length-take, take_all}
use Rattle.std.proofs.lemmas.List.Elements.{All-push, All-nil, All-take}
use Rattle.std.proofs.{Math.IntN.*ℤ-zero, Math.IntN.zero-*ℤ, Math.Nat.mul-le-mul, lemmas.Bool.cases_lt, lemmas.Bool.false≢true}
use Rattle.std.specs.{Int.w128, Int.RustNames.unsigned_abs}
use Rattle.rv_rows.specs.{declared.linear.Row.Row, Rows.dot, Rows.Holds, Rows.coefficient, Forms.number}
use Rattle.rv_rows.proofs.IntLemmas.{mul_comm_int, mul_mono, below_next}
use Rattle.rv_rows.proofs.RowLemmas.{dot-cons, get_or-tail, dot-none, tail_of}
use Rattle.rv_poly.specs.Whole.{IsInReplay, IsSingle, IsSpanCut, IsNarrowed, IsSpanOf, IsCandidate}
use Rattle.rv_poly.specs.{declared.spans.Span.Span, Points.HasPoint}
use Rattle.rv_poly.proofs.{Lines.mul_neg, EliminateLemmas.number_within}
use Rattle.rv_base.proofs.Numbers.{zero_add}

pub replay-abs : (z : ℤ) → IsInReplay z → unsigned_abs z ≤ 2 ^ 63
replay-abs z r = let l = r.low in let h = r.high in omega (arith, ints)

pub replay-zero : IsInReplay (pos 0)
replay-zero = record { low = omega (arith, ints); high = omega (arith, ints) }

pub replay-number : (xs : List ℤ) → All IsInReplay xs → (k : ℕ) → IsInReplay (number k xs)
replay-number xs h k = go (cases_lt k (length xs))
  where
    go : (k < length xs) ⊎ (length xs ≤ k) → IsInReplay (number k xs)
    go (inl l) = h k (pos 0) l
    go (inr l) = rw (get_or_past xs k (pos 0) l) replay-zero

is_zero : (z : ℤ) → (z ≡ pos 0) ⊎ (z ≡ pos 0 → ⊥)
is_zero (pos zero) = inl refl
is_zero _ = inr (λ e. omega (arith, ints))

-- where the numbers are 0, so is the sum
pub dot-zeros : (xs cs : List ℤ) → ((k : ℕ) → k < length xs → number k cs ≡ pos 0) → dot cs xs ≡ pos 0
dot-zeros [] cs h = dot-none cs
dot-zeros (x ∷ xs) cs h =
    dot-cons cs x xs ∙ ap (λ z. (z *ℤ x) +ℤ dot (tail_of cs) xs) (h 0 (omega arith)) ∙ ap (λ z. z +ℤ dot (tail_of cs) xs) (zero-*ℤ x)
    ∙ zero_add (dot (tail_of cs) xs) ∙ dot-zeros xs (tail_of cs) (λ k l. get_or-tail cs k ∙ h (k + 1) (omega arith))

-- where all others are 0, it is one product
pub dot-single : (xs cs : List ℤ) (k : ℕ) → ((j : ℕ) → (j ≡ k → ⊥) → number j cs ≡ pos 0) → dot cs xs ≡ number k cs *ℤ number k xs
dot-single [] cs k h = dot-none cs ∙ sym (*ℤ-zero (number k cs))
dot-single (x ∷ xs) cs zero h =
    dot-cons cs x xs ∙ ap (λ z. (number 0 cs *ℤ x) +ℤ z) (dot-zeros xs (tail_of cs) (λ k l. get_or-tail cs k ∙ h (k + 1) (λ e. omega arith)))
    ∙ last (number 0 cs *ℤ x)
  where
    last : (a : ℤ) → a +ℤ pos 0 ≡ a
    last a = omega (arith, ints)
dot-single (x ∷ xs) cs (suc k) h =
    dot-cons cs x xs ∙ ap (λ z. (z *ℤ x) +ℤ dot (tail_of cs) xs) (h 0 (λ e. omega arith)) ∙ ap (λ z. z +ℤ dot (tail_of cs) xs) (zero-*ℤ x)
    ∙ zero_add (dot (tail_of cs) xs) ∙ dot-single xs (tail_of cs) k (λ j n. get_or-tail cs j ∙ h (j + 1) (λ e. n (omega arith)))
    ∙ ap (λ z. z *ℤ number k xs) (get_or-tail cs k ∙ ap (λ i. number i cs) (next k))
  where
    next : (k : ℕ) → k + 1 ≡ suc k
    next k = omega arith

pub others-zero : (cs : List ℤ) (k : ℕ) → IsSingle cs → (number k cs ≡ pos 0 → ⊥) → (j : ℕ) → (j ≡ k → ⊥) → number j cs ≡ pos 0
others-zero cs k s n j m = go (is_zero (number j cs))
  where
    go : (number j cs ≡ pos 0) ⊎ (number j cs ≡ pos 0 → ⊥) → number j cs ≡ pos 0
    go (inl e) = e
    go (inr e) = absurd (m (s j k e n))

-- some number below n is not 0, or none
pub some_or_none : (cs : List ℤ) (n : ℕ) → ((k : ℕ) × (k < n) × (number k cs ≡ pos 0 → ⊥)) ⊎ ((k : ℕ) → k < n → number k cs ≡ pos 0)
some_or_none cs zero = inr (λ k l. absurd (omega arith))
some_or_none cs (suc n) = go (some_or_none cs n) (is_zero (number n cs))
  where
    go : ((k : ℕ) × (k < n) × (number k cs ≡ pos 0 → ⊥)) ⊎ ((k : ℕ) → k < n → number k cs ≡ pos 0) → (number n cs ≡ pos 0) ⊎ (number n cs ≡ pos 0 → ⊥)
        → ((k : ℕ) × (k < suc n) × (number k cs ≡ pos 0 → ⊥)) ⊎ ((k : ℕ) → k < suc n → number k cs ≡ pos 0)
    go (inl (k, l, m)) z = inl (k, omega arith, m)
    go (inr h) (inr z) = inl (n, omega arith, z)
    go (inr h) (inl z) = inr (λ k l. last k l (cases_lt k n))
      where
        last : (k : ℕ) → k < suc n → (k < n) ⊎ (n ≤ k) → number k cs ≡ pos 0
        last k l (inl m) = h k m
        last k l (inr m) = let e : k ≡ n = omega arith in rw e z

-- one more product, also past the end of the point
dot-suc : (cs xs : List ℤ) (i : ℕ) → i < length cs → dot (take (suc i) cs) xs ≡ dot (take i cs) xs +ℤ (number i cs *ℤ number i xs)
dot-suc [] xs i l = absurd (omega arith)
dot-suc (c ∷ cs) [] zero l = sym (ap (λ z. pos 0 +ℤ z) (*ℤ-zero c))
dot-suc (c ∷ cs) [] (suc i) l = sym (ap (λ z. pos 0 +ℤ z) (*ℤ-zero (number i cs)))
dot-suc (c ∷ cs) (x ∷ xs) zero l = last (c *ℤ x)
  where
    last : (a : ℤ) → a +ℤ pos 0 ≡ pos 0 +ℤ a
    last a = omega (arith, ints)
dot-suc (c ∷ cs) (x ∷ xs) (suc i) l = group (c *ℤ x) (dot (take (suc i) cs) xs) (dot (take i cs) xs) (number i cs *ℤ number i xs)
    (dot-suc cs xs i (omega arith))
  where
    group : (a b d e : ℤ) → b ≡ d +ℤ e → a +ℤ b ≡ (a +ℤ d) +ℤ e
    group a b d e h = omega (arith, ints)

pub dot-next : (cs xs : List ℤ) (i : ℕ) → i < length cs → dot (take (i + 1) cs) xs ≡ dot (take i cs) xs +ℤ (number i cs *ℤ number i xs)
dot-next cs xs i l = ap (λ n. dot (take n cs) xs) (next i) ∙ dot-suc cs xs i l
  where
    next : (i : ℕ) → i + 1 ≡ suc i
    next i = omega arith

-- the sums of a single row stay small
pub single-small : (cs xs : List ℤ) → IsSingle cs → All (λ c. unsigned_abs c ≤ 2 ^ 30) cs → All IsInReplay xs → unsigned_abs (dot cs xs) ≤ 2 ^ 93
single-small cs xs s h r = go (some_or_none cs (length cs))
  where
    go : ((k : ℕ) × (k < length cs) × (number k cs ≡ pos 0 → ⊥)) ⊎ ((k : ℕ) → k < length cs → number k cs ≡ pos 0) → unsigned_abs (dot cs xs) ≤ 2 ^ 93
    go (inl (k, l, n)) =
        let e = dot-single xs cs k (others-zero cs k s n) in
        let p = unsigned_abs-mul (number k cs) (number k xs) in
        let m = mul-le-mul (number_within (2 ^ 30) cs h k) (replay-abs (number k xs) (replay-number xs r k)) in
        rw e (omega arith)
    go (inr z) = rw (dot-zeros xs cs (λ k l. past k (cases_lt k (length cs)))) (omega arith)
      where
        past : (k : ℕ) → (k < length cs) ⊎ (length cs ≤ k) → number k cs ≡ pos 0
        past k (inl l) = z k l
        past k (inr l) = get_or_past cs k (pos 0) l

pub product-small : (a b : ℤ) → unsigned_abs a ≤ 2 ^ 30 → unsigned_abs b ≤ 2 ^ 63 → unsigned_abs (a *ℤ b) ≤ 2 ^ 93
product-small a b h k = let p = unsigned_abs-mul a b in let m = mul-le-mul h k in omega arith

pub product-fits : (a b : ℤ) → unsigned_abs a ≤ 2 ^ 30 → unsigned_abs b ≤ 2 ^ 63 → FitsSigned w128 (a *ℤ b)
product-fits a b h k = let m = product-small a b h k in fits_signed_from_abs w128 (a *ℤ b) (omega arith)

-- the front of a list of which one is not 0 is one
take-number : (cs : List ℤ) (n k : ℕ) → (number k (take n cs) ≡ pos 0) ⊎ (number k (take n cs) ≡ number k cs)
take-number cs n k = go (cases_lt k n)
  where
    go : (k < n) ⊎ (n ≤ k) → (number k (take n cs) ≡ pos 0) ⊎ (number k (take n cs) ≡ number k cs)
    go (inl l) = inr (get_or-take n cs k (pos 0) l)
    go (inr l) = inl (let e = length-take n cs in get_or_past (take n cs) k (pos 0) (omega arith))

take-single : (cs : List ℤ) (n : ℕ) → IsSingle cs → IsSingle (take n cs)
take-single cs n s i j h k = s i j (λ e. h (both i e (take-number cs n i))) (λ e. k (both j e (take-number cs n j)))
  where
    both : (i : ℕ) → number i cs ≡ pos 0 → (number i (take n cs) ≡ pos 0) ⊎ (number i (take n cs) ≡ number i cs) → number i (take n cs) ≡ pos 0
    both i e (inl f) = f
    both i e (inr f) = f ∙ e

-- so the sum of a single row up to some column fits
pub single-fits : (cs xs : List ℤ) (i : ℕ) → i < length cs → IsSingle cs → All (λ c. unsigned_abs c ≤ 2 ^ 30) cs → All IsInReplay xs
    → FitsSigned w128 (dot (take i cs) xs +ℤ (number i cs *ℤ number i xs))
single-fits cs xs i l s h r =
    rw (sym (dot-next cs xs i l))
    (let m = single-small (take (i + 1) cs) xs (take-single cs (i + 1) s) (All-take (λ c. unsigned_abs c ≤ 2 ^ 30) (i + 1) cs h) r in
    fits_signed_from_abs w128 (dot (take (i + 1) cs) xs) (omega arith))

-- a step of the sum, and its end
pub side-more : (cs xs : List ℤ) (i : ℕ) (s x y t : ℤ) → i < length cs → s ≡ dot (take i cs) xs → number i cs ≡ x → y ≡ number i xs → t ≡ s +ℤ (x *ℤ y)
    → t ≡ dot (take (i + 1) cs) xs
side-more cs xs i s x y t l h a b e =
    e ∙ ap (λ z. z +ℤ (x *ℤ y)) h ∙ ap (λ z. dot (take i cs) xs +ℤ (z *ℤ y)) (sym a) ∙ ap (λ z. dot (take i cs) xs +ℤ (number i cs *ℤ z)) b
    ∙ sym (dot-next cs xs i l)

pub side-fits : (cs xs : List ℤ) (i : ℕ) (s x y : ℤ) → i < length cs → s ≡ dot (take i cs) xs → number i cs ≡ x → y ≡ number i xs → IsSingle cs
    → All (λ c. unsigned_abs c ≤ 2 ^ 30) cs → All IsInReplay xs → FitsSigned w128 (s +ℤ (x *ℤ y))
side-fits cs xs i s x y l h a b single small r =
    let P : ℤ → Type 0 = λ z. FitsSigned w128 z in
    subst P (sym (ap (λ z. z +ℤ (x *ℤ y)) h ∙ ap (λ z. dot (take i cs) xs +ℤ (z *ℤ y)) (sym a) ∙ ap (λ z. dot (take i cs) xs +ℤ (number i cs *ℤ z)) b))
    (single-fits cs xs i l single small r)

pub side-all : (cs xs : List ℤ) (n : ℕ) (s : ℤ) → length cs ≤ n → s ≡ dot (take n cs) xs → s ≡ dot cs xs
side-all cs xs n s l h = h ∙ ap (λ c. dot c xs) (take_all n cs l)

-- the sum over the earlier columns of a row with its coefficient at a later one
pub rest-zero : (cs xs : List ℤ) (k : ℕ) → length xs ≡ k → IsSingle cs → (number k cs ≡ pos 0 → ⊥) → dot cs xs ≡ pos 0
rest-zero cs xs k e s n = dot-zeros xs cs (λ j l. others-zero cs k s n j (λ f. omega arith))

-- cuts of spans, with the quotient q of the rest
cut-high : (by rest q low high : ℤ) (new : Span) → pos 0 <ℤ by → (by *ℤ q) ≤ℤ rest → rest <ℤ (by *ℤ (q +ℤ pos 1)) → new.low ≡ low → new.high ≤ℤ high
    → new.high ≤ℤ q
    → ((x : ℤ) → x ≤ℤ high → x ≤ℤ q → x ≤ℤ new.high) → IsSpanCut by rest (record { low = low; high = high }) new
cut-high by rest q low high new p lower upper e h g least = record {
  low = same low new.low e;
  high = h;
  sound = λ x a b. up (by *ℤ x) (by *ℤ q) rest (mul_mono by x q (omega (arith, ints)) (le x new.high q b g)) lower;
  kept = λ x a b c. (first x low new.low e a, least x b (below_next by x q (omega (arith, ints)) (below (by *ℤ x) rest (by *ℤ (q +ℤ pos 1)) c upper)));
}
  where
    same : (a b : ℤ) → b ≡ a → a ≤ℤ b
    same a b e = omega (arith, ints)

    first : (x a b : ℤ) → b ≡ a → a ≤ℤ x → b ≤ℤ x
    first x a b e h = omega (arith, ints)

    le : (a b c : ℤ) → a ≤ℤ b → b ≤ℤ c → a ≤ℤ c
    le a b c h k = omega (arith, ints)

    up : (a b c : ℤ) → a ≤ℤ b → b ≤ℤ c → a ≤ℤ c
    up a b c h k = omega (arith, ints)

    below : (a b c : ℤ) → a ≤ℤ b → b <ℤ c → a <ℤ c
    below a b c h k = omega (arith, ints)

-- `m` is the magnitude of `by`
cut-low : (by m rest q low high : ℤ) (new : Span) → by ≡ pos 0 -ℤ m → pos 0 <ℤ m → (m *ℤ q) ≤ℤ rest → rest <ℤ (m *ℤ (q +ℤ pos 1)) → new.high ≡ high
    → low ≤ℤ new.low → (pos 0 -ℤ q) ≤ℤ new.low
    → ((x : ℤ) → low ≤ℤ x → (pos 0 -ℤ q) ≤ℤ x → new.low ≤ℤ x) → IsSpanCut by rest (record { low = low; high = high }) new
cut-low by m rest q low high new b p lower upper e h g least = record {
  low = h;
  high = same new.high high e;
  sound = λ x a c. rw (turned x) (up (m *ℤ (pos 0 -ℤ x)) (m *ℤ q) rest (mul_mono m (pos 0 -ℤ x) q (omega (arith, ints)) (opposite x q new.low a g)) lower);
  kept = λ x a c d. (
    least x a (opposite_back x q (below_next m (pos 0 -ℤ x) q (omega (arith, ints))
        (below (m *ℤ (pos 0 -ℤ x)) rest (m *ℤ (q +ℤ pos 1)) (rw (turned x) at d) upper))),
    last x new.high high e c,
  );
}
  where
    same : (a b : ℤ) → a ≡ b → a ≤ℤ b
    same a b e = omega (arith, ints)

    last : (x a b : ℤ) → a ≡ b → x ≤ℤ b → x ≤ℤ a
    last x a b e h = omega (arith, ints)

    up : (a b c : ℤ) → a ≤ℤ b → b ≤ℤ c → a ≤ℤ c
    up a b c h k = omega (arith, ints)

    below : (a b c : ℤ) → a ≤ℤ b → b <ℤ c → a <ℤ c
    below a b c h k = omega (arith, ints)

    opposite : (x q l : ℤ) → l ≤ℤ x → (pos 0 -ℤ q) ≤ℤ l → (pos 0 -ℤ x) ≤ℤ q
    opposite x q l h k = omega (arith, ints)

    opposite_back : (x q : ℤ) → (pos 0 -ℤ x) ≤ℤ q → (pos 0 -ℤ q) ≤ℤ x
    opposite_back x q h = omega (arith, ints)

    turned : (x : ℤ) → by *ℤ x ≡ m *ℤ (pos 0 -ℤ x)
    turned x = ap (λ z. z *ℤ x) b ∙ mul_comm_int (pos 0 -ℤ m) x ∙ mul_neg x m ∙ ap (λ z. pos 0 -ℤ z) (mul_comm_int x m) ∙ sym (mul_neg m x)

abs-pos : (z : ℤ) → pos 0 <ℤ z → pos (unsigned_abs z) ≡ z
abs-pos z h = omega (arith, ints)

abs-neg : (z : ℤ) → z <ℤ pos 0 → z ≡ pos 0 -ℤ pos (unsigned_abs z)
abs-neg z h = omega (arith, ints)

abs-some : (z : ℤ) → z <ℤ pos 0 → pos 0 <ℤ pos (unsigned_abs z)
abs-some z h = omega (arith, ints)

pub high-cut : (by rest q : ℤ) (s : Span) → pos 0 <ℤ by → (pos (unsigned_abs by) *ℤ q) ≤ℤ rest → rest <ℤ (pos (unsigned_abs by) *ℤ (q +ℤ pos 1)) → q <ℤ s.high
    → IsSpanCut by rest s (record { low = s.low; high = q })
high-cut by rest q s p lower upper b =
    cut-high by rest q s.low s.high (record { low = s.low; high = q }) p (rw (abs-pos by p) at lower) (rw (abs-pos by p) at upper) refl (less q s.high b)
    (same q) (λ x h k. k)
  where
    less : (a b : ℤ) → a <ℤ b → a ≤ℤ b
    less a b h = omega (arith, ints)

    same : (a : ℤ) → a ≤ℤ a
    same a = omega (arith, ints)

pub high-kept : (by rest q : ℤ) (s : Span) → pos 0 <ℤ by → (pos (unsigned_abs by) *ℤ q) ≤ℤ rest → rest <ℤ (pos (unsigned_abs by) *ℤ (q +ℤ pos 1)) → s.high ≤ℤ q
    → IsSpanCut by rest s s
high-kept by rest q s p lower upper b = cut-high by rest q s.low s.high s p (rw (abs-pos by p) at lower) (rw (abs-pos by p) at upper) refl (same s.high) b
    (λ x h k. h)
  where
    same : (a : ℤ) → a ≤ℤ a
    same a = omega (arith, ints)

pub low-cut : (by rest q : ℤ) (s : Span) → by <ℤ pos 0 → (pos (unsigned_abs by) *ℤ q) ≤ℤ rest → rest <ℤ (pos (unsigned_abs by) *ℤ (q +ℤ pos 1))
    → s.low <ℤ (pos 0 -ℤ q)
    → IsSpanCut by rest s (record { low = pos 0 -ℤ q; high = s.high })
low-cut by rest q s p lower upper b =
    cut-low by (pos (unsigned_abs by)) rest q s.low s.high (record { low = pos 0 -ℤ q; high = s.high }) (abs-neg by p) (abs-some by p) lower upper refl
    (less s.low (pos 0 -ℤ q) b) (same (pos 0 -ℤ q)) (λ x h k. k)
  where
    less : (a b : ℤ) → a <ℤ b → a ≤ℤ b
    less a b h = omega (arith, ints)

    same : (a : ℤ) → a ≤ℤ a
    same a = omega (arith, ints)

pub low-kept : (by rest q : ℤ) (s : Span) → by <ℤ pos 0 → (pos (unsigned_abs by) *ℤ q) ≤ℤ rest → rest <ℤ (pos (unsigned_abs by) *ℤ (q +ℤ pos 1))
    → (pos 0 -ℤ q) ≤ℤ s.low → IsSpanCut by rest s s
low-kept by rest q s p lower upper b =
    cut-low by (pos (unsigned_abs by)) rest q s.low s.high s (abs-neg by p) (abs-some by p) lower upper refl (same s.low) b (λ x h k. h)
  where
    same : (a : ℤ) → a ≤ℤ a
    same a = omega (arith, ints)

-- the quotient of a rest that is not too great, and its opposite, fit
pub quotient-fits : (m : ℕ) (q rest : ℤ) → 0 < m → unsigned_abs rest ≤ 2 ^ 101 → (pos m *ℤ q) ≤ℤ rest → rest <ℤ (pos m *ℤ (q +ℤ pos 1))
    → FitsSigned w128 (pos 0 -ℤ q)
quotient-fits m q rest p small lower upper = by_lt_z q (negsuc (2 ^ 102)) (λ (below : q <ℤ negsuc (2 ^ 102)). absurd (low below))
    (λ (l : negsuc (2 ^ 102) ≤ℤ q). by_lt_z (pos (2 ^ 102)) q (λ (above : pos (2 ^ 102) <ℤ q). absurd (high above)) (λ (h : q ≤ℤ pos (2 ^ 102)). fits l h))
  where
    one : pos 1 ≤ℤ pos m
    one = omega (arith, ints)

    low : q <ℤ negsuc (2 ^ 102) → ⊥
    low below =
        let next : (q +ℤ pos 1) ≤ℤ negsuc (2 ^ 102) = omega (arith, ints) in
        let a = mul_mono (pos m) (q +ℤ pos 1) (negsuc (2 ^ 102)) (omega (arith, ints)) next in
        let b = mul_mono (pos (2 ^ 102 + 1)) (pos 1) (pos m) (omega (arith, ints)) one in
        let c : pos m *ℤ negsuc (2 ^ 102) ≡ pos 0 -ℤ (pos (2 ^ 102 + 1) *ℤ pos m) = mul_neg (pos m) (pos (2 ^ 102 + 1))
        ∙ ap (λ z. pos 0 -ℤ z) (mul_comm_int (pos m) (pos (2 ^ 102 + 1))) in
        clash rest (pos m *ℤ (q +ℤ pos 1)) (pos m *ℤ negsuc (2 ^ 102)) (pos (2 ^ 102 + 1) *ℤ pos m) small upper a c b
      where
        clash : (r t u v : ℤ) → unsigned_abs r ≤ 2 ^ 101 → r <ℤ t → t ≤ℤ u → u ≡ pos 0 -ℤ v → pos (2 ^ 102 + 1) ≤ℤ v → ⊥
        clash r t u v h a b c d = omega (arith, ints)

    high : pos (2 ^ 102) <ℤ q → ⊥
    high above =
        let a = mul_mono (pos m) (pos (2 ^ 102)) q (omega (arith, ints)) (omega (arith, ints)) in
        let b = mul_mono (pos (2 ^ 102)) (pos 1) (pos m) (omega (arith, ints)) one in
        clash rest (pos m *ℤ q) (pos m *ℤ pos (2 ^ 102)) (pos (2 ^ 102) *ℤ pos m) small lower a (mul_comm_int (pos m) (pos (2 ^ 102))) b
      where
        clash : (r t u v : ℤ) → unsigned_abs r ≤ 2 ^ 101 → t ≤ℤ r → u ≤ℤ t → u ≡ v → pos (2 ^ 102) ≤ℤ v → ⊥
        clash r t u v h a b c d = omega (arith, ints)

    fits : negsuc (2 ^ 102) ≤ℤ q → q ≤ℤ pos (2 ^ 102) → FitsSigned w128 (pos 0 -ℤ q)
    fits l h = let e : unsigned_abs (pos 0 -ℤ q) ≤ 2 ^ 102 + 1 = omega (arith, ints) in fits_signed_from_abs w128 (pos 0 -ℤ q) (omega arith)

-- the span stays where nothing is said of the row
pub narrowed-same : (k : ℕ) (r : Row) (s : Span) → (IsSingle r.coefficients → (coefficient k r ≡ pos 0 → ⊥) → ⊥) → IsNarrowed k r s s
narrowed-same k r s n = record {
  low = same s.low;
  high = same s.high;
  sound = λ single m x a b. absurd (n single m);
  kept = λ single x a b h. (a, b);
}
  where
    same : (a : ℤ) → a ≤ℤ a
    same a = omega (arith, ints)

pub narrowed-cut : (k : ℕ) (r : Row) (old new : Span) → old.low ≤ℤ new.low → new.high ≤ℤ old.high → (coefficient k r ≡ pos 0 → ⊥)
    → (IsSingle r.coefficients → IsSpanCut (coefficient k r) r.bound old new) → IsNarrowed k r old new
narrowed-cut k r old new l h n c = record {
  low = l;
  high = h;
  sound = λ s m x a b. (c s).sound x a b;
  kept = λ s x a b f. (c s).kept x a b (f n);
}

module _ (k : ℕ) (rows : List Row) where
  pub span-none : IsSpanOf k rows 0 (record { low = pos 0 -ℤ pos (2 ^ 63); high = pos (2 ^ 63) -ℤ pos 1 })
  span-none = record {
    low = omega (arith, ints);
    high = omega (arith, ints);
    sound = λ i d l m. absurd (omega arith);
    kept = λ s x r h. (r.low, up_to x (2 ^ 63) r.high);
  }
    where
      up_to : (x : ℤ) (n : ℕ) → x <ℤ pos n → x ≤ℤ (pos n -ℤ pos 1)
      up_to x n h = omega (arith, ints)

  pub span-more : (n : ℕ) (d : Row) (now new : Span) → IsSpanOf k rows n now → n < length rows → IsNarrowed k (get_or rows n d) now new
      → IsSpanOf k rows (n + 1) new
  span-more n d now new a l b = record {
    low = up _ _ _ a.low b.low;
    high = below _ _ _ b.high a.high;
    sound = λ i e m o s z x p q. sound i e m o s z x p q (cases_lt i n);
    kept = λ s x r h. let g = a.kept s x r h in b.kept (s n d l) x (g.0) (g.1) (λ z. h n d l z);
  }
    where
      up : (a b c : ℤ) → a ≤ℤ b → b ≤ℤ c → a ≤ℤ c
      up a b c h k = omega (arith, ints)

      below : (a b c : ℤ) → a ≤ℤ b → b <ℤ c → a <ℤ c
      below a b c h k = omega (arith, ints)

      sound : (i : ℕ) (e : Row) → i < n + 1 → i < length rows → IsSingle (get_or rows i e).coefficients → (coefficient k (get_or rows i e) ≡ pos 0 → ⊥)
          → (x : ℤ) → new.low ≤ℤ x → x ≤ℤ new.high → (i < n) ⊎ (n ≤ i) → (coefficient k (get_or rows i e) *ℤ x) ≤ℤ (get_or rows i e).bound
      sound i e m o s z x p q (inl c) = a.sound i e c o s z x (up _ _ _ b.low p) (up _ _ _ q b.high)
      sound i e m o s z x p q (inr c) =
          let same : get_or rows n d ≡ get_or rows i e = (let f : n ≡ i = omega arith in get_or_default rows n d e l ∙ ap (λ j. get_or rows j e) f) in
          let P : Row → Type 0 = λ r. IsSingle r.coefficients → (coefficient k r ≡ pos 0 → ⊥) → (coefficient k r *ℤ x) ≤ℤ r.bound in
          subst P same (λ t y. b.sound t y x p q) s z

pub candidate-none : (rows : List Row) → IsCandidate rows 0 []
candidate-none rows = record { size = refl; replay = All-nil IsInReplay; allowed = λ s other r h i d k l m. absurd (omega arith) }

pub candidate-more : (rows : List Row) (n : ℕ) (point : List ℤ) (z : ℤ) (span : Span) → IsCandidate rows n point → IsSpanOf n rows (length rows) span
    → IsInReplay z
    → (span.low ≤ℤ span.high → (span.low ≤ℤ z) × (z ≤ℤ span.high)) → IsCandidate rows (n + 1) (point ++ z ∷ [])
candidate-more rows n point z span c s r within = record {
  size = let e = c.size in let x = length_push point z in omega arith;
  replay = All-push IsInReplay point z c.replay r;
  allowed = λ single other ro h i d k l m nonzero. go single other ro h i d k l nonzero (cases_lt k n) m;
}
  where
    up : (a b c : ℤ) → a ≤ℤ b → b ≤ℤ c → a ≤ℤ c
    up a b c h k = omega (arith, ints)

    go : All (λ r. IsSingle r.coefficients) rows → (other : List ℤ) → All IsInReplay other → HasPoint rows other → (i : ℕ) (d : Row) (k : ℕ) → i < length rows
        → (coefficient k (get_or rows i d) ≡ pos 0 → ⊥) → (k < n) ⊎ (n ≤ k) → k < n + 1
        → (coefficient k (get_or rows i d) *ℤ number k (point ++ z ∷ [])) ≤ℤ (get_or rows i d).bound
    go single other ro h i d k l nonzero (inl b) m =
        let e = c.size in
        let inside : k < length point = omega arith in
        rw (get_or_append_left point (z ∷ []) (pos 0) k inside) (c.allowed single other ro h i d k l b nonzero)
    go single other ro h i d k l nonzero (inr b) m =
        let e : k ≡ n = omega arith in
        let kept = s.kept single (number n other) (replay-number other ro n) (λ j f o y.
        rw (dot-single other (get_or rows j f).coefficients n (others-zero (get_or rows j f).coefficients n (single j f o) y)) at (h j f o)) in
        let in_span = within (up _ _ _ (kept.0) (kept.1)) in
        let here : number n (point ++ z ∷ []) ≡ z = get_or_push point z (pos 0) n c.size in
        let P : ℕ → Type 0 = λ j. (coefficient j (get_or rows i d) ≡ pos 0 → ⊥)
        → (coefficient j (get_or rows i d) *ℤ number j (point ++ z ∷ [])) ≤ℤ (get_or rows i d).bound in
        subst P (sym e) (λ y. rw here (s.sound i d l l (single i d l) y z (in_span.0) (in_span.1))) nonzero

-- where there is some point, the candidate is one
pub candidate-has : (rows : List Row) (width : ℕ) (point : List ℤ) → All (λ r. length r.coefficients ≡ width) rows → IsCandidate rows width point
    → All (λ r. IsSingle r.coefficients) rows
    → (other : List ℤ) → All IsInReplay other → HasPoint rows other → HasPoint rows point
candidate-has rows width point widths c single other ro h i d l = go (some_or_none (get_or rows i d).coefficients width)
  where
    go : ((k : ℕ) × (k < width) × (number k (get_or rows i d).coefficients ≡ pos 0 → ⊥))
        ⊎ ((k : ℕ) → k < width → number k (get_or rows i d).coefficients ≡ pos 0) → Holds (get_or rows i d) point
    go (inl (k, m, n)) =
        rw (dot-single point (get_or rows i d).coefficients k (others-zero (get_or rows i d).coefficients k (single i d l) n))
        (c.allowed single other ro h i d k l m n)
    go (inr z) =
        rw (dot-zeros point (get_or rows i d).coefficients (λ k m. past k (cases_lt k width)))
        (rw (dot-zeros other (get_or rows i d).coefficients (λ k m. past k (cases_lt k width))) at (h i d l))
      where
        past : (k : ℕ) → (k < width) ⊎ (width ≤ k) → number k (get_or rows i d).coefficients ≡ pos 0
        past k (inl m) = z k m
        past k (inr m) = let w = widths i d l in get_or_past (get_or rows i d).coefficients k (pos 0) (omega arith)

pub low-replay : (low high : ℤ) → (pos 0 -ℤ pos (2 ^ 63)) ≤ℤ low → high <ℤ pos (2 ^ 63) → low ≤ℤ high → IsInReplay low
low-replay low high h k l = record { low = h; high = omega (arith, ints) }

pub high-replay : (low high : ℤ) → (pos 0 -ℤ pos (2 ^ 63)) ≤ℤ low → high <ℤ pos (2 ^ 63) → low ≤ℤ high → IsInReplay high
high-replay low high h k l = record { low = omega (arith, ints); high = k }

pub le-itself : (a : ℤ) → a ≤ℤ a
le-itself a = omega (arith, ints)

-- the rest of a bound after a sum that is not far off
pub far-not-zero : (s : ℤ) (n : ℕ) → s ≡ pos 0 → n ≡ unsigned_abs s → 0 < n → ⊥
far-not-zero s n e v l = omega (arith, ints)

pub rest-small : (b s : ℤ) → unsigned_abs b ≤ 2 ^ 60 → unsigned_abs s ≤ 2 ^ 100 → unsigned_abs (b -ℤ s) ≤ 2 ^ 101
rest-small b s h k = let e = abs-minus b s in omega arith
  where
    abs-minus : (a b : ℤ) → unsigned_abs (a -ℤ b) ≤ unsigned_abs a + unsigned_abs b
    abs-minus a b = omega (arith, ints)

pub rest-fits : (b s : ℤ) → unsigned_abs b ≤ 2 ^ 60 → unsigned_abs s ≤ 2 ^ 100 → FitsSigned w128 (b -ℤ s)
rest-fits b s h k = let e = rest-small b s h k in fits_signed_from_abs w128 (b -ℤ s) (omega arith)

pub rest-same : (b s : ℤ) → s ≡ pos 0 → b -ℤ s ≡ b
rest-same b s e = omega (arith, ints)

pub below-zero : (z : ℤ) → (z ≡ pos 0 → ⊥) → z ≤ℤ pos 0 → z <ℤ pos 0
below-zero (pos zero) n h = absurd (n refl)
below-zero (pos (suc k)) n h = absurd (omega (arith, ints))
below-zero (negsuc k) n h = omega (arith, ints)

-- one width
pub width-past : (rows : List Row) (width column : ℕ) → All (λ r. length r.coefficients ≡ width) rows → column < width
    → All (λ r. column < length r.coefficients) rows
width-past rows width column h l i d m = let e = h i d m in omega arith

-- no other point where the candidate is none
pub none-left : (rows : List Row) (width : ℕ) (point : List ℤ) (b : Bool) → All (λ r. length r.coefficients ≡ width) rows → IsCandidate rows width point
    → (All (λ r. IsSingle r.coefficients) rows → HasPoint rows point → IsTrue b) → b ≡ false
    → All (λ r. IsSingle r.coefficients) rows → (other : List ℤ) → All IsInReplay other → HasPoint rows other → ⊥
none-left rows width point b widths c found missed single other ro h =
    let met : b ≡ true = found single (candidate-has rows width point widths c single other ro h) in
    absurd (false≢true (sym missed ∙ met))
