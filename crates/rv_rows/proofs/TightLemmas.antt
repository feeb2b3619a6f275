-- What tightening a row keeps.
use Rattle.std.proofs.Common.{◌≡◌, ◌↔◌, ℕ, suc, ◌+◌, ◌*◌, ◌≤◌, ◌<◌, ℤ, pos, negsuc, ◌+ℤ◌, ◌*ℤ◌, ◌≤ℤ◌, ◌<ℤ◌, List, [], ◌∷◌, All, length, get_or, set, slice_get}
use Rattle.std.proofs.Common.{Some, arith, ap, sym, ◌∙◌, ◌⊎◌, inl, inr}
use Rattle.std.proofs.Math.Nat.{mul-div_cancel', dvd_trans, dvd-zero, eq-zero_of_zero-dvd}
use Rattle.std.proofs.{Math.IntN.*ℤ-zero, Math.IntN.neg_ℤ, lemmas.Int.ints, lemmas.Bool.cases_lt, lemmas.List.get_or-set_same, lemmas.List.get_or-set_other}
use Rattle.std.proofs.{lemmas.List.get_or_past, lemmas.Option.get_or_from_slice_get, lemmas.List.Elements.All-from_get_or}
use Prim.Native.Nat.{◌∣◌, ◌/◌}
use borrow.Author.Differences.{up, down, same_in, product_is, neg_is}
use Rattle.std.specs.{Int.IsGcd, Int.RustNames.unsigned_abs}
use Rattle.rv_rows.specs.{declared.linear.Row.Row, Rows.dot, Rows.Holds, Tight.IsCommonDivisor, Tight.IsDivided, Tight.IsTightened}
use Rattle.rv_rows.proofs.IntLemmas.{mul_add, mul_assoc_int, mul_mono, below_next, le_lt_trans}
use Rattle.rv_rows.proofs.RowLemmas.{dot-cons, get_or-tail, dot-none, tail_of}

-- the common divisor of the first i coefficients
pub record DividesUpto (g : ℕ) (cs : List ℤ) (i : ℕ) : Type 0 where
  pub divides : (k : ℕ) → k < i → g ∣ unsigned_abs (get_or cs k (pos 0))
  pub greatest : (d : ℕ) → ((k : ℕ) → k < i → d ∣ unsigned_abs (get_or cs k (pos 0))) → d ∣ g

pub DividesUpto-more : (g h : ℕ) (cs : List ℤ) (i : ℕ) → DividesUpto g cs i → IsGcd g (unsigned_abs (get_or cs i (pos 0))) h → DividesUpto h cs (i + 1)
DividesUpto-more g h cs i p q = record {
  divides = λ k l. go k (cases_lt k i) l;
  greatest = λ d e. q.2 d (p.greatest d (λ k l. e k (omega arith))) (e i (omega arith));
}
  where
    go : (k : ℕ) → (k < i) ⊎ (i ≤ k) → k < i + 1 → h ∣ unsigned_abs (get_or cs k (pos 0))
    go k (inl l) m = dvd_trans h q.0 (p.divides k l)
    go k (inr l) m = let e : k ≡ i = omega arith in rw e q.1

pub DividesUpto-all : (g : ℕ) (cs : List ℤ) (i : ℕ) → length cs ≤ i → DividesUpto g cs i → IsCommonDivisor g cs
DividesUpto-all g cs i h p = record {
  divides = All-from_get_or (λ c. g ∣ unsigned_abs c) cs (pos 0) (λ k l. p.divides k (omega arith));
  greatest = λ d e. p.greatest d (λ k l. go d e k (cases_lt k (length cs)));
}
  where
    go : (d : ℕ) → All (λ c. d ∣ unsigned_abs c) cs → (k : ℕ) → (k < length cs) ⊎ (length cs ≤ k) → d ∣ unsigned_abs (get_or cs k (pos 0))
    go d e k (inl l) = e k (pos 0) l
    go d e k (inr l) = rw (get_or_past cs k (pos 0) l) (dvd-zero d)

-- a number that g divides is g times some number
whole_part : (g : ℕ) (z : ℤ) → g ∣ unsigned_abs z → (q : ℤ) × (z ≡ pos g *ℤ q)
whole_part g (pos n) h = (pos (n / g), let e : g * (n / g) ≡ n = mul-div_cancel' g h in ap pos (sym e))
whole_part g (negsuc n) h =
    let e : g * (suc n / g) ≡ suc n = mul-div_cancel' g h in
    let p = product_is (pos g) (neg_ℤ (pos (suc n / g))) in
    let m = neg_is (pos (suc n / g)) in
    let a : g * down (neg_ℤ (pos (suc n / g))) ≡ g * (suc n / g) = ap (λ x. g * x) m.1 in
    let b : g * up (neg_ℤ (pos (suc n / g))) ≡ g * 0 = ap (λ x. g * x) m.0 in
    (neg_ℤ (pos (suc n / g)), same_in _ _ (omega arith))

pub antisym : (a b : ℤ) → a ≤ℤ b → b ≤ℤ a → a ≡ b
antisym a b h k = omega (arith, ints)

times_next : (n : ℕ) (x : ℤ) → 0 < n → (pos n *ℤ x) <ℤ (pos n *ℤ (x +ℤ pos 1))
times_next n x l = rw (mul_add (pos n) x (pos 1)) (omega (arith, ints))

exact_from : (g : ℕ) (z q w : ℤ) → z ≡ pos g *ℤ w → 0 < g → (pos g *ℤ q) ≤ℤ z → z <ℤ (pos g *ℤ (q +ℤ pos 1)) → z ≡ pos g *ℤ q
exact_from g z q w e some low high =
    let positive : pos 1 ≤ℤ pos g = omega (arith, ints) in
    let under : w ≤ℤ q = below_next (pos g) w q positive (rw e at high) in
    let over : q ≤ℤ w = below_next (pos g) q w positive (le_lt_trans _ _ _ (rw e at low) (times_next g w some)) in
    e ∙ ap (λ x. pos g *ℤ x) (antisym w q under over)

pub exact_quotient : (g : ℕ) (z q : ℤ) → 0 < g → g ∣ unsigned_abs z → (pos g *ℤ q) ≤ℤ z → z <ℤ (pos g *ℤ (q +ℤ pos 1)) → z ≡ pos g *ℤ q
exact_quotient g z q some h low high = let w = whole_part g z h in exact_from g z q w.0 w.1 some low high

-- one turn of the loop that divides
module _ (g : ℕ) (old now : List ℤ) (i : ℕ) (c q : ℤ) (some : 0 < g) (width : length now ≡ length old) (inside : i < length now)
    (done : (k : ℕ) → k < i → get_or old k (pos 0) ≡ pos g *ℤ get_or now k (pos 0))
    (left : (k : ℕ) → i ≤ k → get_or old k (pos 0) ≡ get_or now k (pos 0))
    (read : slice_get now i ≡ Some c) (divides : All (λ z. g ∣ unsigned_abs z) old)
    (low : (pos g *ℤ q) ≤ℤ c) (high : c <ℤ (pos g *ℤ (q +ℤ pos 1))) where
  here : get_or old i (pos 0) ≡ c
  here = left i (omega arith) ∙ get_or_from_slice_get now i c (pos 0) read

  there : c ≡ pos g *ℤ q
  there =
      let d : g ∣ unsigned_abs (get_or old i (pos 0)) = divides i (pos 0) (omega arith) in
      exact_quotient g c q some (rw (sym here) d) low high

  pub divide-done : (k : ℕ) → k < i + 1 → get_or old k (pos 0) ≡ pos g *ℤ get_or (set now i q) k (pos 0)
  divide-done k l = go (cases_lt k i)
    where
      go : (k < i) ⊎ (i ≤ k) → get_or old k (pos 0) ≡ pos g *ℤ get_or (set now i q) k (pos 0)
      go (inl m) = done k m ∙ ap (λ z. pos g *ℤ z) (sym (get_or-set_other now i k q (pos 0) (omega arith)))
      go (inr m) = let e : k ≡ i = omega arith in rw e (here ∙ there ∙ ap (λ z. pos g *ℤ z) (sym (get_or-set_same now i q (pos 0) inside)))

  pub divide-left : (k : ℕ) → i + 1 ≤ k → get_or old k (pos 0) ≡ get_or (set now i q) k (pos 0)
  divide-left k l = left k (omega arith) ∙ sym (get_or-set_other now i k q (pos 0) (omega arith))

-- coefficients that are d times others
pub dot-scale : (xs : List ℤ) (d : ℤ) (cs ds : List ℤ) → ((k : ℕ) → get_or cs k (pos 0) ≡ d *ℤ get_or ds k (pos 0)) → dot cs xs ≡ d *ℤ dot ds xs
dot-scale [] d cs ds h = dot-none cs ∙ sym (ap (λ z. d *ℤ z) (dot-none ds) ∙ *ℤ-zero d)
dot-scale (x ∷ xs) d cs ds h =
    dot-cons cs x xs
    ∙ ap (λ z. (z *ℤ x) +ℤ dot (tail_of cs) xs) (h 0)
    ∙ ap (λ z. z +ℤ dot (tail_of cs) xs) (mul_assoc_int d (get_or ds 0 (pos 0)) x)
    ∙ ap (λ z. (d *ℤ (get_or ds 0 (pos 0) *ℤ x)) +ℤ z) (dot-scale xs d (tail_of cs) (tail_of ds)
    (λ k. get_or-tail cs k ∙ h (k + 1) ∙ ap (λ z. d *ℤ z) (sym (get_or-tail ds k))))
    ∙ sym (mul_add d (get_or ds 0 (pos 0) *ℤ x) (dot (tail_of ds) xs))
    ∙ ap (λ z. d *ℤ z) (sym (dot-cons ds x xs))

divided_same : (g : ℕ) (old new : Row) → 0 < g → IsDivided g old new → (point : List ℤ) → Holds new point ↔ Holds old point
divided_same g old new some d point =
    let e = dot-scale point (pos g) old.coefficients new.coefficients d.coefficients in
    let positive : pos 1 ≤ℤ pos g = omega (arith, ints) in
    let nonneg : pos 0 ≤ℤ pos g = omega (arith, ints) in
    let lower = d.lower in
    let upper = d.upper in (
      (λ (h : Holds new point). let m = mul_mono (pos g) (dot new.coefficients point) new.bound nonneg h in rw e (le_trans_int _ _ _ m lower)),
      (λ (h : Holds old point). below_next (pos g) (dot new.coefficients point) new.bound positive (le_lt_trans _ _ _ (rw e at h) upper)),
    )
  where
    le_trans_int : (a b c : ℤ) → a ≤ℤ b → b ≤ℤ c → a ≤ℤ c
    le_trans_int a b c h k = omega (arith, ints)

pub tight_same : (old new : Row) → IsTightened old new → (point : List ℤ) → Holds new point ↔ Holds old point
tight_same old new t point = go (cases_lt 0 t.divisor)
  where
    go : (0 < t.divisor) ⊎ (t.divisor ≤ 0) → Holds new point ↔ Holds old point
    go (inl l) = divided_same t.divisor old new l (t.divided l) point
    go (inr l) = let z : t.divisor ≡ 0 = omega arith in let e : new ≡ old = t.none z in rw e ((λ h. h), (λ h. h))

pub DividesUpto-none : (cs : List ℤ) → DividesUpto 0 cs 0
DividesUpto-none cs = record { divides = λ k l. absurd (omega arith); greatest = λ d e. dvd-zero d }

-- a row whose coefficients are all 0 stays
pub tight_stays : (old new : Row) → IsTightened old new → All (λ c. c ≡ pos 0) old.coefficients → new ≡ old
tight_stays old new t zeros = t.none (eq-zero_of_zero-dvd (t.common.greatest 0
    (λ i d l. let e : get_or old.coefficients i d ≡ pos 0 = zeros i d l in rw e (dvd-zero 0))))
