-- Numbers of a sum, and facts of the code about them.
use Rattle.std.proofs.Common.{◌≡◌, ℕ, ◌+◌, ◌*◌, ◌^◌, ◌<◌, ◌≤◌, ℤ, pos, negsuc, ◌*ℤ◌, List, [], ◌∷◌, ◌++◌, length, All, Some, slice_get, arith, sym, ap, ◌∙◌}
use Rattle.std.proofs.Common.{subst}
use Rattle.std.proofs.{Math.Nat.mul-le-mul, lemmas.Option.get_or_from_slice_get, lemmas.Option.slice_get_within, lemmas.Int.ints}
use Rattle.std.specs.Int.RustNames.{unsigned_abs}
use Rattle.rv_rows.proofs.{FormLemmas.pushed, RowLemmas.bound_within}
use Rattle.rv_rows.specs.{declared.linear.Row.Row, Rows.RowWithin, Rows.row_at, Forms.number}
use Rattle.rv_boxes.specs.{declared.ends.End.End, Ends.end_at, Ends.no_end, Boxed.IsTowards, Boxed.IsLoose}

pub row_read : (rows : List Row) (p : ℕ) (r : Row) → slice_get rows p ≡ Some r → row_at rows p ≡ r
row_read rows p r e = get_or_from_slice_get rows p r (record { coefficients = []; bound = pos 0 }) e

pub product_room : (rows : List Row) (p : ℕ) (r : Row) (s b : ℤ) → All (RowWithin (2 ^ 60)) rows → slice_get rows p ≡ Some r
    → unsigned_abs s ≤ 256 * 2 ^ 101 → unsigned_abs b ≤ 2 ^ 41
    → unsigned_abs s + unsigned_abs b * unsigned_abs r.bound < 2 ^ 127
product_room rows p r s b within e l m =
    let f : unsigned_abs (row_at rows p).bound ≡ unsigned_abs r.bound = ap (λ (q : Row). unsigned_abs q.bound) (row_read rows p r e) in
    let n : unsigned_abs (row_at rows p).bound ≤ 2 ^ 60 = bound_within (2 ^ 60) rows within p in
    let o : unsigned_abs r.bound ≤ 2 ^ 60 = omega arith in
    let q = mul-le-mul m o in
    omega arith

pub end_read : (ends : List End) (k : ℕ) (e : End) → slice_get ends k ≡ Some e → end_at ends k ≡ e
end_read ends k e h = get_or_from_slice_get ends k e no_end h

pub towards_read : (ends : List End) (k : ℕ) (e : End) (n m : ℤ) (p : ℕ) → slice_get ends k ≡ Some e → n ≡ m → IsTowards e n p → IsTowards (end_at ends k) m p
towards_read ends k e n m p h s t = subst (λ x. IsTowards x m p) (sym (end_read ends k e h)) (subst (λ z. IsTowards e z p) s t)

pub loose_read : (ends : List End) (k : ℕ) (e : End) (n m : ℤ) → slice_get ends k ≡ Some e → n ≡ m → IsLoose e n → IsLoose (end_at ends k) m
loose_read ends k e n m h s t = subst (λ x. IsLoose x m) (sym (end_read ends k e h)) (subst (λ z. IsLoose e z) s t)

pub number_within : (numbers : List ℤ) (k n : ℕ) → All (λ c. unsigned_abs c ≤ n) numbers → k < length numbers → unsigned_abs (number k numbers) ≤ n
number_within numbers k n h l = h k (pos 0) l

pub negated_read : (rows : List Row) (p : ℕ) (r : Row) (ns : List ℤ) → slice_get rows p ≡ Some r → ((k : ℕ) → number k ns ≡ negsuc 0 *ℤ number k r.coefficients)
    → (k : ℕ) → number k ns ≡ negsuc 0 *ℤ number k (row_at rows p).coefficients
negated_read rows p r ns e h k = h k ∙ ap (λ (q : Row). negsuc 0 *ℤ number k q.coefficients) (sym (row_read rows p r e))

pub negated_more : (xs ns ms : List ℤ) (i : ℕ) (x y : ℤ) → slice_get xs i ≡ Some x → length ns ≡ i
    → ((k : ℕ) → k < i → number k ns ≡ negsuc 0 *ℤ number k xs) → y ≡ negsuc 0 *ℤ x → ms ≡ ns ++ y ∷ []
    → (k : ℕ) → k < i + 1 → number k ms ≡ negsuc 0 *ℤ number k xs
negated_more xs ns ms i x y e len before y_is ms_is k l =
    ap (λ z. number k z) ms_is ∙ pushed (λ j. negsuc 0 *ℤ number j xs) ns y i len before (y_is
    ∙ ap (λ z. negsuc 0 *ℤ z) (sym (get_or_from_slice_get xs i x (pos 0) e))) k l

pub turned_small : (x y : ℤ) (n : ℕ) → y ≡ negsuc 0 *ℤ x → unsigned_abs x ≤ n → unsigned_abs y ≤ n
turned_small x y n e h = omega (arith, ints)

pub read_small : (xs : List ℤ) (i : ℕ) (x : ℤ) (n : ℕ) → All (λ c. unsigned_abs c ≤ n) xs → slice_get xs i ≡ Some x → unsigned_abs x ≤ n
read_small xs i x n h e = subst (λ z. unsigned_abs z ≤ n) (get_or_from_slice_get xs i x (pos 0) e) (h i (pos 0) (slice_get_within xs i x e))
