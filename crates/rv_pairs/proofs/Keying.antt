-- Keys of left sides: that of a sum follows from those of its two parts.
use Rattle.std.proofs.Common.{◌≡◌, ℕ, zero, suc, ◌+◌, ◌*◌, ◌/◌, ◌%◌, ◌<◌, ◌≤◌, ℤ, pos, negsuc, ◌+ℤ◌, ◌-ℤ◌, ◌*ℤ◌, ◌≤ℤ◌, List, [], ◌∷◌, length, drop, slice_get}
use Rattle.std.proofs.Common.{Some}
use Rattle.std.proofs.Common.{arith, refl, sym, ap, ◌∙◌, subst, ◌⊎◌, inl, inr}
use Rattle.std.proofs.{lemmas.Int.ints, lemmas.Option.same_Some, lemmas.Option.none-some}
use Rattle.std.specs.Int.{int_div_euclid, int_rem_euclid}
use Rattle.std.proofs.Math.IntN.{nat_abs}
use Rattle.rv_rows.specs.{declared.linear.Row.Row, Forms.number}
use Rattle.rv_pairs.specs.{Keys.fold, Keys.HasRest, Keys.IsKey, Shown.IsSumOf}

euclid : (z : ℤ) → z ≡ (int_div_euclid z (pos 4096) *ℤ pos 4096) +ℤ int_rem_euclid z (pos 4096)
euclid (pos a) = let e : 4096 * (a / 4096) + a % 4096 ≡ a = omega arith in omega (arith, ints)
euclid (negsuc a) =
    let e : 4096 * (a / 4096) + a % 4096 ≡ a = omega arith in
    let k : a % 4096 < 4096 = omega arith in
    omega (arith, ints)

nat_same : (r : ℤ) → pos 0 ≤ℤ r → pos (nat_abs r) ≡ r
nat_same (pos n) l = refl
nat_same (negsuc n) l = absurd (omega (arith, ints))

pub rest_of : (z r : ℤ) → r ≡ int_rem_euclid z (pos 4096) → pos 0 ≤ℤ r → HasRest z (nat_abs r)
rest_of z r is low = (
  int_div_euclid z (pos 4096),
  euclid z ∙ ap (λ (x : ℤ). (int_div_euclid z (pos 4096) *ℤ pos 4096) +ℤ x) (sym (nat_same r low ∙ is)),
)

pub fold_none : fold [] ≡ pos 0
unfolding fold
fold_none = refl

pub fold_more : (c : ℤ) (cs : List ℤ) → fold (c ∷ cs) ≡ c +ℤ (pos 1229 *ℤ fold cs)
unfolding fold
fold_more c cs = refl

pub key_none : IsKey [] 0
key_none = record { below = omega arith; rest = (pos 0, let e = fold_none in omega (arith, ints)) }

pub key_more : (c : ℤ) (cs : List ℤ) (key first : ℕ) → HasRest c first → IsKey cs key → IsKey (c ∷ cs) ((first + 1229 * key) % 4096)
key_more c cs key first (p, e) is = record {
  below = omega arith;
  rest = (
    p +ℤ (pos 1229 *ℤ is.rest.0) +ℤ pos ((first + 1229 * key) / 4096),
    go c (fold cs) (fold (c ∷ cs)) p is.rest.0 ((first + 1229 * key) / 4096) ((first + 1229 * key) % 4096) (fold_more c cs) e is.rest.1 (omega arith),
  );
}
  where
    go : (c f g p r : ℤ) (m n : ℕ) → g ≡ c +ℤ (pos 1229 *ℤ f) → c ≡ (p *ℤ pos 4096) +ℤ pos first → f ≡ (r *ℤ pos 4096) +ℤ pos key
        → m * 4096 + n ≡ first + 1229 * key → g ≡ ((p +ℤ (pos 1229 *ℤ r) +ℤ pos m) *ℤ pos 4096) +ℤ pos n
    go c f g p r m n a b d e = omega (arith, ints)

pub key_same : (cs : List ℤ) (m n : ℕ) → IsKey cs m → IsKey cs n → m ≡ n
key_same cs m n one other = go (fold cs) one.rest.0 other.rest.0 m n one.rest.1 other.rest.1 one.below other.below
  where
    go : (f p q : ℤ) (m n : ℕ) → f ≡ (p *ℤ pos 4096) +ℤ pos m → f ≡ (q *ℤ pos 4096) +ℤ pos n → m < 4096 → n < 4096 → m ≡ n
    go f p q m n a b l k = omega (arith, ints)

pub key_rest : (whole part other : List ℤ) (w p n : ℕ) → IsKey whole w → IsKey part p → fold whole ≡ fold part +ℤ fold other → n < 4096
    → (n + p ≡ w) ⊎ (n + p ≡ w + 4096) → IsKey other n
key_rest whole part other w p n one two sum l (inl e) = record {
  below = l;
  rest = (
    one.rest.0 -ℤ two.rest.0,
    go (fold whole) (fold part) (fold other)
        one.rest.0 two.rest.0 one.rest.1 two.rest.1 sum,
  );
}
  where
    go : (f g h x y : ℤ) → f ≡ (x *ℤ pos 4096) +ℤ pos w → g ≡ (y *ℤ pos 4096) +ℤ pos p → f ≡ g +ℤ h → h ≡ ((x -ℤ y) *ℤ pos 4096) +ℤ pos n
    go f g h x y a b c = omega (arith, ints)
key_rest whole part other w p n one two sum l (inr e) = record {
  below = l;
  rest = (
    one.rest.0 -ℤ two.rest.0 -ℤ pos 1,
    go (fold whole) (fold part) (fold other)
        one.rest.0 two.rest.0 one.rest.1 two.rest.1 sum,
  );
}
  where
    go : (f g h x y : ℤ) → f ≡ (x *ℤ pos 4096) +ℤ pos w → g ≡ (y *ℤ pos 4096) +ℤ pos p → f ≡ g +ℤ h → h ≡ ((x -ℤ y -ℤ pos 1) *ℤ pos 4096) +ℤ pos n
    go f g h x y a b c = omega (arith, ints)

-- all but the first number
abbrev rest : List ℤ → List ℤ
rest [] = []
rest (c ∷ cs) = cs

fold_parts : (cs : List ℤ) → fold cs ≡ number 0 cs +ℤ (pos 1229 *ℤ fold (rest cs))
fold_parts [] = let e = fold_none in omega (arith, ints)
fold_parts (c ∷ cs) = fold_more c cs

rest_number : (cs : List ℤ) (k : ℕ) → number k (rest cs) ≡ number (suc k) cs
rest_number [] k = refl
rest_number (c ∷ cs) k = refl

rest_length : (cs : List ℤ) (n : ℕ) → length cs ≤ suc n → length (rest cs) ≤ n
rest_length [] n l = omega arith
rest_length (c ∷ cs) n l = omega (arith, l)

fold_empty : (cs : List ℤ) → length cs ≤ 0 → fold cs ≡ pos 0
fold_empty [] l = fold_none
fold_empty (c ∷ cs) l = absurd (omega (arith, l))

fold_sum_in : (n : ℕ) (xs ys zs : List ℤ) → length xs ≤ n → length ys ≤ n → length zs ≤ n → ((k : ℕ) → number k xs ≡ number k ys +ℤ number k zs)
    → fold xs ≡ fold ys +ℤ fold zs
fold_sum_in zero xs ys zs l m k h =
    let a = fold_empty xs l in
    let b = fold_empty ys m in
    let c = fold_empty zs k in
    omega (arith, ints)
fold_sum_in (suc n) xs ys zs l m k h =
    go (fold xs) (fold ys) (fold zs) (number 0 xs) (number 0 ys) (number 0 zs) (fold (rest xs)) (fold (rest ys)) (fold (rest zs)) (fold_parts xs)
    (fold_parts ys) (fold_parts zs) (h 0)
    (fold_sum_in n (rest xs) (rest ys) (rest zs) (rest_length xs n l) (rest_length ys n m) (rest_length zs n k)
    (λ j. rest_number xs j ∙ h (suc j) ∙ ap (λ (x : ℤ). x +ℤ number (suc j) zs) (sym (rest_number ys j))
    ∙ ap (λ (x : ℤ). number j (rest ys) +ℤ x) (sym (rest_number zs j))))
  where
    go : (a b c x y z u v w : ℤ) → a ≡ x +ℤ (pos 1229 *ℤ u) → b ≡ y +ℤ (pos 1229 *ℤ v) → c ≡ z +ℤ (pos 1229 *ℤ w) → x ≡ y +ℤ z → u ≡ v +ℤ w → a ≡ b +ℤ c
    go a b c x y z u v w e f g h i = omega (arith, ints)

-- the fold of a sum
pub fold_sum : (numbers : List ℤ) (a b : Row) → IsSumOf numbers a b → fold numbers ≡ fold b.coefficients +ℤ fold a.coefficients
fold_sum numbers a b h =
    turn (fold numbers) (fold a.coefficients) (fold b.coefficients)
    (fold_sum_in (length numbers + length a.coefficients + length b.coefficients) numbers a.coefficients b.coefficients (omega arith) (omega arith)
    (omega arith) h)
  where
    turn : (x y z : ℤ) → x ≡ y +ℤ z → x ≡ z +ℤ y
    turn x y z e = omega (arith, ints)

-- a list from a place on
pub drop_next : (xs : List ℤ) (k : ℕ) (x : ℤ) → slice_get xs k ≡ Some x → drop k xs ≡ x ∷ drop (k + 1) xs
drop_next [] k x at = absurd (none-some x at)
drop_next (y ∷ ys) zero x at = ap (λ (z : ℤ). z ∷ ys) (same_Some y x at)
drop_next (y ∷ ys) (suc k) x at = let e : suc (k + 1) ≡ suc k + 1 = omega arith in drop_next ys k x at ∙ ap (λ (n : ℕ). x ∷ drop n (y ∷ ys)) e

pub drop_all : (xs : List ℤ) (k : ℕ) → k ≡ length xs → drop k xs ≡ []
drop_all [] zero e = refl
drop_all [] (suc k) e = absurd (omega (arith, e))
drop_all (y ∷ ys) zero e = absurd (omega (arith, e))
drop_all (y ∷ ys) (suc k) e = drop_all ys k (omega (arith, e))

-- a row by itself
pub key_alone : (numbers : List ℤ) (a none : Row) (here key : ℕ) → none.coefficients ≡ [] → IsKey a.coefficients here → IsKey numbers key
    → IsSumOf numbers a none → here ≡ key
key_alone numbers a none here key empty one wanted sum =
    key_same a.coefficients here key one (record { below = wanted.below; rest = subst (λ (z : ℤ). HasRest z key) same wanted.rest })
  where
    drop_none : (x y z : ℤ) → x ≡ y +ℤ z → y ≡ pos 0 → x ≡ z
    drop_none x y z e f = omega (arith, ints)

    same : fold numbers ≡ fold a.coefficients
    same = drop_none (fold numbers) (fold none.coefficients) (fold a.coefficients) (fold_sum numbers a none sum) (ap fold empty ∙ fold_none)
