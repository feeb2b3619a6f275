-- How many rows gain along a direction, lose, or do neither.
use Rattle.std.proofs.Common.{◌≡◌, ℕ, ◌+◌, ◌≤◌, ℤ, pos, ◌≤ℤ◌, ◌<ℤ◌, true, false, List, [], ◌∷◌, cond, length, arith, refl, ap}
use Rattle.std.proofs.lemmas.Int.{ints, by_lt_z}
use Rattle.std.proofs.lemmas.List.Sums.{sum_by-cons, sum_by_push}
use Rattle.std.specs.Prelude.{int_lt, int_le}
use Rattle.rv_rows.specs.{declared.linear.Row.Row, declared.farkas.Multipliers.Multipliers}
use Rattle.rv_accel.specs.{declared.proved.Proved.Proved, Pairs.gain, Taken.IsHanded, Taken.added, Taken.left, Taken.IsLeft, Taken.AreCounted}
use Rattle.rv_accel.specs.Around.{losing, gaining, staying, loses, gains, stays}

one_of : (g : ℤ) → cond (int_lt (pos 0) g) 1 0 + cond (int_le g (pos 0)) 1 0 ≡ 1
one_of g = by_lt_z (pos 0) g
    (λ (h : pos 0 <ℤ g). let a : int_lt (pos 0) g ≡ true = grind (arith, ints) in let b : int_le g (pos 0) ≡ false = grind (arith, ints) in rw (a, b) refl)
    (λ (h : g ≤ℤ pos 0). let a : int_lt (pos 0) g ≡ false = grind (arith, ints) in let b : int_le g (pos 0) ≡ true = grind (arith, ints) in rw (a, b) refl)

at_most : (g : ℤ) → cond (int_lt g (pos 0)) 1 0 ≤ cond (int_le g (pos 0)) 1 0
at_most g = by_lt_z g (pos 0)
    (λ (h : g <ℤ pos 0). let a : int_lt g (pos 0) ≡ true = grind (arith, ints) in let b : int_le g (pos 0) ≡ true = grind (arith, ints) in
    rw (a, b) (omega arith))
    (λ (h : pos 0 ≤ℤ g). let a : int_lt g (pos 0) ≡ false = grind (arith, ints) in rw a (omega arith))

pub both_counts : (t : List ℤ) (rows : List Row) → gaining t rows + staying t rows ≡ length rows
both_counts t [] = refl
both_counts t (r ∷ rows) =
    let a = sum_by-cons (gains t) r rows in
    let b = sum_by-cons (stays t) r rows in
    let c = both_counts t rows in
    let d = one_of (gain t r) in
    omega arith

pub losing-le-staying : (t : List ℤ) (rows : List Row) → losing t rows ≤ staying t rows
losing-le-staying t [] = omega arith
losing-le-staying t (r ∷ rows) =
    let a = sum_by-cons (loses t) r rows in
    let b = sum_by-cons (stays t) r rows in
    let c = losing-le-staying t rows in
    let d = at_most (gain t r) in
    omega arith

module _ (t : List ℤ) where
  pub counted-none : (u v : ℕ) (a : Proved) → AreCounted t u v a a
  counted-none u v a = record { ups = omega arith; levels = omega arith }

  pub counted-more : (u v x y w z : ℕ) (a b c : Proved) → AreCounted t u v a b → AreCounted t x y b c → u + x ≤ w → v + y ≤ z → AreCounted t w z a c
  counted-more u v x y w z a b c p q e f = record {
    ups = let m = p.ups in let n = q.ups in omega arith;
    levels = let m = p.levels in let n = q.levels in omega arith;
  }

  pub counted-left : (u v : ℕ) (a b : Proved) → IsLeft a b → AreCounted t u v a b
  counted-left u v a b l = record {
    ups = let e = ap (gaining t) l.rows in omega arith;
    levels = let e = ap (staying t) l.rows in omega arith;
  }

  pub counted-one : (r row : Row) (m : Multipliers) (a b : Proved) → IsHanded row m a b → gain t row ≡ gain t r → AreCounted t (gains t r) (stays t r) a b
  counted-one r row m a b (added f l er eb ed) g = record {
    ups = let e = ap (gaining t) er in let n = sum_by_push (gains t) a.rows row in let k : gains t row ≡ gains t r =
        ap (λ z. cond (int_lt (pos 0) z) 1 0) g in omega arith;
    levels = let e = ap (staying t) er in let n = sum_by_push (stays t) a.rows row in let k : stays t row ≡ stays t r =
        ap (λ z. cond (int_le z (pos 0)) 1 0) g in omega arith;
  }
  counted-one r row m a b (left not er eb d) g = record {
    ups = let e = ap (gaining t) er in omega arith;
    levels = let e = ap (staying t) er in omega arith;
  }
