-- What the loops of the first turn leave together.
use Rattle.std.proofs.Common.{◌≡◌, ℕ, ◌+◌, ◌≤◌, ◌<◌, ◌^◌, ℤ, pos, ◌+ℤ◌, ◌*ℤ◌, List, [], length, get_or, take, Some, slice_get, arith, ap, sym, ◌∙◌}
use Rattle.std.proofs.Common.{subst, All, FitsSigned}
use Rattle.std.proofs.{Math.Nat.mul-le-mul}
use Rattle.std.proofs.lemmas.List.{get_or_default}
use Rattle.std.proofs.lemmas.List.Elements.{All-nil}
use Rattle.std.specs.{Int.RustNames.unsigned_abs, Int.w128, Prelude.int_lt, Prelude.int_le}
use Rattle.rv_rows.specs.Tight.{Fits}
use Rattle.rv_rows.specs.{declared.linear.Row.Row, declared.linear.Form.Form, declared.farkas.Multipliers.Multipliers, Rows.coefficient}
use Rattle.rv_rows.proofs.IntLemmas.{fits_product, fits_below, abs-add}
use Rattle.rv_poly.proofs.EliminateLemmas.{number_within}
use Rattle.rv_accel.specs.{declared.proved.Proved.Proved, Taken.AreTaken, Taken.IsProved, Taken.AreCounted, Pairs.gain}
use Rattle.rv_accel.specs.Turns.{IsReset, HasNoReset}
use Rattle.rv_accel.specs.Shown.{IsPinned, IsMovedRow}
use Rattle.rv_accel.specs.Around.{IsFirst, IsMovable, HaveMoved, AreMovable, gaining, staying, gains, stays}
use Rattle.rv_accel.proofs.{CountLemmas.counted-more, LoopLemmas.count_step, TakenLemmas.taken-more, TakenLemmas.taken-never}

-- a moved row is within the limits where its bound is
pub moved-fits : (updates : List Form) (t : List ℤ) (r s : Row) → IsMovable updates t r → IsMovedRow t r s → Fits s
moved-fits updates t r s m moved = record {
  coefficients = λ i d l. rw (get_or_default s.coefficients i d (pos 0) l, moved.coefficients i)
      (number_within (2 ^ 30) r.coefficients m.usable.fits.coefficients i);
  bound = m.bound s moved;
}

-- a bound of a memory that is reset
pub pin-is : (updates : List Form) (column : ℕ) (row : Row) (by constant : ℤ) (f : Form) → slice_get updates column ≡ Some f → IsReset f → f.constant ≡ constant
    → coefficient column row ≡ by → ((k : ℕ) → (k ≡ column → ⊥) → coefficient k row ≡ pos 0) → row.bound ≡ by *ℤ constant → IsPinned updates row
pin-is updates column row by constant f there reset is one others bound = record {
  column = column;
  form = f;
  there = there;
  reset = reset;
  others = others;
  bound = bound ∙ ap (λ z. z *ℤ constant) (sym one) ∙ ap (λ z. coefficient column row *ℤ z) (sym is);
}

pub pin-room : (by constant : ℤ) → unsigned_abs by ≤ 1 → unsigned_abs constant ≤ 2 ^ 41 → FitsSigned w128 (by *ℤ constant)
pin-room by constant h k = let x = mul-le-mul h k in fits_product (pos 0) by constant (omega arith)

pub moved-room : (b g : ℤ) → unsigned_abs b ≤ 2 ^ 60 → unsigned_abs g ≤ 2 ^ 78 → FitsSigned w128 (b +ℤ g)
moved-room b g h k = let x = abs-add b g in fits_below (b +ℤ g) (omega arith)

-- one turn of the loop that counts
pub counts-more : (t : List ℤ) (rows : List Row) (n : ℕ) (r : Row) → n < length rows → get_or rows n r ≡ r → (a b c : Proved)
    → AreCounted t (gaining t (take n rows)) (staying t (take n rows)) a b → AreCounted t (gains t r) (stays t r) b c
    → AreCounted t (gaining t (take (n + 1) rows)) (staying t (take (n + 1) rows)) a c
counts-more t rows n r l e a b c x y = counted-more t (gaining t (take n rows)) (staying t (take n rows)) (gains t r) (stays t r)
    (gaining t (take (n + 1) rows))
    (staying t (take (n + 1) rows)) a b c x y (count_step (λ q. int_lt (pos 0) (gain t q)) rows n r l e)
    (count_step (λ q. int_le (gain t q) (pos 0)) rows n r l e)

module _ (Shown : Row → Multipliers → Type 0) (S : Type 0) (a b c : Proved) where
  -- two bounds of one memory, of which nothing is said where there is none
  pub both-bounds : AreTaken Shown (λ rows. Unit {0}) ⊥ 1 a b → AreTaken Shown (λ rows. Unit {0}) ⊥ 1 b c → (S → ⊥) → AreTaken Shown (λ rows. Unit {0}) S 0 a c
  both-bounds x y never = taken-never Shown (λ rows. Unit {0}) (λ rows. Unit {0}) ⊥ S 2 0 a c
      (taken-more Shown (λ rows. Unit {0}) (λ rows. Unit {0}) (λ rows. Unit {0}) ⊥ ⊥ ⊥ 1 1 2 a b c x y (λ xs ys w h k. tt) (λ s. s) (λ s. s) (omega arith))
      (λ xs h. tt) never

  pub more-bounds : AreTaken Shown (λ rows. Unit {0}) S 0 a b → AreTaken Shown (λ rows. Unit {0}) S 0 b c → AreTaken Shown (λ rows. Unit {0}) S 0 a c
  more-bounds x y = taken-more Shown (λ rows. Unit {0}) (λ rows. Unit {0}) (λ rows. Unit {0}) S S S 0 0 0 a b c x y (λ xs ys w h k. tt) (λ s. s)
      (λ s. s) (omega arith)

module _ (given : List Row) (updates : List Form) (t : List ℤ) (entry tests : List Row) (o a b c : Proved) (no_rows : o.rows ≡ []) (no_by : o.by ≡ [])
    (no_drop : o.dropped ≡ 0)
    (x : AreTaken (IsFirst given updates t) (λ rows. Unit {0}) (HasNoReset updates) 0 o a)
    (y : AreTaken (IsFirst given updates t) (HaveMoved t entry (length entry)) (AreMovable updates t entry) (length entry) a b)
    (z : AreTaken (IsFirst given updates t) (HaveMoved t tests (length tests)) (AreMovable updates t tests) (length tests) b c) where
  start : IsProved (IsFirst given updates t) o
  start = record {
    shown = record { size = ap length no_by ∙ sym (ap length no_rows); each = λ i d m l. absurd (let q = ap length no_rows in omega arith) };
    fits = subst (λ q. All Fits q) (sym no_rows) (All-nil Fits);
    most = let q = ap length no_rows in omega arith;
  }

  pub first-proved : IsProved (IsFirst given updates t) c
  first-proved = z.proved (y.proved (x.proved start))

  pub first-entry : c.dropped ≡ 0 → HaveMoved t entry (length entry) c.rows
  first-entry none i d l m = let g = y.has (z.none none) i d l m in (g.0, g.1, z.kept (g.0) (g.2))

  pub first-tests : c.dropped ≡ 0 → HaveMoved t tests (length tests) c.rows
  first-tests none = z.has none

  pub first-room : HasNoReset updates → length entry + length tests ≤ 1024 → AreMovable updates t entry → AreMovable updates t tests → c.dropped ≡ 0
  first-room own l one two =
      let p = x.size own in
      let q = y.size one in
      let e = ap length no_rows in
      let none = x.room own no_drop (omega arith) in
      let next = y.room one none (omega arith) in
      z.room two next (omega arith)
