-- The samples are systems.
use Rattle.std.proofs.Common.{◌≡◌, ℕ, zero, suc, ◌<◌, ◌≤◌, ◌^◌, ℤ, pos, negsuc, ◌*ℤ◌, ◌≤ℤ◌, ◌<ℤ◌, ◌+ℤ◌, length, Bool, true, false, not, Some, arith, refl, ap}
use Rattle.std.proofs.Common.{subst}
use Rattle.std.proofs.lemmas.Option.{same_Some, none-some}
use Rattle.std.proofs.{Math.Nat.one-dvd, lemmas.Int.ints, lemmas.Nat.Gcd.dvd-zero, lemmas.List.Elements.All-from_get_or}
use Prim.Native.Nat.{◌∣◌}
use Rattle.std.specs.Int.RustNames.{unsigned_abs}
use Rattle.rv_diagram.specs.Nodes.{Valuation}
use Rattle.rv_rows.specs.{declared.linear.Row.Row, Rows.coefficient, Tight.IsTightened}
use Rattle.rv_proofs.specs.Systems.{System, IsSystem, IsTestRow, IsUpdate, IsState, IsRead, IsSameValuation}
use Rattle.rv_proofs.specs.Samples.{counting, counting_row, rising, rising_row, row1, form1}
use Rattle.rv_proofs.specs.Counters.{paired, paired_row, paired_update, row2, form2}
use Rattle.rv_proofs.proofs.Counting.{three_read, tick_state, two_read}
use Rattle.rv_proofs.proofs.{Sampling.all_one, Sampling.all_two, Filed.four_read, Filed.three_read as paired_three_read}
use Rattle.rv_base.proofs.Truths.{of_not_true}

-- a row with a coefficient of magnitude 1 is tight, and so is one without coefficients other than 0
tight_at : (r : Row) (k : ℕ) → k < length r.coefficients → unsigned_abs (coefficient k r) ≡ 1 → IsTightened r r
tight_at r k l e = record {
  divisor = 1;
  common = record {
    divides = All-from_get_or (λ c. 1 ∣ unsigned_abs c) r.coefficients (pos 0) (λ j h. one-dvd (unsigned_abs (coefficient j r)));
    greatest = λ d all. subst (λ (n : ℕ). d ∣ n) e (all k (pos 0) l);
  };
  none = λ z. absurd (apart 1 refl z);
  divided = λ h. record {
    width = refl;
    coefficients = λ j. once (coefficient j r);
    lower = low r.bound;
    upper = high r.bound;
  };
}
  where
    apart : (n : ℕ) → n ≡ 1 → n ≡ 0 → ⊥
    apart n e f = omega arith

    once : (z : ℤ) → z ≡ pos 1 *ℤ z
    once z = omega (arith, ints)

    low : (b : ℤ) → (pos 1 *ℤ b) ≤ℤ b
    low b = omega (arith, ints)

    high : (b : ℤ) → b <ℤ (pos 1 *ℤ (b +ℤ pos 1))
    high b = omega (arith, ints)

tight_zero : (r : Row) → ((k : ℕ) → coefficient k r ≡ pos 0) → IsTightened r r
tight_zero r zeros = record {
  divisor = 0;
  common = record {
    divides = All-from_get_or (λ c. 0 ∣ unsigned_abs c) r.coefficients (pos 0) (λ j h. rw (zeros j) (dvd-zero 0));
    greatest = λ d all. dvd-zero d;
  };
  none = λ e. refl;
  divided = λ h. absurd (none h);
}
  where
    none : 0 < 0 → ⊥
    none h = omega arith

small_unit : (z : ℤ) → unsigned_abs z ≡ 1 → unsigned_abs z ≤ 2 ^ 41
small_unit z e = omega arith

one_column : (s : System) (c b : ℤ) → 1 ≡ s.columns → unsigned_abs c ≡ 1 → unsigned_abs b ≤ 2 ^ 60 → IsTestRow s (row1 c b)
one_column s c b w e l = record {
  wide = w;
  tight = tight_at (row1 c b) 0 (omega arith) e;
  coefficients = all_one (λ z. unsigned_abs z ≤ 2 ^ 41) c (small_unit c e);
  bound = l;
}

two_columns : (s : System) (a b c : ℤ) → 2 ≡ s.columns → unsigned_abs a ≡ 1 → unsigned_abs b ≡ 1 → unsigned_abs c ≤ 2 ^ 60 → IsTestRow s (row2 a b c)
two_columns s a b c w e f l = record {
  wide = w;
  tight = tight_at (row2 a b c) 0 (omega arith) e;
  coefficients = all_two (λ z. unsigned_abs z ≤ 2 ^ 41) a b (small_unit a e) (small_unit b f);
  bound = l;
}

no_column : (s : System) (c : ℤ) → 2 ≡ s.columns → unsigned_abs c ≤ 2 ^ 60 → IsTestRow s (row2 (pos 0) (pos 0) c)
no_column s c w l = record {
  wide = w;
  tight = tight_zero (row2 (pos 0) (pos 0) c) zeros;
  coefficients = all_two (λ z. unsigned_abs z ≤ 2 ^ 41) (pos 0) (pos 0) (omega arith) (omega arith);
  bound = l;
}
  where
    zeros : (k : ℕ) → coefficient k (row2 (pos 0) (pos 0) c) ≡ pos 0
    zeros zero = refl
    zeros (suc zero) = refl
    zeros (suc (suc k)) = refl

update_one : (s : System) (c k : ℤ) → 1 ≡ s.columns → unsigned_abs c ≤ 2 ^ 40 → unsigned_abs k ≤ 2 ^ 40 → IsUpdate s (form1 c k)
update_one s c k w l m = record { wide = w; small = (all_one (λ z. unsigned_abs z ≤ 2 ^ 40) c l, m) }

update_two : (s : System) (a b k : ℤ) → 2 ≡ s.columns → unsigned_abs a ≤ 2 ^ 40 → unsigned_abs b ≤ 2 ^ 40 → unsigned_abs k ≤ 2 ^ 40 → IsUpdate s (form2 a b k)
update_two s a b k w l m n = record { wide = w; small = (all_two (λ z. unsigned_abs z ≤ 2 ^ 40) a b l m, n) }

-- what is known of a row is known of the row that an option holds
row_is : (s : System) (q r : Row) → IsTestRow s q → Some q ≡ Some r → IsTestRow s r
row_is s q r h f = subst (IsTestRow s) (same_Some q r f) h

pub zero_read : IsRead counting 0
zero_read = (omega arith, λ i h e. omega arith)

pub counting_system : IsSystem counting
counting_system = record {
  bits = omega arith;
  few_memories = omega arith;
  limits = record { variables = omega arith; memories = omega arith; columns = omega arith; tests = omega arith };
  initial = λ v w h. ap not (h 0 tick_state);
  unticked = λ v h. of_not_true (v 0) h;
  ticks = λ v. refl;
  allowed = λ v w h. refl;
  row = same_row;
  update = λ v w k h. let e : v 0 ≡ w 0 = h 0 zero_read in let f : v 2 ≡ w 2 = h 2 two_read in rw (e, f) refl;
  observer = λ v w h. let e : v 0 ≡ w 0 = h 0 zero_read in let f : v 3 ≡ w 3 = h 3 three_read in rw (e, f) refl;
  next = λ v w h x is. refl;
  rows = λ v t r l e. each (v 0) (v 2) (v 3) v t r refl refl refl e;
  updates = λ v k h. long (v 0) (v 2) v refl refl;
}
  where
    same_row : (v w : Valuation) (t : ℕ) → IsSameValuation counting v w → counting_row v t ≡ counting_row w t
    same_row v w zero h = let e : v 0 ≡ w 0 = h 0 zero_read in let f : v 2 ≡ w 2 = h 2 two_read in rw (e, f) refl
    same_row v w (suc zero) h = let e : v 0 ≡ w 0 = h 0 zero_read in let f : v 3 ≡ w 3 = h 3 three_read in rw (e, f) refl
    same_row v w (suc (suc t)) h = refl

    each : (a b c : Bool) (v : Valuation) (t : ℕ) (r : Row) → v 0 ≡ a → v 2 ≡ b → v 3 ≡ c → counting_row v t ≡ Some r → IsTestRow counting r
    each true true c v zero r e f g h = row_is counting (row1 (pos 1) (pos 9)) r (one_column counting (pos 1) (pos 9) refl refl (omega arith)) (rw (e, f) at h)
    each true false c v zero r e f g h = row_is counting (row1 (negsuc 0) (negsuc 9)) r (one_column counting (negsuc 0) (negsuc 9) refl refl (omega arith))
        (rw (e, f) at h)
    each true b true v (suc zero) r e f g h = row_is counting (row1 (pos 1) (pos 10)) r (one_column counting (pos 1) (pos 10) refl refl (omega arith))
        (rw (e, g) at h)
    each true b false v (suc zero) r e f g h = row_is counting (row1 (negsuc 0) (negsuc 10)) r
        (one_column counting (negsuc 0) (negsuc 10) refl refl (omega arith)) (rw (e, g) at h)
    each false b c v zero r e f g h = absurd (none-some r (rw e at h))
    each false b c v (suc zero) r e f g h = absurd (none-some r (rw e at h))
    each a b c v (suc (suc t)) r e f g h = absurd (none-some r h)

    long : (a b : Bool) (v : Valuation) → v 0 ≡ a → v 2 ≡ b → IsUpdate counting (counting.update v 0)
    long true true v e f = rw (e, f) (update_one counting (pos 1) (pos 1) refl (omega arith) (omega arith))
    long true false v e f = rw (e, f) (update_one counting (pos 1) (pos 0) refl (omega arith) (omega arith))
    long false b v e f = rw e (update_one counting (pos 0) (pos 0) refl (omega arith) (omega arith))

-- the counter that rises without end
rising_zero_state : IsState rising 0
rising_zero_state = (0, omega arith, omega arith)

rising_zero_read : IsRead rising 0
rising_zero_read = (omega arith, λ i h e. omega arith)

rising_two_read : IsRead rising 2
rising_two_read = (omega arith, λ i h e. omega arith)

pub rising_system : IsSystem rising
rising_system = record {
  bits = omega arith;
  few_memories = omega arith;
  limits = record { variables = omega arith; memories = omega arith; columns = omega arith; tests = omega arith };
  initial = λ v w h. ap not (h 0 rising_zero_state);
  unticked = λ v h. of_not_true (v 0) h;
  ticks = λ v. refl;
  allowed = λ v w h. refl;
  row = same_row;
  update = λ v w k h. let e : v 0 ≡ w 0 = h 0 rising_zero_read in rw e refl;
  observer = λ v w h. let e : v 0 ≡ w 0 = h 0 rising_zero_read in let f : v 2 ≡ w 2 = h 2 rising_two_read in rw (e, f) refl;
  next = λ v w h x is. refl;
  rows = λ v t r l e. each (v 0) (v 2) v t r refl refl e;
  updates = λ v k h. long (v 0) v refl;
}
  where
    same_row : (v w : Valuation) (t : ℕ) → IsSameValuation rising v w → rising_row v t ≡ rising_row w t
    same_row v w zero h = let e : v 0 ≡ w 0 = h 0 rising_zero_read in let f : v 2 ≡ w 2 = h 2 rising_two_read in rw (e, f) refl
    same_row v w (suc t) h = refl

    each : (a b : Bool) (v : Valuation) (t : ℕ) (r : Row) → v 0 ≡ a → v 2 ≡ b → rising_row v t ≡ Some r → IsTestRow rising r
    each true true v zero r e f h = row_is rising (row1 (pos 1) (pos 1)) r (one_column rising (pos 1) (pos 1) refl refl (omega arith)) (rw (e, f) at h)
    each true false v zero r e f h = row_is rising (row1 (negsuc 0) (negsuc 1)) r (one_column rising (negsuc 0) (negsuc 1) refl refl (omega arith))
        (rw (e, f) at h)
    each false b v zero r e f h = absurd (none-some r (rw e at h))
    each a b v (suc t) r e f h = absurd (none-some r h)

    long : (a : Bool) (v : Valuation) → v 0 ≡ a → IsUpdate rising (rising.update v 0)
    long true v e = rw e (update_one rising (pos 1) (pos 1) refl (omega arith) (omega arith))
    long false v e = rw e (update_one rising (pos 0) (pos 0) refl (omega arith) (omega arith))

-- the two counters
paired_zero_state : IsState paired 0
paired_zero_state = (0, omega arith, omega arith)

paired_zero_read : IsRead paired 0
paired_zero_read = (omega arith, λ i h e. omega arith)

pub paired_system : IsSystem paired
paired_system = record {
  bits = omega arith;
  few_memories = omega arith;
  limits = record { variables = omega arith; memories = omega arith; columns = omega arith; tests = omega arith };
  initial = λ v w h. ap not (h 0 paired_zero_state);
  unticked = λ v h. of_not_true (v 0) h;
  ticks = λ v. refl;
  allowed = λ v w h. refl;
  row = same_row;
  update = same_update;
  observer = λ v w h. let e : v 3 ≡ w 3 = h 3 paired_three_read in let f : v 4 ≡ w 4 = h 4 four_read in rw (e, f) refl;
  next = λ v w h x is. refl;
  rows = λ v t r l e. each (v 0) (v 3) (v 4) v t r refl refl refl e;
  updates = λ v k h. long (v 0) v k refl;
}
  where
    same_row : (v w : Valuation) (t : ℕ) → IsSameValuation paired v w → paired_row v t ≡ paired_row w t
    same_row v w zero h = let e : v 0 ≡ w 0 = h 0 paired_zero_read in let f : v 3 ≡ w 3 = h 3 paired_three_read in rw (e, f) refl
    same_row v w (suc zero) h = let e : v 0 ≡ w 0 = h 0 paired_zero_read in let f : v 4 ≡ w 4 = h 4 four_read in rw (e, f) refl
    same_row v w (suc (suc t)) h = refl

    same_update : (v w : Valuation) (k : ℕ) → IsSameValuation paired v w → paired_update v k ≡ paired_update w k
    same_update v w zero h = let e : v 0 ≡ w 0 = h 0 paired_zero_read in rw e refl
    same_update v w (suc k) h = let e : v 0 ≡ w 0 = h 0 paired_zero_read in rw e refl

    plain : (a b c : ℤ) (r : Row) → unsigned_abs a ≡ 1 → unsigned_abs b ≡ 1 → unsigned_abs c ≤ 2 ^ 60 → Some (row2 a b c) ≡ Some r → IsTestRow paired r
    plain a b c r e f l h = row_is paired (row2 a b c) r (two_columns paired a b c refl e f l) h

    empty : (c : ℤ) (r : Row) → unsigned_abs c ≤ 2 ^ 60 → Some (row2 (pos 0) (pos 0) c) ≡ Some r → IsTestRow paired r
    empty c r l h = row_is paired (row2 (pos 0) (pos 0) c) r (no_column paired c refl l) h

    each : (a b c : Bool) (v : Valuation) (t : ℕ) (r : Row) → v 0 ≡ a → v 3 ≡ b → v 4 ≡ c → paired_row v t ≡ Some r → IsTestRow paired r
    each true true c v zero r e f g h = plain (pos 1) (negsuc 0) (pos 0) r refl refl (omega arith) (rw (e, f) at h)
    each true false c v zero r e f g h = plain (negsuc 0) (pos 1) (negsuc 0) r refl refl (omega arith) (rw (e, f) at h)
    each true b true v (suc zero) r e f g h = plain (negsuc 0) (pos 1) (pos 0) r refl refl (omega arith) (rw (e, g) at h)
    each true b false v (suc zero) r e f g h = plain (pos 1) (negsuc 0) (negsuc 0) r refl refl (omega arith) (rw (e, g) at h)
    each false true c v zero r e f g h = empty (pos 0) r (omega arith) (rw (e, f) at h)
    each false false c v zero r e f g h = empty (negsuc 0) r (omega arith) (rw (e, f) at h)
    each false b true v (suc zero) r e f g h = empty (pos 0) r (omega arith) (rw (e, g) at h)
    each false b false v (suc zero) r e f g h = empty (negsuc 0) r (omega arith) (rw (e, g) at h)
    each a b c v (suc (suc t)) r e f g h = absurd (none-some r h)

    long : (a : Bool) (v : Valuation) (k : ℕ) → v 0 ≡ a → IsUpdate paired (paired_update v k)
    long true v zero e = rw e (update_two paired (pos 1) (pos 0) (pos 1) refl (omega arith) (omega arith) (omega arith))
    long false v zero e = rw e (update_two paired (pos 0) (pos 0) (pos 0) refl (omega arith) (omega arith) (omega arith))
    long true v (suc k) e = rw e (update_two paired (pos 0) (pos 1) (pos 1) refl (omega arith) (omega arith) (omega arith))
    long false v (suc k) e = rw e (update_two paired (pos 0) (pos 0) (pos 0) refl (omega arith) (omega arith) (omega arith))
