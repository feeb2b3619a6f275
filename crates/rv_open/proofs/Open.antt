-- In a system without columns a valuation is open exactly where the empty point agrees with it, and then it counts.
use Rattle.std.proofs.Common.{◌≡◌, ◌↔◌, ◌⊎◌, ℕ, zero, suc, ◌<◌, ℤ, Bool, true, false, ◌&&◌, List, [], ◌∷◌, length, IsTrue, arith, refl, sym, ◌∙◌, ap, subst}
use Rattle.std.proofs.Common.{⊎_elim, Some, Option}
use Rattle.std.proofs.lemmas.{Int.ints, Bool.cases_lt}
use Rattle.std.specs.Prelude.{pos, negsuc, ◌≤ℤ◌, None as Nothing}
use Rattle.rv_base.proofs.Truths.{both_of}
use Rattle.rv_diagram.specs.Nodes.{Valuation}
use Rattle.rv_rows.specs.{declared.linear.Row.Row, Rows.dot, Rows.Holds}
use Rattle.rv_proofs.specs.{Systems.System, Systems.Agrees, Boxes.BoxClaim, Boxes.IsInBox, Boxes.IsOpen, Boxes.IsTaken}
use Rattle.rv_open.specs.Columns.{HasNoColumns, is_from_zero, holds_alone, hold_among, is_counted}

-- ROWS

dot_none : (cs : List ℤ) → dot cs [] ≡ pos 0
dot_none [] = refl
dot_none (c ∷ cs) = refl

from_zero : (b : ℤ) → is_from_zero b ≡ true → pos 0 ≤ℤ b
from_zero (pos n) e = omega (arith, ints)
from_zero (negsuc n) e = cc

told_zero : (b : ℤ) → pos 0 ≤ℤ b → is_from_zero b ≡ true
told_zero (pos n) h = refl
told_zero (negsuc n) h = absurd (omega (arith, ints))

pub row_holds : (r : Row) → pos 0 ≤ℤ r.bound → Holds r []
row_holds r h = subst (λ (x : ℤ). x ≤ℤ r.bound) (sym (dot_none r.coefficients)) h

pub row_bound : (r : Row) → Holds r [] → pos 0 ≤ℤ r.bound
row_bound r h = subst (λ (x : ℤ). x ≤ℤ r.bound) (dot_none r.coefficients) h

alone_holds : (o : Option Row) (r : Row) → o ≡ Some r → holds_alone o ≡ true → Holds r []
alone_holds o r e h = row_holds r (from_zero r.bound (sym (ap holds_alone e) ∙ h))

alone_told : (o : Option Row) → ((r : Row) → o ≡ Some r → Holds r []) → holds_alone o ≡ true
alone_told Nothing h = refl
alone_told (Some r) h = told_zero r.bound (row_bound r (h r refl))

and_both : (a b : Bool) → a ≡ true → b ≡ true → (a && b) ≡ true
and_both true b e f = f
and_both false b e f = e

-- TESTS

among_holds : (s : System) (v : Valuation) (n : ℕ) → hold_among s v n ≡ true → (t : ℕ) (r : Row) → t < n → s.row v t ≡ Some r → Holds r []
among_holds s v zero e t r l at = absurd (omega (arith, l))
among_holds s v (suc n) e t r l at =
    let both : (hold_among s v n ≡ true) × (holds_alone (s.row v n) ≡ true) = both_of (hold_among s v n) (holds_alone (s.row v n)) e in
    ⊎_elim
    (λ lt. among_holds s v n both.0 t r lt at)
    (λ ge. let same : t ≡ n = omega (arith, l, ge) in alone_holds (s.row v n) r (subst (λ (x : ℕ). s.row v x ≡ Some r) same at) both.1)
    (cases_lt t n)

among_told : (s : System) (v : Valuation) (n : ℕ) → ((t : ℕ) (r : Row) → t < n → s.row v t ≡ Some r → Holds r []) → hold_among s v n ≡ true
among_told s v zero h = refl
among_told s v (suc n) h = and_both (hold_among s v n) (holds_alone (s.row v n))
    (among_told s v n (λ t r l at. h t r (omega (arith, l)) at))
    (alone_told (s.row v n) (λ r at. h n r (omega arith) at))

-- VALUATIONS

empty_point : (point : List ℤ) → length point ≡ 0 → point ≡ []
empty_point [] e = refl
empty_point (x ∷ xs) e = absurd (omega arith)

nothing_below : (n k : ℕ) → n ≡ 0 → k < n → ⊥
nothing_below n k e l = omega arith

module _ (s : System) (none : HasNoColumns s) where
  pub agree_none : (v : Valuation) (point : List ℤ) → Agrees s v point → Agrees s v []
  agree_none v point a =
      let same : point ≡ [] = empty_point point (a.size ∙ none.columns) in
      subst (λ (p : List ℤ). Agrees s v p) same a

  pub counted_parts : (v : Valuation) → is_counted s v ≡ true → IsTrue (s.allowed v) × Agrees s v []
  counted_parts v e =
      let both : (s.allowed v ≡ true) × (hold_among s v s.tests ≡ true) = both_of (s.allowed v) (hold_among s v s.tests) e in
      (both.0, record { size = sym none.columns; rows = among_holds s v s.tests both.1 })

  pub counted_from : (v : Valuation) → IsTrue (s.allowed v) → Agrees s v [] → is_counted s v ≡ true
  counted_from v allowed a = and_both (s.allowed v) (hold_among s v s.tests) allowed (among_told s v s.tests a.rows)

  pub open_agrees : (c : BoxClaim) (v : Valuation) → IsOpen s c v → Agrees s v []
  open_agrees c v o = record {
    size = sym none.columns;
    rows = λ t r l at.
        let (point, b, h) = o.rows t r l at in
        let same : point ≡ [] = empty_point point (b.size ∙ none.columns) in
        subst (λ (p : List ℤ). Holds r p) same h;
  }

  in_box : (c : BoxClaim) (v : Valuation) → Agrees s v [] → IsInBox s c v []
  in_box c v a = record {
    size = a.size;
    lower = λ on k b l at. absurd (nothing_below s.memories k none.memories l);
    upper = λ on k b l at. absurd (nothing_below s.memories k none.memories l);
    narrow = λ t r l at one. a.rows t r l at;
  }

  pub agrees_open : (c : BoxClaim) (v : Valuation) → Agrees s v [] → IsOpen s c v
  agrees_open c v a = record { some = ([], in_box c v a); rows = λ t r l at. ([], in_box c v a, a.rows t r l at) }

  pub opens : (c : BoxClaim) (v : Valuation) → IsOpen s c v ↔ Agrees s v []
  opens c v = (open_agrees c v, agrees_open c v)

  pub taken_counted : (c : BoxClaim) (v : Valuation) → IsTaken s c v → is_counted s v ≡ true
  taken_counted c v t = counted_from v t.allowed (open_agrees c v t.is_open)

  pub counted_taken : (c : BoxClaim) (v : Valuation) → is_counted s v ≡ true → IsTrue (c.reached v) → IsTaken s c v
  counted_taken c v e reached =
      let parts = counted_parts v e in
      record { allowed = parts.0; reached = reached; is_open = agrees_open c v parts.1 }
