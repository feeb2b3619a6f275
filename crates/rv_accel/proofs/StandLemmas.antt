-- What the loops around a turn leave together.
use Rattle.std.proofs.Common.{◌≡◌, ℕ, suc, ◌+◌, ◌*◌, ◌≤◌, ℤ, pos, List, [], ◌∷◌, ◌++◌, length, get_or, arith, ap, sym, ◌∙◌, subst, All}
use Rattle.std.proofs.lemmas.List.{length-append, get_or_append_left, get_or_default}
use Rattle.std.proofs.lemmas.List.Elements.{All-nil}
use Rattle.rv_rows.specs.Tight.{Fits}
use Rattle.rv_rows.specs.{declared.linear.Row.Row, declared.linear.Form.Form}
use Rattle.rv_accel.specs.{declared.proved.Proved.Proved, Taken.AreTaken, Taken.IsProved}
use Rattle.rv_accel.specs.Around.{IsAround, HasLevel, HasAllSums, HasAround, AreAllSmall, StandAt, losing, gaining, staying}

pub stand-left : (first rows : List Row) → StandAt 0 first (first ++ rows)
stand-left first rows i d l =
    let n = length-append first rows in (
      (omega arith),
      ap (λ k. get_or (first ++ rows) k (record { coefficients = []; bound = pos 0 })) (zero_plus i)
          ∙ get_or_append_left first rows (record { coefficients = []; bound = pos 0 }) i l ∙ get_or_default first i
          (record { coefficients = []; bound = pos 0 }) d l,
    )
  where
    zero_plus : (i : ℕ) → 0 + i ≡ i
    zero_plus i = omega arith

append_at : (first rows : List Row) (i : ℕ) (d : Row) → get_or (first ++ rows) (length first + i) d ≡ get_or rows i d
append_at [] rows i d = ap (λ k. get_or rows k d) (zero_plus i)
  where
    zero_plus : (i : ℕ) → 0 + i ≡ i
    zero_plus i = omega arith
append_at (r ∷ first) rows i d = ap (λ k. get_or (r ∷ (first ++ rows)) k d) (next (length first) i) ∙ append_at first rows i d
  where
    next : (n i : ℕ) → suc n + i ≡ suc (n + i)
    next n i = omega arith

pub stand-right : (first rows : List Row) → StandAt (length first) rows (first ++ rows)
stand-right first rows i d l =
    let n = length-append first rows in (
      (omega arith),
      append_at first rows i (record { coefficients = []; bound = pos 0 }) ∙ get_or_default rows i
          (record { coefficients = []; bound = pos 0 }) d l,
    )

module _ (given : List Row) (updates : List Form) (t : List ℤ) (first rows : List Row) (o a b c : Proved) (no_rows : o.rows ≡ []) (no_by : o.by ≡ [])
    (no_drop : o.dropped ≡ 0)
    (x : AreTaken (IsAround given updates t) (HasLevel t first (length first)) (Unit {0}) (staying t first) o a)
    (y : AreTaken (IsAround given updates t) (HasAllSums t rows first (length rows)) (AreAllSmall updates t rows first) (gaining t rows * losing t first) a b)
    (z : AreTaken (IsAround given updates t) (HasAllSums t first first (length first)) (AreAllSmall updates t first first)
    (gaining t first * losing t first) b c) where
  start : IsProved (IsAround given updates t) o
  start = record {
    shown = record { size = ap length no_by ∙ sym (ap length no_rows); each = λ i d m l. absurd (let q = ap length no_rows in omega arith) };
    fits = subst (λ q. All Fits q) (sym no_rows) (All-nil Fits);
    most = let q = ap length no_rows in omega arith;
  }

  pub around-proved : IsProved (IsAround given updates t) c
  around-proved = z.proved (y.proved (x.proved start))

  pub around-has : c.dropped ≡ 0 → HasAround t first rows c.rows
  around-has none =
      let nb = z.none none in
      let na = y.none nb in
      record {
        level = λ i d l m low. let g = x.has na i d l m low in (g.0, g.1, g.2, z.kept (g.0) (y.kept (g.0) (g.3)));
        tests = λ i d l m up j e k n low. let g = y.has nb i d l m up j e k n low in (g.0, g.1, z.kept (g.0) (g.2));
        first = z.has none;
      }

  pub around-room : AreAllSmall updates t rows first → AreAllSmall updates t first first
      → staying t first + (gaining t first + gaining t rows) * losing t first ≤ 1024 → c.dropped ≡ 0
  around-room one two l =
      let p = x.size tt in
      let q = y.size one in
      let e = ap length no_rows in
      let s : staying t first + gaining t first * losing t first + gaining t rows * losing t first ≤ 1024 = omega arith in
      let first_none = x.room tt no_drop (omega arith) in
      let next = y.room one first_none (omega arith) in
      z.room two next (omega arith)
