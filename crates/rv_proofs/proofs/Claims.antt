-- Closed good claims imply safety.
use Rattle.std.proofs.Common.{◌≡◌, ◌≢◌, ℕ, zero, suc, ◌+◌, ◌<◌, ◌≤◌, ℤ, pos, negsuc, ◌+ℤ◌, ◌*ℤ◌, ◌≤ℤ◌, Bool, true, false, List, [], ◌∷◌, length, get_or, Option}
use Rattle.std.proofs.Common.{Some, None, IsTrue, arith, refl, sym, ap, ◌∙◌, subst, ◌⊎◌, inl, inr, add-one}
use Rattle.std.proofs.lemmas.List.{get_or-map, get_or_past, get_or_append_left, get_or_push, length_push}
use Rattle.std.proofs.lemmas.List.Elements.{All-nil, All-append, Contains-get_or}
use Rattle.std.proofs.{lemmas.Int.ints, lemmas.Bool.cases_lt}
use Rattle.std.specs.List.{Contains}
use Rattle.rv_diagram.specs.Nodes.{Valuation}
use Rattle.rv_rows.specs.Rows.{dot, Holds, coefficient, row_at}
use Rattle.rv_rows.specs.Multipliers.{ShowsAtOnce, by_none, by_one, by_two, AreShutAtOnce}
use Rattle.rv_rows.specs.{declared.linear.Row.Row, declared.linear.Form.Form, declared.farkas.Multipliers.Multipliers, Forms.number, Forms.value, Forms.values}
use Rattle.rv_rows.proofs.{RowLemmas.proves_sound, FormLemmas.substituted_same}
use Rattle.rv_proofs.specs.Systems.{System, IsSystem, Agrees, rows_among, rows_of, held_row, updates_among, updates_of}
use Rattle.rv_proofs.specs.Runs.{AllHold, IsAbstractRun, AreAllowedBefore, IsSafeSystem}
use Rattle.rv_proofs.specs.Boxes.{BoxClaim, IsBoxClaim, IsInBox, IsTaken, IsClosed, HasGoodBox}
use Rattle.rv_proofs.specs.RowClaims.{RowClaim, IsRowClaim, premises_at, IsRowTaken, IsRowClosed, HasGoodRows}
use Rattle.rv_proofs.proofs.{Sampling.prove_one, Sampling.prove_none, Sampling.all_one, Sampling.all_two, Moved.dot-read}

-- what a box claim keeps
record InBoxClaim (s : System) (c : BoxClaim) (v : Valuation) (point : List ℤ) : Type 0 where
  reached : IsTrue (c.reached v)
  lower : v 0 ≡ true → (k : ℕ) (b : ℤ) → k < s.memories → c.lower k ≡ Some b → b ≤ℤ number k point
  upper : v 0 ≡ true → (k : ℕ) (b : ℤ) → k < s.memories → c.upper k ≡ Some b → number k point ≤ℤ b

module _ (s : System) (is : IsSystem s) (thresholds : List ℤ) (c : BoxClaim) (claim : IsBoxClaim s thresholds c) (closed : IsClosed s c) where
  taken : (v : Valuation) (point : List ℤ) → Agrees s v point → IsTrue (s.allowed v) → InBoxClaim s c v point → IsTaken s c v × IsInBox s c v point
  taken v point a allowed h =
      let inside : IsInBox s c v point = record { size = a.size; lower = h.lower; upper = h.upper; narrow = λ t r l at one. a.rows t r l at } in (
        record { allowed = allowed; reached = h.reached; is_open = record { some = (point, inside); rows = λ t r l at. (point, inside, a.rows t r l at) } },
        inside,
      )

  box_kept : (n t : ℕ) (vs : ℕ → Valuation) (points : ℕ → List ℤ) → IsAbstractRun s n vs points → t < n → AreAllowedBefore s t vs
      → InBoxClaim s c (vs t) (points t)
  box_kept n zero vs points run l allowed =
      let start = run.start in
      let off : vs 0 0 ≡ false = is.unticked (vs 0) start in
      record {
        reached = closed.initial (vs 0) start;
        lower = λ on. absurd (clash (vs 0 0) off on);
        upper = λ on. absurd (clash (vs 0 0) off on);
      }
    where
      clash : (b : Bool) → b ≡ false → b ≡ true → ⊥
      clash true e f = cc
      clash false e f = cc
  box_kept n (suc t) vs points run l allowed =
      let before = box_kept n t vs points run (omega arith) (λ u h. allowed u (omega arith)) in
      let (here, inside) = taken (vs t) (points t) (run.agrees t (omega arith)) (allowed t (omega arith)) before in
      let next : InBoxClaim s c (vs (t + 1)) (points (t + 1)) = record {
        reached = sym (claim.reached (s.next (vs t)) (vs (t + 1)) (run.control t (omega arith))) ∙ closed.next (vs t) here;
        lower = λ on k b inner at. let moved = run.memories t k (omega arith) inner in let low = closed.lower (vs t) here k b inner at (points t) inside in
            rw moved low;
        upper = λ on k b inner at. let moved = run.memories t k (omega arith) inner in let high = closed.upper (vs t) here k b inner at (points t) inside in
            rw moved high;
      } in
      subst (λ u. InBoxClaim s c (vs u) (points u)) (add-one t) next

pub box_safe : (s : System) (thresholds : List ℤ) → IsSystem s → HasGoodBox s thresholds → IsSafeSystem s
box_safe s thresholds is (c, claim, closed, good) n t vs points run l allowed =
    let kept = box_kept s is thresholds c claim closed n t vs points run l (λ u h. allowed u (omega arith)) in
    let (here, inside) = taken s is thresholds c claim closed (vs t) (points t) (run.agrees t l) (allowed t (omega arith)) kept in
    good (vs t) here

-- rows that are shown at once hold
sum_of : (p q : ℕ) → Multipliers
sum_of p q = record { divisor = pos 1; weights = record { premise = p; by = pos 1 } ∷ record { premise = q; by = pos 1 } ∷ [] }

shows_holds : (rows : List Row) (wanted : Row) (point : List ℤ) → ShowsAtOnce rows wanted → AllHold rows point → Holds wanted point
unfolding sum_of
shows_holds rows wanted point (by_none zeros b) h = proves_sound rows wanted _ (prove_none rows wanted zeros b) point h
shows_holds rows wanted point (by_one i l same b) h = proves_sound rows wanted _ (prove_one rows wanted i (λ k. sym (same k)) b) point h
shows_holds rows wanted point (by_two i j less l same b) h = proves_sound rows wanted (sum_of i j) (record {
  positive = omega (arith, ints);
  none_negative = all_two (λ w. pos 0 ≤ℤ w.by) (record { premise = i; by = pos 1 }) (record { premise = j; by = pos 1 }) (omega (arith, ints))
      (omega (arith, ints));
  sides = λ k. two_more (coefficient k (row_at rows i)) (coefficient k (row_at rows j)) (coefficient k wanted) (same k);
  bounds = omega (arith, ints);
}) point h
  where
    two_more : (x y z : ℤ) → z ≡ x +ℤ y → (pos 1 *ℤ x) +ℤ ((pos 1 *ℤ y) +ℤ pos 0) ≡ pos 1 *ℤ z
    two_more x y z e = omega (arith, ints)

shut_none : (rows : List Row) (point : List ℤ) → AreShutAtOnce rows → AllHold rows point → ⊥
shut_none rows point h holds = let bad : Holds (record { coefficients = []; bound = negsuc 0 }) point = shows_holds rows
    (record { coefficients = []; bound = negsuc 0 }) point h holds in omega (arith, ints)

rows_hold : (s : System) (v : Valuation) (point : List ℤ) → Agrees s v point → (n : ℕ) → n ≤ s.tests → AllHold (rows_among s v n) point
rows_hold s v point a zero l = All-nil (λ r. Holds r point)
rows_hold s v point a (suc n) l = All-append (λ r. Holds r point) (rows_among s v n) (held_row (s.row v n)) (rows_hold s v point a n (omega arith))
    (go (s.row v n) refl)
  where
    go : (o : Option Row) → s.row v n ≡ o → AllHold (held_row o) point
    go None e = All-nil (λ r. Holds r point)
    go (Some r) e = all_one (λ q. Holds q point) r (a.rows n r (omega arith) e)

pub updates_long : (s : System) (v : Valuation) (n : ℕ) → length (updates_among s v n) ≡ n
updates_long s v zero = refl
updates_long s v (suc n) = omega (arith, length_push (updates_among s v n) (s.update v n), updates_long s v n)

pub update_at : (s : System) (v : Valuation) (d : Form) (n k : ℕ) → k < n → get_or (updates_among s v n) k d ≡ s.update v k
update_at s v d zero k l = absurd (omega arith)
update_at s v d (suc n) k l = go (update_at s v d n k) (cases_lt k n)
  where
    go : (k < n → get_or (updates_among s v n) k d ≡ s.update v k) → (k < n) ⊎ (n ≤ k) → get_or (updates_among s v (suc n)) k d ≡ s.update v k
    go before (inl less) = get_or_append_left (updates_among s v n) (s.update v n ∷ []) d k (omega (arith, updates_long s v n)) ∙ before less
    go before (inr more) = let e : k ≡ n = omega arith in rw e (get_or_push (updates_among s v n) (s.update v n) d n (updates_long s v n))

-- what a row claim keeps
record InRowClaim (c : RowClaim) (v : Valuation) (point : List ℤ) : Type 0 where
  reached : IsTrue (c.reached v)
  rows : v 0 ≡ true → AllHold c.rows point

module _ (s : System) (is : IsSystem s) (thresholds : List ℤ) (c : RowClaim) (claim : IsRowClaim s thresholds c) (closed : IsRowClosed s c) where
  premises_hold : (v : Valuation) (point : List ℤ) → Agrees s v point → InRowClaim c v point → AllHold (premises_at s c v) point
  premises_hold v point a h = go (v 0) refl
    where
      go : (b : Bool) → v 0 ≡ b → AllHold (premises_at s c v) point
      go true e = rw e (All-append (λ r. Holds r point) (rows_of s v) c.rows (rows_hold s v point a s.tests (omega arith)) (h.rows e))
      go false e = rw e (rows_hold s v point a s.tests (omega arith))

  row_taken : (v : Valuation) (point : List ℤ) → Agrees s v point → IsTrue (s.allowed v) → InRowClaim c v point → IsRowTaken s c v
  row_taken v point a allowed h = record {
    allowed = allowed;
    reached = h.reached;
    is_open = λ shut. shut_none (premises_at s c v) point shut
        (premises_hold v point a h);
  }

  row_moves : (v : Valuation) (point next : List ℤ) (r : Row) → length r.coefficients ≡ s.memories
      → ((k : ℕ) → k < s.memories → number k next ≡ value (s.update v k) point) → Holds r (values (updates_of s v) point) → Holds r next
  row_moves v point next r wide moved h =
      let same : dot r.coefficients (values (updates_of s v) point) ≡ dot r.coefficients next = dot-read r.coefficients (values (updates_of s v) point) next
      there in
      rw (sym same) h
    where
      there : (k : ℕ) → coefficient k r ≢ pos 0 → number k (values (updates_of s v) point) ≡ number k next
      there k n = go (cases_lt k s.memories)
        where
          go : (k < s.memories) ⊎ (s.memories ≤ k) → number k (values (updates_of s v) point) ≡ number k next
          go (inl l) =
              let d : Form = record { coefficients = []; constant = pos 0 } in
              get_or-map (λ f. value f point) (updates_of s v) k d (pos 0) (omega (arith, updates_long s v s.memories))
              ∙ ap (λ f. value f point) (update_at s v d s.memories k l)
              ∙ sym (moved k l)
          go (inr l) = absurd (n (get_or_past r.coefficients k (pos 0) (omega arith)))

  rows_kept : (n t : ℕ) (vs : ℕ → Valuation) (points : ℕ → List ℤ) → IsAbstractRun s n vs points → t < n → AreAllowedBefore s t vs
      → InRowClaim c (vs t) (points t)
  rows_kept n zero vs points run l allowed =
      let start = run.start in
      let off : vs 0 0 ≡ false = is.unticked (vs 0) start in
      record { reached = closed.initial (vs 0) start; rows = λ on. absurd (clash (vs 0 0) off on) }
    where
      clash : (b : Bool) → b ≡ false → b ≡ true → ⊥
      clash true e f = cc
      clash false e f = cc
  rows_kept n (suc t) vs points run l allowed =
      let before = rows_kept n t vs points run (omega arith) (λ u h. allowed u (omega arith)) in
      let a = run.agrees t (omega arith) in
      let here = row_taken (vs t) (points t) a (allowed t (omega arith)) before in
      let next : InRowClaim c (vs (t + 1)) (points (t + 1)) = record {
        reached = sym (claim.reached (s.next (vs t)) (vs (t + 1)) (run.control t (omega arith))) ∙ closed.next (vs t) here;
        rows = λ on. λ k d inner. one (get_or c.rows k d) (Contains-get_or c.rows k d inner) here a before (λ m low. run.memories t m (omega arith) low);
      } in
      subst (λ u. InRowClaim c (vs u) (points u)) (add-one t) next
    where
      one : (r : Row) → Contains c.rows r → IsRowTaken s c (vs t) → Agrees s (vs t) (points t) → InRowClaim c (vs t) (points t)
          → ((k : ℕ) → k < s.memories → number k (points (t + 1)) ≡ value (s.update (vs t) k) (points t)) → Holds r (points (t + 1))
      one r has here a before moved =
          let (new, sub, shows) = closed.rows (vs t) here r has in
          let holds : Holds new (points t) = shows_holds (premises_at s c (vs t)) new (points t) shows (premises_hold (vs t) (points t) a before) in
          row_moves (vs t) (points t) (points (t + 1)) r (claim.rows r has).size moved ((substituted_same r new (updates_of s (vs t)) sub (points t)).0 holds)

pub rows_safe : (s : System) (thresholds : List ℤ) → IsSystem s → HasGoodRows s thresholds → IsSafeSystem s
rows_safe s thresholds is (c, claim, closed, good) n t vs points run l allowed =
    let kept = rows_kept s is thresholds c claim closed n t vs points run l (λ u h. allowed u (omega arith)) in
    good (vs t) (row_taken s is thresholds c claim closed (vs t) (points t) (run.agrees t l) (allowed t (omega arith)) kept)
