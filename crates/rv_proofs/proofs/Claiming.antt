-- A closed good box claim, and a left partition.
use Rattle.std.proofs.Common.{◌≡◌, ◌≢◌, ℕ, zero, suc, ◌+◌, ◌<◌, ℤ, pos, negsuc, ◌≤ℤ◌, List, [], ◌∷◌, length, Bool, true, false, not, cond, Some, IsTrue}
use Rattle.std.proofs.Common.{slice_get, arith, refl, sym, subst, ◌⊎◌, inl, inr}
use Rattle.std.proofs.{lemmas.Int.ints, Math.IntN.zero-*ℤ, lemmas.List.Elements.All-nil, lemmas.Option.same_Some, lemmas.Option.none-some}
use Rattle.rv_proofs.proofs.{Settling.settled_from_implied, Sampling.all_one, Sampling.when_false, Sampling.when_true, Sampling.each-nil, Sampling.each-cons}
use Rattle.rv_diagram.specs.{Nodes.Valuation, Nodes.node_at, Nodes.value_among, Nodes.IsPlaced, declared.frozen.Frozen.Frozen}
use Rattle.rv_rows.specs.{Tight.Fits, Forms.number, Forms.value, Rows.Holds}
use Rattle.rv_proofs.specs.Ranges.{IsControlSet, IsRecord, HasDivisor, AreKept, IsEntryInRange, IsLocationInRange}
use Rattle.rv_proofs.specs.Accepted.{IsEntry, IsIncluded, IsCovered, Leads, IsStepKind, IsDeadKind, IsObserved, AreImplied}
use Rattle.rv_proofs.specs.Samples.{counting, counting_row, at_most_ten, rising, steps_on, bare, undecided, row1, form1, node, everywhere, is_false_at}
use Rattle.rv_proofs.specs.Samples.{is_true_at}
use Rattle.rv_proofs.specs.{Systems.IsState, Counts.HasLoop, Counts.HasLocationCounts, Counts.HasEntryCounts, Counts.IsLoop, Scopes.IsIn, Scopes.IsSettled}
use Rattle.rv_proofs.specs.{Implied.IsImplied, declared.certificate.Location.Location, declared.certificate.Entry.Entry, Boxes.IsBoxClaim, Boxes.HasOneColumn}
use Rattle.rv_proofs.specs.{Boxes.IsInBox, Boxes.IsClosed, Boxes.IsGood, Left.IsLeftPartition, Left.IsFailingStep, Left.IsUnrefuted}
use Rattle.std.specs.List.{Contains}

-- the box claim
one_point : (point : List ℤ) → length point ≡ 1 → (x : ℤ) × (point ≡ x ∷ [])
one_point (x ∷ []) e = (x, refl)
one_point _ e = absurd (omega arith)

one_column : (c b : ℤ) → c ≢ pos 0 → HasOneColumn (row1 c b)
one_column c b n = (0, n, elim [ zero ↦ λ h. refl | suc k ↦ λ h. absurd (h refl) ])

pub minus_one : negsuc 0 ≢ pos 0
minus_one e = omega (arith, ints)

pub plus_one : pos 1 ≢ pos 0
plus_one e = omega (arith, ints)

-- in the box a point meets the row of the test `x <= 9`, and with the test `x <= 10` false there is none
below_nine : (v : Valuation) (point : List ℤ) → IsInBox counting at_most_ten v point → v 0 ≡ true → v 2 ≡ true → Holds (row1 (pos 1) (pos 9)) point
below_nine v point b e f = b.narrow 0 (row1 (pos 1) (pos 9)) (omega arith) (row_is v e f) (one_column (pos 1) (pos 9) plus_one)
  where
    row_is : (v : Valuation) → v 0 ≡ true → v 2 ≡ true → counting_row v 0 ≡ Some (row1 (pos 1) (pos 9))
    row_is v e f = rw (e, f) refl

none_above : (v : Valuation) (point : List ℤ) → IsInBox counting at_most_ten v point → v 0 ≡ true → v 3 ≡ false → ⊥
none_above v point b e f =
    let low = b.narrow 1 (row1 (negsuc 0) (negsuc 10)) (omega arith) (row_is v e f) (one_column (negsuc 0) (negsuc 10) minus_one) in
    let high : number 0 point ≤ℤ pos 10 = b.upper e 0 (pos 10) (omega arith) refl in
    let (x, is) = one_point point b.size in
    clash x (subst (Holds (row1 (negsuc 0) (negsuc 10))) is low) (subst (λ p. number 0 p ≤ℤ pos 10) is high)
  where
    row_is : (v : Valuation) → v 0 ≡ true → v 3 ≡ false → counting_row v 1 ≡ Some (row1 (negsuc 0) (negsuc 10))
    row_is v e f = rw (e, f) refl

    clash : (x : ℤ) → Holds (row1 (negsuc 0) (negsuc 10)) (x ∷ []) → x ≤ℤ pos 10 → ⊥
    clash x h k = omega (arith, ints)

pub ten_claimed : IsBoxClaim counting (pos 10 ∷ []) at_most_ten
ten_claimed = record {
  reached = λ v w h. refl;
  lower = λ k b l e. absurd (none-some b e);
  upper = λ k b l e. (0, omega arith, same_Some (pos 10) b e);
}

stays_below : (v : Valuation) (k : ℕ) (point : List ℤ) → IsInBox counting at_most_ten v point → value (counting.update v k) point ≤ℤ pos 10
stays_below v k point b = go (v 0) refl (v 2) refl
  where
    form_is : (v : Valuation) (p q : Bool) → v 0 ≡ p → v 2 ≡ q
        → counting.update v 0 ≡ cond p (cond q (form1 (pos 1) (pos 1)) (form1 (pos 1) (pos 0))) (form1 (pos 0) (pos 0))
    form_is v p q e f = rw (e, f) refl

    more : (x : ℤ) → Holds (row1 (pos 1) (pos 9)) (x ∷ []) → value (form1 (pos 1) (pos 1)) (x ∷ []) ≤ℤ pos 10
    more x h = omega (arith, ints)

    same : (x : ℤ) → x ≤ℤ pos 10 → value (form1 (pos 1) (pos 0)) (x ∷ []) ≤ℤ pos 10
    same x h = omega (arith, ints)

    reset : (x : ℤ) → value (form1 (pos 0) (pos 0)) (x ∷ []) ≤ℤ pos 10
    reset x = let z = zero-*ℤ x in omega (arith, ints)

    go : (p : Bool) → v 0 ≡ p → (q : Bool) → v 2 ≡ q → value (counting.update v k) point ≤ℤ pos 10
    go true e true f =
        let (x, is) = one_point point b.size in
        let h : Holds (row1 (pos 1) (pos 9)) (x ∷ []) = subst (Holds (row1 (pos 1) (pos 9))) is (below_nine v point b e f) in
        subst (λ g. value g point ≤ℤ pos 10) (sym (form_is v true true e f)) (subst (λ p. value (form1 (pos 1) (pos 1)) p ≤ℤ pos 10) (sym is) (more x h))
    go true e false f =
        let (x, is) = one_point point b.size in
        let h : x ≤ℤ pos 10 = subst (λ p. number 0 p ≤ℤ pos 10) is (b.upper e 0 (pos 10) (omega arith) refl) in
        subst (λ g. value g point ≤ℤ pos 10) (sym (form_is v true false e f)) (subst (λ p. value (form1 (pos 1) (pos 0)) p ≤ℤ pos 10) (sym is) (same x h))
    go false e q f =
        let (x, is) = one_point point b.size in
        subst (λ g. value g point ≤ℤ pos 10) (sym (form_is v false q e f)) (subst (λ p. value (form1 (pos 0) (pos 0)) p ≤ℤ pos 10) (sym is) (reset x))

pub ten_closed : IsClosed counting at_most_ten
ten_closed = record {
  initial = λ v h. refl;
  next = λ v h. refl;
  lower = λ v h k b l e point inside. absurd (none-some b e);
  upper = λ v h k b l e point inside. subst (λ z. value (counting.update v k) point ≤ℤ z) (same_Some (pos 10) b e) (stays_below v k point inside);
}

pub ten_good : IsGood counting at_most_ten
ten_good v taken = go (v 0) refl (v 3) refl
  where
    seen : (v : Valuation) (p q : Bool) → v 0 ≡ p → v 3 ≡ q → cond p q true ≡ true → IsTrue (counting.observer v)
    seen v p q e f g = rw (e, f) g

    go : (p : Bool) → v 0 ≡ p → (q : Bool) → v 3 ≡ q → IsTrue (counting.observer v)
    go true e true f = seen v true true e f refl
    go true e false f = absurd (none_above v taken.is_open.some.0 taken.is_open.some.1 e f)
    go false e q f = seen v false q e f refl

-- the left partition
pub at_false : (v : Valuation) (x : ℕ) → v x ≡ false → IsIn (is_false_at x) v
unfolding value_among
at_false v x e = rw e refl

pub at_true : (v : Valuation) (x : ℕ) → v x ≡ true → IsIn (is_true_at x) v
unfolding value_among
at_true v x e = rw e refl

pub at_everywhere : (v : Valuation) → IsIn everywhere v
unfolding value_among
at_everywhere v = refl

pub off_is : (v : Valuation) → IsIn (is_false_at 0) v → v 0 ≡ false
unfolding value_among
off_is v h = when_false (v 0) h

pub on_is : (v : Valuation) → IsIn (is_true_at 0) v → v 0 ≡ true
unfolding value_among
on_is v h = when_true (v 0) h

clash_bool : (b : Bool) → b ≡ false → b ≡ true → ⊥
clash_bool true e f = cc
clash_bool false e f = cc

each_bare : (P : Location → Type 0) → P (bare (is_false_at 0)) → P (bare (is_true_at 0)) → (k : ℕ) (l : Location) → slice_get undecided.locations k ≡ Some l
    → P l
each_bare P a b = each-cons P (bare (is_false_at 0)) (bare (is_true_at 0) ∷ []) a (each-cons P (bare (is_true_at 0)) [] b (each-nil P))

each_step : (P : Location → Entry → Type 0) → P (bare (is_false_at 0)) steps_on → P (bare (is_true_at 0)) steps_on → (k j : ℕ) (l : Location) (e : Entry)
    → IsEntry undecided k j l e → P l e
each_step P a b k j l e is = each_bare (λ m. (n : ℕ) (f : Entry) → slice_get m.entries n ≡ Some f → P m f)
    (each-cons (P (bare (is_false_at 0))) steps_on [] a (each-nil (P (bare (is_false_at 0)))))
    (each-cons (P (bare (is_true_at 0))) steps_on [] b (each-nil (P (bare (is_true_at 0))))) k l is.location j e is.entry

nothing_implied : (l : Location) → AreImplied rising undecided l steps_on
nothing_implied l = All-nil (IsImplied rising l steps_on)

no_loop : (f : Frozen) → ¬ HasLoop (bare f)
no_loop f (j, e, at, is) = each-cons (λ g. IsLoop g → ⊥) steps_on [] (λ h. h) (each-nil (λ g. IsLoop g → ⊥)) j e at is

placed_one : (y z : ℕ) → y < 2 → z < 2 → (i : ℕ) → i < 1 → IsPlaced (node 0 y z ∷ []) i
placed_one y z a b zero l = record {
  lo_earlier = omega arith;
  hi_earlier = omega arith;
  lo_greater = λ h. absurd (omega arith);
  hi_greater = λ h. absurd
      (omega arith);
}
placed_one y z a b (suc i) l = absurd (omega arith)

control_one : (y z : ℕ) → y < 2 → z < 2 → IsControlSet rising (record { nodes = node 0 y z ∷ []; root = 2 })
control_one y z a b = record {
  ordered = record { placed = placed_one y z a b; low = low_one; root = omega arith };
  states = states_one;
}
  where
    low_one : (i : ℕ) → i < 1 → (node_at (node 0 y z ∷ []) i).var < 3
    low_one zero l = omega arith
    low_one (suc i) l = absurd (omega arith)

    states_one : (n : ℕ) → n < 1 → IsState rising (node_at (node 0 y z ∷ []) n).var
    states_one zero l = (0, omega arith, omega arith)
    states_one (suc n) l = absurd (omega arith)

bare_in_range : (f : Frozen) → IsControlSet rising f → IsLocationInRange rising undecided (bare f)
bare_in_range f c = record {
  control = c;
  entry = none_kept;
  first = none_kept;
  around = none_kept;
  state = none_kept;
  by_entry = All-nil (IsRecord 0);
  by_first = All-nil (IsRecord 0);
  few = omega arith;
  entries = each-cons (IsEntryInRange rising undecided (bare f)) steps_on []
      (record {
        condition = record {
          ordered = record { placed = λ i l. absurd (omega arith); low = λ i l. absurd (omega arith); root = omega arith };
          read = λ n l.
              absurd (omega arith);
        };
        by = All-nil (λ i. IsRecord (length i.given + 1) i.by × HasDivisor i.wanted i.by.divisor);
      })
      (each-nil (IsEntryInRange rising undecided (bare f)));
}
  where
    none_kept : AreKept rising []
    none_kept = (All-nil (λ r. (length r.coefficients ≡ 1) × Fits r), omega arith)

bare_counts : (f : Frozen) → HasLocationCounts undecided (bare f)
bare_counts f = record {
  by_entry = refl;
  by_first = record { some = λ h. refl; none = λ h. refl };
  entries = each-cons (HasEntryCounts undecided (bare f)) steps_on [] (bare (is_true_at 0), refl, refl) (each-nil (HasEntryCounts undecided (bare f)));
}

bare_included : (f : Frozen) → IsIncluded (bare f)
bare_included f = record { entry = λ n r e. absurd (none-some r e); first = λ h. absurd (no_loop f h); no_first = λ h. refl; no_around = λ h. refl }

abbrev last : Valuation
last zero = true
last (suc x) = false

pub undecided_left : IsLeftPartition rising undecided (1 ∷ [])
undecided_left = record {
  partition = record {
    in_range = record {
      counts = each_bare (HasLocationCounts undecided) (bare_counts (is_false_at 0)) (bare_counts (is_true_at 0));
      few = omega arith;
      locations = each_bare (IsLocationInRange rising undecided) (bare_in_range (is_false_at 0) (control_one 1 0 (omega arith) (omega arith)))
          (bare_in_range (is_true_at 0) (control_one 0 1 (omega arith) (omega arith)));
    };
    initial = λ v h. (0, bare (is_false_at 0), refl, refl, at_false v 0 (not_on (v 0) h));
    included = each_bare IsIncluded (bare_included (is_false_at 0)) (bare_included (is_true_at 0));
    covered = each_bare (IsCovered rising) (λ v a c. (0, steps_on, refl, at_everywhere v)) (λ v a c. (0, steps_on, refl, at_everywhere v));
    settled = each_step (IsSettled rising undecided) (settled_from_implied rising undecided (bare (is_false_at 0)) steps_on
        (nothing_implied (bare (is_false_at 0))))
        (settled_from_implied rising undecided (bare (is_true_at 0)) steps_on (nothing_implied (bare (is_true_at 0))));
    leads = each_step (λ l e. Leads rising undecided l e e.kind) (bare (is_true_at 0), refl, λ v scope. at_true (rising.next v) 0 refl)
        (bare (is_true_at 0), refl, λ v scope. at_true (rising.next v) 0 refl);
    steps = each_step (λ l e. IsStepKind e.kind → AreImplied rising undecided l e) (λ h. nothing_implied (bare (is_false_at 0)))
        (λ h. nothing_implied (bare (is_true_at 0)));
  };
  some = omega arith;
  there = all_one (λ k. k < 2) 1 (omega arith);
  rising = λ i j k n l a b. absurd (one_only i j k n l a b);
  disjoint = apart;
  nonempty = each_bare (λ l. (v : Valuation) × IsIn l.control v) (λ x. false, at_false (λ x. false) 0 refl) (λ x. true, at_true (λ x. true) 0 refl);
  observed = seen;
  dead = λ k j l e is h. absurd (each_step (λ m f. IsDeadKind f.kind → ⊥) (λ d. d) (λ d. d) k j l e is h);
  used = uses;
}
  where
    not_on : (b : Bool) → not b ≡ true → b ≡ false
    not_on true e = sym e
    not_on false e = refl

    one_only : (i j k n : ℕ) → i < j → slice_get (1 ∷ []) i ≡ Some k → slice_get (1 ∷ []) j ≡ Some n → ⊥
    one_only i zero k n l a b = omega arith
    one_only i (suc j) k n l a b = none-some n b

    apart : (k n : ℕ) (l m : Location) (v : Valuation) → slice_get undecided.locations k ≡ Some l → slice_get undecided.locations n ≡ Some m
        → IsIn l.control v → IsIn m.control v → k ≡ n
    apart zero zero l m v a b c d = refl
    apart (suc zero) (suc zero) l m v a b c d = refl
    apart zero (suc zero) l m v a b c d = absurd (clash_bool (v 0) (off_is v (subst (λ q. IsIn q.control v) (sym (same_Some (bare (is_false_at 0)) l a)) c))
        (on_is v (subst (λ q. IsIn q.control v) (sym (same_Some (bare (is_true_at 0)) m b)) d)))
    apart (suc zero) zero l m v a b c d = absurd (clash_bool (v 0) (off_is v (subst (λ q. IsIn q.control v) (sym (same_Some (bare (is_false_at 0)) m b)) d))
        (on_is v (subst (λ q. IsIn q.control v) (sym (same_Some (bare (is_true_at 0)) l a)) c)))
    apart (suc (suc k)) n l m v a b c d = absurd (none-some l a)
    apart zero (suc (suc n)) l m v a b c d = absurd (none-some m b)
    apart (suc zero) (suc (suc n)) l m v a b c d = absurd (none-some m b)

    seen : (k j : ℕ) (l : Location) (e : Entry) → IsEntry undecided k j l e → IsStepKind e.kind → IsObserved rising l e ⊎ Contains (1 ∷ []) k
    seen zero j l e is h = inl (λ v scope. off_seen v (off_is v
        (subst (λ q. IsIn q.control v) (sym (same_Some (bare (is_false_at 0)) l is.location)) scope.control)))
      where
        off_seen : (v : Valuation) → v 0 ≡ false → IsTrue (rising.observer v)
        off_seen v e = rw e refl
    seen (suc zero) j l e is h = inr (0, omega arith, refl)
    seen (suc (suc k)) j l e is h = absurd (none-some l is.location)

    uses : (k : ℕ) → Contains (1 ∷ []) k → (j : ℕ) × (l : Location) × (e : Entry) × IsEntry undecided k j l e
        × (IsFailingStep rising l e ⊎ IsUnrefuted rising undecided l e)
    uses k (zero, less, is) =
        subst (λ n. (j : ℕ) × (l : Location) × (e : Entry) × IsEntry undecided n j l e × (IsFailingStep rising l e ⊎ IsUnrefuted rising undecided l e)) is (
          0,
          bare (is_true_at 0),
          steps_on,
          record { location = refl; entry = refl },
          inl (record {
            step = tt;
            valuation = last;
            scope = record { allowed = refl; control = at_true last 0 refl; condition = at_everywhere last };
            fails = refl;
          }),
        )
    uses k (suc n, less, is) = absurd (omega arith)
