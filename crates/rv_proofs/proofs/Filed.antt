-- The certificate of the document of two counters is accepted, and two that differ from it in a record are refused.
use Rattle.std.proofs.Common.{◌≡◌, ◌≢◌, ℕ, zero, suc, ◌+◌, ◌<◌, ◌≤◌, ◌^◌, ℤ, pos, negsuc, ◌≤ℤ◌, ◌<ℤ◌, ◌+ℤ◌, ◌-ℤ◌, ◌*ℤ◌, map, List, [], ◌∷◌, ◌++◌, length, Bool}
use Rattle.std.proofs.Common.{true, false, not, cond, Some, All, IsTrue, slice_get, arith, refl, sym, ap, ◌∙◌, subst, ◌⊎◌, inl, inr, ◌-◌, slice_index_or}
use Rattle.std.proofs.lemmas.Option.{same_Some, none-some, get_or_from_slice_get, slice_get_within}
use Rattle.std.proofs.{lemmas.Int.ints, Math.IntN.*ℤ-zero, lemmas.List.Elements.All-nil, lemmas.List.Elements.All-contains}
use Rattle.rv_proofs.proofs.Sampling.{all_one, all_two, record_two, record_one, record_none, none_named, prove_one, prove_none, refute_two, when_false}
use Rattle.rv_proofs.proofs.Sampling.{both_true, each-nil, each-cons}
use Rattle.rv_proofs.proofs.{Settling.settled_from_implied, Claiming.at_false, Claiming.at_true, Claiming.off_is, Claiming.on_is, Counting.placed_one}
use Rattle.rv_rows.specs.Rows.{row_at, coefficient, dot}
use Rattle.rv_rows.specs.{declared.linear.Row.Row, declared.farkas.Multipliers.Multipliers, Tight.Fits, Multipliers.Proves, Multipliers.Refutes, Forms.number}
use Rattle.std.specs.Int.RustNames.{unsigned_abs}
use Rattle.rv_diagram.specs.Nodes.{Valuation, node_at, value_among, IsPlaced, IsOrderedOver, ComesBefore, valuation_of}
use Rattle.rv_proofs.specs.Counts.{HasLoop, HasCounts, HasLocationCounts, HasEntryCounts, IsLoop}
use Rattle.rv_proofs.specs.Scopes.{IsIn, IsInScope, IsSettled, IsSettledTest, IsSettledUpdate, Implication, refutation, after, NamesTest, implications}
use Rattle.rv_proofs.specs.Ranges.{IsControlSet, IsCondition, IsRecord, HasDivisor, AreKept, IsEntryInRange, IsLocationInRange}
use Rattle.rv_proofs.specs.Accepted.{IsAccepted, IsEntry, IsInitial, IsIncluded, IsCovered, AreProved, Leads, IsStepKind, IsDeadKind, IsObserved, AreImplied}
use Rattle.rv_proofs.specs.Samples.{by_one, by_two, by_none, node}
use Rattle.rv_proofs.specs.Counters.{row2, form2, pair_row, paired, both_hold, less_fails, more_fails, less, more, begins, begins_low, begins_high, beginning}
use Rattle.rv_proofs.specs.Counters.{goes_on, drops_low, drops_high, going, filed, wrong_weight, misfiled, cut_short}
use Rattle.rv_proofs.specs.Verdicts.{Fails, IsUncovered, IsNotIncluded, IsTarget, IsBefore, IsVerdict, place, word_of}
use Rattle.rv_proofs.specs.{Systems.IsState, Systems.IsRead, Implied.IsImplied, Implied.AreTestRows, Implied.form_at, declared.certificate.Location.Location}
use Rattle.rv_proofs.specs.{declared.certificate.Entry.Entry, declared.verdict.Reason.Reason, declared.verdict.Verdict.TheVariants.Rejected}
use Rattle.rv_proofs.specs.declared.verdict.Reason.TheVariants as reason

both-is : (v : Valuation) → IsIn both_hold v → (v 3 ≡ true) × (v 4 ≡ true)
unfolding value_among
both-is v h = both_true (v 3) (v 4) h

less-is : (v : Valuation) → IsIn less_fails v → v 3 ≡ false
unfolding value_among
less-is v h = when_false (v 3) h

pub true_then_false : (a b : Bool) → cond a (cond b false true) false ≡ true → (a ≡ true) × (b ≡ false)
true_then_false true false e = (refl, refl)
true_then_false true true e = cc
true_then_false false b e = cc

more-is : (v : Valuation) → IsIn more_fails v → (v 3 ≡ true) × (v 4 ≡ false)
unfolding value_among
more-is v h = true_then_false (v 3) (v 4) h

at_both : (v : Valuation) → v 3 ≡ true → v 4 ≡ true → IsIn both_hold v
unfolding value_among
at_both v e f = rw (e, f) refl

at_more : (v : Valuation) → v 3 ≡ true → v 4 ≡ false → IsIn more_fails v
unfolding value_among
at_more v e f = rw (e, f) refl

abbrev later : Location
later = going (goes_on ∷ drops_low ∷ drops_high ∷ [])

-- valuations by tick, `le` and `ge`
abbrev valuation : Bool → Bool → Bool → Valuation
valuation a b c zero = a
valuation a b c (suc zero) = false
valuation a b c (suc (suc zero)) = false
valuation a b c (suc (suc (suc zero))) = b
valuation a b c (suc (suc (suc (suc x)))) = c

in_begins : IsInScope paired beginning begins (valuation false true true)
in_begins = record { allowed = refl; control = at_false _ 0 refl; condition = at_both _ refl refl }

in_begins_low : IsInScope paired beginning begins_low (valuation false false true)
in_begins_low = record { allowed = refl; control = at_false _ 0 refl; condition = at_false _ 3 refl }

in_begins_high : IsInScope paired beginning begins_high (valuation false true false)
in_begins_high = record { allowed = refl; control = at_false _ 0 refl; condition = at_more _ refl refl }

-- the rows of the tests
abbrev none_wrong : Row
none_wrong = row2 (pos 0) (pos 0) (negsuc 0)

abbrev none_right : Row
none_right = row2 (pos 0) (pos 0) (pos 0)

abbrev not_less : Row
not_less = row2 (negsuc 0) (pos 1) (negsuc 0)

abbrev not_more : Row
not_more = row2 (pos 1) (negsuc 0) (negsuc 0)

one_row : (v : Valuation) (a b : Bool) (good bad : Row) (x : ℕ) → v 0 ≡ a → v x ≡ b → pair_row (v 0) (v x) good bad ≡ pair_row a b good bad
one_row v a b good bad x e f = rw (e, f) refl

low_settled : IsSettledTest paired beginning begins_low 0 none_wrong
low_settled = record {
  known = omega arith;
  some = (valuation false false true, in_begins_low);
  same = λ v scope. ap Some (one_row v false false less not_less 3 (off_is v scope.control) (less-is v scope.condition));
}

high_settled : IsSettledTest paired beginning begins_high 1 none_wrong
high_settled = record {
  known = omega arith;
  some = (valuation false true false, in_begins_high);
  same = λ v scope. ap Some (one_row v false false more not_more 4 (off_is v scope.control) (more-is v scope.condition).1);
}

-- later, whatever the entries of the location are
module _ (entries : List Entry) where
  in_goes_on : IsInScope paired (going entries) goes_on (valuation true true true)
  in_goes_on = record { allowed = refl; control = at_true _ 0 refl; condition = at_both _ refl refl }

  in_drops_low : IsInScope paired (going entries) drops_low (valuation true false true)
  in_drops_low = record { allowed = refl; control = at_true _ 0 refl; condition = at_false _ 3 refl }

  in_drops_high : IsInScope paired (going entries) drops_high (valuation true true false)
  in_drops_high = record { allowed = refl; control = at_true _ 0 refl; condition = at_more _ refl refl }

  not_less_settled : IsSettledTest paired (going entries) drops_low 0 not_less
  not_less_settled = record {
    known = omega arith;
    some = (valuation true false true, in_drops_low);
    same = λ v scope. ap Some (one_row v true false less not_less 3 (on_is v scope.control) (less-is v scope.condition));
  }

  less_settled : IsSettledTest paired (going entries) drops_high 0 less
  less_settled = record {
    known = omega arith;
    some = (valuation true true false, in_drops_high);
    same = λ v scope. ap Some (one_row v true true less not_less 3 (on_is v scope.control) (more-is v scope.condition).0);
  }

  not_more_settled : IsSettledTest paired (going entries) drops_high 1 not_more
  not_more_settled = record {
    known = omega arith;
    some = (valuation true true false, in_drops_high);
    same = λ v scope. ap Some (one_row v true false more not_more 4 (on_is v scope.control) (more-is v scope.condition).1);
  }

-- the updates
first_settled : (k : ℕ) → k < 2 → IsSettledUpdate paired beginning begins k (form2 (pos 0) (pos 0) (pos 0))
first_settled k h = record { known = h; some = (valuation false true true, in_begins); same = λ v scope. go k v (off_is v scope.control) }
  where
    go : (k : ℕ) (v : Valuation) → v 0 ≡ false → paired.update v k ≡ form2 (pos 0) (pos 0) (pos 0)
    go zero v e = rw e refl
    go (suc k) v e = rw e refl

x_settled : IsSettledUpdate paired later goes_on 0 (form2 (pos 1) (pos 0) (pos 1))
x_settled = record {
  known = omega arith;
  some = (valuation true true true, in_goes_on (goes_on ∷ drops_low ∷ drops_high ∷ []));
  same = λ v scope. let e : v 0 ≡ true = on_is v scope.control in rw e refl;
}

y_settled : IsSettledUpdate paired later goes_on 1 (form2 (pos 0) (pos 1) (pos 1))
y_settled = record {
  known = omega arith;
  some = (valuation true true true, in_goes_on (goes_on ∷ drops_low ∷ drops_high ∷ []));
  same = λ v scope. let e : v 0 ≡ true = on_is v scope.control in rw e refl;
}

same_columns : (a b c d e f : ℤ) → a ≡ d → b ≡ e → (k : ℕ) → coefficient k (row2 a b c) ≡ coefficient k (row2 d e f)
same_columns a b c d e f x y zero = x
same_columns a b c d e f x y (suc zero) = y
same_columns a b c d e f x y (suc (suc k)) = refl

-- a row over the two memories after their updates
module _ (l : Location) (e : Entry) (given rows : List Row) (a b c p q k r t m : ℤ) (by : Multipliers) where
  abbrev moved : Row
  moved = row2 ((a *ℤ p) +ℤ ((b *ℤ r) +ℤ pos 0)) ((a *ℤ q) +ℤ ((b *ℤ t) +ℤ pos 0)) (c -ℤ ((a *ℤ k) +ℤ ((b *ℤ m) +ℤ pos 0)))

  after_two : AreTestRows paired l e (record { given = given; wanted = after (row2 a b c); by = by }) rows
      → IsSettledUpdate paired l e 0 (form2 p q k) → IsSettledUpdate paired l e 1 (form2 r t m)
      → Proves (given ++ rows) moved by → IsImplied paired l e (record { given = given; wanted = after (row2 a b c); by = by })
  after_two are x y proof = (
    rows,
    are,
    (
      form2 p q k ∷ form2 r t m ∷ [],
      moved,
      record { size = refl; settled = needed },
      record
          { width = refl; coefficients = columns; bound = refl },
      proof,
    ),
  )
    where
      needed : (n : ℕ) → coefficient n (row2 a b c) ≢ pos 0 → IsSettledUpdate paired l e n (form_at (form2 p q k ∷ form2 r t m ∷ []) n)
      needed zero h = x
      needed (suc zero) h = y
      needed (suc (suc n)) h = absurd (h refl)

      columns : (n : ℕ) → number n moved.coefficients ≡ dot (a ∷ b ∷ []) (map (λ g. number n g.coefficients) (form2 p q k ∷ form2 r t m ∷ []))
      columns zero = refl
      columns (suc zero) = refl
      columns (suc (suc n)) = let x = *ℤ-zero a in let y = *ℤ-zero b in omega (arith, ints)

-- the implications
begins_implied : AreImplied paired filed beginning begins
begins_implied = all_two (IsImplied paired beginning begins)
    (record { given = []; wanted = after less; by = by_none }) (record { given = []; wanted = after more; by = by_none })
    (after_two beginning begins [] (less ∷ more ∷ []) (pos 1) (negsuc 0) (pos 0) (pos 0) (pos 0) (pos 0) (pos 0) (pos 0) (pos 0) by_none
    (none_named paired beginning begins (record { given = []; wanted = after less; by = by_none }) (less ∷ more ∷ []) refl refl)
    (first_settled 0 (omega arith)) (first_settled 1 (omega arith))
    (prove_none (less ∷ more ∷ []) none_right zeros (omega (arith, ints))))
    (after_two beginning begins [] (less ∷ more ∷ []) (negsuc 0) (pos 1) (pos 0) (pos 0) (pos 0) (pos 0) (pos 0) (pos 0) (pos 0) by_none
    (none_named paired beginning begins (record { given = []; wanted = after more; by = by_none }) (less ∷ more ∷ []) refl refl)
    (first_settled 0 (omega arith)) (first_settled 1 (omega arith))
    (prove_none (less ∷ more ∷ []) none_right zeros (omega (arith, ints))))
  where
    zeros : (k : ℕ) → coefficient k none_right ≡ pos 0
    zeros zero = refl
    zeros (suc zero) = refl
    zeros (suc (suc k)) = refl

-- one test is named
only : (l : Location) (e : Entry) (i : Implication) (rows : List Row) (t : ℕ) → length rows ≡ 2
    → All (λ w. (w.premise < length i.given) ⊎ (w.premise ≡ length i.given + t)) i.by.weights
    → IsSettledTest paired l e t (row_at rows t) → AreTestRows paired l e i rows
only l e i rows t size which settled = record { size = size; settled = named }
  where
    named : (n : ℕ) → NamesTest i n → IsSettledTest paired l e n (row_at rows n)
    named n (w, has, is) = go (All-contains (λ w. (w.premise < length i.given) ⊎ (w.premise ≡ length i.given + t)) i.by.weights w which has)
      where
        go : (w.premise < length i.given) ⊎ (w.premise ≡ length i.given + t) → IsSettledTest paired l e n (row_at rows n)
        go (inl h) = absurd (omega arith)
        go (inr h) = let same : t ≡ n = omega arith in subst (λ m. IsSettledTest paired l e m (row_at rows m)) same settled

refute_one : (rows : List Row) (p : ℕ) → ((k : ℕ) → coefficient k (row_at rows p) ≡ pos 0) → (row_at rows p).bound <ℤ pos 0 → Refutes rows (by_one p)
refute_one rows p same b = record {
  divisor = refl;
  none_negative = all_one (λ w. pos 0 ≤ℤ w.by) (record { premise = p; by = pos 1 }) (omega (arith, ints));
  sides = λ k. rw (same k) refl;
  bounds = omega (arith, ints);
}

wrong_zeros : (k : ℕ) → coefficient k none_wrong ≡ pos 0
wrong_zeros zero = refl
wrong_zeros (suc zero) = refl
wrong_zeros (suc (suc k)) = refl

begins_low_implied : AreImplied paired filed beginning begins_low
begins_low_implied = all_one (IsImplied paired beginning begins_low) (record { given = []; wanted = refutation; by = by_one 0 }) (
  none_wrong ∷ more ∷ [],
  only beginning begins_low (record { given = []; wanted = refutation; by = by_one 0 }) (none_wrong ∷ more ∷ []) 0 refl
      (all_one (λ w. (w.premise < 0) ⊎ (w.premise ≡ 0 + 0)) (record { premise = 0; by = pos 1 }) (inr refl)) low_settled,
  refute_one (none_wrong ∷ more ∷ []) 0 wrong_zeros (omega (arith, ints)),
)

begins_high_implied : AreImplied paired filed beginning begins_high
begins_high_implied = all_one (IsImplied paired beginning begins_high) (record { given = []; wanted = refutation; by = by_one 1 }) (
  less ∷ none_wrong ∷ [],
  only beginning begins_high (record { given = []; wanted = refutation; by = by_one 1 }) (less ∷ none_wrong ∷ []) 1 refl
      (all_one (λ w. (w.premise < 0) ⊎ (w.premise ≡ 0 + 1)) (record { premise = 1; by = pos 1 }) (inr refl)) high_settled,
  refute_one (less ∷ none_wrong ∷ []) 1 wrong_zeros (omega (arith, ints)),
)

nothing_named : (l : Location) (e : Entry) (i : Implication) (rows : List Row) → length rows ≡ 2 → All (λ w. w.premise < length i.given) i.by.weights
    → AreTestRows paired l e i rows
nothing_named l e i rows size which = record { size = size; settled = λ n named. absurd (past n named) }
  where
    past : (n : ℕ) → NamesTest i n → ⊥
    past n (w, has, is) = let h = All-contains (λ u. u.premise < length i.given) i.by.weights w which has in omega arith

goes_on_implied : AreImplied paired filed later goes_on
goes_on_implied = all_two (IsImplied paired later goes_on)
    (record { given = less ∷ more ∷ []; wanted = after less; by = by_one 0 }) (record { given = less ∷ more ∷ []; wanted = after more; by = by_one 1 })
    (after_two later goes_on (less ∷ more ∷ []) (less ∷ more ∷ []) (pos 1) (negsuc 0) (pos 0) (pos 1) (pos 0) (pos 1) (pos 0) (pos 1) (pos 1) (by_one 0)
    (nothing_named later goes_on (record { given = less ∷ more ∷ []; wanted = after less; by = by_one 0 }) (less ∷ more ∷ []) refl
    (all_one (λ w. w.premise < 2) (record { premise = 0; by = pos 1 }) (omega arith)))
    x_settled y_settled (prove_one ((less ∷ more ∷ []) ++ (less ∷ more ∷ [])) less 0
    (same_columns (pos 1) (negsuc 0) (pos 0) (pos 1) (negsuc 0) (pos 0) refl refl) (omega (arith, ints))))
    (after_two later goes_on (less ∷ more ∷ []) (less ∷ more ∷ []) (negsuc 0) (pos 1) (pos 0) (pos 1) (pos 0) (pos 1) (pos 0) (pos 1) (pos 1) (by_one 1)
    (nothing_named later goes_on (record { given = less ∷ more ∷ []; wanted = after more; by = by_one 1 }) (less ∷ more ∷ []) refl
    (all_one (λ w. w.premise < 2) (record { premise = 1; by = pos 1 }) (omega arith)))
    x_settled y_settled (prove_one ((less ∷ more ∷ []) ++ (less ∷ more ∷ [])) more 1
    (same_columns (negsuc 0) (pos 1) (pos 0) (negsuc 0) (pos 1) (pos 0) refl refl) (omega (arith, ints))))

cancel : (k : ℕ) → coefficient k less +ℤ coefficient k not_less ≡ pos 0
cancel zero = refl
cancel (suc zero) = refl
cancel (suc (suc k)) = refl

cancel_other : (k : ℕ) → coefficient k more +ℤ coefficient k not_more ≡ pos 0
cancel_other zero = refl
cancel_other (suc zero) = refl
cancel_other (suc (suc k)) = refl

drops_low_implied : AreImplied paired filed later drops_low
drops_low_implied = all_one (IsImplied paired later drops_low) (record { given = less ∷ more ∷ []; wanted = refutation; by = by_two 0 2 }) (
  not_less ∷ more ∷ [],
  only later drops_low (record { given = less ∷ more ∷ []; wanted = refutation; by = by_two 0 2 }) (not_less ∷ more ∷ []) 0 refl
      (all_two (λ w. (w.premise < 2) ⊎ (w.premise ≡ 2 + 0)) (record { premise = 0; by = pos 1 }) (record { premise = 2; by = pos 1 }) (inl (omega arith))
      (inr refl))
      (not_less_settled (goes_on ∷ drops_low ∷ drops_high ∷ [])),
  refute_two (less ∷ more ∷ not_less ∷ more ∷ []) 0 2 cancel (omega (arith, ints)),
)

drops_high_implied : AreImplied paired filed later drops_high
drops_high_implied = all_one (IsImplied paired later drops_high) (record { given = less ∷ more ∷ []; wanted = refutation; by = by_two 1 3 }) (
  less ∷ not_more ∷ [],
  only later drops_high (record { given = less ∷ more ∷ []; wanted = refutation; by = by_two 1 3 }) (less ∷ not_more ∷ []) 1 refl
      (all_two (λ w. (w.premise < 2) ⊎ (w.premise ≡ 2 + 1)) (record { premise = 1; by = pos 1 }) (record { premise = 3; by = pos 1 }) (inl (omega arith))
      (inr refl))
      (not_more_settled (goes_on ∷ drops_low ∷ drops_high ∷ [])),
  refute_two (less ∷ more ∷ less ∷ not_more ∷ []) 1 3 cancel_other (omega (arith, ints)),
)

-- all entries, and all locations
each_location : (P : Location → Type 0) → P beginning → P later → (k : ℕ) (l : Location) → slice_get filed.locations k ≡ Some l → P l
each_location P a b = each-cons P beginning (later ∷ []) a (each-cons P later [] b (each-nil P))

three : (P : Entry → Type 0) (x y z : Entry) → P x → P y → P z → (n : ℕ) (f : Entry) → slice_get (x ∷ y ∷ z ∷ []) n ≡ Some f → P f
three P x y z a b c = each-cons P x (y ∷ z ∷ []) a (each-cons P y (z ∷ []) b (each-cons P z [] c (each-nil P)))

each_entry : (P : Location → Entry → Type 0) → P beginning begins → P beginning begins_low → P beginning begins_high → P later goes_on → P later drops_low
    → P later drops_high
    → (k j : ℕ) (l : Location) (e : Entry) → IsEntry filed k j l e → P l e
each_entry P a b c d e f k j l x is = each_location (λ m. (n : ℕ) (f : Entry) → slice_get m.entries n ≡ Some f → P m f)
    (three (P beginning) begins begins_low begins_high a b c) (three (P later) goes_on drops_low drops_high d e f) k l is.location j x is.entry

ordered_one : (x y z : ℕ) → x < 5 → y < 2 → z < 2 → IsOrderedOver 5 (record { nodes = node x y z ∷ []; root = 2 })
ordered_one x y z h a b = record { placed = placed_one x y z a b; low = low_one; root = omega arith }
  where
    low_one : (i : ℕ) → i < 1 → (node_at (node x y z ∷ []) i).var < 5
    low_one zero l = h
    low_one (suc i) l = absurd (omega arith)

ordered_two : (y z : ℕ) → y < 2 → z < 2 → IsOrderedOver 5 (record { nodes = node 4 y z ∷ node 3 0 2 ∷ []; root = 3 })
ordered_two y z a b = record { placed = placed; low = low_two; root = omega arith }
  where
    placed : (i : ℕ) → i < 2 → IsPlaced (node 4 y z ∷ node 3 0 2 ∷ []) i
    placed zero l = record {
      lo_earlier = omega arith;
      hi_earlier = omega arith;
      lo_greater = λ h. absurd (omega arith);
      hi_greater = λ h. absurd
          (omega arith);
    }
    placed (suc zero) l = record { lo_earlier = omega arith; hi_earlier = omega arith; lo_greater = λ h. absurd (omega arith); hi_greater = λ h. omega arith }
    placed (suc (suc i)) l = absurd (omega arith)

    low_two : (i : ℕ) → i < 2 → (node_at (node 4 y z ∷ node 3 0 2 ∷ []) i).var < 5
    low_two zero l = omega arith
    low_two (suc zero) l = omega arith
    low_two (suc (suc i)) l = absurd (omega arith)

control_one : (y z : ℕ) → y < 2 → z < 2 → IsControlSet paired (record { nodes = node 0 y z ∷ []; root = 2 })
control_one y z a b = record { ordered = ordered_one 0 y z (omega arith) a b; states = states_one }
  where
    states_one : (n : ℕ) → n < 1 → IsState paired (node_at (node 0 y z ∷ []) n).var
    states_one zero l = (0, omega arith, omega arith)
    states_one (suc n) l = absurd (omega arith)

pub three_read : IsRead paired 3
three_read = (omega arith, λ i h e. omega arith)

pub four_read : IsRead paired 4
four_read = (omega arith, λ i h e. omega arith)

condition_two : (y z : ℕ) → y < 2 → z < 2 → IsCondition paired (record { nodes = node 4 y z ∷ node 3 0 2 ∷ []; root = 3 })
condition_two y z a b = record { ordered = ordered_two y z a b; read = read_two }
  where
    read_two : (n : ℕ) → n < 2 → IsRead paired (node_at (node 4 y z ∷ node 3 0 2 ∷ []) n).var
    read_two zero l = four_read
    read_two (suc zero) l = three_read
    read_two (suc (suc n)) l = absurd (omega arith)

condition_low : IsCondition paired less_fails
condition_low = record { ordered = ordered_one 3 1 0 (omega arith) (omega arith) (omega arith); read = read_one }
  where
    read_one : (n : ℕ) → n < 1 → IsRead paired (node_at (node 3 1 0 ∷ []) n).var
    read_one zero l = three_read
    read_one (suc n) l = absurd (omega arith)

abbrev IsKeptRow : Row → Type 0
IsKeptRow r = (length r.coefficients ≡ 2) × Fits r

kept_row : (a b c : ℤ) → unsigned_abs a ≤ 2 ^ 30 → unsigned_abs b ≤ 2 ^ 30 → unsigned_abs c ≤ 2 ^ 60 → IsKeptRow (row2 a b c)
kept_row a b c h i k = (refl, record { coefficients = all_two (λ z. unsigned_abs z ≤ 2 ^ 30) a b h i; bound = k })

none_kept : AreKept paired []
none_kept = (All-nil IsKeptRow, omega arith)

both_kept : AreKept paired (less ∷ more ∷ [])
both_kept = (
  all_two IsKeptRow less more (kept_row (pos 1) (negsuc 0) (pos 0) (omega (arith, ints)) (omega (arith, ints)) (omega (arith, ints)))
      (kept_row (negsuc 0) (pos 1) (pos 0) (omega (arith, ints)) (omega (arith, ints)) (omega (arith, ints))),
  omega arith,
)

abbrev IsBy : Implication → Type 0
IsBy i = IsRecord (length i.given + 2) i.by × HasDivisor i.wanted i.by.divisor

beginning_in_range : IsLocationInRange paired filed beginning
beginning_in_range = record {
  control = control_one 1 0 (omega arith) (omega arith);
  entry = none_kept;
  first = none_kept;
  around = none_kept;
  state = none_kept;
  by_entry = All-nil (IsRecord 0);
  by_first = All-nil (IsRecord 0);
  few = omega arith;
  entries = three (IsEntryInRange paired filed beginning) begins begins_low begins_high
      (record {
        condition = condition_two 0 1 (omega arith) (omega arith);
        by = all_two IsBy (record { given = []; wanted = after less; by = by_none })
            (record { given = []; wanted = after more; by = by_none }) (record_none 2, tt) (record_none 2, tt);
      })
      (record { condition = condition_low; by = all_one IsBy (record { given = []; wanted = refutation; by = by_one 0 }) (record_one 2 0 (omega arith), refl) })
      (record {
        condition = condition_two 1 0 (omega arith) (omega arith);
        by = all_one IsBy (record { given = []; wanted = refutation; by = by_one 1 })
            (record_one 2 1 (omega arith), refl);
      });
}

later_in_range : IsLocationInRange paired filed later
later_in_range = record {
  control = control_one 0 1 (omega arith) (omega arith);
  entry = both_kept;
  first = none_kept;
  around = none_kept;
  state = both_kept;
  by_entry = all_two (IsRecord 2) (by_one 0) (by_one 1) (record_one 2 0 (omega arith)) (record_one 2 1 (omega arith));
  by_first = All-nil (IsRecord 0);
  few = omega arith;
  entries = three (IsEntryInRange paired filed later) goes_on drops_low drops_high
      (record {
        condition = condition_two 0 1 (omega arith) (omega arith);
        by = all_two IsBy
            (record { given = less ∷ more ∷ []; wanted = after less; by = by_one 0 })
            (record { given = less ∷ more ∷ []; wanted = after more; by = by_one 1 }) (record_one 4 0 (omega arith), tt) (record_one 4 1 (omega arith), tt);
      })
      (record {
        condition = condition_low;
        by = all_one IsBy (record { given = less ∷ more ∷ []; wanted = refutation; by = by_two 0 2 })
            (record_two 4 0 2 (omega arith) (omega arith), refl);
      })
      (record {
        condition = condition_two 1 0 (omega arith) (omega arith);
        by = all_one IsBy
            (record { given = less ∷ more ∷ []; wanted = refutation; by = by_two 1 3 }) (record_two 4 1 3 (omega arith) (omega arith), refl);
      });
}

no_loop_first : ¬ HasLoop beginning
no_loop_first (j, e, at, is) = three (λ f. IsLoop f → ⊥) begins begins_low begins_high (λ h. h) (λ h. h) (λ h. h) j e at is

no_loop_later : ¬ HasLoop later
no_loop_later (j, e, at, is) = three (λ f. IsLoop f → ⊥) goes_on drops_low drops_high (λ h. h) (λ h. h) (λ h. h) j e at is

filed_counts : HasCounts filed
filed_counts = each_location (HasLocationCounts filed)
    (record {
      by_entry = refl;
      by_first = record { some = λ h. absurd (no_loop_first h); none = λ h. refl };
      entries = three
          (HasEntryCounts filed beginning) begins begins_low begins_high (later, refl, refl) tt tt;
    })
    (record {
      by_entry = refl;
      by_first = record { some = λ h. absurd (no_loop_later h); none = λ h. refl };
      entries = three (HasEntryCounts filed later)
          goes_on drops_low drops_high (later, refl, refl) tt tt;
    })

proved_both : AreProved (less ∷ more ∷ []) (less ∷ more ∷ []) (by_one 0 ∷ by_one 1 ∷ [])
proved_both zero r e = (
  by_one 0,
  refl,
  subst (λ q. Proves (less ∷ more ∷ []) q (by_one 0)) (same_Some less r e)
      (prove_one (less ∷ more ∷ []) less 0 (λ k. refl) (omega (arith, ints))),
)
proved_both (suc zero) r e = (
  by_one 1,
  refl,
  subst (λ q. Proves (less ∷ more ∷ []) q (by_one 1)) (same_Some more r e)
      (prove_one (less ∷ more ∷ []) more 1 (λ k. refl) (omega (arith, ints))),
)
proved_both (suc (suc n)) r e = absurd (none-some r e)

first_included : IsIncluded beginning
first_included = record { entry = λ n r e. absurd (none-some r e); first = λ h. absurd (no_loop_first h); no_first = λ h. refl; no_around = λ h. refl }

later_included : IsIncluded later
later_included = record { entry = proved_both; first = λ h. absurd (no_loop_later h); no_first = λ h. refl; no_around = λ h. refl }

covered_by : (entries : List Entry) (low high good : Entry) (v : Valuation) → slice_get entries 0 ≡ Some good → slice_get entries 1 ≡ Some low
    → slice_get entries 2 ≡ Some high
    → good.condition ≡ both_hold → low.condition ≡ less_fails → high.condition ≡ more_fails
    → (j : ℕ) × (e : Entry) × (slice_get entries j ≡ Some e) × IsIn e.condition v
covered_by entries low high good v a b c x y z = go (v 3) refl (v 4) refl
  where
    go : (p : Bool) → v 3 ≡ p → (q : Bool) → v 4 ≡ q → (j : ℕ) × (e : Entry) × (slice_get entries j ≡ Some e) × IsIn e.condition v
    go false e q f = (1, low, b, subst (λ d. IsIn d v) (sym y) (at_false v 3 e))
    go true e true f = (0, good, a, subst (λ d. IsIn d v) (sym x) (at_both v e f))
    go true e false f = (2, high, c, subst (λ d. IsIn d v) (sym z) (at_more v e f))

ticked : (v : Valuation) → IsIn later.control (paired.next v)
ticked v = at_true (paired.next v) 0 refl

started : IsInitial paired filed
started v h = (0, beginning, refl, refl, at_false v 0 (not_true (v 0) h))
  where
    not_true : (b : Bool) → not b ≡ true → b ≡ false
    not_true true e = sym e
    not_true false e = refl

seen : (l : Location) (e : Entry) → e.condition ≡ both_hold → IsObserved paired l e
seen l e is v scope =
    let c : IsIn both_hold v = subst (λ d. IsIn d v) is scope.condition in
    let e : v 3 ≡ true = (both-is v c).0 in
    let f : v 4 ≡ true = (both-is v c).1 in
    rw (e, f) refl

pub filed_accepted : IsAccepted paired filed
filed_accepted = record {
  partition = record {
    in_range = record {
      counts = filed_counts;
      few = omega arith;
      locations = each_location (IsLocationInRange paired filed) beginning_in_range
          later_in_range;
    };
    initial = started;
    included = each_location IsIncluded first_included later_included;
    covered = each_location (IsCovered paired)
        (λ v allowed control. covered_by beginning.entries begins_low begins_high begins v refl refl refl refl refl refl)
        (λ v allowed control. covered_by later.entries drops_low drops_high goes_on v refl refl refl refl refl refl);
    settled = each_entry (IsSettled paired filed) (settled_from_implied paired filed beginning begins begins_implied)
        (settled_from_implied paired filed beginning begins_low begins_low_implied)
        (settled_from_implied paired filed beginning begins_high begins_high_implied) (settled_from_implied paired filed later goes_on goes_on_implied)
        (settled_from_implied paired filed later drops_low drops_low_implied) (settled_from_implied paired filed later drops_high drops_high_implied);
    leads = each_entry (λ l e. Leads paired filed l e e.kind) (later, refl, λ v scope. ticked v) tt tt (later, refl, λ v scope. ticked v) tt tt;
    steps = each_entry (λ l e. IsStepKind e.kind → AreImplied paired filed l e) (λ h. begins_implied) (λ h. absurd h) (λ h. absurd h) (λ h. goes_on_implied)
        (λ h. absurd h) (λ h. absurd h);
  };
  observed = each_entry (λ l e. IsStepKind e.kind → IsObserved paired l e) (λ h. seen beginning begins refl) (λ h. absurd h) (λ h. absurd h)
      (λ h. seen later goes_on refl) (λ h. absurd h) (λ h. absurd h);
  dead = each_entry (λ l e. IsDeadKind e.kind → AreImplied paired filed l e) (λ h. absurd h) (λ h. begins_low_implied) (λ h. begins_high_implied)
      (λ h. absurd h) (λ h. drops_low_implied) (λ h. drops_high_implied);
}

-- the last multiplier 2: the left sides do not cancel
pub misfiled_fails : Fails paired misfiled (reason.Multipliers 1 2 0)
misfiled_fails = (wrong_later, wrong_weight, wrong, record { location = refl; entry = refl }, refl, refused)
  where
    wrong_later : Location
    wrong_later = going (goes_on ∷ drops_low ∷ wrong_weight ∷ [])

    wrong : Implication
    wrong = record {
      given = less ∷ more ∷ [];
      wanted = refutation;
      by = record
          { divisor = pos 1; weights = record { premise = 1; by = pos 1 } ∷ record { premise = 3; by = pos 2 } ∷ [] };
    }

    in_wrong : IsInScope paired wrong_later wrong_weight (valuation true true false)
    in_wrong = record { allowed = refl; control = at_true _ 0 refl; condition = at_more _ refl refl }

    refused : IsImplied paired wrong_later wrong_weight wrong → ⊥
    refused (rows, are, p) =
        let settled = are.settled 1 (record { premise = 3; by = pos 2 }, (1, omega arith, refl), refl) in
        let row : not_more ≡ row_at rows 1 = same_Some _ _ (settled.same (valuation true true false) in_wrong) in
        let sides = p.sides 0 in
        let one : coefficient 0 (row_at rows 1) ≡ pos 1 = sym (ap (coefficient 0) row) in
        not_zero (coefficient 0 (row_at rows 1)) one (same_place rows) sides
      where
        same_place : (rs : List Row) → row_at ((less ∷ more ∷ []) ++ rs) 3 ≡ row_at rs 1
        same_place rs = refl

        not_zero : (z : ℤ) → z ≡ pos 1 → row_at ((less ∷ more ∷ []) ++ rows) 3 ≡ row_at rows 1 → (pos 1 *ℤ negsuc 0) +ℤ ((pos 2 *ℤ z) +ℤ pos 0) ≡ pos 0 → ⊥
        not_zero z e s h = omega (arith, ints)

-- without the last entry the valuation 10010 meets no condition
pub cut_short_fails : Fails paired cut_short (reason.Uncovered 1 (true ∷ false ∷ false ∷ true ∷ false ∷ []))
cut_short_fails = (
  going (goes_on ∷ drops_low ∷ []),
  refl,
  record {
    word = record { size = refl; copies = copy };
    allowed = refl;
    control = at_true (valuation_of (true ∷ false ∷ false ∷ true ∷ false ∷ [])) 0 refl;
    nowhere = each-cons (λ e. IsIn e.condition (valuation_of (true ∷ false ∷ false ∷ true ∷ false ∷ [])) → ⊥) goes_on (drops_low ∷ []) no_both
        (each-cons (λ e. IsIn e.condition (valuation_of (true ∷ false ∷ false ∷ true ∷ false ∷ [])) → ⊥) drops_low [] no_less
        (each-nil (λ e. IsIn e.condition (valuation_of (true ∷ false ∷ false ∷ true ∷ false ∷ [])) → ⊥)));
  },
)
  where
    no_both : IsIn both_hold (valuation_of (true ∷ false ∷ false ∷ true ∷ false ∷ [])) → ⊥
    no_both h = let e : false ≡ true = (both-is _ h).1 in cc

    no_less : IsIn less_fails (valuation_of (true ∷ false ∷ false ∷ true ∷ false ∷ [])) → ⊥
    no_less h = let e : true ≡ false = less-is _ h in cc

    copy : (x : ℕ) → ¬ IsRead paired x → valuation_of (true ∷ false ∷ false ∷ true ∷ false ∷ []) x ≡ false
    copy zero h = absurd (h (omega arith, λ i l e. omega arith))
    copy (suc zero) h = refl
    copy (suc (suc zero)) h = refl
    copy (suc (suc (suc zero))) h = absurd (h three_read)
    copy (suc (suc (suc (suc zero)))) h = refl
    copy (suc (suc (suc (suc (suc x))))) h = refl

-- the verdict on the certificate without its last entry: nothing earlier fails, and no lesser valuation is uncovered
abbrev short_later : Location
short_later = going (goes_on ∷ drops_low ∷ [])

first_is : (k : ℕ) (l : Location) → k < 1 → slice_get cut_short.locations k ≡ Some l → beginning ≡ l
first_is zero l h at = same_Some beginning l at
first_is (suc k) l h at = absurd (omega arith)

earlier_entry : (P : Location → Entry → Type 0) → P beginning begins → P beginning begins_low → P beginning begins_high
    → (k j : ℕ) (l : Location) (e : Entry) → k < 1 → IsEntry cut_short k j l e → P l e
earlier_entry P a b c k j l e h is =
    let same : beginning ≡ l = first_is k l h is.location in
    let inner : (n : ℕ) (f : Entry) → slice_get l.entries n ≡ Some f → P l f
    = subst (λ m. (n : ℕ) (f : Entry) → slice_get m.entries n ≡ Some f → P m f) same (three (P beginning) begins begins_low begins_high a b c) in
    inner j e is.entry

no_loop_short : ¬ HasLoop short_later
no_loop_short (j, e, at, is) = each-cons (λ f. IsLoop f → ⊥) goes_on (drops_low ∷ []) (λ h. h)
    (each-cons (λ f. IsLoop f → ⊥) drops_low [] (λ h. h) (each-nil (λ f. IsLoop f → ⊥))) j e at is

included_not : (l : Location) → IsIncluded l → (n : ℕ) → IsNotIncluded l n → ⊥
included_not l inc n (inl f) = let (m, there, proof) = inc.entry n f.row f.at in f.fails m there proof
included_not l inc n (inr (has, past, f)) = let (m, there, proof) = inc.first has (n - length l.state) f.row f.at in f.fails m there proof

short_included : IsIncluded short_later
short_included = record { entry = proved_both; first = λ h. absurd (no_loop_short h); no_first = λ h. refl; no_around = λ h. refl }

cut_included : (k : ℕ) (l : Location) → slice_get cut_short.locations k ≡ Some l → IsIncluded l
cut_included = each-cons IsIncluded beginning (short_later ∷ []) first_included (each-cons IsIncluded short_later [] short_included (each-nil IsIncluded))

pub not_true_false : (b : Bool) → IsTrue b → b ≡ false → ⊥
not_true_false true h e = cc
not_true_false false h e = cc

-- in the second location only the rows of Inclusion come before the cover
in_first : (k c : ℕ) (rest : List ℕ) → IsBefore (1 ∷ k ∷ c ∷ rest) (1 ∷ 1 ∷ 1 ∷ []) → 1 ≤ c → k < 1
in_first k c rest (inl h) l = absurd (omega arith)
in_first k c rest (inr (same, inl h)) l = h
in_first k c rest (inr (same, inr (e, inl h))) l = absurd (omega arith)
in_first k c [] (inr (same, inr (e, inr (f, h)))) l = absurd h
in_first k c (r ∷ rest) (inr (same, inr (e, inr (f, h)))) l = absurd h

nothing_before : (q : Reason) → Fails paired cut_short q → ¬ IsBefore (place q) (1 ∷ 1 ∷ 1 ∷ [])
nothing_before (reason.NoInitial w) f h =
    let e : valuation_of w 0 ≡ false = off (valuation_of w 0) f.initial in
    f.nowhere 0 beginning refl refl (at_false (valuation_of w) 0 e)
  where
    off : (b : Bool) → not b ≡ true → b ≡ false
    off true e = sym e
    off false e = refl
nothing_before (reason.Uncovered k w) (l, at, f) h =
    let same : beginning ≡ l = first_is k l (in_first k 1 [] h (omega arith)) at in
    let found : (j : ℕ) × (e : Entry) × (slice_get l.entries j ≡ Some e) × IsIn e.condition (valuation_of w)
    = subst (λ m. (j : ℕ) × (e : Entry) × (slice_get m.entries j ≡ Some e) × IsIn e.condition (valuation_of w)) same
    (covered_by beginning.entries begins_low begins_high begins (valuation_of w) refl refl refl refl refl refl) in
    f.nowhere found.0 found.1 found.2 found.3
nothing_before (reason.Unsettled k j) (l, e, is, f) h =
    f (earlier_entry (IsSettled paired cut_short) (settled_from_implied paired cut_short beginning begins begins_implied)
    (settled_from_implied paired cut_short beginning begins_low begins_low_implied)
    (settled_from_implied paired cut_short beginning begins_high begins_high_implied)
    k j l e (in_first k 2 (j ∷ 0 ∷ []) h (omega arith)) is)
nothing_before (reason.Observer k j w) (l, e, is, f) h =
    let good = earlier_entry (λ m x. IsStepKind x.kind → IsObserved paired m x) (λ s. seen beginning begins refl) (λ s. absurd s) (λ s. absurd s) k j l e
    (in_first k 2 (j ∷ 1 ∷ []) h (omega arith)) is in
    not_true_false _ (good f.step (valuation_of w) f.scope) f.fails
nothing_before (reason.Target k j w) (l, e, is, f) h =
    let good = earlier_entry (λ m x. (into : Location) → IsTarget cut_short m x.kind into → IsIn into.control (paired.next (valuation_of w)))
    (λ into t. subst (λ m. IsIn m.control (paired.next (valuation_of w))) (same_Some short_later into t) (ticked (valuation_of w)))
    (λ into t. absurd t) (λ into t. absurd t) k j l e (in_first k 2 (j ∷ 2 ∷ []) h (omega arith)) is in
    f.elsewhere (good f.into f.target)
nothing_before (reason.Multipliers k j n) (l, e, i, is, at, f) h =
    let good = earlier_entry (AreImplied paired cut_short) begins_implied begins_low_implied begins_high_implied k j l e
    (in_first k 2 (j ∷ 3 ∷ n ∷ []) h (omega arith)) is in
    f (subst (IsImplied paired l e) (get_or_from_slice_get (implications cut_short l e.kind) n i i at)
    (good n i (slice_get_within (implications cut_short l e.kind) n i at)))
nothing_before (reason.Inclusion k n) (l, at, f) h = included_not l (cut_included k l at) n f

-- a word that is uncovered there is true at the tick and at `le`
least_word : (w : List Bool) → IsUncovered paired short_later w → ¬ ComesBefore (valuation_of w) (valuation_of (true ∷ false ∷ false ∷ true ∷ false ∷ []))
least_word w f (x, same, low, high) = at_place x low high
  where
    ticks : valuation_of w 0 ≡ true
    ticks = on_is (valuation_of w) f.control

    le_true : (b : Bool) → valuation_of w 3 ≡ b → valuation_of w 3 ≡ true
    le_true true e = e
    le_true false e = absurd (f.nowhere 1 drops_low refl (at_false (valuation_of w) 3 e))

    clash : (b : Bool) → b ≡ true → b ≡ false → ⊥
    clash true e g = cc
    clash false e g = cc

    at_place : (x : ℕ) → valuation_of w x ≡ false → valuation_of (true ∷ false ∷ false ∷ true ∷ false ∷ []) x ≡ true → ⊥
    at_place zero low high = clash _ ticks low
    at_place (suc zero) low high = clash _ high refl
    at_place (suc (suc zero)) low high = clash _ high refl
    at_place (suc (suc (suc zero))) low high = clash _ (le_true (valuation_of w 3) refl) low
    at_place (suc (suc (suc (suc zero)))) low high = clash _ high refl
    at_place (suc (suc (suc (suc (suc x))))) low high = clash _ high refl

longer : (n : ℕ) → 3 < n → n ≡ 3 → ⊥
longer n h e = omega arith

least_there : (q : Reason) → Fails paired cut_short q → place q ≡ (1 ∷ 1 ∷ 1 ∷ [])
    → ¬ ComesBefore (valuation_of (word_of q)) (valuation_of (true ∷ false ∷ false ∷ true ∷ false ∷ []))
least_there (reason.NoInitial w) f e = absurd (cc)
least_there (reason.Uncovered k w) (l, at, f) e =
    let one : k ≡ 1 = ap (λ ps. slice_index_or ps 1 0) e in
    let same : short_later ≡ l = same_Some short_later l (sym (ap (slice_get cut_short.locations) one) ∙ at) in
    least_word w (subst (λ m. IsUncovered paired m w) (sym same) f)
least_there (reason.Unsettled k j) f e = absurd (longer 5 (omega arith) (ap length e))
least_there (reason.Observer k j w) f e = absurd (longer 5 (omega arith) (ap length e))
least_there (reason.Target k j w) f e = absurd (longer 5 (omega arith) (ap length e))
least_there (reason.Multipliers k j n) f e = absurd (longer 6 (omega arith) (ap length e))
least_there (reason.Inclusion k n) f e = absurd (longer 4 (omega arith) (ap length e))

pub cut_short_judged : IsVerdict paired cut_short (Rejected (reason.Uncovered 1 (true ∷ false ∷ false ∷ true ∷ false ∷ [])))
cut_short_judged = record { fails = cut_short_fails; earlier = nothing_before; least = least_there }
