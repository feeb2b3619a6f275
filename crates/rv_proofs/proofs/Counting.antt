-- The sample certificate of the counter with a loop is accepted.
use Rattle.std.proofs.Common.{◌≡◌, ℕ, zero, suc, ◌+◌, ◌<◌, ◌≤◌, ◌^◌, ℤ, pos, negsuc, ◌+ℤ◌, ◌-ℤ◌, ◌*ℤ◌, List, [], ◌∷◌, ◌++◌, length, Bool, true, false, not}
use Rattle.std.proofs.Common.{Some, All, slice_get, get_or, arith, refl, sym, ap, ◌∙◌, subst, ◌⊎◌, inl, inr}
use Rattle.std.proofs.lemmas.List.Elements.{All-nil, All-cons, All-contains}
use Rattle.std.proofs.{lemmas.Int.ints, Math.IntN.*ℤ-zero, lemmas.Option.same_Some, lemmas.Option.none-some}
use Rattle.rv_proofs.proofs.Sampling.{all_one, all_two, after_one, record_two, record_one, record_none, all_settled, none_named, prove_one, prove_none}
use Rattle.rv_proofs.proofs.Sampling.{refute_two, when_false, both_true, second_true, each-nil, each-cons}
use Rattle.rv_proofs.proofs.{Settling.settled_from_implied, Claiming.at_everywhere, Claiming.at_false, Claiming.at_true, Claiming.off_is, Claiming.on_is}
use Rattle.rv_rows.specs.{Rows.row_at, Rows.coefficient, declared.linear.Row.Row, Tight.Fits, Multipliers.Proves}
use Rattle.std.specs.Int.RustNames.{unsigned_abs}
use Rattle.rv_diagram.specs.Nodes.{Valuation, node_at, value_among, IsPlaced, IsOrderedOver, IsFrom}
use Rattle.rv_proofs.specs.Counts.{HasLoop, HasCounts, HasLocationCounts, HasEntryCounts, IsLoop}
use Rattle.rv_proofs.specs.Scopes.{IsIn, IsInScope, IsSettled, IsSettledTest, IsSettledUpdate, Implication, refutation, before, after, NamesTest}
use Rattle.rv_proofs.specs.Ranges.{IsControlSet, IsCondition, IsRecord, HasDivisor, AreKept, IsEntryInRange, IsLocationInRange}
use Rattle.rv_proofs.specs.Accepted.{IsAccepted, IsEntry, IsInitial, IsIncluded, IsCovered, AreProved, Leads, IsStepKind, IsDeadKind, IsObserved, AreImplied}
use Rattle.rv_proofs.specs.Samples.{counting, counting_row, counted, at_first, at_later, counting_on, standing_still, above_ten, names_unsettled, row1, form1}
use Rattle.rv_proofs.specs.Samples.{by_one, by_two, by_none, node, everywhere, counts_on, stands_still, is_false_at}
use Rattle.rv_proofs.specs.{Systems.IsState, Systems.IsRead, Implied.IsImplied, Implied.AreTestRows, declared.certificate.Location.Location}
use Rattle.rv_proofs.specs.{declared.certificate.Entry.Entry, declared.certificate.EntryKind.TheVariants.Go}

counts_on-is : (v : Valuation) → IsIn counts_on v → (v 2 ≡ true) × (v 3 ≡ true)
unfolding value_among
counts_on-is v h = both_true (v 2) (v 3) h

stands_still-is : (v : Valuation) → IsIn stands_still v → (v 2 ≡ false) × (v 3 ≡ true)
unfolding value_among
stands_still-is v h = second_true (v 2) (v 3) h

above_ten-is : (v : Valuation) → IsIn (is_false_at 3) v → v 3 ≡ false
unfolding value_among
above_ten-is v h = when_false (v 3) h

at_counts_on : (v : Valuation) → v 2 ≡ true → v 3 ≡ true → IsIn counts_on v
unfolding value_among
at_counts_on v e f = rw (e, f) refl

at_stands_still : (v : Valuation) → v 2 ≡ false → v 3 ≡ true → IsIn stands_still v
unfolding value_among
at_stands_still v e f = rw (e, f) refl

abbrev first_entry : Entry
first_entry = record { condition = everywhere; kind = Go 1 (by_none ∷ by_none ∷ []) }

-- valuations in the scopes
abbrev valuation : Bool → Bool → Bool → Valuation
valuation a b c zero = a
valuation a b c (suc zero) = false
valuation a b c (suc (suc zero)) = b
valuation a b c (suc (suc (suc x))) = c

in_first : IsInScope counting at_first first_entry (valuation false false false)
in_first = record { allowed = refl; control = at_false _ 0 refl; condition = at_everywhere _ }

in_counting : IsInScope counting at_later counting_on (valuation true true true)
in_counting = record { allowed = refl; control = at_true _ 0 refl; condition = at_counts_on _ refl refl }

in_standing : IsInScope counting at_later standing_still (valuation true false true)
in_standing = record { allowed = refl; control = at_true _ 0 refl; condition = at_stands_still _ refl refl }

in_above : IsInScope counting at_later above_ten (valuation true true false)
in_above = record { allowed = refl; control = at_true _ 0 refl; condition = at_false _ 3 refl }

-- the rows of the tests
abbrev nine : Row
nine = row1 (pos 1) (pos 9)

abbrev not_nine : Row
not_nine = row1 (negsuc 0) (negsuc 9)

abbrev ten : Row
ten = row1 (pos 1) (pos 10)

abbrev not_ten : Row
not_ten = row1 (negsuc 0) (negsuc 10)

row_nine : (v : Valuation) → v 0 ≡ true → v 2 ≡ true → counting_row v 0 ≡ Some nine
row_nine v e f = rw (e, f) refl

row_not_nine : (v : Valuation) → v 0 ≡ true → v 2 ≡ false → counting_row v 0 ≡ Some not_nine
row_not_nine v e f = rw (e, f) refl

row_ten : (v : Valuation) → v 0 ≡ true → v 3 ≡ true → counting_row v 1 ≡ Some ten
row_ten v e f = rw (e, f) refl

row_not_ten : (v : Valuation) → v 0 ≡ true → v 3 ≡ false → counting_row v 1 ≡ Some not_ten
row_not_ten v e f = rw (e, f) refl

-- the settled tests
nine_settled : IsSettledTest counting at_later counting_on 0 nine
nine_settled = record {
  known = omega arith;
  some = (valuation true true true, in_counting);
  same = λ v scope. row_nine v (on_is v scope.control) (counts_on-is v scope.condition).0;
}

ten_settled : IsSettledTest counting at_later counting_on 1 ten
ten_settled = record {
  known = omega arith;
  some = (valuation true true true, in_counting);
  same = λ v scope. row_ten v (on_is v scope.control) (counts_on-is v scope.condition).1;
}

not_nine_settled : IsSettledTest counting at_later standing_still 0 not_nine
not_nine_settled = record {
  known = omega arith;
  some = (valuation true false true, in_standing);
  same = λ v scope. row_not_nine v (on_is v scope.control) (stands_still-is v scope.condition).0;
}

ten_settled_still : IsSettledTest counting at_later standing_still 1 ten
ten_settled_still = record {
  known = omega arith;
  some = (valuation true false true, in_standing);
  same = λ v scope. row_ten v (on_is v scope.control) (stands_still-is v scope.condition).1;
}

not_ten_settled : IsSettledTest counting at_later above_ten 1 not_ten
not_ten_settled = record {
  known = omega arith;
  some = (valuation true true false, in_above);
  same = λ v scope. row_not_ten v (on_is v scope.control) (above_ten-is v scope.condition);
}

pub two_tests : (P : ℕ → Type 0) → P 0 → P 1 → (t : ℕ) → t < 2 → P t
two_tests P a b zero h = a
two_tests P a b (suc zero) h = b
two_tests P a b (suc (suc t)) h = absurd (omega arith)

-- the settled updates
reset_settled : IsSettledUpdate counting at_first first_entry 0 (form1 (pos 0) (pos 0))
reset_settled = record {
  known = omega arith;
  some = (valuation false false false, in_first);
  same = λ v scope. let e : v 0 ≡ false = off_is v scope.control in rw e refl;
}

step_settled : IsSettledUpdate counting at_later counting_on 0 (form1 (pos 1) (pos 1))
step_settled = record {
  known = omega arith;
  some = (valuation true true true, in_counting);
  same = λ v scope. let e : v 0 ≡ true = on_is v scope.control in let f : v 2 ≡ true = (counts_on-is v scope.condition).0 in rw (e, f) refl;
}

still_settled : IsSettledUpdate counting at_later standing_still 0 (form1 (pos 1) (pos 0))
still_settled = record {
  known = omega arith;
  some = (valuation true false true, in_standing);
  same = λ v scope. let e : v 0 ≡ true = on_is v scope.control in let f : v 2 ≡ false = (stands_still-is v scope.condition).0 in rw (e, f) refl;
}

-- the implications
abbrev to_first : Row → Implication
to_first r = record { given = []; wanted = after r; by = by_none }

first_implied : AreImplied counting counted at_first first_entry
first_implied =
    all_two (IsImplied counting at_first first_entry) (to_first (row1 (pos 1) (pos 0))) (to_first (row1 (negsuc 0) (pos 0)))
    (reaches (pos 1) (elim [ zero ↦ refl | suc k ↦ refl ]))
    (reaches (negsuc 0) (elim [ zero ↦ refl | suc k ↦ refl ]))
  where
    reaches : (c : ℤ) → ((k : ℕ) → get_or (((c *ℤ pos 0) +ℤ pos 0) ∷ []) k (pos 0) ≡ pos 0)
        → IsImplied counting at_first first_entry (to_first (row1 c (pos 0)))
    reaches c z = after_one counting at_first first_entry [] (nine ∷ ten ∷ []) c (pos 0) (pos 0) (pos 0) by_none refl
        (none_named counting at_first first_entry (to_first (row1 c (pos 0))) (nine ∷ ten ∷ []) refl refl) reset_settled
        (prove_none (nine ∷ ten ∷ []) (row1 ((c *ℤ pos 0) +ℤ pos 0) (pos 0 -ℤ ((c *ℤ pos 0) +ℤ pos 0))) z (let n = *ℤ-zero c in omega (arith, ints)))

all_five : {X : Type 0} (P : X → Type 0) (a b c d e : X) → P a → P b → P c → P d → P e → All P (a ∷ b ∷ c ∷ d ∷ e ∷ [])
all_five P a b c d e pa pb pc pd pe = All-cons P a (b ∷ c ∷ d ∷ e ∷ []) pa
    (All-cons P b (c ∷ d ∷ e ∷ []) pb (All-cons P c (d ∷ e ∷ []) pc (all_two P d e pd pe)))

-- rows over the same column
pub same_column : (a b c d : ℤ) → a ≡ c → (k : ℕ) → coefficient k (row1 a b) ≡ coefficient k (row1 c d)
same_column a b c d e zero = e
same_column a b c d e (suc k) = refl

module _ where
  are_counting : (i : Implication) → All (λ w. w.premise < length i.given + 2) i.by.weights → AreTestRows counting at_later counting_on i (nine ∷ ten ∷ [])
  are_counting i there = all_settled counting at_later counting_on i (nine ∷ ten ∷ []) refl there
      (two_tests (λ t. IsSettledTest counting at_later counting_on t (row_at (nine ∷ ten ∷ []) t)) nine_settled ten_settled)

  are_standing : (i : Implication) → All (λ w. w.premise < length i.given + 2) i.by.weights
      → AreTestRows counting at_later standing_still i (not_nine ∷ ten ∷ [])
  are_standing i there = all_settled counting at_later standing_still i (not_nine ∷ ten ∷ []) refl there
      (two_tests (λ t. IsSettledTest counting at_later standing_still t (row_at (not_nine ∷ ten ∷ []) t)) not_nine_settled ten_settled_still)

abbrev low : Row
low = row1 (negsuc 0) (negsuc 0)

abbrev both : List Row
both = low ∷ ten ∷ []

named : (p n : ℕ) → p < n → All (λ w. w.premise < n) (by_one p).weights
named p n h = all_one (λ w. w.premise < n) (record { premise = p; by = pos 1 }) h

counting_implied : AreImplied counting counted at_later counting_on
counting_implied = all_five (IsImplied counting at_later counting_on)
    (record { given = at_later.entry; wanted = after (row1 (pos 1) (pos 1)); by = by_one 0 })
    (record { given = at_later.entry; wanted = after low; by = by_one 1 })
    (record { given = at_later.first; wanted = before low; by = by_one 1 })
    (record { given = both; wanted = after low; by = by_one 0 })
    (record { given = both; wanted = after ten; by = by_one 2 })
    (after_one counting at_later counting_on at_later.entry (nine ∷ ten ∷ []) (pos 1) (pos 1) (pos 1) (pos 1) (by_one 0) refl
    (are_counting _ (named 0 4 (omega arith))) step_settled
    (prove_one (at_later.entry ++ (nine ∷ ten ∷ [])) (row1 (pos 1) (pos 0)) 0 (same_column (pos 1) (pos 0) (pos 1) (pos 0) refl) (omega (arith, ints))))
    (after_one counting at_later counting_on at_later.entry (nine ∷ ten ∷ []) (negsuc 0) (negsuc 0) (pos 1) (pos 1) (by_one 1) refl
    (are_counting _ (named 1 4 (omega arith))) step_settled
    (prove_one (at_later.entry ++ (nine ∷ ten ∷ [])) (row1 (negsuc 0) (pos 0)) 1 (same_column (negsuc 0) (pos 0) (negsuc 0) (pos 0) refl)
    (omega (arith, ints)))) (
      nine ∷ ten ∷ [],
      are_counting _ (named 1 4 (omega arith)),
      prove_one (at_later.first ++ (nine ∷ ten ∷ [])) low 1
          (same_column (negsuc 0) (negsuc 0) (negsuc 0) (negsuc 0) refl) (omega (arith, ints)),
    )
    (after_one counting at_later counting_on both (nine ∷ ten ∷ []) (negsuc 0) (negsuc 0) (pos 1) (pos 1) (by_one 0) refl
    (are_counting _ (named 0 4 (omega arith))) step_settled
    (prove_one (both ++ (nine ∷ ten ∷ [])) (row1 (negsuc 0) (pos 0)) 0 (same_column (negsuc 0) (negsuc 0) (negsuc 0) (pos 0) refl) (omega (arith, ints))))
    (after_one counting at_later counting_on both (nine ∷ ten ∷ []) (pos 1) (pos 10) (pos 1) (pos 1) (by_one 2) refl
    (are_counting _ (named 2 4 (omega arith))) step_settled
    (prove_one (both ++ (nine ∷ ten ∷ [])) (row1 (pos 1) (pos 9)) 2 (same_column (pos 1) (pos 9) (pos 1) (pos 9) refl) (omega (arith, ints))))

standing_implied : AreImplied counting counted at_later standing_still
standing_implied = all_five (IsImplied counting at_later standing_still)
    (record { given = at_later.entry; wanted = after (row1 (pos 1) (pos 1)); by = by_one 0 })
    (record { given = at_later.entry; wanted = after low; by = by_one 2 })
    (record { given = at_later.first; wanted = before low; by = by_one 1 })
    (record { given = both; wanted = after low; by = by_one 0 })
    (record { given = both; wanted = after ten; by = by_one 1 })
    (after_one counting at_later standing_still at_later.entry (not_nine ∷ ten ∷ []) (pos 1) (pos 1) (pos 1) (pos 0) (by_one 0) refl
    (are_standing _ (named 0 4 (omega arith))) still_settled
    (prove_one (at_later.entry ++ (not_nine ∷ ten ∷ [])) (row1 (pos 1) (pos 1)) 0 (same_column (pos 1) (pos 0) (pos 1) (pos 1) refl) (omega (arith, ints))))
    (after_one counting at_later standing_still at_later.entry (not_nine ∷ ten ∷ []) (negsuc 0) (negsuc 0) (pos 1) (pos 0) (by_one 2) refl
    (are_standing _ (named 2 4 (omega arith))) still_settled
    (prove_one (at_later.entry ++ (not_nine ∷ ten ∷ [])) low 2 (same_column (negsuc 0) (negsuc 9) (negsuc 0) (negsuc 0) refl) (omega (arith, ints)))) (
      not_nine ∷ ten ∷ [],
      are_standing _ (named 1 4 (omega arith)),
      prove_one (at_later.first ++ (not_nine ∷ ten ∷ [])) low 1
          (same_column (negsuc 0) (negsuc 0) (negsuc 0) (negsuc 0) refl) (omega (arith, ints)),
    )
    (after_one counting at_later standing_still both (not_nine ∷ ten ∷ []) (negsuc 0) (negsuc 0) (pos 1) (pos 0) (by_one 0) refl
    (are_standing _ (named 0 4 (omega arith))) still_settled
    (prove_one (both ++ (not_nine ∷ ten ∷ [])) low 0 (same_column (negsuc 0) (negsuc 0) (negsuc 0) (negsuc 0) refl) (omega (arith, ints))))
    (after_one counting at_later standing_still both (not_nine ∷ ten ∷ []) (pos 1) (pos 10) (pos 1) (pos 0) (by_one 1) refl
    (are_standing _ (named 1 4 (omega arith))) still_settled
    (prove_one (both ++ (not_nine ∷ ten ∷ [])) ten 1 (same_column (pos 1) (pos 10) (pos 1) (pos 10) refl) (omega (arith, ints))))

above_implied : AreImplied counting counted at_later above_ten
above_implied = all_one (IsImplied counting at_later above_ten) (record { given = ten ∷ []; wanted = refutation; by = by_two 0 2 }) (
  nine ∷ not_ten ∷ [],
  record { size = refl; settled = named_one },
  refute_two (ten ∷ nine ∷ not_ten ∷ []) 0 2 (elim [ zero ↦ refl | suc k ↦ refl ])
      (omega (arith, ints)),
)
  where
    one_of : All (λ w. (w.premise ≡ 0) ⊎ (w.premise ≡ 2)) (by_two 0 2).weights
    one_of = all_two (λ w. (w.premise ≡ 0) ⊎ (w.premise ≡ 2)) _ _ (inl refl) (inr refl)

    named_one : (t : ℕ) → NamesTest (record { given = ten ∷ []; wanted = refutation; by = by_two 0 2 }) t
        → IsSettledTest counting at_later above_ten t (row_at (nine ∷ not_ten ∷ []) t)
    named_one t (w, has, is) = go (All-contains (λ u. (u.premise ≡ 0) ⊎ (u.premise ≡ 2)) (by_two 0 2).weights w one_of has)
      where
        go : (w.premise ≡ 0) ⊎ (w.premise ≡ 2) → IsSettledTest counting at_later above_ten t (row_at (nine ∷ not_ten ∷ []) t)
        go (inl e) = absurd (omega arith)
        go (inr e) = let one : 1 ≡ t = omega arith in subst (λ n. IsSettledTest counting at_later above_ten n (row_at (nine ∷ not_ten ∷ []) n)) one
            not_ten_settled

-- all entries, and all locations
each_location : (P : Location → Type 0) → P at_first → P at_later → (k : ℕ) (l : Location) → slice_get counted.locations k ≡ Some l → P l
each_location P a b = each-cons P at_first (at_later ∷ []) a (each-cons P at_later [] b (each-nil P))

each_entry : (P : Location → Entry → Type 0) → P at_first first_entry → P at_later counting_on → P at_later standing_still → P at_later above_ten
    → (k j : ℕ) (l : Location) (e : Entry) → IsEntry counted k j l e → P l e
each_entry P a b c d k j l e is = each_location (λ m. (n : ℕ) (f : Entry) → slice_get m.entries n ≡ Some f → P m f)
    (each-cons (P at_first) first_entry [] a (each-nil (P at_first)))
    (each-cons (P at_later) counting_on (standing_still ∷ above_ten ∷ []) b (each-cons (P at_later) standing_still (above_ten ∷ []) c
    (each-cons (P at_later) above_ten [] d (each-nil (P at_later))))) k l is.location j e is.entry

-- ranges
pub placed_one : (x y z : ℕ) → y < 2 → z < 2 → (i : ℕ) → i < 1 → IsPlaced (node x y z ∷ []) i
placed_one x y z a b zero l = record {
  lo_earlier = omega arith;
  hi_earlier = omega arith;
  lo_greater = λ h. absurd (omega arith);
  hi_greater = λ h. absurd (omega arith);
}
placed_one x y z a b (suc i) l = absurd (omega arith)

ordered_one : (x y z : ℕ) → x < 4 → y < 2 → z < 2 → IsOrderedOver 4 (record { nodes = node x y z ∷ []; root = 2 })
ordered_one x y z h a b = record { placed = placed_one x y z a b; low = low_one; root = omega arith }
  where
    low_one : (i : ℕ) → i < 1 → (node_at (node x y z ∷ []) i).var < 4
    low_one zero l = h
    low_one (suc i) l = absurd (omega arith)

ordered_two : (y z : ℕ) → y < 3 → z < 3 → IsOrderedOver 4 (record { nodes = node 3 0 1 ∷ node 2 y z ∷ []; root = 3 })
ordered_two y z a b = record { placed = placed; low = low_two; root = omega arith }
  where
    greater : (r : ℕ) → r < 3 → IsFrom (node 3 0 1 ∷ node 2 y z ∷ []) 3 r
    greater zero l h = absurd (omega arith)
    greater (suc zero) l h = absurd (omega arith)
    greater (suc (suc zero)) l h = omega arith
    greater (suc (suc (suc r))) l h = absurd (omega arith)

    placed : (i : ℕ) → i < 2 → IsPlaced (node 3 0 1 ∷ node 2 y z ∷ []) i
    placed zero l = record {
      lo_earlier = omega arith;
      hi_earlier = omega arith;
      lo_greater = λ h. absurd (omega arith);
      hi_greater = λ h. absurd
          (omega arith);
    }
    placed (suc zero) l = record { lo_earlier = omega arith; hi_earlier = omega arith; lo_greater = greater y a; hi_greater = greater z b }
    placed (suc (suc i)) l = absurd (omega arith)

    low_two : (i : ℕ) → i < 2 → (node_at (node 3 0 1 ∷ node 2 y z ∷ []) i).var < 4
    low_two zero l = omega arith
    low_two (suc zero) l = omega arith
    low_two (suc (suc i)) l = absurd (omega arith)

pub tick_state : IsState counting 0
tick_state = (0, omega arith, omega arith)

control_one : (y z : ℕ) → y < 2 → z < 2 → IsControlSet counting (record { nodes = node 0 y z ∷ []; root = 2 })
control_one y z a b = record { ordered = ordered_one 0 y z (omega arith) a b; states = states_one }
  where
    states_one : (n : ℕ) → n < 1 → IsState counting (node_at (node 0 y z ∷ []) n).var
    states_one zero l = tick_state
    states_one (suc n) l = absurd (omega arith)

pub two_read : IsRead counting 2
two_read = (omega arith, λ i h e. omega arith)

pub three_read : IsRead counting 3
three_read = (omega arith, λ i h e. omega arith)

condition_everywhere : IsCondition counting everywhere
condition_everywhere = record {
  ordered = record { placed = λ i l. absurd (omega arith); low = λ i l. absurd (omega arith); root = omega arith };
  read = λ n l. absurd (omega arith);
}

condition_two : (y z : ℕ) → y < 3 → z < 3 → IsCondition counting (record { nodes = node 3 0 1 ∷ node 2 y z ∷ []; root = 3 })
condition_two y z a b = record { ordered = ordered_two y z a b; read = read_two }
  where
    read_two : (n : ℕ) → n < 2 → IsRead counting (node_at (node 3 0 1 ∷ node 2 y z ∷ []) n).var
    read_two zero l = three_read
    read_two (suc zero) l = two_read
    read_two (suc (suc n)) l = absurd (omega arith)

condition_three : IsCondition counting (is_false_at 3)
condition_three = record { ordered = ordered_one 3 1 0 (omega arith) (omega arith) (omega arith); read = read_one }
  where
    read_one : (n : ℕ) → n < 1 → IsRead counting (node_at (node 3 1 0 ∷ []) n).var
    read_one zero l = three_read
    read_one (suc n) l = absurd (omega arith)

abbrev IsKeptRow : Row → Type 0
IsKeptRow r = (length r.coefficients ≡ 1) × Fits r

kept_row : (c b : ℤ) → unsigned_abs c ≤ 2 ^ 30 → unsigned_abs b ≤ 2 ^ 60 → IsKeptRow (row1 c b)
kept_row c b h k = (refl, record { coefficients = all_one (λ z. unsigned_abs z ≤ 2 ^ 30) c h; bound = k })

abbrev IsBy : Implication → Type 0
IsBy i = IsRecord (length i.given + 2) i.by × HasDivisor i.wanted i.by.divisor

first_in_range : IsEntryInRange counting counted at_first first_entry
first_in_range = record {
  condition = condition_everywhere;
  by = all_two IsBy (to_first (row1 (pos 1) (pos 0))) (to_first (row1 (negsuc 0) (pos 0))) (record_none 2, tt) (record_none 2, tt);
}

counting_in_range : IsEntryInRange counting counted at_later counting_on
counting_in_range = record {
  condition = condition_two 0 2 (omega arith) (omega arith);
  by = all_five IsBy
      (record { given = at_later.entry; wanted = after (row1 (pos 1) (pos 1)); by = by_one 0 })
      (record { given = at_later.entry; wanted = after low; by = by_one 1 })
      (record { given = at_later.first; wanted = before low; by = by_one 1 })
      (record { given = both; wanted = after low; by = by_one 0 })
      (record { given = both; wanted = after ten; by = by_one 2 })
      (record_one 4 0 (omega arith), tt) (record_one 4 1 (omega arith), tt) (record_one 4 1 (omega arith), tt) (record_one 4 0 (omega arith), tt)
      (record_one 4 2 (omega arith), tt);
}

standing_in_range : IsEntryInRange counting counted at_later standing_still
standing_in_range = record {
  condition = condition_two 2 0 (omega arith) (omega arith);
  by = all_five IsBy
      (record { given = at_later.entry; wanted = after (row1 (pos 1) (pos 1)); by = by_one 0 })
      (record { given = at_later.entry; wanted = after low; by = by_one 2 })
      (record { given = at_later.first; wanted = before low; by = by_one 1 })
      (record { given = both; wanted = after low; by = by_one 0 })
      (record { given = both; wanted = after ten; by = by_one 1 })
      (record_one 4 0 (omega arith), tt) (record_one 4 2 (omega arith), tt) (record_one 4 1 (omega arith), tt) (record_one 4 0 (omega arith), tt)
      (record_one 4 1 (omega arith), tt);
}

above_in_range : IsEntryInRange counting counted at_later above_ten
above_in_range = record {
  condition = condition_three;
  by = all_one IsBy (record { given = ten ∷ []; wanted = refutation; by = by_two 0 2 }) (record_two 3 0 2 (omega arith) (omega arith), refl);
}

none_kept : AreKept counting []
none_kept = (All-nil IsKeptRow, omega arith)

first_location_in_range : IsLocationInRange counting counted at_first
first_location_in_range = record {
  control = control_one 1 0 (omega arith) (omega arith);
  entry = none_kept;
  first = none_kept;
  around = none_kept;
  state = none_kept;
  by_entry = All-nil (IsRecord 0);
  by_first = All-nil (IsRecord 0);
  few = omega arith;
  entries = each-cons (IsEntryInRange counting counted at_first) first_entry [] first_in_range (each-nil (IsEntryInRange counting counted at_first));
}

later_location_in_range : IsLocationInRange counting counted at_later
later_location_in_range = record {
  control = control_one 0 1 (omega arith) (omega arith);
  entry = (
    all_two IsKeptRow (row1 (pos 1) (pos 0)) (row1 (negsuc 0) (pos 0)) (kept_row (pos 1) (pos 0) (omega (arith, ints)) (omega (arith, ints)))
        (kept_row (negsuc 0) (pos 0) (omega (arith, ints)) (omega (arith, ints))),
    omega arith,
  );
  first = (
    all_two IsKeptRow (row1 (pos 1) (pos 1)) low (kept_row (pos 1) (pos 1) (omega (arith, ints)) (omega (arith, ints)))
        (kept_row (negsuc 0) (negsuc 0) (omega (arith, ints)) (omega (arith, ints))),
    omega arith,
  );
  around = (all_one IsKeptRow low (kept_row (negsuc 0) (negsuc 0) (omega (arith, ints)) (omega (arith, ints))), omega arith);
  state = (all_one IsKeptRow ten (kept_row (pos 1) (pos 10) (omega (arith, ints)) (omega (arith, ints))), omega arith);
  by_entry = all_one (IsRecord 2) (by_one 0) (record_one 2 0 (omega arith));
  by_first = all_one (IsRecord 2) (by_one 0) (record_one 2 0 (omega arith));
  few = omega arith;
  entries = each-cons (IsEntryInRange counting counted at_later) counting_on (standing_still ∷ above_ten ∷ []) counting_in_range
      (each-cons (IsEntryInRange counting counted at_later) standing_still (above_ten ∷ []) standing_in_range
      (each-cons (IsEntryInRange counting counted at_later) above_ten [] above_in_range (each-nil (IsEntryInRange counting counted at_later))));
}

-- loops
no_loop : ¬ HasLoop at_first
no_loop (j, e, at, is) = each-cons (λ f. IsLoop f → ⊥) first_entry [] (λ h. h) (each-nil (λ f. IsLoop f → ⊥)) j e at is

some_loop : HasLoop at_later
some_loop = (0, counting_on, refl, tt)

counted_counts : HasCounts counted
counted_counts = each_location (HasLocationCounts counted)
    (record {
      by_entry = refl;
      by_first = record { some = λ h. absurd (no_loop h); none = λ h. refl };
      entries = each-cons (HasEntryCounts counted at_first) first_entry [] (at_later, refl, refl) (each-nil (HasEntryCounts counted at_first));
    })
    (record {
      by_entry = refl;
      by_first = record { some = λ h. refl; none = λ h. absurd (h some_loop) };
      entries = each-cons (HasEntryCounts counted at_later) counting_on (standing_still ∷ above_ten ∷ []) (refl, refl, refl, refl)
          (each-cons (HasEntryCounts counted at_later) standing_still (above_ten ∷ []) (refl, refl, refl, refl)
          (each-cons (HasEntryCounts counted at_later) above_ten [] tt (each-nil (HasEntryCounts counted at_later))));
    })

-- inclusion
proved_ten : (given : List Row) → Proves given ten (by_one 0) → AreProved given (ten ∷ []) (by_one 0 ∷ [])
proved_ten given p zero r e = let is = same_Some ten r e in (by_one 0, refl, subst (λ q. Proves given q (by_one 0)) is p)
proved_ten given p (suc n) r e = absurd (none-some r e)

first_included : IsIncluded at_first
first_included = record { entry = λ n r e. absurd (none-some r e); first = λ h. absurd (no_loop h); no_first = λ h. refl; no_around = λ h. refl }

later_included : IsIncluded at_later
later_included = record {
  entry = proved_ten at_later.entry (prove_one at_later.entry ten 0 (same_column (pos 1) (pos 0) (pos 1) (pos 10) refl) (omega (arith, ints)));
  first = λ h. proved_ten at_later.first (prove_one at_later.first ten 0 (same_column (pos 1) (pos 1) (pos 1) (pos 10) refl) (omega (arith, ints)));
  no_first = λ h. absurd (h some_loop);
  no_around = λ h. absurd (h some_loop);
}

-- coverage
first_covered : IsCovered counting at_first
first_covered v allowed control = (0, first_entry, refl, at_everywhere v)

later_covered : IsCovered counting at_later
later_covered v allowed control = go (v 2) refl (v 3) refl
  where
    go : (b : Bool) → v 2 ≡ b → (d : Bool) → v 3 ≡ d → (j : ℕ) × (e : Entry) × (slice_get at_later.entries j ≡ Some e) × IsIn e.condition v
    go b is false ten_is = (2, above_ten, refl, at_false v 3 ten_is)
    go true is true ten_is = (0, counting_on, refl, at_counts_on v is ten_is)
    go false is true ten_is = (1, standing_still, refl, at_stands_still v is ten_is)

-- the next control state has ticked
ticked : (v : Valuation) → IsIn at_later.control (counting.next v)
ticked v = at_true (counting.next v) 0 refl

started : IsInitial counting counted
started v h = (0, at_first, refl, refl, at_false v 0 (not_true (v 0) h))
  where
    not_true : (b : Bool) → not b ≡ true → b ≡ false
    not_true true e = sym e
    not_true false e = refl

seen_first : IsObserved counting at_first first_entry
seen_first v scope = let e : v 0 ≡ false = off_is v scope.control in rw e refl

seen_counting : IsObserved counting at_later counting_on
seen_counting v scope = let e : v 0 ≡ true = on_is v scope.control in let f : v 3 ≡ true = (counts_on-is v scope.condition).1 in rw (e, f) refl

seen_standing : IsObserved counting at_later standing_still
seen_standing v scope = let e : v 0 ≡ true = on_is v scope.control in let f : v 3 ≡ true = (stands_still-is v scope.condition).1 in rw (e, f) refl

pub counted_accepted : IsAccepted counting counted
counted_accepted = record {
  partition = record {
    in_range = record {
      counts = counted_counts;
      few = omega arith;
      locations = each_location (IsLocationInRange counting counted) first_location_in_range
          later_location_in_range;
    };
    initial = started;
    included = each_location IsIncluded first_included later_included;
    covered = each_location (IsCovered counting) first_covered later_covered;
    settled = each_entry (IsSettled counting counted) (settled_from_implied counting counted at_first first_entry first_implied)
        (settled_from_implied counting counted at_later counting_on counting_implied)
        (settled_from_implied counting counted at_later standing_still standing_implied)
        (settled_from_implied counting counted at_later above_ten above_implied);
    leads = each_entry (λ l e. Leads counting counted l e e.kind) (at_later, refl, λ v scope. ticked v) (λ v scope. ticked v) (λ v scope. ticked v) tt;
    steps = each_entry (λ l e. IsStepKind e.kind → AreImplied counting counted l e) (λ h. first_implied) (λ h. counting_implied) (λ h. standing_implied)
        (λ h. absurd h);
  };
  observed = each_entry (λ l e. IsStepKind e.kind → IsObserved counting l e) (λ h. seen_first) (λ h. seen_counting) (λ h. seen_standing) (λ h. absurd h);
  dead = each_entry (λ l e. IsDeadKind e.kind → AreImplied counting counted l e) (λ h. absurd h) (λ h. absurd h) (λ h. absurd h) (λ h. above_implied);
}

-- a test with two rows in the scope is not settled
pub two_rows : IsSettled counting counted at_later names_unsettled → ⊥
two_rows h =
    let i : Implication = record { given = ten ∷ []; wanted = refutation; by = by_two 1 2 } in
    let (r, settled) = h.tests 0 i (omega arith) 0 (record { premise = 1; by = pos 1 }, (0, omega arith, refl), refl) in
    differ r (settled.same (valuation true true false) in_above_too) (settled.same (valuation true false false) in_above_other)
  where
    in_above_too : IsInScope counting at_later names_unsettled (valuation true true false)
    in_above_too = record { allowed = refl; control = at_true _ 0 refl; condition = at_false _ 3 refl }

    in_above_other : IsInScope counting at_later names_unsettled (valuation true false false)
    in_above_other = record { allowed = refl; control = at_true _ 0 refl; condition = at_false _ 3 refl }

    differ : (r : Row) → Some nine ≡ Some r → Some not_nine ≡ Some r → ⊥
    differ r a b =
        let e : nine ≡ not_nine = same_Some nine not_nine (a ∙ sym b) in
        let f : pos 9 ≡ negsuc 9 = ap (λ q. q.bound) e in
        omega (arith, ints)
