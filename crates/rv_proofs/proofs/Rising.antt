-- A certificate with a loop that is checked from `entry` alone, of a system that is not safe.
use Rattle.std.proofs.Common.{◌≡◌, ℕ, zero, suc, ◌+◌, ◌<◌, ℤ, pos, negsuc, List, [], ◌∷◌, ◌++◌, Bool, true, false, not, Some, slice_get, arith, refl, sym, ap}
use Rattle.std.proofs.Common.{◌∙◌, subst}
use Rattle.std.proofs.{lemmas.Int.ints, lemmas.Option.same_Some, lemmas.Option.none-some}
use Rattle.rv_rows.specs.{Rows.row_at, Rows.Holds, declared.linear.Row.Row, Multipliers.Proves, Forms.number, Forms.value}
use Rattle.rv_diagram.specs.Nodes.{Valuation, value_among}
use Rattle.rv_proofs.specs.Scopes.{IsIn, IsInScope, IsSettledTest, IsSettledUpdate, Implication, refutation, after}
use Rattle.rv_proofs.specs.Accepted.{IsEntry, IsInitial, IsIncluded, IsCovered, AreProved, Leads, IsStepKind, IsDeadKind, IsObserved, AreImplied}
use Rattle.rv_proofs.specs.Samples.{rising, rising_row, unsound, rises, above_one, starts_rising, goes_on_rising, LoopFromEntry, IsGoKind, IsAcceptedFromEntry}
use Rattle.rv_proofs.specs.Samples.{row1, form1, by_one, by_two, by_none, everywhere, is_false_at, is_true_at}
use Rattle.rv_proofs.specs.{Systems.HasSameState, Systems.Agrees, Counts.HasLoop, Counts.IsLoop, Implied.IsImplied, declared.certificate.Location.Location}
use Rattle.rv_proofs.specs.{declared.certificate.Entry.Entry, declared.certificate.EntryKind.TheVariants.Go, Runs.IsAbstractRun, Runs.IsSafeSystem}
use Rattle.rv_proofs.proofs.Sampling.{all_one, all_two, after_one, all_settled, none_named, prove_one, prove_none, refute_two, when_false, when_true, each-nil}
use Rattle.rv_proofs.proofs.Sampling.{each-cons}
use Rattle.rv_proofs.proofs.{Claiming.at_everywhere, Claiming.at_false, Claiming.at_true, Claiming.off_is, Claiming.on_is, Counting.same_column}

-- a run whose fourth instant is bad
vs : ℕ → Valuation
vs zero = λ x. false
vs (suc zero) = λ x. true
vs (suc (suc zero)) = λ x. true
vs (suc (suc (suc t))) = elim [ zero ↦ true | suc x ↦ false ]

pub points : ℕ → List ℤ
points zero = pos 0 ∷ []
points (suc zero) = pos 0 ∷ []
points (suc (suc zero)) = pos 1 ∷ []
points (suc (suc (suc t))) = pos 2 ∷ []

holds_from : (r q : Row) (point : List ℤ) → Some r ≡ Some q → Holds r point → Holds q point
holds_from r q point e h = subst (λ u. Holds u point) (same_Some r q e) h

agrees_at : (t : ℕ) → t < 4 → Agrees rising (vs t) (points t)
unfolding vs points
agrees_at zero l = record { size = refl; rows = none_there }
  where
    none_there : (t : ℕ) (r : Row) → t < 1 → rising_row (λ x. false) t ≡ Some r → Holds r (pos 0 ∷ [])
    none_there zero r l e = absurd (none-some r e)
    none_there (suc t) r l e = absurd (none-some r e)
agrees_at (suc zero) l = record { size = refl; rows = one_there }
  where
    one_there : (t : ℕ) (r : Row) → t < 1 → rising_row (λ x. true) t ≡ Some r → Holds r (pos 0 ∷ [])
    one_there zero r l e = holds_from (row1 (pos 1) (pos 1)) r (pos 0 ∷ []) e (omega (arith, ints))
    one_there (suc t) r l e = absurd (none-some r e)
agrees_at (suc (suc zero)) l = record { size = refl; rows = one_there }
  where
    one_there : (t : ℕ) (r : Row) → t < 1 → rising_row (λ x. true) t ≡ Some r → Holds r (pos 1 ∷ [])
    one_there zero r l e = holds_from (row1 (pos 1) (pos 1)) r (pos 1 ∷ []) e (omega (arith, ints))
    one_there (suc t) r l e = absurd (none-some r e)
agrees_at (suc (suc (suc t))) l = record { size = refl; rows = one_there }
  where
    one_there : (n : ℕ) (r : Row) → n < 1 → rising_row (elim [ zero ↦ true | suc x ↦ false ]) n ≡ Some r → Holds r (pos 2 ∷ [])
    one_there zero r l e = holds_from (row1 (negsuc 0) (negsuc 1)) r (pos 2 ∷ []) e (omega (arith, ints))
    one_there (suc n) r l e = absurd (none-some r e)

same_at : (w : Valuation) → w 0 ≡ true → HasSameState rising (λ x. true) w
same_at w e x (i, l, is) = let z : x ≡ 0 = omega arith in sym e ∙ sym (ap w z)

control_at : (t : ℕ) → t + 1 < 4 → HasSameState rising (rising.next (vs t)) (vs (t + 1))
unfolding vs
control_at zero l = same_at (vs 1) refl
control_at (suc zero) l = same_at (vs 2) refl
control_at (suc (suc zero)) l = same_at (vs 3) refl
control_at (suc (suc (suc t))) l = absurd (omega arith)

memories_at : (t k : ℕ) → t + 1 < 4 → k < 1 → number k (points (t + 1)) ≡ value (rising.update (vs t) k) (points t)
unfolding vs points
memories_at t (suc k) l h = absurd (omega arith)
memories_at zero zero l h = refl
memories_at (suc zero) zero l h = refl
memories_at (suc (suc zero)) zero l h = refl
memories_at (suc (suc (suc t))) zero l h = absurd (omega arith)

run : IsAbstractRun rising 4 vs points
unfolding vs
run = record { start = refl; agrees = agrees_at; control = control_at; memories = memories_at }

pub rising_fails : ¬ IsSafeSystem rising
unfolding vs
rising_fails safe = let e : false ≡ true = safe 4 3 vs points run (omega arith) (λ u h. refl) in cc

rises-is : (v : Valuation) → IsIn (is_true_at 2) v → v 2 ≡ true
unfolding value_among
rises-is v h = when_true (v 2) h

above-is : (v : Valuation) → IsIn (is_false_at 2) v → v 2 ≡ false
unfolding value_among
above-is v h = when_false (v 2) h

abbrev first_entry : Entry
first_entry = record { condition = everywhere; kind = Go 1 (by_none ∷ []) }

in_first : IsInScope rising starts_rising first_entry (λ x. false)
in_first = record { allowed = refl; control = at_false _ 0 refl; condition = at_everywhere _ }

in_rises : IsInScope rising goes_on_rising rises (λ x. true)
in_rises = record { allowed = refl; control = at_true _ 0 refl; condition = at_true _ 2 refl }

abbrev last : Valuation
last zero = true
last (suc x) = false

in_above : IsInScope rising goes_on_rising above_one last
in_above = record { allowed = refl; control = at_true _ 0 refl; condition = at_false _ 2 refl }

abbrev one : Row
one = row1 (pos 1) (pos 1)

abbrev not_one : Row
not_one = row1 (negsuc 0) (negsuc 1)

one_settled : IsSettledTest rising goes_on_rising rises 0 one
one_settled = record {
  known = omega arith;
  some = (λ x. true, in_rises);
  same = λ v scope. let e : v 0 ≡ true = on_is v scope.control in let f : v 2 ≡ true = rises-is v scope.condition in rw (e, f) refl;
}

not_one_settled : IsSettledTest rising goes_on_rising above_one 0 not_one
not_one_settled = record {
  known = omega arith;
  some = (last, in_above);
  same = λ v scope. let e : v 0 ≡ true = on_is v scope.control in let f : v 2 ≡ false = above-is v scope.condition in rw (e, f) refl;
}

reset_settled : IsSettledUpdate rising starts_rising first_entry 0 (form1 (pos 0) (pos 0))
reset_settled = record {
  known = omega arith;
  some = (λ x. false, in_first);
  same = λ v scope. let e : v 0 ≡ false = off_is v scope.control in rw e refl;
}

step_settled : IsSettledUpdate rising goes_on_rising rises 0 (form1 (pos 1) (pos 1))
step_settled = record {
  known = omega arith;
  some = (λ x. true, in_rises);
  same = λ v scope. let e : v 0 ≡ true = on_is v scope.control in rw e refl;
}

one_test : (P : ℕ → Type 0) → P 0 → (t : ℕ) → t < 1 → P t
one_test P a zero h = a
one_test P a (suc t) h = absurd (omega arith)

first_implied : AreImplied rising unsound starts_rising first_entry
first_implied = all_one (IsImplied rising starts_rising first_entry) (record { given = []; wanted = after (row1 (pos 1) (pos 0)); by = by_none })
    (after_one rising starts_rising first_entry [] (one ∷ []) (pos 1) (pos 0) (pos 0) (pos 0) by_none refl
    (none_named rising starts_rising first_entry (record { given = []; wanted = after (row1 (pos 1) (pos 0)); by = by_none }) (one ∷ []) refl refl)
    reset_settled
    (prove_none (one ∷ []) (row1 (pos 0) (pos 0)) (elim [ zero ↦ refl | suc k ↦ refl ]) (omega (arith, ints))))

abbrev looped : Implication
looped = record { given = goes_on_rising.entry; wanted = after one; by = by_one 0 }

looped_implied : IsImplied rising goes_on_rising rises looped
looped_implied = after_one rising goes_on_rising rises goes_on_rising.entry (one ∷ []) (pos 1) (pos 1) (pos 1) (pos 1) (by_one 0) refl
    (all_settled rising goes_on_rising rises looped (one ∷ []) refl (all_one (λ w. w.premise < 2) (record { premise = 0; by = pos 1 }) (omega arith))
    (one_test (λ t. IsSettledTest rising goes_on_rising rises t (row_at (one ∷ []) t)) one_settled)) step_settled
    (prove_one (goes_on_rising.entry ++ (one ∷ [])) (row1 (pos 1) (pos 0)) 0 (same_column (pos 1) (pos 0) (pos 1) (pos 0) refl) (omega (arith, ints)))

rises_loop : LoopFromEntry rising goes_on_rising rises rises.kind
rises_loop = all_two (IsImplied rising goes_on_rising rises) looped looped looped_implied looped_implied

abbrev dead_one : Implication
dead_one = record { given = goes_on_rising.state; wanted = refutation; by = by_two 0 1 }

above_implied : AreImplied rising unsound goes_on_rising above_one
above_implied = all_one (IsImplied rising goes_on_rising above_one) dead_one (
  not_one ∷ [],
  all_settled rising goes_on_rising above_one dead_one (not_one ∷ []) refl
      (all_two (λ w. w.premise < 2) (record { premise = 0; by = pos 1 }) (record { premise = 1; by = pos 1 }) (omega arith) (omega arith))
      (one_test (λ t. IsSettledTest rising goes_on_rising above_one t (row_at (not_one ∷ []) t)) not_one_settled),
  refute_two (one ∷ not_one ∷ []) 0 1 (elim [ zero ↦ refl | suc k ↦ refl ]) (omega (arith, ints)),
)

each_location : (P : Location → Type 0) → P starts_rising → P goes_on_rising → (k : ℕ) (l : Location) → slice_get unsound.locations k ≡ Some l → P l
each_location P a b = each-cons P starts_rising (goes_on_rising ∷ []) a (each-cons P goes_on_rising [] b (each-nil P))

each_entry : (P : Location → Entry → Type 0) → P starts_rising first_entry → P goes_on_rising rises → P goes_on_rising above_one
    → (k j : ℕ) (l : Location) (e : Entry) → IsEntry unsound k j l e → P l e
each_entry P a b c k j l e is = each_location (λ m. (n : ℕ) (f : Entry) → slice_get m.entries n ≡ Some f → P m f)
    (each-cons (P starts_rising) first_entry [] a (each-nil (P starts_rising)))
    (each-cons (P goes_on_rising) rises (above_one ∷ []) b (each-cons (P goes_on_rising) above_one [] c (each-nil (P goes_on_rising)))) k l is.location j e
    is.entry

no_loop : ¬ HasLoop starts_rising
no_loop (j, e, at, is) = each-cons (λ f. IsLoop f → ⊥) first_entry [] (λ h. h) (each-nil (λ f. IsLoop f → ⊥)) j e at is

some_loop : HasLoop goes_on_rising
some_loop = (0, rises, refl, tt)

proved_one : (given : List Row) → Proves given one (by_one 0) → AreProved given (one ∷ []) (by_one 0 ∷ [])
proved_one given p zero r e = let is = same_Some one r e in (by_one 0, refl, subst (λ q. Proves given q (by_one 0)) is p)
proved_one given p (suc n) r e = absurd (none-some r e)

first_included : IsIncluded starts_rising
first_included = record { entry = λ n r e. absurd (none-some r e); first = λ h. absurd (no_loop h); no_first = λ h. refl; no_around = λ h. refl }

later_included : IsIncluded goes_on_rising
later_included = record {
  entry = proved_one goes_on_rising.entry (prove_one goes_on_rising.entry one 0 (same_column (pos 1) (pos 0) (pos 1) (pos 1) refl) (omega (arith, ints)));
  first = λ h. proved_one goes_on_rising.first (prove_one goes_on_rising.first one 0 (same_column (pos 1) (pos 1) (pos 1) (pos 1) refl) (omega (arith, ints)));
  no_first = λ h. absurd (h some_loop);
  no_around = λ h. absurd (h some_loop);
}

later_covered : IsCovered rising goes_on_rising
later_covered v allowed control = go (v 2) refl
  where
    go : (b : Bool) → v 2 ≡ b → (j : ℕ) × (e : Entry) × (slice_get goes_on_rising.entries j ≡ Some e) × IsIn e.condition v
    go false is = (1, above_one, refl, at_false v 2 is)
    go true is = (0, rises, refl, at_true v 2 is)

ticked : (v : Valuation) → IsIn goes_on_rising.control (rising.next v)
ticked v = at_true (rising.next v) 0 refl

started : IsInitial rising unsound
started v h = (0, starts_rising, refl, refl, at_false v 0 (not_true (v 0) h))
  where
    not_true : (b : Bool) → not b ≡ true → b ≡ false
    not_true true e = sym e
    not_true false e = refl

seen_first : IsObserved rising starts_rising first_entry
seen_first v scope = let e : v 0 ≡ false = off_is v scope.control in rw e refl

seen_rises : IsObserved rising goes_on_rising rises
seen_rises v scope = let e : v 0 ≡ true = on_is v scope.control in let f : v 2 ≡ true = rises-is v scope.condition in rw (e, f) refl

pub unsound_passes : IsAcceptedFromEntry rising unsound
unsound_passes = record {
  initial = started;
  included = each_location IsIncluded first_included later_included;
  covered = each_location (IsCovered rising) (λ v allowed control. (0, first_entry, refl, at_everywhere v)) later_covered;
  leads = each_entry (λ l e. Leads rising unsound l e e.kind) (goes_on_rising, refl, λ v scope. ticked v) (λ v scope. ticked v) tt;
  go = each_entry (λ l e. IsGoKind e.kind → AreImplied rising unsound l e) (λ h. first_implied) (λ h. absurd h) (λ h. absurd h);
  loop = each_entry (λ l e. LoopFromEntry rising l e e.kind) tt rises_loop tt;
  observed = each_entry (λ l e. IsStepKind e.kind → IsObserved rising l e) (λ h. seen_first) (λ h. seen_rises) (λ h. absurd h);
  dead = each_entry (λ l e. IsDeadKind e.kind → AreImplied rising unsound l e) (λ h. absurd h) (λ h. absurd h) (λ h. above_implied);
}
