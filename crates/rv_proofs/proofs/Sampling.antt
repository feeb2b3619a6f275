-- Facts of lists that are written out.
use Rattle.std.proofs.Common.{◌≡◌, ◌≢◌, ◌^◌, ◌-ℤ◌, map, ℕ, zero, suc, ◌+◌, ◌<◌, ℤ, pos, ◌≤ℤ◌, ◌<ℤ◌, ◌*ℤ◌, ◌+ℤ◌, List, [], ◌∷◌, ◌++◌, length, Bool, true, false}
use Rattle.std.proofs.Common.{cond, Some, All, slice_get, arith, refl, sym, ap, subst}
use Rattle.std.proofs.lemmas.List.Elements.{All-nil, All-cons, All-contains}
use Rattle.std.proofs.{lemmas.Int.ints, lemmas.Option.same_Some, lemmas.Option.none-some, Math.IntN.*ℤ-zero}
use Rattle.std.specs.List.{Contains}
use Rattle.rv_rows.specs.{declared.linear.Row.Row, declared.farkas.Weight.Weight, declared.farkas.Multipliers.Multipliers, Rows.coefficient, Rows.row_at}
use Rattle.rv_rows.specs.{Rows.dot, Forms.number, Multipliers.weighted, Multipliers.Proves, Multipliers.Refutes}
use Rattle.rv_proofs.specs.Samples.{by_one, by_two, by_none, row1, form1}
use Rattle.rv_proofs.specs.{Ranges.IsRecord, Systems.System, Scopes.IsSettledTest, Scopes.IsSettledUpdate, Scopes.Implication, Scopes.after}
use Rattle.rv_proofs.specs.{Implied.AreTestRows, Implied.IsImplied, Implied.form_at, declared.certificate.Location.Location, declared.certificate.Entry.Entry}

module _ {X : Type 0} (P : X → Type 0) where
  pub each-nil : (k : ℕ) (y : X) → slice_get [] k ≡ Some y → P y
  each-nil k y e = absurd (none-some y e)

  pub each-cons : (x : X) (xs : List X) → P x → ((k : ℕ) (y : X) → slice_get xs k ≡ Some y → P y) → (k : ℕ) (y : X) → slice_get (x ∷ xs) k ≡ Some y → P y
  each-cons x xs here rest zero y e = subst P (same_Some x y e) here
  each-cons x xs here rest (suc k) y e = rest k y e

-- what is known of each test that is there is known of each test that is named
pub all_settled : (s : System) (l : Location) (e : Entry) (i : Implication) (rows : List Row) → length rows ≡ s.tests
    → All (λ w. w.premise < length i.given + s.tests) i.by.weights → ((t : ℕ) → t < s.tests → IsSettledTest s l e t (row_at rows t)) → AreTestRows s l e i rows
all_settled s l e i rows size there settled = record {
  size = size;
  settled = λ t named.
      let less = All-contains (λ w. w.premise < length i.given + s.tests) i.by.weights named.0 there named.1 in
      let is = named.2 in
      settled t (omega arith);
}

-- where nothing is named, nothing is asked
pub none_named : (s : System) (l : Location) (e : Entry) (i : Implication) (rows : List Row) → length rows ≡ s.tests → i.by.weights ≡ []
    → AreTestRows s l e i rows
none_named s l e i rows size none = record {
  size = size;
  settled = λ t named. absurd (nowhere i.by.weights none named.0 named.1);
}
  where
    nowhere : (ws : List Weight) → ws ≡ [] → (w : Weight) → Contains ws w → ⊥
    nowhere ws e w (k, less, is) = let none : length ws ≡ 0 = ap length e in omega arith

pub when_false : (b : Bool) → cond b false true ≡ true → b ≡ false
when_false true e = cc
when_false false e = refl

pub when_true : (b : Bool) → cond b true false ≡ true → b ≡ true
when_true true e = refl
when_true false e = cc

pub both_true : (a b : Bool) → cond a (cond b true false) false ≡ true → (a ≡ true) × (b ≡ true)
both_true true true e = (refl, refl)
both_true true false e = cc
both_true false b e = cc

pub second_true : (a b : Bool) → cond a false (cond b true false) ≡ true → (a ≡ false) × (b ≡ true)
second_true false true e = (refl, refl)
second_true false false e = cc
second_true true b e = cc

pub all_one : {X : Type 0} (P : X → Type 0) (x : X) → P x → All P (x ∷ [])
all_one P x h = All-cons P x [] h (All-nil P)

pub all_two : {X : Type 0} (P : X → Type 0) (x y : X) → P x → P y → All P (x ∷ y ∷ [])
all_two P x y h k = All-cons P x (y ∷ []) h (all_one P y k)

abbrev on : ℕ → Weight
on p = record { premise = p; by = pos 1 }

-- multipliers of the sample are in range
pub record_none : (n : ℕ) → IsRecord n by_none
record_none n = record {
  positive = omega (arith, ints);
  divisor = omega (arith, ints);
  few = omega arith;
  there = All-nil (λ w. w.premise < n);
  weighted = All-nil (λ w. pos 1 ≤ℤ w.by × (w.by ≤ℤ pos (2 ^ 41)));
  rising = λ i j u w l a b. absurd (none-some u a);
}

one_below : pos 1 ≤ℤ pos 1 × (pos 1 ≤ℤ pos (2 ^ 41))
one_below = (omega (arith, ints), omega (arith, ints))

pub record_one : (n p : ℕ) → p < n → IsRecord n (by_one p)
record_one n p h = record {
  positive = omega (arith, ints);
  divisor = omega (arith, ints);
  few = omega arith;
  there = all_one (λ w. w.premise < n) (on p) h;
  weighted = all_one (λ w. pos 1 ≤ℤ w.by × (w.by ≤ℤ pos (2 ^ 41))) (on p) one_below;
  rising = λ i j u w l a b. absurd (two i j w l b);
}
  where
    two : (i j : ℕ) (w : Weight) → i < j → slice_get (record { premise = p; by = pos 1 } ∷ []) j ≡ Some w → ⊥
    two i zero w l b = omega arith
    two i (suc j) w l b = none-some w b

pub record_two : (n p q : ℕ) → p < q → q < n → IsRecord n (by_two p q)
record_two n p q less h = record {
  positive = omega (arith, ints);
  divisor = omega (arith, ints);
  few = omega arith;
  there = all_two (λ w. w.premise < n) (on p) (on q) (omega arith) h;
  weighted = all_two (λ w. pos 1 ≤ℤ w.by × (w.by ≤ℤ pos (2 ^ 41))) (on p) (on q) one_below one_below;
  rising = rises_so;
}
  where
    rises_so : (i j : ℕ) (u w : Weight) → i < j → slice_get (record { premise = p; by = pos 1 } ∷ record { premise = q; by = pos 1 } ∷ []) i ≡ Some u
        → slice_get (record { premise = p; by = pos 1 } ∷ record { premise = q; by = pos 1 } ∷ []) j ≡ Some w → u.premise < w.premise
    rises_so i zero u w l a b = absurd (omega arith)
    rises_so zero (suc zero) u w l a b =
        let first : p ≡ u.premise = ap (λ r. r.premise) (same_Some _ _ a) in
        let second : q ≡ w.premise = ap (λ r. r.premise) (same_Some _ _ b) in
        omega arith
    rises_so (suc i) (suc zero) u w l a b = absurd (omega arith)
    rises_so i (suc (suc j)) u w l a b = absurd (none-some w b)

one_more : (x y : ℤ) → x ≡ y → (pos 1 *ℤ x) +ℤ pos 0 ≡ pos 1 *ℤ y
one_more x y e = omega (arith, ints)

-- one premise is the row, or less
pub prove_one : (rows : List Row) (wanted : Row) (p : ℕ) → ((k : ℕ) → coefficient k (row_at rows p) ≡ coefficient k wanted)
    → (row_at rows p).bound ≤ℤ wanted.bound → Proves rows wanted (by_one p)
prove_one rows wanted p same b = record {
  positive = omega (arith, ints);
  none_negative = all_one (λ w. pos 0 ≤ℤ w.by) (on p) (omega (arith, ints));
  sides = λ k. one_more _ _ (same k);
  bounds = omega (arith, ints);
}

pub prove_none : (rows : List Row) (wanted : Row) → ((k : ℕ) → coefficient k wanted ≡ pos 0) → pos 0 ≤ℤ wanted.bound → Proves rows wanted by_none
prove_none rows wanted same b = record {
  positive = omega (arith, ints);
  none_negative = All-nil (λ w. pos 0 ≤ℤ w.by);
  sides = λ k. rw (same k) refl;
  bounds = omega (arith, ints);
}

two_more : (x y : ℤ) → x +ℤ y ≡ pos 0 → (pos 1 *ℤ x) +ℤ ((pos 1 *ℤ y) +ℤ pos 0) ≡ pos 0
two_more x y e = omega (arith, ints)

pub refute_two : (rows : List Row) (p q : ℕ) → ((k : ℕ) → coefficient k (row_at rows p) +ℤ coefficient k (row_at rows q) ≡ pos 0)
    → ((row_at rows p).bound +ℤ (row_at rows q).bound) <ℤ pos 0 → Refutes rows (by_two p q)
refute_two rows p q same b = record {
  divisor = refl;
  none_negative = all_two (λ w. pos 0 ≤ℤ w.by) (on p) (on q) (omega (arith, ints)) (omega (arith, ints));
  sides = λ k. two_more (coefficient k (row_at rows p)) (coefficient k (row_at rows q)) (same k);
  bounds = omega (arith, ints);
}

-- a row over the one memory after its update
pub after_one : (s : System) (l : Location) (e : Entry) (given rows : List Row) (c b f k : ℤ) (m : Multipliers) → s.memories ≡ 1
    → AreTestRows s l e (record { given = given; wanted = after (row1 c b); by = m }) rows → IsSettledUpdate s l e 0 (form1 f k)
    → Proves (given ++ rows) (row1 ((c *ℤ f) +ℤ pos 0) (b -ℤ ((c *ℤ k) +ℤ pos 0))) m
    → IsImplied s l e (record { given = given; wanted = after (row1 c b); by = m })
after_one s l e given rows c b f k m one are settled proof = (
  rows,
  are,
  (
    form1 f k ∷ [],
    row1 ((c *ℤ f) +ℤ pos 0) (b -ℤ ((c *ℤ k) +ℤ pos 0)),
    record { size = sym one; settled = needed },
    record { width = refl; coefficients = columns; bound = refl },
    proof,
  ),
)
  where
    needed : (n : ℕ) → coefficient n (row1 c b) ≢ pos 0 → IsSettledUpdate s l e n (form_at (form1 f k ∷ []) n)
    needed zero h = settled
    needed (suc n) h = absurd (h refl)

    columns : (n : ℕ) → number n (((c *ℤ f) +ℤ pos 0) ∷ []) ≡ dot (c ∷ []) (map (λ g. number n g.coefficients) (form1 f k ∷ []))
    columns zero = refl
    columns (suc n) = omega (arith, *ℤ-zero c, ints)
