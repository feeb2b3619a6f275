-- The numbers of left sides, and of the rows that limits make of them.
use Rattle.std.proofs.Common.{◌≡◌, ◌≢◌, ℕ, ◌^◌, ◌<◌, ◌≤◌, ℤ, pos, negsuc, List, [], length, get_or, All, Option, arith, sym, ap, ◌∙◌, subst, ◌⊎◌}
use Rattle.std.proofs.Common.{inl, inr, Some, IfSome, None as Nothing}
use Rattle.std.proofs.lemmas.List.Elements.{All-weaker, All-from_get_or, All-contains, Contains-get_or}
use Rattle.std.proofs.{lemmas.Bool.cases_eq, lemmas.Int.ints}
use Rattle.std.specs.{List.Contains, Int.RustNames.unsigned_abs}
use Rattle.rv_rows.specs.{declared.linear.Row.Row, Rows.coefficient, Rows.row_at, Rows.RowWithin, Tight.Fits}
use Rattle.rv_proofs.specs.Systems.{System}
use Rattle.rv_proofs.specs.{Ranges.AreKept, RowClaims.IsUnit, RowClaims.HasOne, RowClaims.HasTwo}
use Rattle.rv_proofs.proofs.{Rooms.premise_of_kept}
use Rattle.rv_rise.specs.{Limits.limit_at, Limits.AreAmong, Limits.AreSmall, Sides.IsSide, Sides.AreSides, Sides.rows_with}
use Rattle.rv_rise.proofs.Listing.{IsRowAt, rows_with-from, rows_with-few}

abbrev nothing : Row
nothing = record { coefficients = []; bound = pos 0 }

-- a left side has small numbers
unit_small : (z : ℤ) → IsUnit z → unsigned_abs z ≤ 1
unit_small z (inl e) = subst (λ (x : ℤ). unsigned_abs x ≤ 1) (sym e) (omega arith)
unit_small z (inr e) = subst (λ (x : ℤ). unsigned_abs x ≤ 1) (sym e) (omega arith)

zero_small : (z : ℤ) → z ≡ pos 0 → unsigned_abs z ≤ 1
zero_small z e = subst (λ (x : ℤ). unsigned_abs x ≤ 1) (sym e) (omega arith)

shape_small : (s : System) (r : Row) → HasOne s r ⊎ HasTwo s r → (n : ℕ) → unsigned_abs (coefficient n r) ≤ 1
shape_small s r (inl one) n = go (cases_eq n one.column)
  where
    go : (n ≡ one.column) ⊎ (n ≢ one.column) → unsigned_abs (coefficient n r) ≤ 1
    go (inl e) = subst (λ (k : ℕ). unsigned_abs (coefficient k r) ≤ 1) (sym e) (unit_small (coefficient one.column r) one.one)
    go (inr ne) = zero_small (coefficient n r) (one.others n ne)
shape_small s r (inr two) n = go (cases_eq n two.first) (cases_eq n two.second)
  where
    go : (n ≡ two.first) ⊎ (n ≢ two.first) → (n ≡ two.second) ⊎ (n ≢ two.second) → unsigned_abs (coefficient n r) ≤ 1
    go (inl e) other = subst (λ (k : ℕ). unsigned_abs (coefficient k r) ≤ 1) (sym e) (unit_small (coefficient two.first r) two.one)
    go (inr ne) (inl e) = subst (λ (k : ℕ). unsigned_abs (coefficient k r) ≤ 1) (sym e) (unit_small (coefficient two.second r) two.other)
    go (inr ne) (inr me) = zero_small (coefficient n r) (two.others n ne me)

-- the numbers of a left side
pub side_small : (s : System) (side : Row) → IsSide s side → All (λ c. unsigned_abs c ≤ 1) side.coefficients
side_small s side is = All-from_get_or (λ (c : ℤ). unsigned_abs c ≤ 1) side.coefficients (pos 0) (λ n m. shape_small s side is.shape n)

-- a row with such a left side fits where its bound does
side_fits : (s : System) (side r : Row) → IsSide s side → r.coefficients ≡ side.coefficients → unsigned_abs r.bound ≤ 2 ^ 60 → Fits r
side_fits s side r is same l = record {
  coefficients = subst (λ (cs : List ℤ). All (λ c. unsigned_abs c ≤ 2 ^ 30) cs) (sym same)
      (All-weaker (λ (c : ℤ). unsigned_abs c ≤ 1) (λ c. unsigned_abs c ≤ 2 ^ 30) (λ c m. omega (arith, m)) side.coefficients (side_small s side is));
  bound = l;
}

all_kept : (s : System) (rows : List Row) → ((r : Row) → Contains rows r → (length r.coefficients ≡ s.memories) × Fits r)
    → All (λ r. (length r.coefficients ≡ s.memories) × Fits r) rows
all_kept s rows h = All-from_get_or (λ (r : Row). (length r.coefficients ≡ s.memories) × Fits r) rows nothing
    (λ k l. h (get_or rows k nothing) (Contains-get_or rows k nothing l))

-- the rows of a claim are kept rows
pub rows_kept : (s : System) (sides : List Row) → AreSides s sides → (thresholds : List ℤ) → All (λ t. unsigned_abs t ≤ 2 ^ 41) thresholds
    → (limits : List (Option ℤ))
    → AreAmong thresholds limits → AreKept s (rows_with sides limits)
rows_kept s sides are thresholds small limits among = (
  all_kept s (rows_with sides limits) (λ r has. kept r (rows_with-from sides limits r has)),
  let few = are.few in let l = rows_with-few sides limits in omega (arith, few, l),
)
  where
    kept : (r : Row) → IsRowAt sides limits r → (length r.coefficients ≡ s.memories) × Fits r
    kept r at =
        let side = are.each at.place at.there in
        let m : unsigned_abs r.bound ≤ 2 ^ 41 = All-contains (λ (t : ℤ). unsigned_abs t ≤ 2 ^ 41) thresholds r.bound small
        (among at.place r.bound at.limit) in (
          ap length at.side ∙ side.size,
          side_fits s (row_at sides at.place) r side at.side (omega (arith, m)),
        )

-- kept rows are within the limits of premises
pub given_fit : (s : System) (given : List Row) → AreKept s given → All (RowWithin (2 ^ 60)) given
given_fit s given kept = All-weaker (λ (r : Row). (length r.coefficients ≡ s.memories) × Fits r) (RowWithin (2 ^ 60)) (λ r h. premise_of_kept r h.1) given
    kept.0

-- and thresholds are small limits
pub among_small : (thresholds : List ℤ) → All (λ t. unsigned_abs t ≤ 2 ^ 41) thresholds → (limits : List (Option ℤ)) → AreAmong thresholds limits
    → AreSmall limits
among_small thresholds small limits among k b at = All-contains (λ (t : ℤ). unsigned_abs t ≤ 2 ^ 41) thresholds b small (among k b at)

-- a left side has a memory
pub some_memories : (s : System) (side : Row) → IsSide s side → 0 < s.memories
some_memories s side is = go is.shape
  where
    go : HasOne s side ⊎ HasTwo s side → 0 < s.memories
    go (inl one) = let l = one.there in omega (arith, l)
    go (inr two) = let l = two.there in omega (arith, l)

pub limit_small : (limits : List (Option ℤ)) → AreSmall limits → (k : ℕ) (o : Option ℤ) → limit_at limits k ≡ o → IfSome o (λ b. unsigned_abs b ≤ 2 ^ 41)
limit_small limits small k (Some b) at = small k b at
limit_small limits small k Nothing at = tt

-- no row of a claim has a left side of zeros
unit_not : (z : ℤ) → IsUnit z → z ≡ pos 0 → ⊥
unit_not z (inl e) f = let bad : pos 1 ≡ pos 0 = sym e ∙ f in absurd (omega (arith, ints))
unit_not z (inr e) f = let bad : negsuc 0 ≡ pos 0 = sym e ∙ f in absurd (omega (arith, ints))

pub rows_solid : (s : System) (sides : List Row) → AreSides s sides → (limits : List (Option ℤ)) (r : Row) → Contains (rows_with sides limits) r
    → ((k : ℕ) → coefficient k r ≡ pos 0) → ⊥
rows_solid s sides are limits r has zero = go (rows_with-from sides limits r has)
  where
    shape : (x : Row) → ((k : ℕ) → coefficient k x ≡ pos 0) → HasOne s x ⊎ HasTwo s x → ⊥
    shape x none (inl one) = unit_not (coefficient one.column x) one.one (none one.column)
    shape x none (inr two) = unit_not (coefficient two.first x) two.one (none two.first)

    go : IsRowAt sides limits r → ⊥
    go at =
        let side = are.each at.place at.there in
        shape (row_at sides at.place) (λ k. ap (λ (cs : List ℤ). get_or cs k (pos 0)) (sym at.side) ∙ zero k) side.shape
