-- Sums over rows, and the easy direction of Farkas.
use Rattle.std.proofs.Common.{◌≡◌, ℕ, ◌+◌, ◌*◌, ◌≤◌, ◌<◌, ◌^◌, ℤ, pos, ◌+ℤ◌, ◌*ℤ◌, ◌≤ℤ◌, ◌<ℤ◌, List, [], ◌∷◌, All, length, drop, get_or, slice_get, None, Some}
use Rattle.std.proofs.Common.{unwrap_or, Bool, true, false, IsTrue, MatchBool, true≢false, arith, refl, ap, sym, ◌∙◌, ◌⊎◌, inl, inr, add-one, zero-le}
use Rattle.std.proofs.{Math.Nat.mul-le-mul, Math.IntN.*ℤ-zero, Math.IntN.zero-*ℤ, Math.IntN.+ℤ_assoc, lemmas.Int.ints, lemmas.Int.unsigned_abs-mul}
use Rattle.std.proofs.{lemmas.Bool.cases_lt, lemmas.Option.unwrap_or-slice_get, lemmas.Option.get_or_from_slice_get, lemmas.List.get_or_past}
use Rattle.std.proofs.{lemmas.List.drop_more, lemmas.List.Elements.All-head, lemmas.List.Elements.All-tail, lemmas.List.Elements.All-same}
use Rattle.std.specs.Int.RustNames.{unsigned_abs}
use Rattle.rv_rows.specs.Rows.{dot, Holds, coefficient, row_at, RowWithin}
use Rattle.rv_rows.specs.Multipliers.{weighted, Sides, Proves, Refutes, Cancels, WeightsWithin, SumsBelow}
use Rattle.rv_rows.specs.{declared.linear.Row.Row, declared.farkas.Weight.Weight, declared.farkas.Multipliers.Multipliers}
use Rattle.rv_rows.proofs.IntLemmas.{mul_add, add_mul, mul_assoc_int, mul_mono, below_next, abs-add, add_mono, add_swap, le_lt_trans, not_below_zero}

abbrev pub tail_of : List ℤ → List ℤ
tail_of [] = []
tail_of (c ∷ cs) = cs

pub dot-cons : (cs : List ℤ) (x : ℤ) (xs : List ℤ) → dot cs (x ∷ xs) ≡ (get_or cs 0 (pos 0) *ℤ x) +ℤ dot (tail_of cs) xs
dot-cons [] x xs = rw (zero-*ℤ x) refl
dot-cons (c ∷ cs) x xs = refl

pub get_or-tail : (cs : List ℤ) (k : ℕ) → get_or (tail_of cs) k (pos 0) ≡ get_or cs (k + 1) (pos 0)
get_or-tail [] k = refl
get_or-tail (c ∷ cs) k = rw add-one refl

pub dot-none : (cs : List ℤ) → dot cs [] ≡ pos 0
dot-none [] = refl
dot-none (c ∷ cs) = refl

module _ (rows : List Row) where
  weighted-same : (f h : Row → ℤ) (ws : List Weight) → ((r : Row) → f r ≡ h r) → weighted f rows ws ≡ weighted h rows ws
  weighted-same f h [] e = refl
  weighted-same f h (w ∷ ws) e = rw (e (row_at rows w.premise), weighted-same f h ws e) refl

  weighted-zero : (f : Row → ℤ) (ws : List Weight) → ((r : Row) → f r ≡ pos 0) → weighted f rows ws ≡ pos 0
  weighted-zero f [] e = refl
  weighted-zero f (w ∷ ws) e = rw (e (row_at rows w.premise), weighted-zero f ws e, *ℤ-zero w.by) refl

  weighted-add : (f h : Row → ℤ) (ws : List Weight) → weighted (λ r. f r +ℤ h r) rows ws ≡ weighted f rows ws +ℤ weighted h rows ws
  weighted-add f h [] = refl
  weighted-add f h (w ∷ ws) =
      rw (weighted-add f h ws, mul_add w.by (f (row_at rows w.premise)) (h (row_at rows w.premise)))
      (add_swap (w.by *ℤ f (row_at rows w.premise)) (w.by *ℤ h (row_at rows w.premise)) (weighted f rows ws) (weighted h rows ws))

  weighted-mul : (f : Row → ℤ) (x : ℤ) (ws : List Weight) → weighted (λ r. f r *ℤ x) rows ws ≡ weighted f rows ws *ℤ x
  weighted-mul f x [] = sym (zero-*ℤ x)
  weighted-mul f x (w ∷ ws) =
      rw (weighted-mul f x ws, add_mul (w.by *ℤ f (row_at rows w.premise)) (weighted f rows ws) x, mul_assoc_int w.by (f (row_at rows w.premise)) x) refl

  -- equal sums at each column give equal sums at each point
  weighted-dot : (xs : List ℤ) (g : Row → List ℤ) (d : ℤ) (cs : List ℤ) (ws : List Weight)
      → ((k : ℕ) → weighted (λ r. get_or (g r) k (pos 0)) rows ws ≡ d *ℤ get_or cs k (pos 0))
      → weighted (λ r. dot (g r) xs) rows ws ≡ d *ℤ dot cs xs
  weighted-dot [] g d cs ws h = weighted-zero (λ r. dot (g r) []) ws (λ r. dot-none (g r)) ∙ sym (ap (λ z. d *ℤ z) (dot-none cs) ∙ *ℤ-zero d)
  weighted-dot (x ∷ xs) g d cs ws h =
      let rest = weighted-dot xs (λ r. tail_of (g r)) d (tail_of cs) ws
      (λ k. weighted-same (λ r. get_or (tail_of (g r)) k (pos 0)) (λ r. get_or (g r) (k + 1) (pos 0)) ws (λ r. get_or-tail (g r) k)
      ∙ h (k + 1) ∙ ap (λ z. d *ℤ z) (sym (get_or-tail cs k))) in
      weighted-same (λ r. dot (g r) (x ∷ xs)) (λ r. (get_or (g r) 0 (pos 0) *ℤ x) +ℤ dot (tail_of (g r)) xs) ws (λ r. dot-cons (g r) x xs)
      ∙ weighted-add (λ r. get_or (g r) 0 (pos 0) *ℤ x) (λ r. dot (tail_of (g r)) xs) ws
      ∙ ap (λ z. z +ℤ weighted (λ r. dot (tail_of (g r)) xs) rows ws) (weighted-mul (λ r. get_or (g r) 0 (pos 0)) x ws ∙ ap (λ z. z *ℤ x) (h 0)
      ∙ mul_assoc_int d (get_or cs 0 (pos 0)) x)
      ∙ ap (λ z. (d *ℤ (get_or cs 0 (pos 0) *ℤ x)) +ℤ z) rest
      ∙ sym (mul_add d (get_or cs 0 (pos 0) *ℤ x) (dot (tail_of cs) xs))
      ∙ ap (λ z. d *ℤ z) (sym (dot-cons cs x xs))

  -- nonnegative weights keep an order that each row has
  weighted-mono : (f h : Row → ℤ) (ws : List Weight) → All (λ w. pos 0 ≤ℤ w.by) ws → ((i : ℕ) → f (row_at rows i) ≤ℤ h (row_at rows i))
      → weighted f rows ws ≤ℤ weighted h rows ws
  weighted-mono f h [] p e = omega (arith, ints)
  weighted-mono f h (w ∷ ws) p e =
      add_mono _ _ _ _ (mul_mono w.by (f (row_at rows w.premise)) (h (row_at rows w.premise)) (All-head (λ v. pos 0 ≤ℤ v.by) w ws p) (e w.premise))
      (weighted-mono f h ws (All-tail (λ v. pos 0 ≤ℤ v.by) w ws p) e)

-- every row that an index names holds, the row past the end too
holds_at : (rows : List Row) (point : List ℤ) → All (λ r. Holds r point) rows → (i : ℕ) → Holds (row_at rows i) point
holds_at rows point h i = go (cases_lt i (length rows))
  where
    go : (i < length rows) ⊎ (length rows ≤ i) → Holds (row_at rows i) point
    go (inl l) = h i (record { coefficients = []; bound = pos 0 }) l
    go (inr l) = rw (get_or_past rows i (record { coefficients = []; bound = pos 0 }) l) (omega (arith, ints))

pub proves_sound : (rows : List Row) (wanted : Row) (m : Multipliers) → Proves rows wanted m
    → (point : List ℤ) → All (λ r. Holds r point) rows → Holds wanted point
proves_sound rows wanted m p point h =
    let same = weighted-dot rows point (λ r. r.coefficients) m.divisor wanted.coefficients m.weights p.sides in
    let under = weighted-mono rows (λ r. dot r.coefficients point) (λ r. r.bound) m.weights p.none_negative (holds_at rows point h) in
    let bounds = p.bounds in
    let less : (m.divisor *ℤ dot wanted.coefficients point) <ℤ (m.divisor *ℤ (wanted.bound +ℤ pos 1)) = rw same at (le_lt_trans _ _ _ under bounds) in
    below_next m.divisor (dot wanted.coefficients point) wanted.bound p.positive less

pub refutes_sound : (rows : List Row) (m : Multipliers) → Refutes rows m → (point : List ℤ) → ¬ (All (λ r. Holds r point) rows)
refutes_sound rows m p point h =
    let same = weighted-dot rows point (λ r. r.coefficients) (pos 0) [] m.weights (λ k. p.sides k ∙ sym (zero-*ℤ (get_or [] k (pos 0)))) in
    let under = weighted-mono rows (λ r. dot r.coefficients point) (λ r. r.bound) m.weights p.none_negative (holds_at rows point h) in
    let bounds = p.bounds in
    let zero_sum : weighted (λ r. dot r.coefficients point) rows m.weights ≡ pos 0 = same ∙ zero-*ℤ (dot [] point) in
    not_below_zero _ _ zero_sum under bounds

pub coefficient-none : (cs : List ℤ) (k : ℕ) → None ≡ slice_get cs k → pos 0 ≡ get_or cs k (pos 0)
coefficient-none cs k e = ap (λ o. unwrap_or o (pos 0)) e ∙ unwrap_or-slice_get cs k (pos 0)

-- the part of a weighted sum from a place on
pub weighted-from : (f : Row → ℤ) (rows : List Row) (ws : List Weight) (i : ℕ) (d : Weight) → i < length ws
    → weighted f rows (drop i ws) ≡ ((get_or ws i d).by *ℤ f (row_at rows (get_or ws i d).premise)) +ℤ weighted f rows (drop (i + 1) ws)
weighted-from f rows ws i d h = rw (drop_more ws i d h) refl

-- one step of the loop that sums up
pub weighted-step : (f : Row → ℤ) (rows : List Row) (ws : List Weight) (i : ℕ) (d : Weight) (s t : ℤ) → i < length ws
    → s +ℤ weighted f rows (drop i ws) ≡ weighted f rows ws
    → t ≡ s +ℤ ((get_or ws i d).by *ℤ f (row_at rows (get_or ws i d).premise))
    → t +ℤ weighted f rows (drop (i + 1) ws) ≡ weighted f rows ws
weighted-step f rows ws i d s t h e k =
    ap (λ z. z +ℤ weighted f rows (drop (i + 1) ws)) k
    ∙ +ℤ_assoc s _ _
    ∙ ap (λ z. s +ℤ z) (sym (weighted-from f rows ws i d h))
    ∙ e

-- what each number of a premise is bounded by
pub coefficient_within : (n : ℕ) (rows : List Row) → All (RowWithin n) rows → (i k : ℕ) → unsigned_abs (coefficient k (row_at rows i)) ≤ n
coefficient_within n rows h i k = go (cases_lt i (length rows))
  where
    inner : (r : Row) → RowWithin n r → (k < length r.coefficients) ⊎ (length r.coefficients ≤ k) → unsigned_abs (coefficient k r) ≤ n
    inner r g (inl l) = g.0 k (pos 0) l
    inner r g (inr l) = rw (get_or_past r.coefficients k (pos 0) l) zero-le

    go : (i < length rows) ⊎ (length rows ≤ i) → unsigned_abs (coefficient k (row_at rows i)) ≤ n
    go (inl l) = inner (row_at rows i) (h i (record { coefficients = []; bound = pos 0 }) l) (cases_lt k (length (row_at rows i).coefficients))
    go (inr l) = rw (get_or_past rows i (record { coefficients = []; bound = pos 0 }) l) zero-le

pub bound_within : (n : ℕ) (rows : List Row) → All (RowWithin n) rows → (i : ℕ) → unsigned_abs (row_at rows i).bound ≤ n
bound_within n rows h i = go (cases_lt i (length rows))
  where
    go : (i < length rows) ⊎ (length rows ≤ i) → unsigned_abs (row_at rows i).bound ≤ n
    go (inl l) = (h i (record { coefficients = []; bound = pos 0 }) l).1
    go (inr l) = rw (get_or_past rows i (record { coefficients = []; bound = pos 0 }) l) zero-le

-- a test that is exact is sound
pub proves_if : (b : Bool) (rows : List Row) (wanted : Row) (m : Multipliers) → MatchBool b (Proves rows wanted m) (¬ (Proves rows wanted m))
    → IsTrue b → (point : List ℤ) → All (λ r. Holds r point) rows → Holds wanted point
proves_if true rows wanted m p t = proves_sound rows wanted m p
proves_if false rows wanted m p t = absurd (true≢false (sym t))

pub refutes_if : (b : Bool) (rows : List Row) (m : Multipliers) → MatchBool b (Refutes rows m) (¬ (Refutes rows m))
    → IsTrue b → (point : List ℤ) → ¬ (All (λ r. Holds r point) rows)
refutes_if true rows m p t = refutes_sound rows m p
refutes_if false rows m p t = absurd (true≢false (sym t))

-- past the width of every row that is used, a weighted sum is 0
pub weighted-past : (rows : List Row) (ws : List Weight) (width k : ℕ) → All (λ w. length (row_at rows w.premise).coefficients ≤ width) ws → width ≤ k
    → weighted (coefficient k) rows ws ≡ pos 0
weighted-past rows [] width k h l = refl
weighted-past rows (w ∷ ws) width k h l =
    let here : length (row_at rows w.premise).coefficients ≤ width = All-head (λ v. length (row_at rows v.premise).coefficients ≤ width) w ws h in
    rw (
      get_or_past (row_at rows w.premise).coefficients k (pos 0) (omega arith),
      *ℤ-zero w.by,
      weighted-past rows ws width k (All-tail (λ v. length (row_at rows v.premise).coefficients ≤ width) w ws h) l,
    ) refl

pub sides_from : (rows : List Row) (wanted : Row) (m : Multipliers) (width : ℕ)
    → length wanted.coefficients ≤ width → All (λ w. length (row_at rows w.premise).coefficients ≤ width) m.weights
    → ((k : ℕ) → k < width → weighted (coefficient k) rows m.weights ≡ m.divisor *ℤ coefficient k wanted)
    → Sides rows wanted m
sides_from rows wanted m width least used below k = go (cases_lt k width)
  where
    go : (k < width) ⊎ (width ≤ k) → weighted (coefficient k) rows m.weights ≡ m.divisor *ℤ coefficient k wanted
    go (inl l) = below k l
    go (inr l) = weighted-past rows m.weights width k used l
        ∙ sym (ap (λ z. m.divisor *ℤ z) (get_or_past wanted.coefficients k (pos 0) (omega arith)) ∙ *ℤ-zero m.divisor)

pub cancels_from : (rows : List Row) (ws : List Weight) (width : ℕ) → All (λ w. length (row_at rows w.premise).coefficients ≤ width) ws
    → ((k : ℕ) → k < width → weighted (coefficient k) rows ws ≡ pos 0)
    → Cancels rows ws
cancels_from rows ws width used below k = go (cases_lt k width)
  where
    go : (k < width) ⊎ (width ≤ k) → weighted (coefficient k) rows ws ≡ pos 0
    go (inl l) = below k l
    go (inr l) = weighted-past rows ws width k used l

-- one turn of the loop that sums up: there is room for the step, and the invariant is kept
module _ (f : Row → ℤ) (rows : List Row) (ws items : List Weight) (i : ℕ) (d : Weight) (s x : ℤ) (same : items ≡ ws)
    (small : (j : ℕ) → unsigned_abs (f (row_at rows j)) ≤ 2 ^ 60) (weights : WeightsWithin (2 ^ 41) 256 ws) (inside : i < length items)
    (bound : unsigned_abs s ≤ i * 2 ^ 101) (row : Row) (read : slice_get rows (get_or items i d).premise ≡ Some row) (value : x ≡ f row) where
  step_row : row_at rows (get_or items i d).premise ≡ row
  step_row = get_or_from_slice_get rows (get_or items i d).premise row (record { coefficients = []; bound = pos 0 }) read

  step_product : unsigned_abs (get_or items i d).by * unsigned_abs x ≤ 2 ^ 41 * 2 ^ 60
  step_product =
      let by_small : unsigned_abs (get_or items i d).by ≤ 2 ^ 41 = All-same (λ w. unsigned_abs w.by ≤ 2 ^ 41) items ws same weights.0 i d inside in
      let x_small : unsigned_abs x ≤ 2 ^ 60 = rw (value ∙ ap f (sym step_row)) (small (get_or items i d).premise) in
      mul-le-mul by_small x_small

  pub step_room : unsigned_abs s + unsigned_abs (get_or items i d).by * unsigned_abs x < 2 ^ 127
  step_room =
      let most = weights.1 in
      let len = ap length same in
      let p = step_product in
      omega arith

  pub step_kept : (t : ℤ) → t ≡ s +ℤ ((get_or items i d).by *ℤ x) → s +ℤ weighted f rows (drop i ws) ≡ weighted f rows ws
      → (t +ℤ weighted f rows (drop (i + 1) ws) ≡ weighted f rows ws) × (unsigned_abs t ≤ (i + 1) * 2 ^ 101)
  step_kept t is kept =
      let at : get_or items i d ≡ get_or ws i d = ap (λ l. get_or l i d) same in
      let num : x ≡ f (row_at rows (get_or items i d).premise) = value ∙ ap f (sym step_row) in
      let now : t ≡ s +ℤ ((get_or ws i d).by *ℤ f (row_at rows (get_or ws i d).premise)) =
      is ∙ ap (λ z. s +ℤ ((get_or items i d).by *ℤ z)) num ∙ ap (λ w. s +ℤ (w.by *ℤ f (row_at rows w.premise))) at in
      let below : i < length ws = rw same at inside in
      let p = step_product in
      let a = abs-add s ((get_or items i d).by *ℤ x) in
      let b = unsigned_abs-mul (get_or items i d).by x in
      let u : unsigned_abs t ≡ unsigned_abs (s +ℤ ((get_or items i d).by *ℤ x)) = ap unsigned_abs is in
      (weighted-step f rows ws i d s t below kept now, omega arith)

-- a sum of few products is small
weighted-small : (f : Row → ℤ) (rows : List Row) (ws : List Weight) → ((j : ℕ) → unsigned_abs (f (row_at rows j)) ≤ 2 ^ 60)
    → All (λ w. unsigned_abs w.by ≤ 2 ^ 41) ws
    → unsigned_abs (weighted f rows ws) ≤ length ws * 2 ^ 101
weighted-small f rows [] small by_small = zero-le
weighted-small f rows (w ∷ ws) small by_small =
    let p : unsigned_abs w.by * unsigned_abs (f (row_at rows w.premise)) ≤ 2 ^ 41 * 2 ^ 60 = mul-le-mul
    (All-head (λ v. unsigned_abs v.by ≤ 2 ^ 41) w ws by_small) (small w.premise) in
    let rest = weighted-small f rows ws small (All-tail (λ v. unsigned_abs v.by ≤ 2 ^ 41) w ws by_small) in
    let a = abs-add (w.by *ℤ f (row_at rows w.premise)) (weighted f rows ws) in
    let b = unsigned_abs-mul w.by (f (row_at rows w.premise)) in
    omega arith

pub sums_below : (rows : List Row) (ws : List Weight) → All (RowWithin (2 ^ 60)) rows → WeightsWithin (2 ^ 41) 256 ws → SumsBelow (2 ^ 110) rows ws
sums_below rows ws within weights =
    let most = weights.1 in
    record {
      sides = λ k. let p = weighted-small (coefficient k) rows ws (λ j. coefficient_within (2 ^ 60) rows within j k) weights.0 in omega arith;
      bounds = let p = weighted-small (λ r. r.bound) rows ws (bound_within (2 ^ 60) rows within) weights.0 in omega arith;
    }
