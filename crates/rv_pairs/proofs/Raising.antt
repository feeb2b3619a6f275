-- Limits that rise, one threshold after the other.
use Rattle.std.proofs.Common.{◌≡◌, ◌⊎◌, ℕ, ◌<◌, ◌≤◌, ℤ, pos, ◌+ℤ◌, ◌≤ℤ◌, ◌<ℤ◌, Bool, true, false, List, [], ◌∷◌, ◌++◌, length, All, Option, Some, get_or}
use Rattle.std.proofs.Common.{slice_get}
use Rattle.std.proofs.Common.{arith, refl, sym, ap, ◌∙◌, subst, inl, inr, IfSome, None as Nothing}
use Rattle.std.proofs.{lemmas.Int.ints, lemmas.Option.same_Some, lemmas.Option.none-some}
use Rattle.std.proofs.lemmas.List.{get_or_default}
use Rattle.std.proofs.lemmas.List.Elements.{All-contains, Contains-append_left, Contains-push, Contains-push_cases}
use Rattle.std.specs.{List.Contains, Prelude.MatchBool, Int.RustNames.unsigned_abs}
use Rattle.rv_rows.specs.{declared.linear.Row.Row, Rows.coefficient, Rows.row_at, Multipliers.ShowsAtOnce, Multipliers.by_one}
use Rattle.rv_diagram.specs.{declared.Triple.Triple, Nodes.Valuation, Nodes.value_of}
use Rattle.rv_ends.specs.Risen.{IsRisen}
use Rattle.rv_pairs.specs.{declared.labels.Labelled.Labelled, Labels.active, Shown.SumShows}
use Rattle.rv_pairs.proofs.{Counting.active_has, Pairing.nothing}

module _ (thresholds : List ℤ) where
  pub risen_small : (n : ℕ) (P : ℤ → Type 0) (limit : ℤ) (new : Option ℤ) (b : ℤ) → All (λ t. unsigned_abs t ≤ n) thresholds → unsigned_abs limit ≤ n
      → IsRisen thresholds P (Some limit) new → new ≡ Some b → unsigned_abs b ≤ n
  risen_small n P limit new b small l h e = go (h.among b e)
    where
      go : (Some limit ≡ Some b) ⊎ Contains thresholds b → unsigned_abs b ≤ n
      go (inl same) = subst (λ (z : ℤ). unsigned_abs z ≤ n) (same_Some limit b same) l
      go (inr has) = All-contains (λ (t : ℤ). unsigned_abs t ≤ n) thresholds b small has

  pub risen_within : (n : ℕ) (P : ℤ → Type 0) (limit : ℤ) (new : Option ℤ) → All (λ t. unsigned_abs t ≤ n) thresholds → unsigned_abs limit ≤ n
      → IsRisen thresholds P (Some limit) new → IfSome new (λ b. unsigned_abs b ≤ n)
  risen_within n P limit (Some b) small l h = risen_small n P limit (Some b) b small l h refl
  risen_within n P limit Nothing small l h = tt

  -- the size of the limit or a threshold
  pub asked_small : (n : ℕ) (limit b : ℤ) → All (λ t. unsigned_abs t ≤ n) thresholds → unsigned_abs limit ≤ n
      → (Some limit ≡ Some b) ⊎ Contains thresholds b → unsigned_abs b ≤ n
  asked_small n limit b small l (inl same) = subst (λ (z : ℤ). unsigned_abs z ≤ n) (same_Some limit b same) l
  asked_small n limit b small l (inr has) = All-contains (λ (t : ℤ). unsigned_abs t ≤ n) thresholds b small has

-- one row that shows the form by itself
pub shown_by_row : (nodes : List Triple) (labels : List Labelled) (i : ℕ) (l : Labelled) (v : Valuation) (zero w : Row) → slice_get labels i ≡ Some l
    → value_of nodes l.under v ≡ true → ((k : ℕ) → coefficient k zero ≡ pos 0) → zero.bound ≡ pos 0 → SumShows l.row zero w
    → ShowsAtOnce (active nodes labels v) w
shown_by_row nodes labels i l v zero w at on none is s = let (j, low, same) = active_has nodes labels i l v at on in
    let e : l.row ≡ row_at (active nodes labels v) j = sym (row_same (active nodes labels v) j l.row low same) in
    by_one j low (λ k. drop (coefficient k w) (coefficient k l.row) (coefficient k zero) (s.sides k) (none k) ∙ ap (coefficient k) e)
    (subst (λ (x : Row). x.bound ≤ℤ w.bound) e (low_bound l.row.bound zero.bound w.bound s.bounds is))
  where
    row_same : (rows : List Row) (j : ℕ) (r : Row) → j < length rows → get_or rows j r ≡ r → row_at rows j ≡ r
    row_same rows j r low same = get_or_default rows j nothing r low ∙ same

    drop : (x y z : ℤ) → x ≡ y +ℤ z → z ≡ pos 0 → x ≡ y
    drop x y z e f = omega (arith, ints)

    low_bound : (x y z : ℤ) → (x +ℤ y) ≤ℤ z → y ≡ pos 0 → x ≤ℤ z
    low_bound x y z l e = omega (arith, ints)

-- the next threshold, where it is not better, where it is shown, and where it is not
module _ (before : List ℤ) (P : ℤ → Type 0) (limit threshold : ℤ) (best : Option ℤ) (so_far : IsRisen before P (Some limit) best) where
  wider : (b : ℤ) → (Some limit ≡ Some b) ⊎ Contains before b → (Some limit ≡ Some b) ⊎ Contains (before ++ threshold ∷ []) b
  wider b (inl e) = inl e
  wider b (inr has) = inr (Contains-append_left before (threshold ∷ []) b has)

  split : (b : ℤ) → (Some limit ≡ Some b) ⊎ Contains (before ++ threshold ∷ []) b → ((Some limit ≡ Some b) ⊎ Contains before b) ⊎ (threshold ≡ b)
  split b (inl e) = inl (inl e)
  split b (inr has) = go (Contains-push_cases before threshold b has)
    where
      go : Contains before b ⊎ (threshold ≡ b) → ((Some limit ≡ Some b) ⊎ Contains before b) ⊎ (threshold ≡ b)
      go (inl h) = inl (inr h)
      go (inr e) = inr e

  pub threshold_skipped : ((a b : ℤ) → Some limit ≡ Some a → a ≤ℤ b → threshold ≡ b → P b → (x : ℤ) × (best ≡ Some x) × (x ≤ℤ b))
      → IsRisen (before ++ threshold ∷ []) P (Some limit) best
  threshold_skipped last = record {
    held = so_far.held;
    rises = so_far.rises;
    among = λ b e. wider b (so_far.among b e);
    least = λ a b e l has p. go a b e l p (split b has);
  }
    where
      go : (a b : ℤ) → Some limit ≡ Some a → a ≤ℤ b → P b → ((Some limit ≡ Some b) ⊎ Contains before b) ⊎ (threshold ≡ b)
          → (x : ℤ) × (best ≡ Some x) × (x ≤ℤ b)
      go a b e l p (inl has) = so_far.least a b e l has p
      go a b e l p (inr same) = last a b e l same p

  pub threshold_worse : (threshold <ℤ limit) ⊎ ((b : ℤ) × (best ≡ Some b) × (b ≤ℤ threshold)) → IsRisen (before ++ threshold ∷ []) P (Some limit) best
  threshold_worse worse = threshold_skipped (λ a b e l same p. go a b (same_Some limit a e) l same worse)
    where
      apart : (t m a b : ℤ) → m ≡ a → a ≤ℤ b → t ≡ b → t <ℤ m → ⊥
      apart t m a b e l same low = omega (arith, ints)

      go : (a b : ℤ) → limit ≡ a → a ≤ℤ b → threshold ≡ b → (threshold <ℤ limit) ⊎ ((b : ℤ) × (best ≡ Some b) × (b ≤ℤ threshold))
          → (x : ℤ) × (best ≡ Some x) × (x ≤ℤ b)
      go a b e l same (inl low) = absurd (apart threshold limit a b e l same low)
      go a b e l same (inr (x, is, m)) = (x, is, subst (λ (z : ℤ). x ≤ℤ z) same m)

  pub threshold_not : ¬ P threshold → IsRisen (before ++ threshold ∷ []) P (Some limit) best
  threshold_not never = threshold_skipped (λ a b e l same p. absurd (never (subst P (sym same) p)))

  pub threshold_taken : limit ≤ℤ threshold → ((b : ℤ) → best ≡ Some b → threshold <ℤ b) → P threshold
      → IsRisen (before ++ threshold ∷ []) P (Some limit) (Some threshold)
  threshold_taken up better p = record {
    held = λ b e. subst P (same_Some threshold b e) p;
    rises = λ b e. (limit, refl, subst (λ (z : ℤ). limit ≤ℤ z) (same_Some threshold b e) up);
    among = λ b e. inr (subst (Contains (before ++ threshold ∷ [])) (same_Some threshold b e) (Contains-push before threshold));
    least = λ a b e l has q. (threshold, refl, go a b e l q (split b has));
  }
    where
      below : (t x b : ℤ) → t <ℤ x → x ≤ℤ b → t ≤ℤ b
      below t x b l m = omega (arith, ints)

      equal : (t b : ℤ) → t ≡ b → t ≤ℤ b
      equal t b e = omega (arith, ints)

      go : (a b : ℤ) → Some limit ≡ Some a → a ≤ℤ b → P b → ((Some limit ≡ Some b) ⊎ Contains before b) ⊎ (threshold ≡ b) → threshold ≤ℤ b
      go a b e l q (inl has) = let (x, is, m) = so_far.least a b e l has q in below threshold x b (better x is) m
      go a b e l q (inr same) = equal threshold b same

  pub threshold_next : (shown : Bool) (new : Option ℤ) → MatchBool shown (P threshold) (¬ P threshold) → (shown ≡ true → new ≡ Some threshold)
      → (shown ≡ false → new ≡ best) → limit ≤ℤ threshold → ((b : ℤ) → best ≡ Some b → threshold <ℤ b)
      → IsRisen (before ++ threshold ∷ []) P (Some limit) new
  threshold_next true new p is other up better =
      subst (λ (o : Option ℤ). IsRisen (before ++ threshold ∷ []) P (Some limit) o) (sym (is refl)) (threshold_taken up better p)
  threshold_next false new never is other up better =
      subst (λ (o : Option ℤ). IsRisen (before ++ threshold ∷ []) P (Some limit) o) (sym (other refl)) (threshold_not never)

-- before the first threshold
pub risen_first : (P : ℤ → Type 0) (limit : ℤ) (ts : List ℤ) → ts ≡ [] → ¬ P limit → IsRisen ts P (Some limit) Nothing
risen_first P limit ts none never = record {
  held = λ b e. absurd (none-some b e);
  rises = λ b e. absurd (none-some b e);
  among = λ b e. absurd (none-some b e);
  least = λ a b e l has p. absurd (go b has p);
}
  where
    go : (b : ℤ) → (Some limit ≡ Some b) ⊎ Contains ts b → P b → ⊥
    go b (inl e) p = never (subst P (sym (same_Some limit b e)) p)
    go b (inr has) p = let (k, low, is) = subst (λ (xs : List ℤ). Contains xs b) none has in absurd (omega (arith, low))
