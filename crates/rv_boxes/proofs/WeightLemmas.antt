-- Weights with one more.
use Rattle.std.proofs.Common.{◌≡◌, ◌≢◌, ℕ, zero, suc, ◌+◌, ◌<◌, ◌≤◌, ℤ, ◌+ℤ◌, ◌*ℤ◌, List, [], ◌∷◌, ◌++◌, take, drop, length, get_or, All, Some, slice_get}
use Rattle.std.proofs.Common.{arith, ap, sym, ◌∙◌, subst}
use Rattle.std.proofs.lemmas.List.Elements.{All-cons, All-head, All-tail, All-same, All-append, All-weaker, All-take, All-drop}
use Rattle.std.proofs.lemmas.Option.{slice_get_within, get_or_from_slice_get, same_Some}
use Rattle.std.proofs.{Math.IntN.+ℤ_assoc, lemmas.Int.ints, lemmas.List.take-append-drop, lemmas.List.Edits.length-insert}
use Rattle.rv_rows.specs.{declared.linear.Row.Row, declared.farkas.Weight.Weight, Rows.row_at, Multipliers.weighted}
use Rattle.rv_boxes.specs.Weighing.{Rises, IsInserted}

pub rises_after : (ws : List Weight) (i p : ℕ) (d : Weight) → Rises ws → i < length ws → p ≤ (get_or ws i d).premise → All (λ u. p ≤ u.premise) (drop i ws)
rises_after [] i p d r l h = absurd (omega arith)
rises_after (w ∷ ws) zero p d r l h = All-cons (λ u. p ≤ u.premise) w ws h (All-weaker (λ u. w.premise < u.premise) (λ u. p ≤ u.premise)
    (λ u k. omega arith) ws r.0)
rises_after (w ∷ ws) (suc i) p d r l h = rises_after ws i p d r.1 (omega arith) h

pub weighted-append : (f : Row → ℤ) (rows : List Row) (us ws : List Weight) → weighted f rows (us ++ ws) ≡ weighted f rows us +ℤ weighted f rows ws
weighted-append f rows [] ws = omega (arith, ints)
weighted-append f rows (u ∷ us) ws = rw (weighted-append f rows us ws) (sym (+ℤ_assoc (u.by *ℤ f (row_at rows u.premise)) (weighted f rows us)
    (weighted f rows ws)))

swap_in : (a x b : ℤ) → a +ℤ (x +ℤ b) ≡ x +ℤ (a +ℤ b)
swap_in a x b = omega (arith, ints)

module _ (old : List Weight) (w : Weight) (new : List Weight) (h : IsInserted old w new) where
  pub weighted-inserted : (f : Row → ℤ) (rows : List Row) → weighted f rows new ≡ (w.by *ℤ f (row_at rows w.premise)) +ℤ weighted f rows old
  weighted-inserted f rows =
      let whole : weighted f rows old ≡ weighted f rows (take h.at old) +ℤ weighted f rows (drop h.at old) =
      sym (ap (weighted f rows) (take-append-drop h.at old)) ∙ weighted-append f rows (take h.at old) (drop h.at old) in
      ap (weighted f rows) h.is
      ∙ weighted-append f rows (take h.at old) (w ∷ drop h.at old)
      ∙ swap_in (weighted f rows (take h.at old)) (w.by *ℤ f (row_at rows w.premise)) (weighted f rows (drop h.at old))
      ∙ ap (λ z. (w.by *ℤ f (row_at rows w.premise)) +ℤ z) (sym whole)

  pub All-inserted : (P : Weight → Type 0) → All P old → P w → All P new
  All-inserted P o p = All-same P new (take h.at old ++ w ∷ drop h.at old) h.is
      (All-append P (take h.at old) (w ∷ drop h.at old) (All-take P h.at old o) (All-cons P w (drop h.at old) p (All-drop P h.at old o)))

  pub length-inserted : length new ≡ length old + 1
  length-inserted = ap length h.is ∙ length-insert old h.at w h.inside

Rises-take : (i : ℕ) (ws : List Weight) → Rises ws → Rises (take i ws)
Rises-take zero ws r = tt
Rises-take (suc i) [] r = tt
Rises-take (suc i) (w ∷ ws) r = (All-take (λ u. w.premise < u.premise) i ws r.0, Rises-take i ws r.1)

Rises-drop : (i : ℕ) (ws : List Weight) → Rises ws → Rises (drop i ws)
Rises-drop zero ws r = r
Rises-drop (suc i) [] r = tt
Rises-drop (suc i) (w ∷ ws) r = Rises-drop i ws r.1

Rises-append : (us ws : List Weight) → Rises us → Rises ws → All (λ u. All (λ w. u.premise < w.premise) ws) us → Rises (us ++ ws)
Rises-append [] ws r s h = s
Rises-append (u ∷ us) ws r s h = (
  All-append (λ w. u.premise < w.premise) us ws r.0 (All-head (λ v. All (λ w. v.premise < w.premise) ws) u us h),
  Rises-append us ws r.1 s (All-tail (λ v. All (λ w. v.premise < w.premise) ws) u us h),
)

pub Rises-inserted : (old : List Weight) (w : Weight) (new : List Weight) → IsInserted old w new → Rises old → All (λ u. u.premise ≢ w.premise) old → Rises new
Rises-inserted old w new h r fresh =
    let Q : Weight → Type 0 = λ u. u.premise ≢ w.premise in
    let apart : All Q (drop h.at old) = All-drop Q h.at old fresh in
    let later : All (λ u. w.premise < u.premise) (drop h.at old) = λ k d l. let a = h.after k d l in let n = apart k d l in omega arith in
    subst Rises (sym h.is) (Rises-append (take h.at old) (w ∷ drop h.at old) (Rises-take h.at old r) (later, Rises-drop h.at old r)
    (λ k d l. let b = h.before k d l in
    All-cons (λ v. (get_or (take h.at old) k d).premise < v.premise) w (drop h.at old) b (λ j e m. let c = later j e m in omega arith)))

pub rising_from : (ws : List Weight) → Rises ws → (i j : ℕ) (u w : Weight) → i < j → slice_get ws i ≡ Some u → slice_get ws j ≡ Some w → u.premise < w.premise
rising_from [] r i j u w l a b = let m : i < 0 = slice_get_within [] i u a in absurd (omega arith)
rising_from (x ∷ ws) r i zero u w l a b = absurd (omega arith)
rising_from (x ∷ ws) r zero (suc j) u w l a b =
    let m = slice_get_within ws j w b in
    let e : get_or ws j w ≡ w = get_or_from_slice_get ws j w w b in
    let h : x.premise < (get_or ws j w).premise = r.0 j w m in
    let s : x ≡ u = same_Some x u a in
    subst (λ (y : Weight). y.premise < w.premise) s (subst (λ (y : Weight). x.premise < y.premise) e h)
rising_from (x ∷ ws) r (suc i) (suc j) u w l a b = rising_from ws r.1 i j u w (omega arith) a b
