-- The order of the reasons.
use Rattle.std.proofs.Common.{ℕ, ◌+◌, ◌≡◌, ◌⊎◌, ◌==◌, Bool, false, List, [], ◌∷◌, ◌++◌, length, get_or, refl, ap, ◌∙◌, ⊎_elim, inl, inr, arith}
use Rattle.std.proofs.lemmas.Bool.{cases_lt, eq-eqb}
use Rattle.rv_diagram.specs.Nodes.{Valuation, ComesBefore}
use Rattle.rv_proofs.specs.{Verdicts.place, Verdicts.IsBefore, declared.verdict.Reason.Reason}
use Rattle.rv_proofs.specs.declared.verdict.Reason.TheVariants as reason
use Rattle.rv_base.proofs.Truths.{clash}

-- PLACES

pub nth : (i : ℕ) (a b : List ℕ) → a ≡ b → get_or a i 9 ≡ get_or b i 9
nth i a b e = ap (λ l. get_or l i 9) e

pub apart : (i : ℕ) (a b : List ℕ) → a ≡ b → (get_or a i 9 == get_or b i 9) ≡ false → ⊥
apart i a b e h = clash (get_or a i 9 == get_or b i 9) (eq-eqb (get_or a i 9) (get_or b i 9) (nth i a b e)) h

-- what is before the next place of a level is before this place, or at it
pub split_next : (pre : List ℕ) (n : ℕ) (x : List ℕ) → IsBefore x (pre ++ (n + 1) ∷ []) → IsBefore x (pre ++ n ∷ []) ⊎ ((rest : List ℕ) × (x ≡ pre ++ n ∷ rest))
split_next [] n [] h = inl tt
split_next [] n (y ∷ ys) h = ⊎_elim (λ less. ⊎_elim (λ l. inl (inl l)) (λ m. let e : y ≡ n = omega arith in inr (ys, ap (λ z. z ∷ ys) e)) (cases_lt y n)) (λ
    (e, b). absurd (none ys b)) h
  where
    none : (zs : List ℕ) → IsBefore zs [] → ⊥
    none [] b = b
    none (z ∷ zs) b = b
split_next (a ∷ as') n [] h = inl tt
split_next (a ∷ as') n (y ∷ ys) h = ⊎_elim (λ less. inl (inl less)) (λ (e, b). ⊎_elim (λ l. inl (inr (e, l))) (λ (rest, same). inr (
  rest,
  ap
      (λ z. z ∷ ys) e ∙ ap (λ l. a ∷ l) same,
)) (split_next as' n ys b)) h

-- what is before a place's first part is before the place, and the other way round
pub split_first : (pre : List ℕ) (x : List ℕ) → IsBefore x (pre ++ 0 ∷ []) → IsBefore x pre ⊎ (x ≡ pre)
split_first [] [] h = inr refl
split_first [] (y ∷ ys) h = ⊎_elim (λ less. absurd (omega (arith, less))) (λ (e, b). absurd (none ys b)) h
  where
    none : (zs : List ℕ) → IsBefore zs [] → ⊥
    none [] b = b
    none (z ∷ zs) b = b
split_first (a ∷ as') [] h = inl tt
split_first (a ∷ as') (y ∷ ys) h = ⊎_elim (λ less. inl (inl less)) (λ (e, b). ⊎_elim (λ l. inl (inr (e, l))) (λ same. inr (ap (λ z. z ∷ ys) e
    ∙ ap (λ l. a ∷ l) same)) (split_first as' ys b)) h

pub never_self : (v : Valuation) → ComesBefore v v → ⊥
never_self v (x, same, off, on) = clash (v x) on off

pub is_initial : (q : Reason) (rest : List ℕ) → place q ≡ 0 ∷ rest → (w : List Bool) × (q ≡ reason.NoInitial w)
is_initial (reason.NoInitial w') rest e = (w', refl)
is_initial _ rest e = absurd (apart 0 _ _ e refl)

pub is_inclusion : (q : Reason) (k : ℕ) (n : ℕ) (rest : List ℕ) → place q ≡ 1 ∷ k ∷ 0 ∷ n ∷ rest → q ≡ reason.Inclusion k n
is_inclusion (reason.NoInitial w') k n rest e = absurd (apart 0 _ _ e refl)
is_inclusion (reason.Inclusion k' n') k n rest e = ap (λ z. reason.Inclusion z n') (nth 1 _ _ e) ∙ ap (λ z. reason.Inclusion k z) (nth 3 _ _ e)
is_inclusion _ k n rest e = absurd (apart 2 _ _ e refl)

pub is_uncovered : (q : Reason) (k : ℕ) (rest : List ℕ) → place q ≡ 1 ∷ k ∷ 1 ∷ rest → (w : List Bool) × (q ≡ reason.Uncovered k w)
is_uncovered (reason.NoInitial w') k rest e = absurd (apart 0 _ _ e refl)
is_uncovered (reason.Uncovered k' w') k rest e = (w', ap (λ z. reason.Uncovered z w') (nth 1 _ _ e))
is_uncovered _ k rest e = absurd (apart 2 _ _ e refl)

pub is_unsettled : (q : Reason) (k : ℕ) (j : ℕ) (rest : List ℕ) → place q ≡ 1 ∷ k ∷ 2 ∷ j ∷ 0 ∷ rest → q ≡ reason.Unsettled k j
is_unsettled (reason.NoInitial w') k j rest e = absurd (apart 0 _ _ e refl)
is_unsettled (reason.Inclusion k' n') k j rest e = absurd (apart 2 _ _ e refl)
is_unsettled (reason.Uncovered k' w') k j rest e = absurd (apart 2 _ _ e refl)
is_unsettled (reason.Unsettled k' j') k j rest e = ap (λ z. reason.Unsettled z j') (nth 1 _ _ e) ∙ ap (λ z. reason.Unsettled k z) (nth 3 _ _ e)
is_unsettled _ k j rest e = absurd (apart 4 _ _ e refl)

pub is_observer : (q : Reason) (k : ℕ) (j : ℕ) (rest : List ℕ) → place q ≡ 1 ∷ k ∷ 2 ∷ j ∷ 1 ∷ rest → (w : List Bool) × (q ≡ reason.Observer k j w)
is_observer (reason.NoInitial w') k j rest e = absurd (apart 0 _ _ e refl)
is_observer (reason.Inclusion k' n') k j rest e = absurd (apart 2 _ _ e refl)
is_observer (reason.Uncovered k' w') k j rest e = absurd (apart 2 _ _ e refl)
is_observer (reason.Observer k' j' w') k j rest e = (w', ap (λ z. reason.Observer z j' w') (nth 1 _ _ e) ∙ ap (λ z. reason.Observer k z w') (nth 3 _ _ e))
is_observer _ k j rest e = absurd (apart 4 _ _ e refl)

pub is_target : (q : Reason) (k : ℕ) (j : ℕ) (rest : List ℕ) → place q ≡ 1 ∷ k ∷ 2 ∷ j ∷ 2 ∷ rest → (w : List Bool) × (q ≡ reason.Target k j w)
is_target (reason.NoInitial w') k j rest e = absurd (apart 0 _ _ e refl)
is_target (reason.Inclusion k' n') k j rest e = absurd (apart 2 _ _ e refl)
is_target (reason.Uncovered k' w') k j rest e = absurd (apart 2 _ _ e refl)
is_target (reason.Target k' j' w') k j rest e = (w', ap (λ z. reason.Target z j' w') (nth 1 _ _ e) ∙ ap (λ z. reason.Target k z w') (nth 3 _ _ e))
is_target _ k j rest e = absurd (apart 4 _ _ e refl)

pub is_multipliers : (q : Reason) (k : ℕ) (j : ℕ) (n : ℕ) (rest : List ℕ) → place q ≡ 1 ∷ k ∷ 2 ∷ j ∷ 3 ∷ n ∷ rest → q ≡ reason.Multipliers k j n
is_multipliers (reason.NoInitial w') k j n rest e = absurd (apart 0 _ _ e refl)
is_multipliers (reason.Inclusion k' n') k j n rest e = absurd (apart 2 _ _ e refl)
is_multipliers (reason.Uncovered k' w') k j n rest e = absurd (apart 2 _ _ e refl)
is_multipliers (reason.Multipliers k' j' n') k j n rest e = ap (λ z. reason.Multipliers z j' n') (nth 1 _ _ e)
    ∙ ap (λ z. reason.Multipliers k z n') (nth 3 _ _ e) ∙ ap (λ z. reason.Multipliers k j z) (nth 5 _ _ e)
is_multipliers _ k j n rest e = absurd (apart 4 _ _ e refl)

pub some_inclusion : (q : Reason) (k : ℕ) (rest : List ℕ) → place q ≡ 1 ∷ k ∷ 0 ∷ rest → (n : ℕ) × (q ≡ reason.Inclusion k n)
some_inclusion (reason.NoInitial w') k rest e = absurd (apart 0 _ _ e refl)
some_inclusion (reason.Inclusion k' n') k rest e = (n', ap (λ z. reason.Inclusion z n') (nth 1 _ _ e))
some_inclusion _ k rest e = absurd (apart 2 _ _ e refl)

unlike : (a b : List ℕ) → a ≡ b → (length a == length b) ≡ false → ⊥
unlike a b e h = clash (length a == length b) (eq-eqb (length a) (length b) (ap (λ l. length l) e)) h

pub not_top : (q : Reason) → place q ≡ 1 ∷ [] → ⊥
not_top (reason.NoInitial w') e = apart 0 _ _ e refl
not_top _ e = unlike _ _ e refl

pub not_location : (q : Reason) (k : ℕ) → place q ≡ 1 ∷ k ∷ [] → ⊥
not_location (reason.NoInitial w') k e = unlike _ _ e refl
not_location (reason.Inclusion k' n') k e = unlike _ _ e refl
not_location (reason.Uncovered k' w') k e = unlike _ _ e refl
not_location (reason.Unsettled k' j') k e = unlike _ _ e refl
not_location (reason.Observer k' j' w') k e = unlike _ _ e refl
not_location (reason.Target k' j' w') k e = unlike _ _ e refl
not_location (reason.Multipliers k' j' n') k e = unlike _ _ e refl

pub not_rows : (q : Reason) (k : ℕ) → place q ≡ 1 ∷ k ∷ 0 ∷ [] → ⊥
not_rows (reason.Uncovered k' w') k e = apart 2 _ _ e refl
not_rows _ k e = unlike _ _ e refl

pub not_entries : (q : Reason) (k : ℕ) → place q ≡ 1 ∷ k ∷ 2 ∷ [] → ⊥
not_entries (reason.Uncovered k' w') k e = apart 2 _ _ e refl
not_entries _ k e = unlike _ _ e refl

pub not_entry : (q : Reason) (k : ℕ) (j : ℕ) → place q ≡ 1 ∷ k ∷ 2 ∷ j ∷ [] → ⊥
not_entry (reason.Inclusion k' n') k j e = apart 2 _ _ e refl
not_entry _ k j e = unlike _ _ e refl

pub not_implications : (q : Reason) (k : ℕ) (j : ℕ) → place q ≡ 1 ∷ k ∷ 2 ∷ j ∷ 3 ∷ [] → ⊥
not_implications (reason.Unsettled k' j') k j e = apart 4 _ _ e refl
not_implications (reason.Observer k' j' w') k j e = apart 4 _ _ e refl
not_implications (reason.Target k' j' w') k j e = apart 4 _ _ e refl
not_implications _ k j e = unlike _ _ e refl
