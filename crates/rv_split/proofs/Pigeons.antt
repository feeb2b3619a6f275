-- More things than places: two things have one place.
use Rattle.std.proofs.Common.{ℕ, zero, suc, ◌<◌, ◌≤◌, ◌≡◌, ◌⊎◌, inl, inr, sym, ◌∙◌, arith}
use Rattle.std.proofs.lemmas.Bool.{cases_eq}

-- b in the place of a where a is m
picked : (a b m : ℕ) → (a ≡ m) ⊎ (a ≡ m → ⊥) → ℕ
picked a b m (inl e) = b
picked a b m (inr n) = a

picked_less : (a b m : ℕ) (c : (a ≡ m) ⊎ (a ≡ m → ⊥)) → a < suc m → b < suc m → (a ≡ b → ⊥) → picked a b m c < m
unfolding picked
picked_less a b m (inl e) low less apart = let ne : b ≡ m → ⊥ = λ f. apart (e ∙ sym f) in omega (arith, ne)
picked_less a b m (inr n) low less apart = omega (arith, n)

picked_same : (a d b m : ℕ) (c : (a ≡ m) ⊎ (a ≡ m → ⊥)) (e : (d ≡ m) ⊎ (d ≡ m → ⊥)) → (a ≡ b → ⊥) → (d ≡ b → ⊥) → picked a b m c ≡ picked d b m e → a ≡ d
unfolding picked
picked_same a d b m (inl p) (inl q) na nd same = p ∙ sym q
picked_same a d b m (inl p) (inr q) na nd same = absurd (nd (sym same))
picked_same a d b m (inr p) (inl q) na nd same = absurd (na same)
picked_same a d b m (inr p) (inr q) na nd same = same

-- n things with places below m, no two in one place
pub pigeons : (m n : ℕ) (f : ℕ → ℕ) → ((i : ℕ) → i < n → f i < m) → ((i j : ℕ) → i < n → j < n → f i ≡ f j → i ≡ j) → n ≤ m
pigeons m zero f within apart = omega arith
pigeons zero (suc n) f within apart = let low : f 0 < 0 = within 0 (omega arith) in absurd (omega arith)
pigeons (suc m) (suc n) f within apart =
    let last : (i : ℕ) → i < n → f i ≡ f n → ⊥ = λ i lt e. let same : i ≡ n = apart i n (omega arith) (omega arith) e in omega arith in
    let rest : n ≤ m = pigeons m n (λ i. picked (f i) (f n) m (cases_eq (f i) m))
    (λ i lt. picked_less (f i) (f n) m (cases_eq (f i) m) (within i (omega arith)) (within n (omega arith)) (last i lt))
    (λ i j lt less e. apart i j (omega arith) (omega arith)
    (picked_same (f i) (f j) (f n) m (cases_eq (f i) m) (cases_eq (f j) m) (last i lt) (last j less) e)) in
    omega arith
