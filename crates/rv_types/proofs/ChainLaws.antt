-- Chains of clocks end within a number of steps or not at all.
use Rattle.std.proofs.Common.{◌≡◌, ℕ, zero, suc, ◌+◌, ◌-◌, ◌<◌, ◌≤◌, ◌⊎◌, inl, inr, Bool, true, false, cond, List, [], ◌∷◌, length, map, slice_index_or}
use Rattle.std.proofs.Common.{zero-add, add-zero, refl, sym, ap, subst, ◌∙◌, arith}
use Rattle.std.proofs.{lemmas.Bool.cases_lt, Math.Nat.suc-add, Math.Nat.add-suc, Math.ListN.get_or-map}
use Rattle.rv_tree.specs.Tree.{NodeTree}
use Rattle.rv_types.specs.{declared.typed.Clock.Clock, declared.typed.Clock.TheVariants.Base, declared.typed.Clock.TheVariants.On, Clocks.IsGrounded}
use Rattle.rv_types.specs.{Clocks.at_base, Clocks.through, Clocks.ends, Clocks.flow_clocks, Clocks.clock_at, Chains.follow, Chains.after, Chains.is_base}
use Rattle.rv_base.proofs.Truths.{bit_most, bits_within}

-- How many numbers below a bound pass a test.
count : (ℕ → Bool) → ℕ → ℕ
count f zero = 0
count f (suc m) = count f m + cond (f m) 1 0

count_small : (f : ℕ → Bool) (m : ℕ) → count f m ≤ m
unfolding count
count_small f zero = omega arith
count_small f (suc m) = omega (arith, count_small f m, bit_most (f m))

count_same : (f g : ℕ → Bool) (m : ℕ) → ((i : ℕ) → i < m → f i ≡ g i) → count f m ≡ count g m
unfolding count
count_same f g zero same = refl
count_same f g (suc m) same = (λ i. count_same f g m (λ j h. same j (omega arith)) i + cond (same m (omega arith) i) 1 0)

pub no_flag : {X : Type 0} → false ≡ true → X
no_flag e = cc

-- what holds below a number and at it holds below the next
up_to : (f g : ℕ → Bool) (m : ℕ) → ((i : ℕ) → i < m → f i ≡ g i) → f m ≡ g m → (i : ℕ) → i < suc m → f i ≡ g i
up_to f g m same here i h = elim (cases_lt i m) as (λ _. f i ≡ g i) [
  | inl l ↦ same i l
  | inr l ↦ (let e : m ≡ i = omega arith in subst (λ k. f k ≡ g k) e here)
]

-- a test that more numbers pass is the same below the bound, or is passed by more of them
grows : (f g : ℕ → Bool) → ((i : ℕ) → f i ≡ true → g i ≡ true) → (m : ℕ) → ((i : ℕ) → i < m → f i ≡ g i) ⊎ (count f m + 1 ≤ count g m)
unfolding count
grows f g more zero = inl (λ i h. absurd (omega arith))
grows f g more (suc m) = by (grows f g more m)
  where
    here : (b c : Bool) → f m ≡ b → g m ≡ c → ((i : ℕ) → i < m → f i ≡ g i)
        → ((i : ℕ) → i < suc m → f i ≡ g i) ⊎ (count f m + cond b 1 0 + 1 ≤ count g m + cond c 1 0)
    here true true e d same = inl (up_to f g m same (e ∙ sym d))
    here false false e d same = inl (up_to f g m same (e ∙ sym d))
    here true false e d same = absurd (no_flag (sym d ∙ more m e))
    here false true e d same = inr (omega (arith, count_same f g m same))

    by : ((i : ℕ) → i < m → f i ≡ g i) ⊎ (count f m + 1 ≤ count g m) → ((i : ℕ) → i < suc m → f i ≡ g i) ⊎ (count f (suc m) + 1 ≤ count g (suc m))
    by (inl same) = here (f m) (g m) refl refl same
    by (inr less) = inr (omega (arith, less, bits_within (f m) (g m) (more m)))

-- Chains.

pub after_base : (cs : List Clock) (k : ℕ) → after cs k Base ≡ Base
after_base cs zero = refl
after_base cs (suc k) = after_base cs k

pub ends_after : (n : NodeTree) (k : ℕ) (c : Clock) → ends n k c ≡ is_base (after (flow_clocks n) k c)
ends_after n zero Base = refl
ends_after n zero (On i) = refl
ends_after n (suc k) Base = sym (ap is_base (after_base (flow_clocks n) k))
ends_after n (suc k) (On i) = ends_after n k (clock_at n i)

pub after_add : (cs : List Clock) (a b : ℕ) (c : Clock) → after cs (a + b) c ≡ after cs b (after cs a c)
after_add cs zero b c = ap (λ k. after cs k c) (zero-add b)
after_add cs (suc a) b c = ap (λ k. after cs k c) (suc-add a b) ∙ after_add cs a b (follow cs c)

still_base : (cs : List Clock) (k : ℕ) (c : Clock) → is_base (after cs k c) ≡ true → is_base (after cs (suc k) c) ≡ true
still_base cs zero Base h = refl
still_base cs zero (On i) h = no_flag h
still_base cs (suc k) c h = still_base cs k (follow cs c) h

outside : (cs : List Clock) (i : ℕ) → length cs ≤ i → slice_index_or cs i Base ≡ Base
outside [] i h = refl
outside (c ∷ cs) zero h = absurd (omega arith)
outside (c ∷ cs) (suc i) h = outside cs i (omega arith)

abbrev reached : List Clock → ℕ → ℕ → Bool
reached cs k i = is_base (after cs k (On i))

-- one step more changes nothing
abbrev pub Stable : List Clock → ℕ → Type 0
Stable cs k = (c : Clock) → is_base (after cs k c) ≡ is_base (after cs (suc k) c)

-- all flows that are none lead alike
outside_alike : (cs : List Clock) (k i j : ℕ) → length cs ≤ i → length cs ≤ j → is_base (after cs k (On i)) ≡ is_base (after cs k (On j))
outside_alike cs zero i j h l = refl
outside_alike cs (suc k) i j h l = ap (λ c. is_base (after cs k c)) (outside cs i h ∙ sym (outside cs j l))

stable_from : (cs : List Clock) (k : ℕ) → ((i : ℕ) → i < suc (length cs) → reached cs k i ≡ reached cs (suc k) i) → Stable cs k
stable_from cs k same Base = sym (ap is_base (after_base cs (suc k)) ∙ sym (ap is_base (after_base cs k)))
stable_from cs k same (On i) = elim (cases_lt i (suc (length cs))) as (λ _. is_base (after cs k (On i)) ≡ is_base (after cs (suc k) (On i))) [
  | inl h ↦ same i h
  | inr h ↦ (let l : length cs ≤ i = omega arith in
      outside_alike cs k i (length cs) l (omega arith) ∙ same (length cs) (omega arith) ∙ outside_alike cs (suc k) (length cs) i (omega arith) l)
]

stable_next : (cs : List Clock) (k : ℕ) → Stable cs k → Stable cs (suc k)
stable_next cs k stable c = stable (follow cs c)

stable_add : (cs : List Clock) (k d : ℕ) → Stable cs k → Stable cs (k + d)
stable_add cs k zero stable = subst (Stable cs) (sym (add-zero k)) stable
stable_add cs k (suc d) stable = subst (Stable cs) (sym (add-suc k d)) (stable_next cs (k + d) (stable_add cs k d stable))

pub stable_more : (cs : List Clock) (k d : ℕ) → Stable cs k → (c : Clock) → is_base (after cs k c) ≡ is_base (after cs (k + d) c)
stable_more cs k zero stable c = ap (λ m. is_base (after cs m c)) (sym (add-zero k))
stable_more cs k (suc d) stable c = stable_more cs k d stable c ∙ stable_add cs k d stable c ∙ ap (λ m. is_base (after cs m c)) (sym (add-suc k d))

progress : (cs : List Clock) (k : ℕ) → Stable cs k ⊎ (k ≤ count (reached cs k) (suc (length cs)))
progress cs zero = inr (omega arith)
progress cs (suc k) = by (progress cs k)
  where
    by : Stable cs k ⊎ (k ≤ count (reached cs k) (suc (length cs))) → Stable cs (suc k) ⊎ (suc k ≤ count (reached cs (suc k)) (suc (length cs)))
    by (inl stable) = inl (stable_next cs k stable)
    by (inr many) = elim (grows (reached cs k) (reached cs (suc k)) (λ i h. still_base cs k (On i) h) (suc (length cs))) as
        (λ _. Stable cs (suc k) ⊎ (suc k ≤ count (reached cs (suc k)) (suc (length cs))))
        [ inl same ↦ inl (stable_next cs k (stable_from cs k same)) | inr more ↦ inr (omega arith) ]

pub stable_end : (cs : List Clock) → Stable cs (suc (length cs))
stable_end cs =
    let k = suc (length cs) in
    elim (progress cs k) [
      | inl stable ↦ stable
      | inr many ↦ elim (grows (reached cs k) (reached cs (suc k)) (λ i h. still_base cs k (On i) h) k) [
        | inl same ↦ stable_from cs k same
        | inr more ↦ absurd (omega (arith, count_small (reached cs (suc k)) k))
      ]
    ]

pub grounded_ends : (n : NodeTree) (c : Clock) → IsGrounded n c → is_base (after (flow_clocks n) (suc (length (flow_clocks n))) c) ≡ true
grounded_ends n _ at_base = ap is_base (after_base (flow_clocks n) (suc (length (flow_clocks n))))
grounded_ends n _ (through i g) = stable_end (flow_clocks n) (On i) ∙ grounded_ends n (clock_at n i) g

pub ends_grounded : (n : NodeTree) (k : ℕ) (c : Clock) → is_base (after (flow_clocks n) k c) ≡ true → IsGrounded n c
ends_grounded n zero Base h = at_base
ends_grounded n zero (On i) h = no_flag h
ends_grounded n (suc k) Base h = at_base
ends_grounded n (suc k) (On i) h = through i (ends_grounded n k (clock_at n i) h)

-- each flow's clock followed by as many steps again
pub follow_twice : (cs : List Clock) (c : Clock) → follow (map (follow cs) cs) c ≡ follow cs (follow cs c)
follow_twice cs Base = refl
follow_twice cs (On i) = get_or-map (follow cs) cs i Base

pub twice_as_far : (cs js ks : List Clock) (m : ℕ) → ks ≡ map (follow js) js → ((c : Clock) → follow js c ≡ after cs m c) → (c : Clock)
    → follow ks c ≡ after cs (m + m) c
twice_as_far cs js ks m e far c =
    ap (λ l. follow l c) e ∙ follow_twice js c ∙ far (follow js c) ∙ ap (after cs m) (far c) ∙ sym (after_add cs m m c)

pub far_enough : (cs js : List Clock) (m : ℕ) → length cs < m → ((c : Clock) → follow js c ≡ after cs m c) → (c : Clock)
    → is_base (follow js c) ≡ is_base (after cs (suc (length cs)) c)
far_enough cs js m h far c =
    let e : suc (length cs) + (m - suc (length cs)) ≡ m = omega arith in
    ap is_base (far c) ∙ sym (stable_more cs (suc (length cs)) (m - suc (length cs)) (stable_end cs) c ∙ ap (λ k. is_base (after cs k c)) e)
