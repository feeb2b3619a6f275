-- The sites of the memories of a node are those of its delays, each once and in rising order.
use Rattle.std.proofs.Common.{◌≡◌, ◌⊎◌, inl, inr, ℕ, zero, suc, ◌<◌, ◌≤◌, Bool, true, false, cond, List, [], ◌∷◌, length, get_or, refl, sym, ◌∙◌, ap, subst}
use Rattle.std.proofs.Common.{arith}
use Rattle.std.proofs.{lemmas.Bool.ltb-true, lemmas.Bool.ltb-false, lemmas.List.length-map, lemmas.List.get_or-map}
use Rattle.std.specs.{Prelude.nat_eq, Prelude.nat_lt, List.Contains}
use Rattle.rv_tree.specs.Delays.{Delay, node_delays, placed, gathered, delay_sites, memory_sites}
use Rattle.rv_tree.specs.{Tree.NodeTree, Places.memory_site}

-- each of these numbers is above s
abbrev AreAbove : ℕ → List ℕ → Type 0
AreAbove s [] = Unit {0}
AreAbove s (x ∷ xs) = (s < x) × AreAbove s xs

-- each number is below those after it
abbrev AreRising : List ℕ → Type 0
AreRising [] = Unit {0}
AreRising (x ∷ xs) = AreAbove x xs × AreRising xs

above_less : (s t : ℕ) (xs : List ℕ) → s < t → AreAbove t xs → AreAbove s xs
above_less s t [] lt above = tt
above_less s t (x ∷ xs) lt above = (omega (arith, above.0), above_less s t xs lt above.1)

above_at : (s : ℕ) (xs : List ℕ) (k : ℕ) → AreAbove s xs → k < length xs → s < get_or xs k 0
above_at s [] k above lt = absurd (omega arith)
above_at s (x ∷ xs) zero above lt = above.0
above_at s (x ∷ xs) (suc k) above lt = above_at s xs k above.1 (omega arith)

above_placed : (s t : ℕ) (xs : List ℕ) → s < t → AreAbove s xs → AreAbove s (placed t xs)
above_placed s t [] lt above = (lt, tt)
above_placed s t (x ∷ xs) lt above = tested (nat_eq t x) (nat_lt t x) (above_placed s t xs lt above.1)
  where
    tested : (same less : Bool) → AreAbove s (placed t xs) → AreAbove s (cond same (x ∷ xs) (cond less (t ∷ x ∷ xs) (x ∷ placed t xs)))
    tested true less later = above
    tested false true later = (lt, above)
    tested false false later = (above.0, later)

different : (t x : ℕ) → nat_eq t x ≡ false → t ≡ x → ⊥
different t x e is = grind arith

rising_placed : (t : ℕ) (xs : List ℕ) → AreRising xs → AreRising (placed t xs)
rising_placed t [] rising = (tt, tt)
rising_placed t (x ∷ xs) rising = tested (nat_eq t x) (nat_lt t x) refl refl (rising_placed t xs rising.1)
  where
    tested : (same less : Bool) → nat_eq t x ≡ same → nat_lt t x ≡ less → AreRising (placed t xs)
        → AreRising (cond same (x ∷ xs) (cond less (t ∷ x ∷ xs) (x ∷ placed t xs)))
    tested true less e l later = rising
    tested false true e l later = let lt : t < x = ltb-true t x l in ((lt, above_less t x xs lt rising.0), rising)
    tested false false e l later =
        let le : x ≤ t = ltb-false t x l in
        let apart : t ≡ x → ⊥ = different t x e in
        (above_placed x t xs (omega (arith, le, apart)) rising.0, later)

rising_gathered : (xs ss : List ℕ) → AreRising xs → AreRising (gathered xs ss)
rising_gathered xs [] rising = rising
rising_gathered xs (s ∷ ss) rising = rising_gathered (placed s xs) ss (rising_placed s xs rising)

-- a number is below each that stands after it
rising_at : (xs : List ℕ) → AreRising xs → (j k : ℕ) → j < k → k < length xs → get_or xs j 0 < get_or xs k 0
rising_at [] rising j k less lt = absurd (omega arith)
rising_at (x ∷ xs) rising j zero less lt = absurd (omega arith)
rising_at (x ∷ xs) rising zero (suc k) less lt = above_at x xs k rising.0 (omega arith)
rising_at (x ∷ xs) rising (suc j) (suc k) less lt = rising_at xs rising.1 j k (omega arith) (omega arith)

-- the sites of the memories of a node rise
pub rising_sites : (n : NodeTree) (j k : ℕ) → j < k → k < length (memory_sites n) → get_or (memory_sites n) j 0 < get_or (memory_sites n) k 0
rising_sites n = rising_at (memory_sites n) (rising_gathered [] (delay_sites n (node_delays n)) tt)

-- what is in a list is in a longer one
in_tail : (x : ℕ) (xs : List ℕ) (t : ℕ) → Contains xs t → Contains (x ∷ xs) t
in_tail x xs t w = (suc w.0, omega (arith, w.1), w.2)

at_head : (x : ℕ) (xs : List ℕ) (t : ℕ) → x ≡ t → Contains (x ∷ xs) t
at_head x xs t e = (0, omega arith, e)

-- what a test of two numbers says
alike : (a b : ℕ) → nat_eq a b ≡ true → a ≡ b
alike a b e = grind arith

-- a number is among those into which it was put
placed_there : (s : ℕ) (xs : List ℕ) → Contains (placed s xs) s
placed_there s [] = at_head s [] s refl
placed_there s (x ∷ xs) = tested (nat_eq s x) refl (nat_lt s x) (placed_there s xs)
  where
    tested : (b : Bool) → nat_eq s x ≡ b → (c : Bool) → Contains (placed s xs) s → Contains (cond b (x ∷ xs) (cond c (s ∷ x ∷ xs) (x ∷ placed s xs))) s
    tested true e c later = at_head x xs s (sym (alike s x e))
    tested false e true later = at_head s (x ∷ xs) s refl
    tested false e false later = in_tail x (placed s xs) s later

-- with those that were there
placed_keeps : (s : ℕ) (xs : List ℕ) (t : ℕ) → Contains xs t → Contains (placed s xs) t
placed_keeps s [] t w = absurd (let lt = w.1 in omega (arith, lt))
placed_keeps s (x ∷ xs) t w = tested (nat_eq s x) (nat_lt s x) w.0 w.1 w.2 (placed_keeps s xs t)
  where
    tested : (b c : Bool) (k : ℕ) → k < length (x ∷ xs) → get_or (x ∷ xs) k t ≡ t → (Contains xs t → Contains (placed s xs) t)
        → Contains (cond b (x ∷ xs) (cond c (s ∷ x ∷ xs) (x ∷ placed s xs))) t
    tested true c k lt is again = (k, lt, is)
    tested false true k lt is again = in_tail s (x ∷ xs) t (k, lt, is)
    tested false false zero lt is again = at_head x (placed s xs) t is
    tested false false (suc k) lt is again = in_tail x (placed s xs) t (again (k, omega arith, is))

-- so it is with many
gathered_keeps : (xs ss : List ℕ) (t : ℕ) → Contains xs t → Contains (gathered xs ss) t
gathered_keeps xs [] t w = w
gathered_keeps xs (s ∷ ss) t w = gathered_keeps (placed s xs) ss t (placed_keeps s xs t w)

gathered_there : (xs ss : List ℕ) (t : ℕ) → Contains ss t → Contains (gathered xs ss) t
gathered_there xs [] t w = absurd (let lt = w.1 in omega (arith, lt))
gathered_there xs (s ∷ ss) t w = at w.0 w.1 w.2 (gathered_there (placed s xs) ss t)
  where
    at : (k : ℕ) → k < length (s ∷ ss) → get_or (s ∷ ss) k t ≡ t → (Contains ss t → Contains (gathered (placed s xs) ss) t)
        → Contains (gathered (placed s xs) ss) t
    at zero lt is again = gathered_keeps (placed s xs) ss t (subst (Contains (placed s xs)) is (placed_there s xs))
    at (suc k) lt is again = again (k, omega arith, is)

-- the site of the memory of each delay is among those of the node
pub site_kept : (n : NodeTree) (d : Delay) → Contains (node_delays n) d → Contains (memory_sites n) (memory_site n d.site d.operand)
site_kept n d w =
    let site : Delay → ℕ = λ d. memory_site n d.site d.operand in
    gathered_there [] (delay_sites n (node_delays n)) (site d) (
      w.0,
      omega (arith, w.1, length-map (node_delays n) site),
      get_or-map site (node_delays n) w.0 d (site d) w.1 ∙ ap site w.2,
    )

-- and nothing else is: a number that was put, or one that was there
placed_only : (s : ℕ) (xs : List ℕ) (t : ℕ) → Contains (placed s xs) t → (s ≡ t) ⊎ Contains xs t
placed_only s [] t w = inl (one w.0 w.1 w.2)
  where
    one : (k : ℕ) → k < length (s ∷ []) → get_or (s ∷ []) k t ≡ t → s ≡ t
    one zero lt is = is
    one (suc k) lt is = absurd (omega arith)
placed_only s (x ∷ xs) t w = tested (nat_eq s x) (nat_lt s x) (placed_only s xs t) w
  where
    kept : (s ≡ t) ⊎ Contains xs t → (s ≡ t) ⊎ Contains (x ∷ xs) t
    kept (inl is) = inl is
    kept (inr there) = inr (in_tail x xs t there)

    later : (Contains (placed s xs) t → (s ≡ t) ⊎ Contains xs t) → (k : ℕ) → k < length (x ∷ placed s xs) → get_or (x ∷ placed s xs) k t ≡ t
        → (s ≡ t) ⊎ Contains (x ∷ xs) t
    later again zero lt is = inr (at_head x xs t is)
    later again (suc k) lt is = kept (again (k, omega arith, is))

    first : (k : ℕ) → k < length (s ∷ x ∷ xs) → get_or (s ∷ x ∷ xs) k t ≡ t → (s ≡ t) ⊎ Contains (x ∷ xs) t
    first zero lt is = inl is
    first (suc k) lt is = inr (k, omega arith, is)

    tested : (same less : Bool) → (Contains (placed s xs) t → (s ≡ t) ⊎ Contains xs t)
        → Contains (cond same (x ∷ xs) (cond less (s ∷ x ∷ xs) (x ∷ placed s xs))) t → (s ≡ t) ⊎ Contains (x ∷ xs) t
    tested true less again w = inr w
    tested false true again w = first w.0 w.1 w.2
    tested false false again w = later again w.0 w.1 w.2

gathered_only : (xs ss : List ℕ) (t : ℕ) → Contains (gathered xs ss) t → Contains xs t ⊎ Contains ss t
gathered_only xs [] t w = inl w
gathered_only xs (s ∷ ss) t w = cases (gathered_only (placed s xs) ss t w)
  where
    parted : (s ≡ t) ⊎ Contains xs t → Contains xs t ⊎ Contains (s ∷ ss) t
    parted (inl is) = inr (at_head s ss t is)
    parted (inr there) = inl there

    cases : Contains (placed s xs) t ⊎ Contains ss t → Contains xs t ⊎ Contains (s ∷ ss) t
    cases (inl there) = parted (placed_only s xs t there)
    cases (inr later) = inr (in_tail s ss t later)

-- each of these sites is that of a delay of the node
pub site_only : (n : NodeTree) (s : ℕ) → Contains (memory_sites n) s → (d : Delay) × Contains (node_delays n) d × (memory_site n d.site d.operand ≡ s)
site_only n s w = cases (gathered_only [] (delay_sites n (node_delays n)) s w)
  where
    of_delay : (ds : List Delay) → Contains (delay_sites n ds) s → (d : Delay) × Contains ds d × (memory_site n d.site d.operand ≡ s)
    of_delay [] w = absurd (let lt = w.1 in omega (arith, lt))
    of_delay (d ∷ ds) w = at w.0 w.1 w.2 (of_delay ds)
      where
        at : (k : ℕ) → k < length (delay_sites n (d ∷ ds)) → get_or (delay_sites n (d ∷ ds)) k s ≡ s
            → (Contains (delay_sites n ds) s → (e : Delay) × Contains ds e × (memory_site n e.site e.operand ≡ s))
            → (e : Delay) × Contains (d ∷ ds) e × (memory_site n e.site e.operand ≡ s)
        at zero lt is again = (d, (0, omega arith, refl), is)
        at (suc k) lt is again = let r = again (k, omega arith, is) in (r.0, (suc r.1.0, omega (arith, r.1.1), r.1.2), r.2)

    cases : Contains [] s ⊎ Contains (delay_sites n (node_delays n)) s → (d : Delay) × Contains (node_delays n) d × (memory_site n d.site d.operand ≡ s)
    cases (inl none) = absurd (let lt = none.1 in omega (arith, lt))
    cases (inr there) = of_delay (node_delays n) there
