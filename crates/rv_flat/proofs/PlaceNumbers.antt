-- Places by their numbers, and rows of flows as instants.
use Rattle.std.proofs.Common.{◌≡◌, inl, inr, ℕ, suc, ◌+◌, ◌<◌, ◌↔◌, Bool, true, false, ◌||◌, cond, List, [], ◌∷◌, map, length, get_or, refl, sym, ◌∙◌, ap}
use Rattle.std.proofs.Common.{subst, arith, Option, Some, IsSome, None as Nothing}
use Rattle.std.proofs.lemmas.List.{length-map, get_or-map, get_or_default, get_or_past, same_lists}
use Rattle.std.proofs.{lemmas.Bool.cases_order, lemmas.Cmp.nat_list_cmp_total, lemmas.Cmp.tied_itself}
use Rattle.std.specs.FinMap.{slice_cmp-IsAntisymmetric, nat_cmp-IsAntisymmetric, get-insert, get-empty}
use Rattle.std.specs.{Ordering.is_eq, Ordering.eq_by_cmp, Ordering.nat_cmp, Cmp.Lexicographic.slice_cmp, Cmp.Lexicographic.texts_ties}
use Rattle.std.specs.FinMap as finite
use Rattle.rv_base.specs.declared.value.Value.{Value}
use Rattle.rv_tree.specs.Places.{Sites, is_same, is_among, index_of}
use Rattle.rv_meaning.specs.Runs.{Instant, flat, cell}
use Rattle.rv_flat.specs.{FlatInstants.Row, FlatInstants.nth, FlatOf.row_of, FlatOf.instant_of}
use Rattle.rv_meaning.proofs.Rows.{only_equal}
use Rattle.rv_types.proofs.{Members.among_from, Members.index_there, ChainLaws.no_flag, NamePlaces.index_past}

-- what is made of each of some places, by the number of one of them
pub made_at : {Y : Type 0} (f : Sites → Y) (ps : List Sites) (p : Sites) (d : Y) → is_among ps p ≡ true → get_or (map f ps) (index_of ps p) d ≡ f p
made_at f ps p d e = let r = index_there ps p e in get_or-map f ps (index_of ps p) [] d r.0 ∙ ap f r.1

pub made_past : {Y : Type 0} (f : Sites → Y) (ps : List Sites) (p : Sites) (d : Y) → is_among ps p ≡ false → get_or (map f ps) (index_of ps p) d ≡ d
made_past f ps p d e = let long = length-map ps f in let past = index_past ps p e in get_or_past (map f ps) (index_of ps p) d (omega (arith, long, past))

-- A row of an instant that has no other flows has by its numbers what the instant has by places.
pub row_agrees : (ps : List Sites) (instant : Instant) → ((p : Sites) → is_among ps p ≡ false → cell instant p ≡ Nothing) → (p : Sites)
    → nth (row_of ps instant) (index_of ps p) ≡ cell instant p
row_agrees ps instant none p = by (is_among ps p) refl
  where
    by : (b : Bool) → is_among ps p ≡ b → nth (row_of ps instant) (index_of ps p) ≡ cell instant p
    by true e = made_at (cell instant) ps p Nothing e
    by false e = made_past (cell instant) ps p Nothing e ∙ sym (none p e)

-- what is written at a place is read there, and nothing else is changed
pub read_written : (m : Instant) (p q : Sites) (v : Option Value) → finite.get (finite.insert m p v) q ≡ cond (is_same p q) (Some v) (finite.get m q)
read_written m p q v = get-insert nat_list_cmp_total m p v q ∙ ap (λ b. cond b (Some v) (finite.get m q)) (ties ∙ sym (texts_ties p q))
  where
    one_way : (b c : Bool) → (b ≡ true → c ≡ true) → (c ≡ true → b ≡ true) → b ≡ c
    one_way true c f g = sym (f refl)
    one_way false true f g = g refl
    one_way false false f g = refl

    tie : (p q : Sites) → eq_by_cmp (slice_cmp nat_cmp) q p ≡ true → eq_by_cmp (slice_cmp nat_cmp) p q ≡ true
    tie p q e = ap (λ z. eq_by_cmp (slice_cmp nat_cmp) p z) (slice_cmp-IsAntisymmetric nat_cmp-IsAntisymmetric q p (only_equal (slice_cmp nat_cmp q p) e))
        ∙ ap is_eq (tied_itself nat_list_cmp_total p)

    ties : eq_by_cmp (slice_cmp nat_cmp) q p ≡ eq_by_cmp (slice_cmp nat_cmp) p q
    ties = one_way _ _ (tie p q) (tie q p)

-- The instant of a row has by places what the row has by numbers, and nothing else.
pub instant_agrees : (ps : List Sites) (row : Row) → length row ≡ length ps → (p : Sites) → nth row (index_of ps p) ≡ cell (instant_of ps row) p
instant_agrees [] [] long p = sym (ap flat (get-empty (slice_cmp nat_cmp) p))
instant_agrees [] (x ∷ row) long p = absurd (omega (arith, long))
instant_agrees (q ∷ ps) [] long p = absurd (omega (arith, long))
instant_agrees (q ∷ ps) (x ∷ row) long p =
    tested (is_same q p) (instant_agrees ps row (omega (arith, long)) p) ∙ sym (ap flat (read_written (instant_of ps row) q p x))
  where
    tested : (b : Bool) → nth row (index_of ps p) ≡ cell (instant_of ps row) p
        → nth (x ∷ row) (cond b 0 (index_of ps p + 1)) ≡ flat (cond b (Some x) (finite.get (instant_of ps row) p))
    tested true again = refl
    tested false again = (let next : index_of ps p + 1 ≡ suc (index_of ps p) = omega arith in ap (nth (x ∷ row)) next) ∙ again

pub instant_places : (ps : List Sites) (row : Row) → length row ≡ length ps → (p : Sites) → IsSome (finite.get (instant_of ps row) p) ↔ (is_among ps p ≡ true)
instant_places [] [] long p = (λ h. no_flag (subst IsSome (get-empty (slice_cmp nat_cmp) p) h), λ h. no_flag h)
instant_places [] (x ∷ row) long p = absurd (omega (arith, long))
instant_places (q ∷ ps) [] long p = absurd (omega (arith, long))
instant_places (q ∷ ps) (x ∷ row) long p = tested (is_same q p) (finite.get (instant_of (q ∷ ps) (x ∷ row)) p) (read_written (instant_of ps row) q p x)
    (instant_places ps row (omega (arith, long)) p)
  where
    tested : (b : Bool) (o : Option (Option Value)) → o ≡ cond b (Some x) (finite.get (instant_of ps row) p)
        → (IsSome (finite.get (instant_of ps row) p) ↔ (is_among ps p ≡ true)) → IsSome o ↔ ((b || is_among ps p) ≡ true)
    tested true o is again = (λ h. refl, λ h. subst IsSome (sym is) refl)
    tested false o is again = (λ h. again.0 (subst IsSome is h), λ h. subst IsSome (sym is) (again.1 h))

-- the number of a place that stands once
pub its_number : (ps : List Sites) → ((j k : ℕ) → j < k → k < length ps → get_or ps j [] ≡ get_or ps k [] → ⊥) → (k : ℕ) → k < length ps
    → index_of ps (get_or ps k []) ≡ k
its_number ps once k lt =
    let p : Sites = get_or ps k [] in
    let r = index_there ps p (among_from ps p (k, lt, get_or_default ps k p [] lt)) in
    elim (cases_order (index_of ps p) k) [
      | inl same ↦ same
      | inr other ↦ absurd (elim other [ inl less ↦ once (index_of ps p) k less lt r.1 | inr more ↦ once k (index_of ps p) more r.0 (sym r.1) ])
    ]

-- Where each place stands once, the row of that instant is the row again.
pub row_again : (ps : List Sites) (row : Row) → ((j k : ℕ) → j < k → k < length ps → get_or ps j [] ≡ get_or ps k [] → ⊥) → length row ≡ length ps
    → row_of ps (instant_of ps row) ≡ row
row_again ps row once long = same_lists (row_of ps (instant_of ps row)) row (length-map ps (cell (instant_of ps row)) ∙ sym long) each
  where
    each : (k : ℕ) (d : Option Value) → k < length (row_of ps (instant_of ps row)) → get_or (row_of ps (instant_of ps row)) k d ≡ get_or row k d
    each k d lt =
        let many = length-map ps (cell (instant_of ps row)) in
        let less : k < length ps = omega (arith, lt, many) in
        get_or-map (cell (instant_of ps row)) ps k [] d less
        ∙ sym (instant_agrees ps row long (get_or ps k []))
        ∙ ap (nth row) (its_number ps once k less)
        ∙ get_or_default row k Nothing d (omega (arith, less, long))
