-- Limits that are loosened, one after the other.
use Rattle.std.proofs.Common.{◌≡◌, ◌≢◌, ℕ, suc, ◌+◌, ◌^◌, ◌<◌, ◌≤◌, ℤ, pos, ◌-ℤ◌, ◌≤ℤ◌, Bool, true, false, ◌||◌, List, [], ◌∷◌, ◌++◌, length, All, Option, Some}
use Rattle.std.proofs.Common.{arith, refl, sym, ap, ◌∙◌, subst, ◌⊎◌, inl, inr, None as Nothing}
use Rattle.std.proofs.lemmas.List.{length_push, get_or_push, get_or_append_left, get_or_past}
use Rattle.std.proofs.{lemmas.Int.ints, lemmas.Bool.cases_lt, lemmas.Option.none-some, lemmas.List.Elements.All-contains}
use Rattle.std.specs.{Prelude.MatchBool, List.Contains, Int.RustNames.unsigned_abs}
use Rattle.rv_rows.specs.{declared.linear.Row.Row, Rows.row_at}
use Rattle.rv_ends.specs.Risen.{IsRisen}
use Rattle.rv_rise.specs.Limits.{limit_at, AreRisen, AreAmong, HasChanged, room_of, room}

-- room
pub room_nothing : room_of Nothing ≡ 0
unfolding room_of
room_nothing = refl

pub room_some : (b : ℤ) → room_of (Some b) ≡ suc (unsigned_abs (pos (2 ^ 42) -ℤ b))
unfolding room_of
room_some b = refl

room_push : (os : List (Option ℤ)) (o : Option ℤ) → room (os ++ o ∷ []) ≡ room os + room_of o
unfolding room
room_push [] o = omega arith
room_push (x ∷ os) o = omega (arith, room_push os o)

-- A risen limit leaves less room, or is as before.
pub risen_room : (thresholds : List ℤ) (Holds : ℤ → Type 0) (old new : Option ℤ) → All (λ t. unsigned_abs t ≤ 2 ^ 41) thresholds
    → IsRisen thresholds Holds old new → (new ≡ old) ⊎ (room_of new < room_of old)
risen_room thresholds Holds Nothing Nothing small is = inl refl
risen_room thresholds Holds (Some a) Nothing small is = inr (omega (arith, room_nothing, room_some a))
risen_room thresholds Holds old (Some b) small is = go (is.rises b refl) (is.among b refl)
  where
    met : (a b : ℤ) → a ≤ℤ b → unsigned_abs b ≤ 2 ^ 41 → unsigned_abs (pos (2 ^ 42) -ℤ a) ≤ unsigned_abs (pos (2 ^ 42) -ℤ b) → a ≡ b
    met a b l m n = omega (arith, ints)

    rise : (a : ℤ) → old ≡ Some a → a ≤ℤ b → unsigned_abs b ≤ 2 ^ 41
        → (unsigned_abs (pos (2 ^ 42) -ℤ b) < unsigned_abs (pos (2 ^ 42) -ℤ a)) ⊎ (unsigned_abs (pos (2 ^ 42) -ℤ a) ≤ unsigned_abs (pos (2 ^ 42) -ℤ b))
        → (Some b ≡ old) ⊎ (room_of (Some b) < room_of old)
    rise a e l m (inl less) = inr (subst (λ (o : Option ℤ). room_of (Some b) < room_of o) (sym e) (omega (arith, less, room_some b, room_some a)))
    rise a e l m (inr more) = inl (ap Some (sym (met a b l m more)) ∙ sym e)

    go : (a : ℤ) × (old ≡ Some a) × (a ≤ℤ b) → (old ≡ Some b) ⊎ Contains thresholds b → (Some b ≡ old) ⊎ (room_of (Some b) < room_of old)
    go (a, e, l) (inl same) = inl (sym same)
    go (a, e, l) (inr has) = rise a e l (All-contains (λ (t : ℤ). unsigned_abs t ≤ 2 ^ 41) thresholds b small has)
        (cases_lt (unsigned_abs (pos (2 ^ 42) -ℤ b)) (unsigned_abs (pos (2 ^ 42) -ℤ a)))

pub changed_le : (b : Bool) (old new : List (Option ℤ)) → HasChanged b old new → room new ≤ room old
changed_le true old new h = omega (arith, h)
changed_le false old new h = let e : room new ≡ room old = ap room h in omega (arith, e)

-- one limit more, changed or not
pub changed_more : (a b : Bool) (olds news : List (Option ℤ)) (old new : Option ℤ) → HasChanged a olds news
    → (new ≡ old) ⊎ (room_of new < room_of old) → (b ≡ true → new ≢ old) → (b ≡ false → new ≡ old) → HasChanged (a || b) (olds ++ old ∷ []) (news ++ new ∷ [])
changed_more true b olds news old new h (inl e) t u = omega (arith, h, room_push olds old, room_push news new, ap room_of e)
changed_more true b olds news old new h (inr l) t u = omega (arith, h, l, room_push olds old, room_push news new)
changed_more false true olds news old new h (inl e) t u = absurd (t refl e)
changed_more false true olds news old new h (inr l) t u = omega (arith, ap room h, l, room_push olds old, room_push news new)
changed_more false false olds news old new h s t u = ap (λ (os : List (Option ℤ)). os ++ new ∷ []) h ∙ ap (λ (o : Option ℤ). olds ++ o ∷ []) (u refl)

-- one limit more
pub risen_more : (thresholds : List ℤ) (Holds : List ℤ → ℤ → Type 0) (sides : List Row) (n : ℕ) (old news : List (Option ℤ)) (o new : Option ℤ) (r : Row)
    → AreRisen thresholds Holds sides n old news → limit_at old n ≡ o → row_at sides n ≡ r → IsRisen thresholds (Holds r.coefficients) o new
    → AreRisen thresholds Holds sides (n + 1) old (news ++ new ∷ [])
risen_more thresholds Holds sides n old news o new r are is is_side here = record {
  size = let s = are.size in omega (arith, s, length_push news new);
  each = λ k l. go k l (cases_lt k n);
}
  where
    go : (k : ℕ) → k < n + 1 → (k < n) ⊎ (n ≤ k)
        → IsRisen thresholds (Holds (row_at sides k).coefficients) (limit_at old k) (limit_at (news ++ new ∷ []) k)
    go k l (inl m) =
        let s = are.size in
        subst (IsRisen thresholds (Holds (row_at sides k).coefficients) (limit_at old k))
        (sym (get_or_append_left news (new ∷ []) Nothing k (omega (arith, m, s)))) (are.each k m)
    go k l (inr m) =
        let e : k ≡ n = omega (arith, l, m) in
        let s = are.size in
        subst (λ (x : Option ℤ). IsRisen thresholds (Holds (row_at sides k).coefficients) (limit_at old k) x)
        (sym (get_or_push news new Nothing k (s ∙ sym e)))
        (subst (λ (x : Option ℤ). IsRisen thresholds (Holds (row_at sides k).coefficients) x new) (sym (ap (limit_at old) e ∙ is))
        (subst (λ (x : Row). IsRisen thresholds (Holds x.coefficients) o new) (sym (ap (row_at sides) e ∙ is_side)) here))

-- a limit that is not there
pub risen_none : (thresholds : List ℤ) (Holds : ℤ → Type 0) → IsRisen thresholds Holds Nothing Nothing
risen_none thresholds Holds = record {
  held = λ b e. absurd (none-some b e);
  rises = λ b e. absurd (none-some b e);
  among = λ b e. absurd (none-some b e);
  least = λ a b e l has holds. absurd (none-some a e);
}

-- what is asked, in other words
pub risen_as : (thresholds : List ℤ) (P Q : ℤ → Type 0) (old new : Option ℤ) → ((z : ℤ) → P z → Q z) → ((z : ℤ) → Q z → P z) → IsRisen thresholds P old new
    → IsRisen thresholds Q old new
risen_as thresholds P Q old new to from r = record {
  held = λ b e. to b (r.held b e);
  rises = r.rises;
  among = r.among;
  least = λ a b e l has holds. r.least a b e l has (from b holds);
}

-- risen limits stay among the thresholds
pub risen_among : (thresholds : List ℤ) (Holds : List ℤ → ℤ → Type 0) (sides : List Row) (old new : List (Option ℤ))
    → AreRisen thresholds Holds sides (length old) old new → AreAmong thresholds old → AreAmong thresholds new
risen_among thresholds Holds sides old new are among k b at = go (cases_lt k (length old))
  where
    by : (limit_at old k ≡ Some b) ⊎ Contains thresholds b → Contains thresholds b
    by (inl e) = among k b e
    by (inr known) = known

    go : (k < length old) ⊎ (length old ≤ k) → Contains thresholds b
    go (inl l) = let x = are.each k l in by (x.among b at)
    go (inr m) = absurd (none-some b (sym (get_or_past new k Nothing (let size = are.size in omega (arith, size, m))) ∙ at))

pub match_true : (b : Bool) (P Q : Type 0) → MatchBool b P Q → b ≡ true → P
match_true true P Q h e = h
match_true false P Q h e = cc

pub match_false : (b : Bool) (P Q : Type 0) → MatchBool b P Q → b ≡ false → Q
match_false true P Q h e = cc
match_false false P Q h e = h
