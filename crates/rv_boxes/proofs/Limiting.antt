-- Rows of limits, and how much room limits leave.
use Rattle.std.proofs.Common.{◌≡◌, ◌≢◌, ℕ, suc, ◌+◌, ◌^◌, ◌<◌, ◌≤◌, ℤ, pos, negsuc, ◌-ℤ◌, ◌*ℤ◌, Bool, true, false, ◌||◌, List, [], ◌∷◌, ◌++◌}
use Rattle.std.proofs.Common.{length, Option, Some, arith, refl, sym, ap, ◌∙◌, subst, ◌⊎◌, inl, inr, None as Nothing}
use Rattle.std.proofs.lemmas.List.{length_push, get_or_push, get_or_append_left}
use Rattle.std.proofs.{lemmas.Int.ints, lemmas.Bool.cases_lt, lemmas.Option.same_Some, lemmas.List.Elements.All-from_get_or}
use Rattle.std.specs.{Int.RustNames.unsigned_abs, Prelude.MatchBool}
use Rattle.rv_rows.specs.Forms.{number, FormWithin, IsMultiple}
use Rattle.rv_rows.specs.{declared.linear.Row.Row, declared.linear.Form.Form, Rows.row_at}
use Rattle.rv_boxes.specs.Bounding.{IsLimitRow, AreLimitRows, IsNoted}
use Rattle.rv_boxes.specs.Limits.{limit_at, HasChanged, room_of, room}
use Rattle.rv_boxes.specs.{Built.nothing}
use Rattle.rv_proofs.specs.{Boxes.IsUnitAt}

-- the row of one memory's limit more
pub limit_noted : (limits : List (Option ℤ)) (memories : ℕ) (sign : ℤ) (n : ℕ) (old new : List Row) → n < memories → AreLimitRows limits memories sign n old
    → (o : Option ℤ) → limit_at limits n ≡ o → IsNoted memories n sign o old new → AreLimitRows limits memories sign (n + 1) new
limit_noted limits memories sign n old new known are Nothing is same = record {
  each = λ p l. subst (λ (rs : List Row). IsLimitRow limits memories sign (row_at rs p)) (sym same) (are.each p (omega (arith, l, ap length same)));
  some = λ k b l at. go k b at l (cases_lt k n);
  few = let f = are.few in omega (arith, f, ap length same);
}
  where
    clash : (b : ℤ) → Some b ≡ Nothing → ⊥
    clash b e = cc

    go : (k : ℕ) (b : ℤ) → limit_at limits k ≡ Some b → k < n + 1 → (k < n) ⊎ (n ≤ k) → (p : ℕ) × (p < length new) × IsUnitAt (row_at new p) k sign
        × ((row_at new p).bound ≡ b)
    go k b at inside (inl l) = subst (λ (rs : List Row). (p : ℕ) × (p < length rs) × IsUnitAt (row_at rs p) k sign
        × ((row_at rs p).bound ≡ b)) (sym same) (are.some k b l at)
    go k b at inside (inr m) = let e : k ≡ n = omega (arith, m, inside) in absurd (clash b (sym at ∙ ap (limit_at limits) e ∙ is))
limit_noted limits memories sign n old new known are (Some a) is (r, grown, unit, bound, width) = record {
  each = λ p l. each p (cases_lt p (length old)) l;
  some = λ k b l at. go k b at (cases_lt k n) l;
  few = let f = are.few in omega (arith, f, ap length grown, length_push old r);
}
  where
    before : (p : ℕ) → p < length old → row_at new p ≡ row_at old p
    before p l = ap (λ (rs : List Row). row_at rs p) grown ∙ get_or_append_left old (r ∷ []) nothing p l

    last : row_at new (length old) ≡ r
    last = ap (λ (rs : List Row). row_at rs (length old)) grown ∙ get_or_push old r nothing (length old) refl

    here : IsLimitRow limits memories sign r
    here = record { memory = n; known = known; unit = unit; limit = is ∙ ap Some (sym bound); width = width }

    each : (p : ℕ) → (p < length old) ⊎ (length old ≤ p) → p < length new → IsLimitRow limits memories sign (row_at new p)
    each p (inl l) inside = subst (IsLimitRow limits memories sign) (sym (before p l)) (are.each p l)
    each p (inr m) inside =
        let e : p ≡ length old = omega (arith, m, inside, ap length grown, length_push old r) in
        subst (IsLimitRow limits memories sign) (sym (ap (row_at new) e ∙ last)) here

    go : (k : ℕ) (b : ℤ) → limit_at limits k ≡ Some b → (k < n) ⊎ (n ≤ k) → k < n + 1 → (p : ℕ) × (p < length new) × IsUnitAt (row_at new p) k sign
        × ((row_at new p).bound ≡ b)
    go k b at (inl l) inside =
        let (p, q, u, e) = are.some k b l at in (
          p,
          omega (arith, q, ap length grown, length_push old r),
          subst (λ (x : Row). IsUnitAt x k sign) (sym (before p q)) u,
          ap
              (λ (x : Row). x.bound) (before p q) ∙ e,
        )
    go k b at (inr m) inside =
        let e : k ≡ n = omega (arith, m, inside) in (
          length old,
          omega (arith, ap length grown, length_push old r),
          subst (λ (j : ℕ). IsUnitAt (row_at new (length old)) j sign) (sym e) (subst (λ (x : Row). IsUnitAt x n sign) (sym last) unit),
          ap (λ (x : Row). x.bound) last ∙ bound ∙ same_Some a b (sym is ∙ ap (limit_at limits) (sym e) ∙ at),
        )

-- room
pub room_nothing : room_of Nothing ≡ 0
unfolding room_of
room_nothing = refl

pub room_some : (b : ℤ) → room_of (Some b) ≡ suc (unsigned_abs (pos (2 ^ 42) -ℤ b))
unfolding room_of
room_some b = refl

room_push : (os : List (Option ℤ)) (o : Option ℤ) → room (os ++ o ∷ []) ≡ room os + room_of o
unfolding room
room_push [] o = omega arith
room_push (x ∷ os) o = omega (arith, room_push os o)

pub changed_le : (b : Bool) (old new : List (Option ℤ)) → HasChanged b old new → room new ≤ room old
changed_le true old new h = omega (arith, h)
changed_le false old new h = let e : room new ≡ room old = ap room h in omega (arith, e)

-- one limit more, changed or not
pub changed_more : (a b : Bool) (olds news : List (Option ℤ)) (old new : Option ℤ) → HasChanged a olds news
    → (new ≡ old) ⊎ (room_of new < room_of old) → (b ≡ true → new ≢ old) → (b ≡ false → new ≡ old) → HasChanged (a || b) (olds ++ old ∷ []) (news ++ new ∷ [])
changed_more true b olds news old new h (inl e) t u = omega (arith, h, room_push olds old, room_push news new, ap room_of e)
changed_more true b olds news old new h (inr l) t u = omega (arith, h, l, room_push olds old, room_push news new)
changed_more false true olds news old new h (inl e) t u = absurd (t refl e)
changed_more false true olds news old new h (inr l) t u = omega (arith, ap room h, l, room_push olds old, room_push news new)
changed_more false false olds news old new h s t u = ap (λ (os : List (Option ℤ)). os ++ new ∷ []) h ∙ ap (λ (o : Option ℤ). olds ++ o ∷ []) (u refl)

-- the opposite of a form is within the same numbers
pub multiple_within : (f g : Form) → IsMultiple (negsuc 0) f g → FormWithin (2 ^ 41) f → FormWithin (2 ^ 41) g
multiple_within f g m h = (
  All-from_get_or (λ (z : ℤ). unsigned_abs z ≤ 2 ^ 41) g.coefficients (pos 0) (λ k l.
      let w = m.width in flip (number k f.coefficients) (number k g.coefficients) (m.coefficients k) (h.0 k (pos 0) (omega (arith, l, w)))),
  flip f.constant g.constant m.constant h.1,
)
  where
    flip : (x y : ℤ) → y ≡ negsuc 0 *ℤ x → unsigned_abs x ≤ 2 ^ 41 → unsigned_abs y ≤ 2 ^ 41
    flip x y e l = omega (arith, ints)

pub match_true : (b : Bool) (P Q : Type 0) → MatchBool b P Q → b ≡ true → P
match_true true P Q h e = h
match_true false P Q h e = cc

pub match_false : (b : Bool) (P Q : Type 0) → MatchBool b P Q → b ≡ false → Q
match_false true P Q h e = cc
match_false false P Q h e = h
