-- Boxes of ends, column by column.
use Rattle.std.proofs.Common.{◌≡◌, ◌≢◌, ◌⊎◌, ◌↔◌, ◌<◌, ◌^◌, ◌∙◌, ℕ, zero, suc, ℤ, List, [], ◌∷◌, length, set, Some, slice_get, ap, sym, subst}
use Rattle.std.proofs.Common.{refl, arith, inl, inr}
use Rattle.std.proofs.lemmas.List.{length-map, length-set}
use Rattle.std.proofs.lemmas.Option.{same_Some, none-some, slice_get_within}
use Rattle.std.proofs.lemmas.Bool.{cases_eq}
use Rattle.rv_base.proofs.Lists.{item_at}
use Rattle.rv_diagram.specs.{declared.Triple.Triple, Nodes.Valuation, Nodes.Diagrams}
use Rattle.rv_diagram.specs.Growing.{Extends}
use Rattle.rv_rows.specs.Forms.{number}
use Rattle.rv_ends.specs.declared.ends.Ends.{Ends}
use Rattle.rv_ends.specs.Intervals.{Interval, IsInside, IsWithin, interval_at}
use Rattle.rv_ends.specs.Sides.{IsSide, interval_of, box_at, AreEnds}
use Rattle.rv_ends.specs.Cuts.{IsCut, AreCut, IsFree}
use Rattle.rv_ends.proofs.{Sided.side_within, Stays.side_later, Stays.interval_later}

-- the interval of a column that there is
pub interval_got : (nodes : List Triple) (ends : List Ends) (v : Valuation) (k : ℕ) (e : Ends) → slice_get ends k ≡ Some e
    → interval_at (box_at nodes ends v) k ≡ interval_of nodes v e
interval_got nodes [] v k e h = absurd (none-some e h)
interval_got nodes (x ∷ xs) v zero e h = ap (interval_of nodes v) (same_Some x e h)
interval_got nodes (x ∷ xs) v (suc k) e h = interval_got nodes xs v k e h

-- each number is inside the interval of its column
pub record AreInside (nodes : List Triple) (ends : List Ends) (v : Valuation) (point : List ℤ) : Type 0 where
  pub size : length point ≡ length ends
  pub each : (k : ℕ) (e : Ends) → slice_get ends k ≡ Some e → IsInside (interval_of nodes v e) (number k point)

pub within_from : (nodes : List Triple) (ends : List Ends) (v : Valuation) (point : List ℤ) → AreInside nodes ends v point
    → IsWithin (box_at nodes ends v) point
within_from nodes ends v point h = record {
  size = h.size ∙ sym (length-map ends (interval_of nodes v));
  each = λ k low.
      let size : length (box_at nodes ends v) ≡ length ends = length-map ends (interval_of nodes v) in
      let e : (x : Ends) × (slice_get ends k ≡ Some x) = item_at ends k (omega (arith, low, size)) in
      subst (λ (i : Interval). IsInside i (number k point)) (sym (interval_got nodes ends v k e.0 e.1)) (h.each k e.0 e.1);
}

pub within_each : (nodes : List Triple) (ends : List Ends) (v : Valuation) (point : List ℤ) → IsWithin (box_at nodes ends v) point
    → AreInside nodes ends v point
within_each nodes ends v point w = record {
  size = w.size ∙ length-map ends (interval_of nodes v);
  each = λ k e h.
      let size : length (box_at nodes ends v) ≡ length ends = length-map ends (interval_of nodes v) in
      let low : k < length ends = slice_get_within ends k e h in
      subst (λ (i : Interval). IsInside i (number k point)) (interval_got nodes ends v k e h) (w.each k (omega (arith, low, size)));
}

-- LISTS WITH ONE ELEMENT CHANGED

pub got_set : {X : Type 0} (xs : List X) (k : ℕ) (x : X) (j : ℕ) (y : X) → slice_get (set xs k x) j ≡ Some y
    → ((j ≡ k) × (x ≡ y)) ⊎ ((j ≢ k) × (slice_get xs j ≡ Some y))
got_set [] k x j y h = absurd (none-some y h)
got_set (z ∷ zs) zero x zero y h = inl (refl, same_Some x y h)
got_set (z ∷ zs) zero x (suc j) y h = inr (λ (q : suc j ≡ 0). omega arith, h)
got_set (z ∷ zs) (suc k) x zero y h = inr (λ (q : 0 ≡ suc k). omega arith, h)
got_set (z ∷ zs) (suc k) x (suc j) y h = elim (got_set zs k x j y h) [
  | inl same ↦ inl (ap suc same.0, same.1)
  | inr other ↦ inr (λ (q : suc j ≡ suc k). other.0 (omega arith), other.1)
]

pub set_got_same : {X : Type 0} (xs : List X) (k : ℕ) (x y : X) → slice_get xs k ≡ Some y → slice_get (set xs k x) k ≡ Some x
set_got_same [] k x y h = absurd (none-some y h)
set_got_same (z ∷ zs) zero x y h = refl
set_got_same (z ∷ zs) (suc k) x y h = set_got_same zs k x y h

pub set_got_other : {X : Type 0} (xs : List X) (k : ℕ) (x : X) (j : ℕ) → j ≢ k → slice_get (set xs k x) j ≡ slice_get xs j
set_got_other [] k x j apart = refl
set_got_other (z ∷ zs) zero x zero apart = absurd (apart refl)
set_got_other (z ∷ zs) zero x (suc j) apart = refl
set_got_other (z ∷ zs) (suc k) x zero apart = refl
set_got_other (z ∷ zs) (suc k) x (suc j) apart = set_got_other zs k x j (λ e. apart (ap suc e))

-- CUTS

pub cut_as : (old new : List Triple) (a b : List Ends) (p q : Valuation → List ℤ → Type 0) → ((v : Valuation) (point : List ℤ) → p v point ↔ q v point)
    → AreCut old new a b p → AreCut old new a b q
cut_as old new a b p q same cut v point = (
  λ w. let c = (cut v point).0 w in (c.0, (same v point).0 c.1),
  λ c. (cut v point).1 (c.0, (same v point).1 c.1),
)

pub cut_none : (nodes : List Triple) (a : List Ends) (p : Valuation → List ℤ → Type 0) → ((v : Valuation) (point : List ℤ) → p v point)
    → AreCut nodes nodes a a p
cut_none nodes a p all v point = (λ w. (w, all v point), λ c. c.0)

pub cut_both : (old mid new : List Triple) (a b c : List Ends) (p q : Valuation → List ℤ → Type 0) → AreCut old mid a b p → AreCut mid new b c q
    → AreCut old new a c (λ v point. p v point × q v point)
cut_both old mid new a b c p q first second v point = (
  λ w. let s = (second v point).0 w in let f = (first v point).0 s.0 in (f.0, (f.1, s.1)),
  λ h. (second v point).1 ((first v point).1 (h.0, h.1.0), h.1.1),
)

-- one column with one bound more
module _ (old new : Diagrams) (ends : List Ends) (k : ℕ) (before next : Ends) (x : Extends old new) (are : AreEnds old.nodes (length ends) ends)
    (at : slice_get ends k ≡ Some before) (high : IsSide new.nodes (2 ^ 60) next.high) (low : IsSide new.nodes (2 ^ 60) next.low) where
  pub set_ends : AreEnds new.nodes (length ends) (set ends k next)
  set_ends = record {
    size = length-set ends k next;
    high = λ j e h. elim (got_set ends k next j e h) [
      | inl same ↦ subst (λ (f : Ends). IsSide new.nodes (2 ^ 60) f.high) same.1 high
      | inr other ↦ side_later old new (2 ^ 60) e.high x (are.high j e other.1)
    ];
    low = λ j e h. elim (got_set ends k next j e h) [
      | inl same ↦ subst (λ (f : Ends). IsSide new.nodes (2 ^ 60) f.low) same.1 low
      | inr other ↦ side_later old new (2 ^ 60) e.low x (are.low j e other.1)
    ];
  }

  module _ (p : Valuation → ℤ → Type 0) (cut : (v : Valuation) → IsCut (interval_of old.nodes v before) (interval_of new.nodes v next) (p v)) where
    kept : (v : Valuation) (j : ℕ) (e : Ends) → slice_get ends j ≡ Some e → interval_of new.nodes v e ≡ interval_of old.nodes v e
    kept v j e h = interval_later old new (2 ^ 60) (2 ^ 60) e v x (are.high j e h) (are.low j e h)

    pub set_cut : AreCut old.nodes new.nodes ends (set ends k next) (λ v point. p v (number k point))
    set_cut v point = (to, from)
      where
        to : IsWithin (box_at new.nodes (set ends k next) v) point → IsWithin (box_at old.nodes ends v) point × p v (number k point)
        to w =
            let i = within_each new.nodes (set ends k next) v point w in
            let here : IsInside (interval_of old.nodes v before) (number k point) × p v (number k point) =
            (cut v (number k point)).0 (i.each k next (set_got_same ends k next before at)) in
            (within_from old.nodes ends v point (record { size = i.size ∙ length-set ends k next; each = λ j e h. each i here j e h (cases_eq j k) }), here.1)
          where
            each : AreInside new.nodes (set ends k next) v point → IsInside (interval_of old.nodes v before) (number k point) × p v (number k point)
                → (j : ℕ) (e : Ends) → slice_get ends j ≡ Some e → (j ≡ k) ⊎ (j ≢ k) → IsInside (interval_of old.nodes v e) (number j point)
            each i here j e h (inl same) =
                let is : before ≡ e = same_Some before e (sym at ∙ ap (slice_get ends) (sym same) ∙ h) in
                subst (λ (n : ℕ). IsInside (interval_of old.nodes v e) (number n point)) (sym same)
                (subst (λ (f : Ends). IsInside (interval_of old.nodes v f) (number k point)) is here.0)
            each i here j e h (inr apart) = subst (λ (n : Interval). IsInside n (number j point)) (kept v j e h)
                (i.each j e (set_got_other ends k next j apart ∙ h))

        from : IsWithin (box_at old.nodes ends v) point × p v (number k point) → IsWithin (box_at new.nodes (set ends k next) v) point
        from c =
            let i = within_each old.nodes ends v point c.0 in
            within_from new.nodes (set ends k next) v point (record {
              size = i.size ∙ sym (length-set ends k next);
              each = λ j e h. elim (got_set ends k next j e h) [
                | inl same ↦
                    subst (λ (f : Ends). IsInside (interval_of new.nodes v f) (number j point)) same.1
                    (subst (λ (n : ℕ). IsInside (interval_of new.nodes v next) (number n point)) (sym same.0)
                    ((cut v (number k point)).1 (i.each k before at, c.1)))
                | inr other ↦ subst (λ (n : Interval). IsInside n (number j point)) (sym (kept v j e other.1)) (i.each j e other.1)
              ];
            })

-- COLUMNS WITHOUT BOUNDS

pub free_are : (nodes : List Triple) (n : ℕ) (ends : List Ends) → length ends ≡ n → ((k : ℕ) (e : Ends) → slice_get ends k ≡ Some e → IsFree nodes e)
    → AreEnds nodes n ends
free_are nodes n ends size each = record {
  size = size;
  high = λ k e h. side_within nodes 0 (2 ^ 60) e.high (omega arith) (each k e h).high;
  low = λ k e h. side_within nodes 0 (2 ^ 60) e.low (omega arith) (each k e h).low;
}

pub free_within : (nodes : List Triple) (ends : List Ends) → ((k : ℕ) (e : Ends) → slice_get ends k ≡ Some e → IsFree nodes e)
    → (v : Valuation) (point : List ℤ) → length point ≡ length ends → IsWithin (box_at nodes ends v) point
free_within nodes ends each v point size = within_from nodes ends v point (record {
  size = size;
  each = λ k e h.
      subst (λ (i : Interval). IsInside i (number k point)) (sym ((each k e h).none v))
      (record { high = λ b q. absurd (none-some b q); low = λ b q. absurd (none-some b q) });
})
