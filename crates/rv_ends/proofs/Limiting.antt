-- A claim's limits of columns, where the main tick is true.
use Rattle.std.proofs.Common.{◌≡◌, ◌⊎◌, ◌↔◌, ◌+◌, ◌<◌, ◌≤◌, ◌^◌, ◌∙◌, ℕ, ℤ, pos, ◌-ℤ◌, ◌≤ℤ◌, Bool, true, false, List, [], ◌∷◌, ◌++◌, length}
use Rattle.std.proofs.Common.{Option, Some, slice_get, ap, sym, subst, refl, arith, inl, inr, None as Nothing}
use Rattle.std.proofs.{lemmas.Int.ints, lemmas.Bool.cases_lt, lemmas.Option.same_Some, lemmas.Option.none-some, lemmas.Option.slice_get_within}
use Rattle.std.proofs.lemmas.List.{get_or_past, length-append}
use Rattle.rv_base.proofs.Lists.{item_at, push_got}
use Rattle.rv_diagram.specs.{declared.Triple.Triple, Nodes.Valuation, Nodes.Diagrams, Nodes.value_of, Growing.Extends}
use Rattle.rv_rows.specs.Forms.{number}
use Rattle.rv_proofs.specs.{Systems.System, Systems.IsSystem, Boxes.IsInBox}
use Rattle.rv_ends.specs.{declared.ends.Ends.Ends, Claiming.claim_with, Claiming.limit_at, Claiming.turned}
use Rattle.rv_ends.specs.Intervals.{Interval, IsAtMost, IsInside, IsWithin}
use Rattle.rv_ends.specs.Columns.{sided}
use Rattle.rv_ends.specs.Cuts.{IsCut, IsLimited}
use Rattle.rv_ends.specs.Sides.{IsSide, interval_of, box_at, AreEndsOf}
use Rattle.rv_ends.proofs.{Stays.side_later, Stays.interval_later, Stays.box_later, Within.within_each, Within.within_from, Within.AreInside}

-- The first columns have their limits where the reference is true.
pub record AreLimited (old new : List Triple) (upper lower : List (Option ℤ)) (ticked n : ℕ) (before after : List Ends) : Type 0 where
  pub size : length after ≡ n
  pub high : (k : ℕ) (e : Ends) → slice_get after k ≡ Some e → IsSide new (2 ^ 60) e.high
  pub low : (k : ℕ) (e : Ends) → slice_get after k ≡ Some e → IsSide new (2 ^ 60) e.low
  pub cut : (k : ℕ) (b a : Ends) → slice_get before k ≡ Some b → slice_get after k ≡ Some a → (v : Valuation)
      → IsCut (interval_of old v b) (interval_of new v a) (λ x. value_of old ticked v ≡ true → IsLimited (limit_at upper k) (limit_at lower k) x)

pub limited_none : (nodes : List Triple) (upper lower : List (Option ℤ)) (ticked : ℕ) (before : List Ends)
    → AreLimited nodes nodes upper lower ticked 0 before []
limited_none nodes upper lower ticked before = record {
  size = refl;
  high = λ k e h. absurd (none-some e h);
  low = λ k e h. absurd (none-some e h);
  cut = λ k b a h g. absurd (none-some a g);
}

-- one column more
pub limited_more : (old mid new : Diagrams) (upper lower : List (Option ℤ)) (ticked n : ℕ) (before after : List Ends) (b a : Ends)
    → Extends old mid → Extends mid new → IsSide old.nodes (2 ^ 60) b.high → IsSide old.nodes (2 ^ 60) b.low
    → slice_get before n ≡ Some b → IsSide new.nodes (2 ^ 60) a.high → IsSide new.nodes (2 ^ 60) a.low
    → ((v : Valuation) → value_of mid.nodes ticked v ≡ value_of old.nodes ticked v)
    → ((v : Valuation) → IsCut (interval_of mid.nodes v b) (interval_of new.nodes v a)
    (λ x. value_of mid.nodes ticked v ≡ true → IsLimited (limit_at upper n) (limit_at lower n) x))
    → AreLimited old.nodes mid.nodes upper lower ticked n before after → AreLimited old.nodes new.nodes upper lower ticked (n + 1) before (after ++ a ∷ [])
limited_more old mid new upper lower ticked n before after b a x y b_high b_low at a_high a_low same cut h = record {
  size = let size = h.size in let long = length-append after (a ∷ []) in omega (arith, size, long);
  high = λ k e g. elim (push_got after a e k g) [
    | inl old_one ↦ side_later mid new (2 ^ 60) e.high y (h.high k e old_one.1)
    | inr new_one ↦ subst (λ (f : Ends). IsSide new.nodes (2 ^ 60) f.high) new_one.1 a_high
  ];
  low = λ k e g. elim (push_got after a e k g) [
    | inl old_one ↦ side_later mid new (2 ^ 60) e.low y (h.low k e old_one.1)
    | inr new_one ↦ subst (λ (f : Ends). IsSide new.nodes (2 ^ 60) f.low) new_one.1 a_low
  ];
  cut = λ k c e f g v. elim (push_got after a e k g) [
    | inl old_one ↦
        subst (λ (i : Interval). IsCut (interval_of old.nodes v c) i
        (λ x. value_of old.nodes ticked v ≡ true → IsLimited (limit_at upper k) (limit_at lower k) x))
        (sym (interval_later mid new (2 ^ 60) (2 ^ 60) e v y (h.high k e old_one.1) (h.low k e old_one.1)))
        (h.cut k c e f old_one.1 v)
    | inr new_one ↦ last k c e f new_one.0 new_one.1 v
  ];
}
  where
    last : (k : ℕ) (c e : Ends) → slice_get before k ≡ Some c → k ≡ length after → a ≡ e → (v : Valuation)
        → IsCut (interval_of old.nodes v c) (interval_of new.nodes v e)
        (λ x. value_of old.nodes ticked v ≡ true → IsLimited (limit_at upper k) (limit_at lower k) x)
    last k c e f here is v =
        let j : k ≡ n = here ∙ h.size in
        let b_is : b ≡ c = same_Some b c (sym at ∙ ap (slice_get before) (sym j) ∙ f) in
        subst (λ (w : Ends). IsCut (interval_of old.nodes v w) (interval_of new.nodes v e)
        (λ x. value_of old.nodes ticked v ≡ true → IsLimited (limit_at upper k) (limit_at lower k) x)) b_is
        (subst (λ (w : Ends). IsCut (interval_of old.nodes v b) (interval_of new.nodes v w)
        (λ x. value_of old.nodes ticked v ≡ true → IsLimited (limit_at upper k) (limit_at lower k) x)) is
        (subst (λ (m : ℕ). IsCut (interval_of old.nodes v b) (interval_of new.nodes v a)
        (λ x. value_of old.nodes ticked v ≡ true → IsLimited (limit_at upper m) (limit_at lower m) x)) (sym j)
        (subst (λ (t : Bool). IsCut (interval_of old.nodes v b) (interval_of new.nodes v a)
        (λ x. t ≡ true → IsLimited (limit_at upper n) (limit_at lower n) x)) (same v)
        (subst (λ (i : Interval). IsCut i (interval_of new.nodes v a)
        (λ x. value_of mid.nodes ticked v ≡ true → IsLimited (limit_at upper n) (limit_at lower n) x))
        (interval_later old mid (2 ^ 60) (2 ^ 60) b v x b_high b_low) (cut v)))))

-- the interval with one limit more on each side
pub limit_cut : (p q p' q' : Option ℤ) (t : Bool) (upper lower : Option ℤ)
    → ((x : ℤ) → IsAtMost p' x ↔ (IsAtMost p x × (t ≡ true → IsAtMost upper x)))
    → ((x : ℤ) → IsAtMost q' x ↔ (IsAtMost q x × (t ≡ true → IsAtMost lower x)))
    → IsCut (record { high = p; low = q }) (record { high = p'; low = q' }) (λ x. t ≡ true → IsLimited upper lower x)
limit_cut p q p' q' t upper lower up down x = (
  λ i.
      let h = (up x).0 i.high in
      let l = (down (pos 0 -ℤ x)).0 i.low in
      (record { high = h.0; low = l.0 }, λ on. (h.1 on, l.1 on)),
  λ c. record { high = (up x).1 (c.0.high, λ on. (c.1 on).0); low = (down (pos 0 -ℤ x)).1 (c.0.low, λ on. (c.1 on).1) },
)

-- one bound more of the column
pub high_cut : (p q p' q' : Option ℤ) (u is_high : Bool) (bound : ℤ) → is_high ≡ true
    → ((x : ℤ) → IsAtMost p' x ↔ (IsAtMost p x × (u ≡ true → x ≤ℤ bound))) → q' ≡ q
    → IsCut (record { high = p; low = q }) (record { high = p'; low = q' }) (λ x. u ≡ true → sided is_high x ≤ℤ bound)
high_cut p q p' q' u is_high bound e up same x =
    subst (λ (b : Bool). IsInside (record { high = p'; low = q' }) x
    ↔ (IsInside (record { high = p; low = q }) x × (u ≡ true → sided b x ≤ℤ bound))) (sym e) (
      λ i. let h = (up x).0 i.high in (record { high = h.0; low = subst (λ (o : Option ℤ). IsAtMost o (pos 0 -ℤ x)) same i.low }, h.1),
      λ c. record { high = (up x).1 (c.0.high, c.1); low = subst (λ (o : Option ℤ). IsAtMost o (pos 0 -ℤ x)) (sym same) c.0.low },
    )

-- or of its opposite
pub low_cut : (p q p' q' : Option ℤ) (u is_high : Bool) (bound : ℤ) → is_high ≡ false
    → ((x : ℤ) → IsAtMost q' x ↔ (IsAtMost q x × (u ≡ true → x ≤ℤ bound))) → p' ≡ p
    → IsCut (record { high = p; low = q }) (record { high = p'; low = q' }) (λ x. u ≡ true → sided is_high x ≤ℤ bound)
low_cut p q p' q' u is_high bound e down same x =
    subst (λ (b : Bool). IsInside (record { high = p'; low = q' }) x
    ↔ (IsInside (record { high = p; low = q }) x × (u ≡ true → sided b x ≤ℤ bound))) (sym e) (
      λ i. let l = (down (pos 0 -ℤ x)).0 i.low in (record { high = subst (λ (o : Option ℤ). IsAtMost o x) same i.high; low = l.0 }, l.1),
      λ c. record { high = subst (λ (o : Option ℤ). IsAtMost o x) (sym same) c.0.high; low = (down (pos 0 -ℤ x)).1 (c.0.low, c.1) },
    )

-- a limit that there is
pub limit_iff : (limit : Option ℤ) (bound x : ℤ) (u : Bool) (P : Type 0) → limit ≡ Some bound
    → (P × (u ≡ true → x ≤ℤ bound)) ↔ (P × (u ≡ true → IsAtMost limit x))
limit_iff limit bound x u P e = (
  λ h. (h.0, λ on b q. subst (λ (z : ℤ). x ≤ℤ z) (same_Some bound b (sym e ∙ q)) (h.1 on)),
  λ h. (h.0, λ on. h.1 on bound e),
)

no_limit : (limits : List (Option ℤ)) (k : ℕ) (x : ℤ) → length limits ≤ k → IsAtMost (limit_at limits k) x
no_limit limits k x past b e = absurd (none-some b (sym (get_or_past limits k Nothing past) ∙ e))

turned_back : (o : Option ℤ) (b : ℤ) → turned o ≡ Some b → (c : ℤ) × (o ≡ Some c) × (pos 0 -ℤ c ≡ b)
turned_back Nothing b e = absurd (none-some b e)
turned_back (Some c) b e = (c, refl, same_Some (pos 0 -ℤ c) b e)

turned_le : (b c x : ℤ) → pos 0 -ℤ c ≡ b → (pos 0 -ℤ x) ≤ℤ c → b ≤ℤ x
turned_le b c x e l = omega (arith, ints)

le_turned : (c x : ℤ) → (pos 0 -ℤ c) ≤ℤ x → (pos 0 -ℤ x) ≤ℤ c
le_turned c x l = omega (arith, ints)

-- what is within the ends with limits is in the narrowed box of each claim with them
pub ends_of_limits : (s : System) → IsSystem s → (old mid new : Diagrams) (ticked : ℕ) (upper lower : List (Option ℤ)) (tests ends : List Ends)
    → Extends old mid → s.variables ≡ old.variables → (0 < old.variables → (v : Valuation) → value_of mid.nodes ticked v ≡ v 0)
    → AreEndsOf s old.nodes [] [] tests → length upper ≡ s.memories → length lower ≡ s.memories → (n : ℕ) → n ≡ length tests
    → AreLimited mid.nodes new.nodes upper lower ticked n tests ends → AreEndsOf s new.nodes upper lower ends
ends_of_limits s is old mid new ticked upper lower tests ends x many tick are ups downs n all h = record {
  ends = record { size = h.size ∙ all ∙ are.ends.size; high = h.high; low = h.low };
  exact = λ reached v some point. (to reached v some point, from reached v some point);
}
  where
    tick_is : 0 < s.states → (v : Valuation) → value_of mid.nodes ticked v ≡ v 0
    tick_is some v = let bits = is.bits in tick (omega (arith, some, bits, many)) v

    long : length ends ≡ length tests
    long = h.size ∙ all

    same : (v : Valuation) → box_at mid.nodes tests v ≡ box_at old.nodes tests v
    same v = box_later old mid s.columns tests v x are.ends

    to : (reached : Valuation → Bool) (v : Valuation) → 0 < s.states → (point : List ℤ) → IsInBox s (claim_with reached upper lower) v point
        → IsWithin (box_at new.nodes ends v) point
    to reached v some point b =
        let bare : IsInBox s (claim_with reached [] []) v point = record {
          size = b.size;
          lower = λ on k c known e. absurd (none-some c e);
          upper = λ on k c known e. absurd (none-some c e);
          narrow = b.narrow;
        } in
        let w : IsWithin (box_at mid.nodes tests v) point = subst (λ (l : List Interval). IsWithin l point) (sym (same v))
            ((are.exact reached v some point).0 bare) in
        let i = within_each mid.nodes tests v point w in
        within_from new.nodes ends v point (record { size = i.size ∙ sym long; each = λ k e g. each i k e g })
      where
        limited : (k : ℕ) → value_of mid.nodes ticked v ≡ true → IsLimited (limit_at upper k) (limit_at lower k) (number k point)
        limited k on = go (cases_lt k s.memories)
          where
            go : (k < s.memories) ⊎ (s.memories ≤ k) → IsLimited (limit_at upper k) (limit_at lower k) (number k point)
            go (inl known) = (
              λ c e. b.upper (sym (tick_is some v) ∙ on) k c known e,
              λ c e. le_turned c (number k point) (b.lower (sym (tick_is some v) ∙ on) k (pos 0 -ℤ c) known (ap turned e)),
            )
            go (inr past) = (
              no_limit upper k (number k point) (omega (arith, past, ups)),
              no_limit lower k (pos 0 -ℤ number k point) (omega (arith, past, downs)),
            )

        each : AreInside mid.nodes tests v point → (k : ℕ) (e : Ends) → slice_get ends k ≡ Some e → IsInside (interval_of new.nodes v e) (number k point)
        each i k e g =
            let low : k < length ends = slice_get_within ends k e g in
            let t : (f : Ends) × (slice_get tests k ≡ Some f) = item_at tests k (omega (arith, low, long)) in
            (h.cut k t.0 e t.1 g v (number k point)).1 (i.each k t.0 t.1, limited k)

    from : (reached : Valuation → Bool) (v : Valuation) → 0 < s.states → (point : List ℤ) → IsWithin (box_at new.nodes ends v) point
        → IsInBox s (claim_with reached upper lower) v point
    from reached v some point w = record {
      size = bare.size;
      lower = λ on k c known e.
          let t : (d : ℤ) × (limit_at lower k ≡ Some d) × (pos 0 -ℤ d ≡ c) = turned_back (limit_at lower k) c e in
          turned_le c t.0 (number k point) t.2 ((limited k known (tick_is some v ∙ on)).1 t.0 t.1);
      upper = λ on k c known e. (limited k known (tick_is some v ∙ on)).0 c e;
      narrow = bare.narrow;
    }
      where
        inside : AreInside new.nodes ends v point
        inside = within_each new.nodes ends v point w

        cut : (k : ℕ) (t : Ends) → slice_get tests k ≡ Some t → IsInside (interval_of mid.nodes v t) (number k point)
            × (value_of mid.nodes ticked v ≡ true → IsLimited (limit_at upper k) (limit_at lower k) (number k point))
        cut k t g =
            let low : k < length tests = slice_get_within tests k t g in
            let e : (f : Ends) × (slice_get ends k ≡ Some f) = item_at ends k (omega (arith, low, long)) in
            (h.cut k t e.0 g e.1 v (number k point)).0 (inside.each k e.0 e.1)

        bare : IsInBox s (claim_with reached [] []) v point
        bare = (are.exact reached v some point).1 (subst (λ (l : List Interval). IsWithin l point) (same v)
            (within_from mid.nodes tests v point (record { size = inside.size ∙ long; each = λ k t g. (cut k t g).0 })))

        limited : (k : ℕ) → k < s.memories → value_of mid.nodes ticked v ≡ true → IsLimited (limit_at upper k) (limit_at lower k) (number k point)
        limited k known on =
            let few = is.few_memories in
            let size = are.ends.size in
            let t : (f : Ends) × (slice_get tests k ≡ Some f) = item_at tests k (omega (arith, known, few, size)) in
            (cut k t.0 t.1).1 on
