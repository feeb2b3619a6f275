-- A bound more of a side, and where a side is below a number.
use Rattle.std.proofs.Common.{◌≡◌, ◌⊎◌, ◌↔◌, ◌<◌, ◌≤◌, ◌&&◌, ◌||◌, ◌+◌, ◌∙◌, ℕ, ℤ, ◌≤ℤ◌, ◌<ℤ◌, Bool, true, false, cond, List, length, Option, Some, ap}
use Rattle.std.proofs.Common.{sym, subst, refl, arith, inl, inr, not, None as Nothing}
use Rattle.std.proofs.lemmas.Bool.{cases_lt, false≢true, and_parts, and_from}
use Rattle.std.proofs.{lemmas.Int.ints, lemmas.Int.by_lt_z, lemmas.Option.same_Some, lemmas.Option.none-some}
use Rattle.std.specs.Int.RustNames.{unsigned_abs}
use Rattle.rv_diagram.specs.{declared.Triple.Triple, Nodes.Valuation, Nodes.value_of}
use Rattle.rv_rows.specs.declared.linear.Form.{Form}
use Rattle.rv_terms.specs.{declared.parted.Part.Part, Parts.part_at, Parts.holds, Parts.form_at, Parts.IsTerm}
use Rattle.rv_terms.proofs.Combining.{form_is}
use Rattle.rv_ends.specs.{declared.sides.Side.Side, Intervals.IsAtMost, Sides.side_at, Tops.number_form}
use Rattle.rv_ends.proofs.Sided.{side_at_from}

-- WHERE A TERM IS BELOW A NUMBER

-- The reference is true where one of the first n parts holds and has a constant below a number.
pub record IsBelowAmong (old new : List Triple) (parts : List Part) (n : ℕ) (bound : ℤ) (r : ℕ) : Type 0 where
  pub some : (v : Valuation) → value_of new r v ≡ true → (i : ℕ) × (i < n) × (holds old parts i v ≡ true) × ((part_at parts i).form.constant <ℤ bound)
  pub each : (v : Valuation) (i : ℕ) → i < n → holds old parts i v ≡ true → (part_at parts i).form.constant <ℤ bound → value_of new r v ≡ true

-- the same with one part more
pub below_more : (old mid new : List Triple) (parts : List Part) (n : ℕ) (bound : ℤ) (r q : ℕ) (part : Part) → part_at parts n ≡ part
    → ((v : Valuation) → value_of mid part.under v ≡ value_of old part.under v)
    → ((v : Valuation) → (value_of new q v ≡ true) ↔ ((value_of mid r v ≡ true) ⊎ ((value_of mid part.under v ≡ true) × (part.form.constant <ℤ bound))))
    → IsBelowAmong old mid parts n bound r → IsBelowAmong old new parts (n + 1) bound q
below_more old mid new parts n bound r q part is same exact h = record { some = some; each = each }
  where
    some : (v : Valuation) → value_of new q v ≡ true
        → (i : ℕ) × (i < n + 1) × (holds old parts i v ≡ true) × ((part_at parts i).form.constant <ℤ bound)
    some v t = go ((exact v).0 t)
      where
        go : (value_of mid r v ≡ true) ⊎ ((value_of mid part.under v ≡ true) × (part.form.constant <ℤ bound))
            → (i : ℕ) × (i < n + 1) × (holds old parts i v ≡ true) × ((part_at parts i).form.constant <ℤ bound)
        go (inl one) = let s = h.some v one in let low = s.1 in (s.0, omega (arith, low), s.2, s.3)
        go (inr two) = (
          n,
          omega arith,
          ap (λ (p : Part). value_of old p.under v) is ∙ sym (same v) ∙ two.0,
          subst (λ (p : Part). p.form.constant <ℤ bound) (sym is) two.1,
        )

    each : (v : Valuation) (i : ℕ) → i < n + 1 → holds old parts i v ≡ true → (part_at parts i).form.constant <ℤ bound → value_of new q v ≡ true
    each v i low holding less = (exact v).1 (go (cases_lt i n))
      where
        go : (i < n) ⊎ (n ≤ i) → (value_of mid r v ≡ true) ⊎ ((value_of mid part.under v ≡ true) × (part.form.constant <ℤ bound))
        go (inl before) = inl (h.each v i before holding less)
        go (inr here) =
            let e : i ≡ n = omega (arith, low, here) in
            let at : part_at parts i ≡ part = ap (part_at parts) e ∙ is in
            inr (
              same v ∙ sym (ap (λ (p : Part). value_of old p.under v) at) ∙ holding,
              subst (λ (p : Part). p.form.constant <ℤ bound) at less,
            )

-- of all parts it is the one that holds
pub below_all : (old new : List Triple) (width : ℕ) (parts : List Part) (n : ℕ) (bound : ℤ) (r : ℕ) → IsTerm old width parts → length parts ≤ n
    → n ≤ length parts
    → IsBelowAmong old new parts n bound r → (v : Valuation) → (value_of new r v ≡ true) ↔ ((form_at old parts v).constant <ℤ bound)
below_all old new width parts n bound r term long short h v = (to, from)
  where
    to : value_of new r v ≡ true → (form_at old parts v).constant <ℤ bound
    to t =
        let s = h.some v t in
        let low = s.1 in
        let inside : s.0 < length parts = omega (arith, low, short) in
        subst (λ (f : Form). f.constant <ℤ bound) (sym (form_is old parts s.0 v term.disjoint inside s.2)) s.3

    from : (form_at old parts v).constant <ℤ bound → value_of new r v ≡ true
    from less =
        let c : (i : ℕ) × (i < length parts) × (holds old parts i v ≡ true) = term.covers v in
        h.each v c.0 (omega (arith, c.1, long)) c.2 (subst (λ (f : Form). f.constant <ℤ bound) (form_is old parts c.0 v term.disjoint c.1 c.2) less)

-- WHERE A SIDE IS BELOW A NUMBER

there_some : (a : Bool) (e b : ℤ) → cond a (Some e) Nothing ≡ Some b → (a ≡ true) × (e ≡ b)
there_some true e b h = (refl, same_Some e b h)
there_some false e b h = absurd (none-some b h)

there_is : (a : Bool) (e : ℤ) → a ≡ true → cond a (Some e) Nothing ≡ Some e
there_is true e h = refl
there_is false e h = absurd (false≢true h)

-- where there is a bound, and the term is below
pub side_below : (old new : List Triple) (s : Side) (r : ℕ) (v : Valuation) (part : Bool) (bound : ℤ) → value_of new r v ≡ (value_of old s.there v && part)
    → ((part ≡ true) ↔ ((form_at old s.end.parts v).constant <ℤ bound))
    → (value_of new r v ≡ true) ↔ ((b : ℤ) × (side_at old s v ≡ Some b) × (b <ℤ bound))
side_below old new s r v part bound is exact = (
  λ t.
      let both : (value_of old s.there v ≡ true) × (part ≡ true) = and_parts (value_of old s.there v) part (sym is ∙ t) in (
        (form_at old s.end.parts v).constant,
        there_is (value_of old s.there v) (form_at old s.end.parts v).constant both.0,
        exact.0 both.1,
      ),
  λ h.
      let at : (value_of old s.there v ≡ true) × ((form_at old s.end.parts v).constant ≡ h.0) =
      there_some (value_of old s.there v) (form_at old s.end.parts v).constant h.0 h.1 in
      is ∙ and_from (value_of old s.there v) part at.0 (exact.1 (subst (λ (z : ℤ). z <ℤ bound) (sym at.1) h.2)),
)

-- ONE BOUND MORE

not_below : (o : Option ℤ) (bound : ℤ) (lower : Bool) → ((lower ≡ true) ↔ ((b : ℤ) × (o ≡ Some b) × (b <ℤ bound)))
    → (not lower ≡ true) ↔ ((b : ℤ) → o ≡ Some b → bound ≤ℤ b)
not_below o bound true h = (
  λ t. absurd (false≢true t),
  λ all. let w = h.0 refl in absurd (clash w.0 w.2 (all w.0 w.1)),
)
  where
    clash : (b : ℤ) → b <ℤ bound → bound ≤ℤ b → ⊥
    clash b l m = omega (arith, ints)
not_below o bound false h = (
  λ t b e. by_lt_z b bound (λ (l : b <ℤ bound). absurd (false≢true (h.1 (b, e, l)))) (λ (l : bound ≤ℤ b). l),
  λ all. refl,
)

-- where the new bound is taken
pub taken_exact : (o : Option ℤ) (bound : ℤ) (u lower taken : Bool) → taken ≡ (u && not lower)
    → ((lower ≡ true) ↔ ((b : ℤ) × (o ≡ Some b) × (b <ℤ bound)))
    → (taken ≡ true) ↔ ((u ≡ true) × ((b : ℤ) → o ≡ Some b → bound ≤ℤ b))
taken_exact o bound u lower taken is h =
    let n : (not lower ≡ true) ↔ ((b : ℤ) → o ≡ Some b → bound ≤ℤ b) = not_below o bound lower h in (
      λ t. let both : (u ≡ true) × (not lower ≡ true) = and_parts u (not lower) (sym is ∙ t) in (both.0, n.0 both.1),
      λ p. is ∙ and_from u (not lower) p.0 (n.1 p.1),
    )

at_some : (b x : ℤ) → x ≤ℤ b → IsAtMost (Some b) x
at_some b x l c e = subst (λ (z : ℤ). x ≤ℤ z) (same_Some b c e) l

at_none : (x : ℤ) → IsAtMost Nothing x
at_none x c e = absurd (none-some c e)

-- the lesser of two bounds
lesser : (a u t : Bool) (e bound x : ℤ) → ((t ≡ true) ↔ ((u ≡ true) × ((b : ℤ) → cond a (Some e) Nothing ≡ Some b → bound ≤ℤ b)))
    → IsAtMost (cond (a || u) (Some (cond t bound e)) Nothing) x ↔ (IsAtMost (cond a (Some e) Nothing) x × (u ≡ true → x ≤ℤ bound))
lesser a false true e bound x h = absurd (false≢true (h.0 refl).0)
lesser true false false e bound x h = (λ m. (m, λ q. absurd (false≢true q)), λ p. p.0)
lesser false false false e bound x h = (λ m. (m, λ q. absurd (false≢true q)), λ p. p.0)
lesser true true true e bound x h =
    let low : bound ≤ℤ e = (h.0 refl).1 e refl in (
      λ m. let l : x ≤ℤ bound = m bound refl in (at_some e x (chain x bound e l low), λ q. l),
      λ p. at_some bound x (p.1 refl),
    )
  where
    chain : (x y z : ℤ) → x ≤ℤ y → y ≤ℤ z → x ≤ℤ z
    chain x y z l m = omega (arith, ints)
lesser true true false e bound x h = by_lt_z e bound
    (λ (less : e <ℤ bound). (
      λ (m : IsAtMost (Some e) x). (m, λ (q : true ≡ true). chain x (m e refl) less),
      λ (p : IsAtMost (Some e) x × (true ≡ true → x ≤ℤ bound)). p.0,
    ))
    (λ (more : bound ≤ℤ e). absurd (false≢true (h.1 (refl, λ b q. subst (λ (z : ℤ). bound ≤ℤ z) (same_Some e b q) more))))
  where
    chain : (x : ℤ) → x ≤ℤ e → e <ℤ bound → x ≤ℤ bound
    chain x l m = omega (arith, ints)
lesser false true true e bound x h = (λ m. (at_none x, λ q. m bound refl), λ p. at_some bound x (p.1 refl))
lesser false true false e bound x h = absurd (false≢true (h.1 (refl, λ b q. absurd (none-some b q))))

constant_of : (t : Bool) (bound : ℤ) (f : Form) → (cond t (number_form bound) f).constant ≡ cond t bound f.constant
constant_of true bound f = refl
constant_of false bound f = refl

-- a side that has the new bound where it is taken, and else the old one
pub tight_exact : (old mid new : List Triple) (side s : Side) (under taken : ℕ) (bound : ℤ) (v : Valuation)
    → value_of new s.there v ≡ (value_of old side.there v || value_of old under v)
    → form_at new s.end.parts v ≡ cond (value_of mid taken v) (number_form bound) (form_at old side.end.parts v)
    → ((value_of mid taken v ≡ true) ↔ ((value_of old under v ≡ true) × ((b : ℤ) → side_at old side v ≡ Some b → bound ≤ℤ b)))
    → (x : ℤ) → IsAtMost (side_at new s v) x ↔ (IsAtMost (side_at old side v) x × (value_of old under v ≡ true → x ≤ℤ bound))
tight_exact old mid new side s under taken bound v there end exact x =
    let a : Bool = value_of old side.there v in
    let u : Bool = value_of old under v in
    let t : Bool = value_of mid taken v in
    let e : ℤ = (form_at old side.end.parts v).constant in
    let is : side_at new s v ≡ cond (a || u) (Some (cond t bound e)) Nothing =
    side_at_from new s v (a || u) (cond t (number_form bound) (form_at old side.end.parts v)) there end
    ∙ ap (λ (z : ℤ). cond (a || u) (Some z) Nothing) (constant_of t bound (form_at old side.end.parts v)) in
    subst (λ (o : Option ℤ). IsAtMost o x ↔ (IsAtMost (side_at old side v) x × (u ≡ true → x ≤ℤ bound))) (sym is) (lesser a u t e bound x exact)

-- and no greater constant
pub tight_small : (t : Bool) (n : ℕ) (bound : ℤ) (f : Form) → unsigned_abs bound ≤ n → unsigned_abs f.constant ≤ n
    → unsigned_abs (cond t (number_form bound) f).constant ≤ n
tight_small true n bound f l m = l
tight_small false n bound f l m = m
