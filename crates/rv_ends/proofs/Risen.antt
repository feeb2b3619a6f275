-- Limits that rise, one part of a term after the other.
use Rattle.std.proofs.Common.{◌≡◌, ◌⊎◌, inl, inr, ℕ, ◌+◌, ◌*◌, ◌<◌, ◌≤◌, ◌^◌, List, length, Bool, true, false, ◌&&◌, ℤ, ◌+ℤ◌, ◌≤ℤ◌, ◌<ℤ◌, Option, Some}
use Rattle.std.proofs.Common.{None as Nothing, refl, sym, ap, ◌∙◌, subst, arith, ⊎_elim, ◌↔◌, not, IsTrue, MatchBool}
use Rattle.std.proofs.{lemmas.Bool.cases_lt, lemmas.Bool.false≢true, lemmas.Bool.and_parts, lemmas.Bool.and_from, lemmas.Int.ints}
use Rattle.std.proofs.{lemmas.Option.none-some, lemmas.Option.same_Some}
use Rattle.std.specs.{Int.RustNames.unsigned_abs, List.Contains}
use Rattle.rv_rows.specs.declared.linear.Form.{Form}
use Rattle.rv_diagram.specs.{declared.Triple.Triple, Nodes.Valuation, Nodes.Diagrams, Nodes.IsRef}
use Rattle.rv_diagram.specs.{Nodes.Answers, Nodes.ReadsBelow, Nodes.value_of, Growing.Extends}
use Rattle.rv_terms.specs.{declared.parted.Part.Part, Parts.part_at, Parts.IsTerm}
use Rattle.rv_terms.proofs.{Combining.form_is, Finding.some_from}
use Rattle.rv_ends.specs.{Thresholds.IsLeastAbove, Risen.IsRisen, Risen.EndsWithin, Risen.PartWithin, Risen.PartsWithin}

-- a limit that stays
pub risen_still : (t : List ℤ) (p : ℤ → Type 0) (limit : Option ℤ) → ((b : ℤ) → limit ≡ Some b → p b) → IsRisen t p limit limit
risen_still t p limit h = record {
  held = h;
  rises = λ b is. (b, is, let z : b ≤ℤ b = omega (arith, ints) in z);
  among = λ b is. inl is;
  least = λ a b is low among holds. (a, is, low);
}

-- a limit that goes, since no bound holds
pub risen_off : (t : List ℤ) (p : ℤ → Type 0) (old : Option ℤ) → ((a b : ℤ) → old ≡ Some a → a ≤ℤ b → (old ≡ Some b) ⊎ Contains t b → p b → ⊥)
    → IsRisen t p old Nothing
risen_off t p old h = record {
  held = λ b is. absurd (none-some b is);
  rises = λ b is. absurd (none-some b is);
  among = λ b is. absurd (none-some b is);
  least = λ a b is low among holds. absurd (h a b is low among holds);
}

pub risen_as : (t : List ℤ) (p q : ℤ → Type 0) (old new : Option ℤ) → ((b : ℤ) → p b → q b) → ((b : ℤ) → q b → p b) → IsRisen t p old new → IsRisen t q old new
risen_as t p q old new to from r = record {
  held = λ b is. to b (r.held b is);
  rises = r.rises;
  among = r.among;
  least = λ a b is low among holds. r.least a b is low among (from b holds);
}

-- a limit that goes for a part of what is asked goes for all of it
pub risen_gone : (t : List ℤ) (p q : ℤ → Type 0) (old : Option ℤ) → ((b : ℤ) → q b → p b) → IsRisen t p old Nothing → IsRisen t q old Nothing
risen_gone t p q old from r = record {
  held = λ b is. absurd (none-some b is);
  rises = λ b is. absurd (none-some b is);
  among = λ b is. absurd (none-some b is);
  least = λ a b is low among holds. r.least a b is low among (from b holds);
}

-- for one thing, then for another
pub risen_both : (t : List ℤ) (p q : ℤ → Type 0) (old mid new : Option ℤ) → ((a b : ℤ) → a ≤ℤ b → p a → p b) → IsRisen t p old mid → IsRisen t q mid new
    → IsRisen t (λ b. p b × q b) old new
risen_both t p q old mid new up one two = record {
  held = λ b is. let (a, at, low) = two.rises b is in (up a b low (one.held a at), two.held b is);
  rises = λ b is.
      let (a, at, low) = two.rises b is in
      let (c, from, less) = one.rises a at in
      (c, from, let z : c ≤ℤ b = omega (arith, ints) in z);
  among = λ b is. ⊎_elim (λ same. one.among b same) (λ new. inr new) (two.among b is);
  least = λ a b is low among holds.
      let (x, at, less) = one.least a b is low among holds.0 in
      let (y, here, fewer) = two.least x b at less (⊎_elim (λ same. inl (stays x b at less same)) (λ has. inr has) among) holds.1 in
      (y, here, fewer);
}
  where
    stays : (x b : ℤ) → mid ≡ Some x → x ≤ℤ b → old ≡ Some b → mid ≡ Some b
    stays x b at less same =
        let (c, from, low) = one.rises x at in
        let e : c ≡ b = same_Some c b (sym from ∙ same) in
        let z : x ≡ b = omega (arith, ints) in
        at ∙ ap (λ (y : ℤ). Some y) z

-- the least threshold that is not below a value that is past the limit
pub risen_above : (t : List ℤ) (value limit : ℤ) (new : Option ℤ) → limit <ℤ value → IsLeastAbove t value new → IsRisen t (λ b. value ≤ℤ b) (Some limit) new
risen_above t value limit Nothing past is = risen_off t (λ b. value ≤ℤ b) (Some limit)
    (λ a b at low among holds. ⊎_elim (λ same. let e : limit ≡ b = same_Some limit b same in let z : value ≤ℤ b = holds in omega (arith, ints))
    (λ has. let less : b <ℤ value = is.none b has in let z : value ≤ℤ b = holds in omega (arith, ints)) among)
risen_above t value limit (Some x) past is =
    let (there, up, best) = is.some in
    record {
      held = λ b at. subst (λ (y : ℤ). value ≤ℤ y) (same_Some _ _ at) up;
      rises = λ b at. (limit, refl, let e : x ≡ b = same_Some _ _ at in omega (arith, ints));
      among = λ b at. inr (subst (λ (y : ℤ). Contains t y) (same_Some _ _ at) there);
      least = λ a b at low among holds. (
        x,
        refl,
        ⊎_elim (λ same. let e : limit ≡ b = same_Some limit b same in let z : value ≤ℤ b = holds in absurd (omega (arith, ints)))
            (λ has. best b has holds) among,
      );
    }

-- COMMON VALUATIONS

pub meets_exact : (s a : Diagrams) (one other both : ℕ) (b : Bool) → Answers s a (λ v. value_of s.nodes one v && value_of s.nodes other v) both
    → ReadsBelow a.nodes a.variables → IsTrue b ↔ ((v : Valuation) → value_of a.nodes both v ≡ false)
    → MatchBool (not b) ((v : Valuation) × (value_of s.nodes one v ≡ true) × (value_of s.nodes other v ≡ true))
    ((v : Valuation) → value_of s.nodes one v ≡ true → value_of s.nodes other v ≡ true → ⊥)
meets_exact s a one other both true is reads none = λ v here there.
    false≢true (sym (none.0 refl v) ∙ is.means v ∙ and_from (value_of s.nodes one v) (value_of s.nodes other v) here there)
meets_exact s a one other both false is reads none =
    let (v, on) = some_from a.nodes a.variables both reads is.found (λ h. false≢true (none.1 h)) in
    let (here, there) = and_parts (value_of s.nodes one v) (value_of s.nodes other v) (sym (is.means v) ∙ on) in
    (v, here, there)

-- A PART

pub shifted_is : (value x y a b : ℤ) → a ≡ x → b ≡ y → unsigned_abs x ≤ 128 * 2 ^ 101 → unsigned_abs y ≤ 2 ^ 50
    → (unsigned_abs a ≤ 128 * 2 ^ 101 → unsigned_abs b ≤ 2 ^ 50 → value ≡ a +ℤ b) → value ≡ x +ℤ y
shifted_is value x y a b p q h k is =
    is (subst (λ (z : ℤ). unsigned_abs z ≤ 128 * 2 ^ 101) (sym p) h) (subst (λ (z : ℤ). unsigned_abs z ≤ 2 ^ 50) (sym q) k)
    ∙ ap (λ (z : ℤ). z +ℤ b) p ∙ ap (λ (z : ℤ). x +ℤ z) q

part_up : (nodes : List Triple) (inside : ℕ) (part : Part) (number a b : ℤ) → a ≤ℤ b → PartWithin nodes inside part number a
    → PartWithin nodes inside part number b
part_up nodes inside part number a b low h v on holds = let z : (part.form.constant +ℤ number) ≤ℤ a = h v on holds in omega (arith, ints)

-- a part that is not met
pub part_apart : (nodes : List Triple) (inside : ℕ) (part : Part) (number limit : ℤ) (t : List ℤ)
    → ((v : Valuation) → value_of nodes inside v ≡ true → value_of nodes part.under v ≡ true → ⊥)
    → IsRisen t (PartWithin nodes inside part number) (Some limit) (Some limit)
part_apart nodes inside part number limit t apart = risen_still t (PartWithin nodes inside part number) (Some limit)
    (λ b at v on holds. absurd (apart v on holds))

-- a part that is met
pub part_met : (nodes : List Triple) (inside : ℕ) (part : Part) (number value limit : ℤ) (t : List ℤ) (new : Option ℤ)
    → ((v : Valuation) → value_of nodes part.under v ≡ true → value ≡ part.form.constant +ℤ number)
    → (v : Valuation) × (value_of nodes inside v ≡ true) × (value_of nodes part.under v ≡ true)
    → IsRisen t (λ b. value ≤ℤ b) (Some limit) new → IsRisen t (PartWithin nodes inside part number) (Some limit) new
part_met nodes inside part number value limit t new is (w, some, there) =
    risen_as t (λ b. value ≤ℤ b) (PartWithin nodes inside part number) (Some limit) new
    (λ b h v on holds. let e : value ≡ part.form.constant +ℤ number = is v holds in omega (arith, ints))
    (λ b h. let e : value ≡ part.form.constant +ℤ number = is w there in
    let z : (part.form.constant +ℤ number) ≤ℤ b = h w some there in omega (arith, ints))

-- THE PARTS

pub parts_first : (nodes : List Triple) (inside : ℕ) (parts : List Part) (number : ℤ) (t : List ℤ) (limit : Option ℤ)
    → IsRisen t (PartsWithin nodes inside parts 0 number) limit limit
parts_first nodes inside parts number t limit = risen_still t (PartsWithin nodes inside parts 0 number) limit
    (λ b at i low. absurd (omega arith))

-- one part more, in a store that has grown
pub parts_more : (s a : Diagrams) (inside : ℕ) (parts : List Part) (part : Part) (number : ℤ) (n : ℕ) (t : List ℤ) (old mid new : Option ℤ) → Extends s a
    → IsRef s.nodes inside → IsRef s.nodes part.under → part_at parts n ≡ part
    → IsRisen t (PartsWithin s.nodes inside parts n number) old mid
    → IsRisen t (PartWithin a.nodes inside part number) mid new
    → IsRisen t (PartsWithin s.nodes inside parts (n + 1) number) old new
parts_more s a inside parts part number n t old mid new more ref under at one two =
    risen_as t (λ b. PartsWithin s.nodes inside parts n number b × PartWithin a.nodes inside part number b) (PartsWithin s.nodes inside parts (n + 1) number)
    old new
    (λ b h i low v on holds. ⊎_elim (λ less. h.0 i less v on holds)
    (λ ge. let e : i ≡ n = omega arith in
    let same : part_at parts i ≡ part = ap (λ (j : ℕ). part_at parts j) e ∙ at in
    subst (λ (x : Part). (x.form.constant +ℤ number) ≤ℤ b) (sym same)
    (h.1 v (more.kept inside ref v ∙ on) (more.kept part.under under v ∙ subst (λ (x : Part). value_of s.nodes x.under v ≡ true) same holds)))
    (cases_lt i n))
    (λ b h. (
      λ i low. h i (omega arith),
      λ v on holds. subst (λ (x : Part). (x.form.constant +ℤ number) ≤ℤ b) at
          (h n (omega arith) v (sym (more.kept inside ref v) ∙ on)
          (subst (λ (x : Part). value_of s.nodes x.under v ≡ true) (sym at) (sym (more.kept part.under under v) ∙ holds))),
    ))
    (risen_both t (PartsWithin s.nodes inside parts n number) (PartWithin a.nodes inside part number) old mid new
    (λ a1 b1 low h i less. part_up s.nodes inside (part_at parts i) number a1 b1 low (h i less)) one two)

-- all of them
pub parts_ends : (nodes : List Triple) (inside : ℕ) (parts : List Part) (number : ℤ) (n : ℕ) (t : List ℤ) (old new : Option ℤ) → IsTerm nodes 0 parts
    → n ≡ length parts → IsRisen t (PartsWithin nodes inside parts n number) old new → IsRisen t (EndsWithin nodes inside parts number) old new
parts_ends nodes inside parts number n t old new term all r =
    risen_as t (PartsWithin nodes inside parts n number) (EndsWithin nodes inside parts number) old new
    (λ b h v on. let (i, low, here) = term.covers v in
    subst (λ (f : Form). (f.constant +ℤ number) ≤ℤ b) (sym (form_is nodes parts i v term.disjoint low here)) (h i (omega arith) v on here))
    (λ b h i low v on here. subst (λ (f : Form). (f.constant +ℤ number) ≤ℤ b) (form_is nodes parts i v term.disjoint (omega arith) here) (h v on))
    r
