-- The sum of a side's bounds and a multiple of another's.
use Rattle.std.proofs.Common.{◌≡◌, ◌+◌, ◌*◌, ◌<◌, ◌≤◌, ◌^◌, ◌&&◌, ◌∙◌, ℕ, ℤ, pos, ◌+ℤ◌, ◌*ℤ◌, Bool, true, false, cond, List, length, Some, ap, sym}
use Rattle.std.proofs.Common.{subst, refl, arith, None as Nothing}
use Rattle.std.proofs.{Math.Nat.mul-le-mul, Math.IntN.*ℤ-zero, lemmas.Int.ints, lemmas.Int.unsigned_abs-mul, lemmas.List.get_or_past}
use Rattle.std.specs.Int.RustNames.{unsigned_abs}
use Rattle.rv_diagram.specs.{Nodes.Valuation, Nodes.Diagrams, Nodes.IsRef, Nodes.value_of, Growing.Extends}
use Rattle.rv_rows.specs.{declared.linear.Form.Form, Forms.number, Forms.CanAdd, Forms.CanScale, Arithmetic.form_sum, Arithmetic.form_times}
use Rattle.rv_rows.proofs.IntLemmas.{abs-add}
use Rattle.rv_terms.specs.{declared.parted.Part.Part, Parts.form_at, Parts.IsTermOf, Parts.term_width}
use Rattle.rv_terms.proofs.{Sums.length-multiple, Combining.form_later, Combining.term_later}
use Rattle.rv_ends.specs.{declared.sides.Side.Side, Sides.side_at, Sides.IsSide, Tops.bound_times, Tops.bounds_sum}
use Rattle.rv_ends.proofs.Sided.{side_at_from, side_from, as_narrow}

none_there : (f : Form) (k : ℕ) → length f.coefficients ≡ 0 → number k f.coefficients ≡ pos 0
none_there f k e = get_or_past f.coefficients k (pos 0) (omega (arith, e))

product_small : (by b : ℤ) → unsigned_abs by ≤ 2 ^ 41 → unsigned_abs b ≤ 2 ^ 60 → unsigned_abs (by *ℤ b) ≤ 2 ^ 101
product_small by b l m =
    let p : unsigned_abs by * unsigned_abs b ≤ 2 ^ 41 * 2 ^ 60 = mul-le-mul l m in
    let e : unsigned_abs (by *ℤ b) ≡ unsigned_abs by * unsigned_abs b = unsigned_abs-mul by b in
    omega (arith, p, e)

pub sum_small : (z by b : ℤ) (n : ℕ) → unsigned_abs z ≤ n * 2 ^ 101 → unsigned_abs by ≤ 2 ^ 41 → unsigned_abs b ≤ 2 ^ 60
    → unsigned_abs (z +ℤ (by *ℤ b)) ≤ (n + 1) * 2 ^ 101
sum_small z by b n h l m =
    let p : unsigned_abs (by *ℤ b) ≤ 2 ^ 101 = product_small by b l m in
    let s : unsigned_abs (z +ℤ (by *ℤ b)) ≤ unsigned_abs z + unsigned_abs (by *ℤ b) = abs-add z (by *ℤ b) in
    omega (arith, h, p, s)

nothing_times : (by x : ℤ) → x ≡ pos 0 → unsigned_abs (by *ℤ x) < 2 ^ 110
nothing_times by x e = subst (λ (y : ℤ). unsigned_abs (by *ℤ y) < 2 ^ 110) (sym e)
    (subst (λ (y : ℤ). unsigned_abs y < 2 ^ 110) (sym (*ℤ-zero by)) (omega arith))

pub can_scale : (by : ℤ) (f : Form) → length f.coefficients ≡ 0 → unsigned_abs by ≤ 2 ^ 41 → unsigned_abs f.constant ≤ 2 ^ 60 → CanScale by f
can_scale by f none l m = record {
  coefficients = λ k. nothing_times by (number k f.coefficients) (none_there f k none);
  constant = let p : unsigned_abs (by *ℤ f.constant) ≤ 2 ^ 101 = product_small by f.constant l m in omega (arith, p);
}

nothing_plus : (x y : ℤ) → x ≡ pos 0 → y ≡ pos 0 → unsigned_abs (x +ℤ y) < 2 ^ 110
nothing_plus x y e f = let s : x +ℤ y ≡ pos 0 = omega (arith, ints) in subst (λ (z : ℤ). unsigned_abs z < 2 ^ 110) (sym s) (omega arith)

pub can_add : (f g : Form) (by : ℤ) (n : ℕ) → length f.coefficients ≡ 0 → length g.coefficients ≡ 0 → n < 128 → unsigned_abs f.constant ≤ n * 2 ^ 101
    → unsigned_abs by ≤ 2 ^ 41 → unsigned_abs g.constant ≤ 2 ^ 60 → CanAdd f (form_times by g)
can_add f g by n left right few h l m = record {
  coefficients = λ k. nothing_plus (number k f.coefficients) (number k (form_times by g).coefficients) (none_there f k left)
      (none_there (form_times by g) k (length-multiple by g ∙ right));
  constant =
      let s : unsigned_abs (f.constant +ℤ (by *ℤ g.constant)) ≤ (n + 1) * 2 ^ 101 = sum_small f.constant by g.constant n h l m in
      omega (arith, s, few);
}

sum_sides : (a b : Bool) (y x by : ℤ)
    → cond (a && b) (Some (y +ℤ (by *ℤ x))) Nothing ≡ bounds_sum (cond a (Some y) Nothing) (bound_times by (cond b (Some x) Nothing))
sum_sides true true y x by = refl
sum_sides true false y x by = refl
sum_sides false b y x by = refl

-- a side whose term is a sum and that is there where both are
module _ (old mid new : Diagrams) (so_far side s : Side) (by : ℤ) (part : List Part) (x : Extends old mid) (y : Extends mid new)
    (is : IsSide old.nodes (2 ^ 60) side) (scaled : IsTermOf old.nodes (term_width side.end.parts) (λ v. form_times by (form_at old.nodes side.end.parts v))
        part)
    (summed : IsTermOf mid.nodes (term_width so_far.end.parts) (λ v. form_sum (form_at old.nodes so_far.end.parts v) (form_at old.nodes part v)) s.end.parts)
    (found : IsRef new.nodes s.there)
    (there : (v : Valuation) → value_of new.nodes s.there v ≡ (value_of mid.nodes so_far.there v && value_of mid.nodes side.there v)) where
  module _ (m : ℕ) (was : IsSide old.nodes m so_far) where
    narrow : IsTermOf mid.nodes 0 (λ v. form_sum (form_at old.nodes so_far.end.parts v) (form_at old.nodes part v)) s.end.parts
    narrow = as_narrow mid.nodes old.nodes so_far.end.parts s.end.parts
        (λ v. form_sum (form_at old.nodes so_far.end.parts v) (form_at old.nodes part v)) was.term summed

    end_is : (v : Valuation) → form_at new.nodes s.end.parts v
        ≡ form_sum (form_at old.nodes so_far.end.parts v) (form_times by (form_at old.nodes side.end.parts v))
    end_is v =
        form_later mid new s.end.parts v y narrow.term.refs ∙ narrow.exact v
        ∙ ap (λ (f : Form). form_sum (form_at old.nodes so_far.end.parts v) f) (scaled.exact v)

    pub sum_exact : (v : Valuation) → side_at new.nodes s v ≡ bounds_sum (side_at old.nodes so_far v) (bound_times by (side_at old.nodes side v))
    sum_exact v =
        side_at_from new.nodes s v (value_of old.nodes so_far.there v && value_of old.nodes side.there v)
        (form_sum (form_at old.nodes so_far.end.parts v) (form_times by (form_at old.nodes side.end.parts v)))
        (there v ∙ ap (λ (b : Bool). b && value_of mid.nodes side.there v) (x.kept so_far.there was.there v)
        ∙ ap (λ (b : Bool). value_of old.nodes so_far.there v && b) (x.kept side.there is.there v))
        (end_is v)
        ∙ sum_sides (value_of old.nodes so_far.there v) (value_of old.nodes side.there v) (form_at old.nodes so_far.end.parts v).constant
        (form_at old.nodes side.end.parts v).constant by

  pub sum_side : (n : ℕ) → unsigned_abs by ≤ 2 ^ 41 → IsSide old.nodes (n * 2 ^ 101) so_far → IsSide new.nodes ((n + 1) * 2 ^ 101) s
  sum_side n small was =
      side_from new.nodes ((n + 1) * 2 ^ 101) s (λ v. form_sum (form_at old.nodes so_far.end.parts v) (form_times by (form_at old.nodes side.end.parts v)))
          found
      (term_later mid new 0 s.end.parts y (narrow (n * 2 ^ 101) was).term) (end_is (n * 2 ^ 101) was)
      (λ v. sum_small (form_at old.nodes so_far.end.parts v).constant by (form_at old.nodes side.end.parts v).constant n (was.small v) small (is.small v))
