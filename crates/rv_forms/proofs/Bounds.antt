-- What bounds say of the sums and multiples of forms.
use Rattle.std.proofs.Common.{◌≡◌, inl, inr, ℕ, ◌+◌, ◌*◌, ◌^◌, ◌<◌, ◌≤◌, ℤ, pos, ◌+ℤ◌, ◌*ℤ◌, true, List, length, sym, subst, arith}
use Rattle.std.proofs.{Math.Nat.mul-le-mul_left, Math.ListN.get_or-eq_default, lemmas.Bool.cases_lt, lemmas.Bool.and_parts, lemmas.Int.unsigned_abs-mul}
use Rattle.std.proofs.{lemmas.List.Elements.All-get_or, lemmas.List.Elements.All-from_get_or}
use Rattle.std.specs.{Prelude.nat_abs, Prelude.nat_le, Int.RustNames.unsigned_abs}
use Rattle.rv_base.specs.Limits.{heaviest}
use Rattle.rv_tree.specs.Places.{Sites}
use Rattle.rv_rows.specs.{declared.linear.Form.Form, Forms.number, Forms.CanAdd, Forms.CanScale, Forms.FormWithin}
use Rattle.rv_diagram.specs.{declared.Triple.Triple, Nodes.Valuation}
use Rattle.rv_terms.specs.{declared.parted.Part.Part, Parts.form_at, Parts.IsTermOf}
use Rattle.rv_terms.proofs.Combining.{form_width}
use Rattle.rv_agreement.specs.Trees.{Node, TreeForm}
use Rattle.rv_flat.specs.Facts.{form_flat_weight, is_light, form_is_light}
use Rattle.rv_control.proofs.Bounded.{IsBounded, looser, same_abs, triangle}
use Rattle.rv_forms.specs.Terms.{IsWithin}

each_small : (n : ℕ) (f : Form) → FormWithin n f → (k : ℕ) → unsigned_abs (number k f.coefficients) ≤ n
each_small n f w k = elim (cases_lt k (length f.coefficients)) [
  | inl lt ↦ All-get_or (λ c. unsigned_abs c ≤ n) f.coefficients k (pos 0) lt w.0
  | inr le ↦ let e : number k f.coefficients ≡ pos 0 = get_or-eq_default f.coefficients (pos 0) le in
      subst (λ z. unsigned_abs z ≤ n) (sym e) (omega arith)
]

pub bounded : (columns n : ℕ) (f : Form) → length f.coefficients ≡ columns → FormWithin n f → IsBounded columns n f
bounded columns n f wide w = record { wide = wide; each = each_small n f w; constant = w.1 }

pub within : (columns n : ℕ) (f : Form) → IsBounded columns n f → FormWithin n f
within columns n f b = (All-from_get_or (λ c. unsigned_abs c ≤ n) f.coefficients (pos 0) (λ i lt. b.each i), b.constant)

-- the form of a term
pub form_bounded : (nodes : List Triple) (columns n : ℕ) (parts : List Part) → IsWithin nodes columns n parts → (v : Valuation)
    → IsBounded columns n (form_at nodes parts v)
form_bounded nodes columns n parts is v = bounded columns n (form_at nodes parts v) (form_width nodes columns parts is.term v) (is.small v)

-- a term of bounded forms
pub term_within : (nodes : List Triple) (columns n : ℕ) (form : Valuation → Form) (parts : List Part) → IsTermOf nodes columns form parts
    → ((v : Valuation) → IsBounded columns n (form v)) → IsWithin nodes columns n parts
term_within nodes columns n form parts is b = record {
  term = is.term;
  filled = is.filled;
  small = λ v. subst (FormWithin n) (sym (is.exact v)) (within columns n (form v) (b v));
}

pub within_more : (nodes : List Triple) (columns n more : ℕ) (parts : List Part) → n ≤ more → IsWithin nodes columns n parts → IsWithin nodes columns more parts
within_more nodes columns n more parts le is = record {
  term = is.term;
  filled = is.filled;
  small = λ v. within columns more (form_at nodes parts v) (looser columns n more (form_at nodes parts v) le (form_bounded nodes columns n parts is v));
}

add_small : (a b : ℤ) → unsigned_abs a ≤ heaviest → unsigned_abs b ≤ heaviest → unsigned_abs (a +ℤ b) < 2 ^ 110
add_small a b h k = let sum = triangle a b heaviest heaviest h k in omega (arith, sum)

pub can_add : (columns : ℕ) (f g : Form) → IsBounded columns heaviest f → IsBounded columns heaviest g → CanAdd f g
can_add columns f g a b = record {
  coefficients = λ k. add_small (number k f.coefficients) (number k g.coefficients) (a.each k) (b.each k);
  constant = add_small f.constant g.constant a.constant b.constant;
}

product_small : (z c : ℤ) (n : ℕ) → nat_abs z * n ≤ heaviest → unsigned_abs c ≤ n → unsigned_abs (z *ℤ c) < 2 ^ 110
product_small z c n h k =
    let e = unsigned_abs-mul z c in
    let a = same_abs z in
    let le = mul-le-mul_left {m = unsigned_abs c} {n = n} (unsigned_abs z) k in
    let up : unsigned_abs z * n ≤ heaviest = subst (λ w. w * n ≤ heaviest) (sym a) h in
    omega (arith, e, le, up)

pub can_scale : (columns n : ℕ) (z : ℤ) (f : Form) → nat_abs z * n ≤ heaviest → IsBounded columns n f → CanScale z f
can_scale columns n z f h b = record {
  coefficients = λ k. product_small z (number k f.coefficients) n h (b.each k);
  constant = product_small z f.constant n h b.constant;
}

-- the parts of a light expression
pub light_parts : (ws : List ℕ) (at : Sites) (form : TreeForm) → is_light ws (Node at form) ≡ true → form_is_light ws form ≡ true
light_parts ws at form light = (and_parts (nat_le (form_flat_weight ws form) heaviest) (form_is_light ws form) light).1
