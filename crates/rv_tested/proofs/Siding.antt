-- The terms of the sides of comparisons.
use Rattle.std.proofs.Common.{◌≡◌, inl, inr, ℕ, ◌+◌, ◌*◌, ◌^◌, ◌<◌, ◌≤◌, ℤ, pos, negsuc, ◌+ℤ◌, ◌*ℤ◌, Bool, true, false, List, length, sym, ◌∙◌, ap, subst}
use Rattle.std.proofs.Common.{arith, Option, All, get_or}
use Rattle.std.proofs.{lemmas.Bool.cases_lt, lemmas.Bool.cases_Bool, lemmas.Int.ints, lemmas.Int.unsigned_abs-mul, lemmas.List.Elements.All-from_get_or}
use Rattle.std.specs.Int.RustNames.{unsigned_abs}
use Rattle.rv_base.specs.Limits.{heaviest}
use Rattle.rv_types.specs.declared.typed.Kind.TheVariants as kind
use Rattle.rv_rows.specs.Forms.{number, FormWithin, CanAdd, CanScale}
use Rattle.rv_rows.specs.{declared.linear.Form.Form, Arithmetic.form_sum, Arithmetic.form_times, Arithmetic.form_difference}
use Rattle.rv_diagram.specs.{declared.Triple.Triple, Nodes.Valuation, Nodes.Diagrams, Nodes.IsRef, Nodes.value_of}
use Rattle.rv_diagram.specs.Growing.{Extends}
use Rattle.rv_agreement.specs.{Agreement.Fits, Trees.FlatTree, Valuations.Reading, Valuations.Linear, Valuations.Comparison, Valuations.IsSymbolic}
use Rattle.rv_flat.specs.{declared.flat.Flat.Flat, FlatInstants.system_of}
use Rattle.rv_control.specs.Named.{named}
use Rattle.rv_control.proofs.Bounded.{IsBounded, times_bounded, difference_bounded}
use Rattle.rv_terms.specs.Parts.{part_at, holds, form_at, term_width, AreDisjoint, AreFilled, IsTermOf}
use Rattle.rv_terms.specs.{declared.parted.Part.Part, declared.parted.Term.Term}
use Rattle.rv_terms.proofs.Combining.{form_is, form_later, form_width}
use Rattle.rv_bits.specs.Shown.{is_there_at}
use Rattle.rv_forms.specs.Terms.{columns_of, weight_in, IsWithin, ReadsAs}
use Rattle.rv_tested.specs.Testing.{IsSideRead, AreSidesRead, AreAllRead, IsDifference}
use Rattle.rv_tested.specs.{declared.compared.Compared.Compared, declared.testing.Sides.Sides, Compared.comparison_in}
use Rattle.rv_forms.proofs.{Bounds.bounded, Bounds.within_more, Kept.within_kept}

-- LATER

side_read : (f : Flat) (old mid new : Diagrams) (k : Option ℕ) (t : FlatTree) (parts : List Part) → ReadsAs f old mid t parts → Extends mid new
    → Fits (system_of f) (length (system_of f).flows) k kind.Int t → weight_in f t ≤ heaviest → IsSideRead f new.nodes k t parts
side_read f old mid new k t parts is e fit light = record {
  within = within_kept mid new (columns_of f) heaviest parts e (within_more mid.nodes (columns_of f) (weight_in f t) heaviest parts light is.within);
  shows = λ v row instant there. is.shows v row k instant fit there ∙ ap (λ (x : Form). Linear x) (sym (form_later mid new parts v e
      is.within.term.refs));
}

pub sides_read : (f : Flat) (a b c : Diagrams) (x : Comparison) (there : ℕ) (left right : Term) → ReadsAs f a b x.left left.parts
    → ReadsAs f b c x.right right.parts → Extends b c
    → Fits (system_of f) (length (system_of f).flows) x.clock kind.Int x.left → Fits (system_of f) (length (system_of f).flows) x.clock kind.Int x.right
    → weight_in f x.left ≤ heaviest → weight_in f x.right ≤ heaviest → Extends c c → IsRef c.nodes there
    → ((v : Valuation) (row : List (Option Reading)) → IsSymbolic (system_of f) (named f v) row → value_of c.nodes there v ≡ is_there_at f v row x.clock)
    → AreSidesRead f c.nodes x (record { there = there; left = left; right = right })
sides_read f a b c x there left right first second e one two light lighter same found means = record {
  there_ref = found;
  there = means;
  left = side_read f a b c x.clock x.left left.parts first e one light;
  right = side_read f b c c x.clock x.right right.parts second same two lighter;
}

side_later : (f : Flat) (a b : Diagrams) (k : Option ℕ) (t : FlatTree) (parts : List Part) → Extends a b → IsSideRead f a.nodes k t parts
    → IsSideRead f b.nodes k t parts
side_later f a b k t parts e is = record {
  within = within_kept a b (columns_of f) heaviest parts e is.within;
  shows = λ v row instant there. is.shows v row instant there ∙ ap (λ (x : Form). Linear x) (sym (form_later a b parts v e is.within.term.refs));
}

pub sides_later : (f : Flat) (a b : Diagrams) (c : Comparison) (x : Sides) → Extends a b → AreSidesRead f a.nodes c x → AreSidesRead f b.nodes c x
sides_later f a b c x e is = record {
  there_ref = omega (arith, is.there_ref, e.longer);
  there = λ v row instant. e.kept x.there is.there_ref v ∙ is.there v row instant;
  left = side_later f a b c.clock c.left x.left.parts e is.left;
  right = side_later f a b c.clock c.right x.right.parts e is.right;
}

pub all_later : (f : Flat) (a b : Diagrams) (cs : List Compared) (xs : List Sides) → Extends a b → AreAllRead f a.nodes cs xs → AreAllRead f b.nodes cs xs
all_later f a b cs xs e is = record {
  many = is.many;
  each = λ i c x one two. sides_later f a b (comparison_in f.memories c) x e (is.each i c x one two);
}

-- DIFFERENCES

within_of : (columns n m : ℕ) (f : Form) → n ≤ m → IsBounded columns n f → FormWithin m f
within_of columns n m f le is = (
  All-from_get_or (λ z. unsigned_abs z ≤ m) f.coefficients (pos 0) (λ i lt. let h = is.each i in omega (arith, h, le)),
  let h = is.constant in omega (arith, h, le),
)

-- a bound that holds wherever a function is true, which is not false everywhere
most_from : (u : Valuation → Bool) (m n : ℕ) → (((v : Valuation) → u v ≡ false) → ⊥) → ((v : Valuation) → u v ≡ true → m ≤ n) → m ≤ n
most_from u m n some each = elim (cases_lt n m) [
  | inl more ↦ absurd (some (λ v. elim (cases_Bool (u v)) [ inl t ↦ let h = each v t in absurd (omega (arith, h, more)) | inr e ↦ e ]))
  | inr le ↦ le
]

-- the forms of parts that are not empty are within what the term is within at each valuation
parts_small : (nodes : List Triple) (parts : List Part) (n : ℕ) → AreDisjoint nodes parts → AreFilled nodes parts
    → ((v : Valuation) → FormWithin n (form_at nodes parts v)) → (i : ℕ) → i < length parts → FormWithin n (part_at parts i).form
parts_small nodes parts n disjoint filled small i low =
    let at : (v : Valuation) → holds nodes parts i v ≡ true → FormWithin n (part_at parts i).form =
    λ v h. subst (FormWithin n) (form_is nodes parts i v disjoint low h) (small v) in (
      λ k d lt. most_from (holds nodes parts i) (unsigned_abs (get_or (part_at parts i).form.coefficients k d)) n (filled i low) (λ v h. (at v h).0 k d lt),
      most_from (holds nodes parts i) (unsigned_abs (part_at parts i).form.constant) n (filled i low) (λ v h. (at v h).1),
    )

negated_small : (x : ℤ) → unsigned_abs x ≤ heaviest → unsigned_abs (negsuc 0 *ℤ x) < 2 ^ 110
negated_small x h = let e = unsigned_abs-mul (negsuc 0) x in omega (arith, e, h)

pub can_negate : (nodes : List Triple) (columns : ℕ) (parts : List Part) → IsWithin nodes columns heaviest parts → (v : Valuation)
    → CanScale (negsuc 0) (form_at nodes parts v)
can_negate nodes columns parts is v =
    let b = bounded columns heaviest (form_at nodes parts v) (form_width nodes columns parts is.term v) (is.small v) in
    record {
      coefficients = λ k. negated_small (number k (form_at nodes parts v).coefficients) (b.each k);
      constant = negated_small (form_at nodes parts v).constant b.constant;
    }

sum_small : (x y : ℤ) → unsigned_abs x ≤ heaviest → unsigned_abs y ≤ 1 * heaviest → unsigned_abs (x +ℤ y) < 2 ^ 110
sum_small x y h k = omega (arith, ints)

pub can_subtract : (nodes : List Triple) (columns : ℕ) (parts others : List Part) → IsWithin nodes columns heaviest parts
    → IsWithin nodes columns heaviest others
    → (v : Valuation) → CanAdd (form_at nodes parts v) (form_times (negsuc 0) (form_at nodes others v))
can_subtract nodes columns parts others one two v =
    let a = bounded columns heaviest (form_at nodes parts v) (form_width nodes columns parts one.term v) (one.small v) in
    let b = times_bounded columns (negsuc 0) heaviest (form_at nodes others v)
    (bounded columns heaviest (form_at nodes others v) (form_width nodes columns others two.term v) (two.small v)) in
    record {
      coefficients = λ k. sum_small (number k (form_at nodes parts v).coefficients) (number k (form_times (negsuc 0) (form_at nodes others v)).coefficients)
          (a.each k) (b.each k);
      constant = sum_small (form_at nodes parts v).constant (form_times (negsuc 0) (form_at nodes others v)).constant a.constant b.constant;
    }

pub is_difference : (old new : Diagrams) (columns : ℕ) (first second : List Part) (negative t : Term) → IsWithin old.nodes columns heaviest first
    → IsWithin old.nodes columns heaviest second
    → ((v : Valuation) → form_at old.nodes negative.parts v ≡ form_times (negsuc 0) (form_at old.nodes second v))
    → IsTermOf new.nodes (term_width first) (λ v. form_sum (form_at old.nodes first v) (form_at old.nodes negative.parts v)) t.parts
    → IsDifference old.nodes new.nodes first second t
is_difference old new columns first second negative t one two minus is =
    let exact : (v : Valuation) → form_at new.nodes t.parts v ≡ form_difference (form_at old.nodes first v) (form_at old.nodes second v) =
    λ v. is.exact v ∙ ap (λ (x : Form). form_sum (form_at old.nodes first v) x) (minus v) in
    record {
      refs = is.term.refs;
      disjoint = is.term.disjoint;
      covers = is.term.covers;
      small = parts_small new.nodes t.parts (2 ^ 100) is.term.disjoint is.filled
          (λ v. subst (FormWithin (2 ^ 100)) (sym (exact v)) (within_of columns (heaviest + heaviest) (2 ^ 100)
          (form_difference (form_at old.nodes first v) (form_at old.nodes second v)) (omega arith)
          (difference_bounded columns heaviest heaviest (form_at old.nodes first v) (form_at old.nodes second v)
          (bounded columns heaviest (form_at old.nodes first v) (form_width old.nodes columns first one.term v) (one.small v))
          (bounded columns heaviest (form_at old.nodes second v) (form_width old.nodes columns second two.term v) (two.small v)))));
      exact = exact;
    }
