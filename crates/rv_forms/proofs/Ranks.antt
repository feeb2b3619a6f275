-- The columns of memories and inputs, and the updates among the memories.
use Rattle.std.proofs.Common.{◌≡◌, inl, inr, ℕ, zero, suc, ◌+◌, ◌<◌, ◌≤◌, ◌≢◌, ℤ, pos, Bool, true, false, cond, nat_eq, List, [], ◌∷◌, ◌++◌, length, refl, sym}
use Rattle.std.proofs.Common.{◌∙◌, ap, subst, arith}
use Rattle.std.proofs.lemmas.Bool.{cases_lt, cases_eq, ne_eqb, eq-eqb}
use Rattle.std.specs.Prelude.{slice_index_or}
use Rattle.rv_tree.specs.Places.{Sites}
use Rattle.rv_types.specs.{declared.typed.Kind.Kind, Lists.Side, Variables.is_integer}
use Rattle.rv_types.specs.declared.typed.Kind.TheVariants as kind
use Rattle.rv_rows.specs.{declared.linear.Form.Form, Arithmetic.zeros, Arithmetic.unit, Arithmetic.constant_form, Arithmetic.column_form}
use Rattle.rv_diagram.specs.declared.Triple.{Triple}
use Rattle.rv_terms.specs.{declared.parted.Part.Part, declared.parted.Term.Term, Parts.IsTermOf}
use Rattle.rv_agreement.specs.{Agreement.forms_from, Trees.kind_at, Valuations.form_of, Valuations.spelled, Valuations.whole_count, Valuations.rank}
use Rattle.rv_control.proofs.Bounded.{IsBounded, zero_bounded, column_bounded, length-zeros, length-unit}
use Rattle.rv_bits.proofs.Listing.{element_before, element_last}
use Rattle.rv_forms.specs.{Columns.kind_form, Terms.parts_at}
use Rattle.rv_base.proofs.Truths.{bit_most}

pub rank_zero : (ks : List Kind) → rank ks 0 ≡ 0
rank_zero [] = refl
rank_zero (k ∷ ks) = refl

rank_suc : (ks : List Kind) (m : ℕ) → m < length ks → rank ks (suc m) ≡ rank ks m + cond (is_integer (kind_at ks m)) 1 0
rank_suc [] m lt = absurd (omega arith)
rank_suc (k ∷ ks) zero lt = let z = rank_zero ks in omega (arith, z)
rank_suc (k ∷ ks) (suc m) lt = let h = rank_suc ks m (omega arith) in omega (arith, h)

pub rank_next : (ks : List Kind) (m : ℕ) → m < length ks → rank ks (m + 1) ≡ rank ks m + cond (is_integer (kind_at ks m)) 1 0
rank_next ks m lt = ap (rank ks) (let e : m + 1 ≡ suc m = omega arith in e) ∙ rank_suc ks m lt

pub rank_all : (ks : List Kind) → rank ks (length ks) ≡ whole_count ks
rank_all [] = refl
rank_all (k ∷ ks) = ap (λ n. cond (is_integer k) 1 0 + n) (rank_all ks)

pub rank_most : (ks : List Kind) (m : ℕ) → rank ks m ≤ m
rank_most [] m = omega arith
rank_most (k ∷ ks) zero = omega arith
rank_most (k ∷ ks) (suc m) = let h = rank_most ks m in let g = bit_most (is_integer k) in omega (arith, h, g)

pub rank_within : (ks : List Kind) (m : ℕ) → rank ks m ≤ whole_count ks
rank_within [] m = omega arith
rank_within (k ∷ ks) zero = omega arith
rank_within (k ∷ ks) (suc m) = let h = rank_within ks m in omega (arith, h)

-- the form of an integer memory among those of all
pub forms_kth : (ks : List Kind) (g : ℕ → Form) (i : ℕ) (d : Form) → i < length ks → kind_at ks i ≡ kind.Int
    → slice_index_or (forms_from ks g) (rank ks i) d ≡ g i
forms_kth [] g i d lt whole = absurd (omega arith)
forms_kth (k ∷ ks) g zero d lt whole =
    ap (λ b. slice_index_or (cond b (g 0 ∷ forms_from ks (λ m. g (suc m))) (forms_from ks (λ m. g (suc m)))) 0 d) (ap is_integer whole)
forms_kth (k ∷ ks) g (suc i) d lt whole = by (is_integer k) (forms_kth ks (λ m. g (suc m)) i d (omega arith) whole)
  where
    rest : List Form
    rest = forms_from ks (λ m. g (suc m))

    by : (b : Bool) → slice_index_or rest (rank ks i) d ≡ g (suc i) → slice_index_or (cond b (g 0 ∷ rest) rest) (cond b 1 0 + rank ks i) d ≡ g (suc i)
    by true later = ap (λ n. slice_index_or (g 0 ∷ rest) n d) (let e : 1 + rank ks i ≡ suc (rank ks i) = omega arith in e) ∙ later
    by false later = ap (λ n. slice_index_or rest n d) (let e : 0 + rank ks i ≡ rank ks i = omega arith in e) ∙ later

-- the form of what bits spell, or of a column
pub spelled_form : (columns : ℕ) (test : Sites → Side → Bool) (labels : List ℕ) (k : Kind) (bits : ℕ → Bool) (c : ℕ)
    → kind_form columns k c ≡ form_of columns test (spelled labels k bits (column_form columns c))
spelled_form columns test labels kind.Bool bits c = refl
spelled_form columns test labels kind.Int bits c = refl
spelled_form columns test labels (kind.Labels i) bits c = refl

pub kind_bounded : (columns : ℕ) (k : Kind) (c : ℕ) → IsBounded columns 1 (kind_form columns k c)
kind_bounded columns kind.Int c = column_bounded columns c
kind_bounded columns _ c = zero_bounded columns 1

-- one term more
pub columns_more : (columns start n : ℕ) (kinds : List Kind) (k : Kind) (terms : List Term) (t : Term) (column : ℕ) → length terms ≡ n → k ≡ kind_at kinds n
    → column ≡ start + rank kinds n
    → ((m : ℕ) → m < n → (nodes : List Triple) → IsTermOf nodes columns (λ v. kind_form columns (kind_at kinds m) (start + rank kinds m)) (parts_at terms m))
    → ((nodes : List Triple) → IsTermOf nodes columns (λ v. kind_form columns k column) t.parts)
    → (m : ℕ) → m < n + 1 → (nodes : List Triple)
    → IsTermOf nodes columns (λ v. kind_form columns (kind_at kinds m) (start + rank kinds m)) (parts_at (terms ++ t ∷ []) m)
columns_more columns start n kinds k terms t column size is at before one m lt nodes = elim (cases_lt m n) [
  | inl below ↦ subst (λ (u : Term). IsTermOf nodes columns (λ v. kind_form columns (kind_at kinds m) (start + rank kinds m)) u.parts)
      (sym (element_before terms t (record { parts = [] }) m (omega arith))) (before m below nodes)
  | inr le ↦
      let same : n ≡ m = omega arith in
      subst (λ i. IsTermOf nodes columns (λ v. kind_form columns (kind_at kinds i) (start + rank kinds i)) (parts_at (terms ++ t ∷ []) i)) same
      (subst (λ (u : Term). IsTermOf nodes columns (λ v. kind_form columns (kind_at kinds n) (start + rank kinds n)) u.parts)
      (sym (element_last terms t (record { parts = [] }) n size))
      (subst (λ c. IsTermOf nodes columns (λ v. kind_form columns (kind_at kinds n) c) t.parts) at
      (subst (λ (j : Kind). IsTermOf nodes columns (λ v. kind_form columns j column) t.parts) is (one nodes))))
]

-- FORMS THAT ARE MADE

pub zeros_more : (n : ℕ) → zeros n ++ pos 0 ∷ [] ≡ zeros (n + 1)
zeros_more n = by n ∙ ap zeros (let e : suc n ≡ n + 1 = omega arith in e)
  where
    by : (m : ℕ) → zeros m ++ pos 0 ∷ [] ≡ zeros (suc m)
    by zero = refl
    by (suc m) = ap (λ l. pos 0 ∷ l) (by m)

zero_at : (n i : ℕ) → slice_index_or (zeros n) i (pos 0) ≡ pos 0
zero_at zero i = refl
zero_at (suc n) zero = refl
zero_at (suc n) (suc i) = zero_at n i

unit_same : (k n : ℕ) → k < n → slice_index_or (unit k n) k (pos 0) ≡ pos 1
unit_same k zero lt = absurd (omega arith)
unit_same zero (suc n) lt = refl
unit_same (suc k) (suc n) lt = unit_same k n (omega arith)

unit_other : (k n i : ℕ) → i ≢ k → slice_index_or (unit k n) i (pos 0) ≡ pos 0
unit_other k zero i off = refl
unit_other zero (suc n) zero off = absurd (off refl)
unit_other zero (suc n) (suc i) off = zero_at n i
unit_other (suc k) (suc n) zero off = refl
unit_other (suc k) (suc n) (suc i) off = unit_other k n i (λ e. off (ap suc e))

-- each number of a column
pub unit_at : (k n i : ℕ) → i < n → slice_index_or (unit k n) i (pos 0) ≡ pos (cond (nat_eq i k) 1 0)
unit_at k n i lt = elim (cases_eq i k) [
  | inl same ↦ ap (λ j. slice_index_or (unit k n) j (pos 0)) same ∙ unit_same k n (omega arith) ∙ ap (λ b. pos (cond b 1 0)) (sym (eq-eqb i k same))
  | inr off ↦ unit_other k n i off ∙ ap (λ b. pos (cond b 1 0)) (sym (ne_eqb i k off))
]

pub constant_made : (nodes : List Triple) (columns : ℕ) (z y : ℤ) (cs : List ℤ) (parts : List Part) → cs ≡ zeros columns → z ≡ y
    → IsTermOf nodes (length cs) (λ v. record { coefficients = cs; constant = z }) parts → IsTermOf nodes columns (λ v. constant_form columns y) parts
constant_made nodes columns z y cs parts e same is =
    subst (λ n. IsTermOf nodes n (λ v. constant_form columns y) parts) (length-zeros columns)
    (subst (λ (ds : List ℤ). IsTermOf nodes (length ds) (λ v. record { coefficients = ds; constant = y }) parts) e
    (subst (λ (x : ℤ). IsTermOf nodes (length cs) (λ v. record { coefficients = cs; constant = x }) parts) same is))

pub column_made : (nodes : List Triple) (columns column : ℕ) (cs : List ℤ) (parts : List Part) → cs ≡ unit column columns
    → IsTermOf nodes (length cs) (λ v. record { coefficients = cs; constant = pos 0 }) parts → IsTermOf nodes columns (λ v. column_form columns column) parts
column_made nodes columns column cs parts e is =
    subst (λ n. IsTermOf nodes n (λ v. column_form columns column) parts) (length-unit column columns)
    (subst (λ (ds : List ℤ). IsTermOf nodes (length ds) (λ v. record { coefficients = ds; constant = pos 0 }) parts) e is)
