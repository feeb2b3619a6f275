-- Numbers within limits meet the conditions of `substitute`.
use Rattle.std.proofs.Common.{◌≡◌, ℕ, suc, zero, ◌*◌, ◌≤◌, ◌<◌, ◌^◌, ℤ, pos, ◌*ℤ◌, List, [], ◌∷◌, All, map, length, take, get_or, zero-le, arith, ◌⊎◌, inl, inr}
use Rattle.std.proofs.lemmas.List.Elements.{All-head, All-tail, All-map}
use Rattle.std.proofs.{Math.Nat.mul-le-mul, lemmas.Int.unsigned_abs-mul, lemmas.Bool.cases_lt, lemmas.List.get_or_past}
use Rattle.std.specs.Int.RustNames.{unsigned_abs}
use Rattle.rv_rows.specs.Forms.{number, CanSubstitute, FormWithin, forms_width}
use Rattle.rv_rows.specs.{declared.linear.Row.Row, declared.linear.Form.Form, Rows.dot, Rows.RowWithin}
use Rattle.rv_rows.proofs.IntLemmas.{abs-add}

number_within : (n : ℕ) (cs : List ℤ) → All (λ c. unsigned_abs c ≤ n) cs → (k : ℕ) → unsigned_abs (number k cs) ≤ n
number_within n cs h k = go (cases_lt k (length cs))
  where
    go : (k < length cs) ⊎ (length cs ≤ k) → unsigned_abs (number k cs) ≤ n
    go (inl l) = h k (pos 0) l
    go (inr l) = rw (get_or_past cs k (pos 0) l) zero-le

product_within : (m n : ℕ) (x y : ℤ) → unsigned_abs x ≤ m → unsigned_abs y ≤ n → unsigned_abs (x *ℤ y) ≤ m * n
product_within m n x y p q =
    let s : unsigned_abs x * unsigned_abs y ≤ m * n = mul-le-mul p q in
    let t = unsigned_abs-mul x y in
    omega arith

dot_within : (m n : ℕ) (cs xs : List ℤ) → All (λ c. unsigned_abs c ≤ m) cs → All (λ x. unsigned_abs x ≤ n) xs
    → (i : ℕ) → unsigned_abs (dot (take i cs) xs) ≤ length cs * (m * n)
dot_within m n [] xs f g zero = zero-le
dot_within m n [] xs f g (suc i) = zero-le
dot_within m n (c ∷ cs) [] f g zero = zero-le
dot_within m n (c ∷ cs) [] f g (suc i) = zero-le
dot_within m n (c ∷ cs) (x ∷ xs) f g zero = zero-le
dot_within m n (c ∷ cs) (x ∷ xs) f g (suc i) =
    let p = product_within m n c x (All-head (λ z. unsigned_abs z ≤ m) c cs f) (All-head (λ z. unsigned_abs z ≤ n) x xs g) in
    let q = dot_within m n cs xs (All-tail (λ z. unsigned_abs z ≤ m) c cs f) (All-tail (λ z. unsigned_abs z ≤ n) x xs g) i in
    let s = abs-add (c *ℤ x) (dot (take i cs) xs) in
    omega arith

pub can_substitute_within : (m n : ℕ) (old : Row) (forms : List Form) → RowWithin m old → All (FormWithin n) forms
    → length old.coefficients ≡ length forms → All (λ f. length f.coefficients ≡ forms_width forms) forms
    → m < 2 ^ 110 → length old.coefficients * (m * n) < 2 ^ 110 → CanSubstitute old forms
can_substitute_within m n old forms row within columns widths small room = record {
  columns = columns;
  widths = widths;
  sides = λ k i.
      let numbers : All (λ x. unsigned_abs x ≤ n) (map (λ f. number k f.coefficients) forms) =
      All-map (λ x. unsigned_abs x ≤ n) (λ f. number k f.coefficients) forms (λ j d l. number_within n (get_or forms j d).coefficients (within j d l).0 k) in
      let p = dot_within m n old.coefficients (map (λ f. number k f.coefficients) forms) row.0 numbers i in
      omega arith;
  constants = λ i.
      let numbers : All (λ x. unsigned_abs x ≤ n) (map (λ f. f.constant) forms) =
      All-map (λ x. unsigned_abs x ≤ n) (λ f. f.constant) forms (λ j d l. (within j d l).1) in
      let p = dot_within m n old.coefficients (map (λ f. f.constant) forms) row.0 numbers i in
      omega arith;
  bound = let p = row.1 in omega arith;
}
