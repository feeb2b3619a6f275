-- Linear forms over the whole numbers, and rows whose columns are replaced by forms.
use Rattle.std.specs.Prelude.{◌≡◌, ℕ, ◌<◌, ◌≤◌, ◌^◌, ℤ, pos, ◌+ℤ◌, ◌-ℤ◌, ◌*ℤ◌, List, [], ◌∷◌, map, length, take, All, slice_index_or}
use Rattle.std.specs.Int.RustNames.{unsigned_abs}
use Rattle.rv_rows.specs.{declared.linear.Row.Row, declared.linear.Form.Form, Rows.dot}

-- The number of a column, 0 beyond the width.
abbrev pub number : ℕ → List ℤ → ℤ
number k cs = slice_index_or cs k (pos 0)

-- The value of a form at a whole point.
abbrev pub value : Form → List ℤ → ℤ
value f point = dot f.coefficients point +ℤ f.constant

-- The values of the forms at a whole point, one for each column that they replace.
abbrev pub values : List Form → List ℤ → List ℤ
values forms point = map (λ f. value f point) forms

-- c is the sum of a and b, column by column.
pub record IsSum (a b c : Form) : Type 0 where
  pub width : length c.coefficients ≡ length a.coefficients
  pub coefficients : (k : ℕ) → number k c.coefficients ≡ number k a.coefficients +ℤ number k b.coefficients
  pub constant : c.constant ≡ a.constant +ℤ b.constant

-- c is a times `by`, column by column.
pub record IsMultiple (by : ℤ) (a c : Form) : Type 0 where
  pub width : length c.coefficients ≡ length a.coefficients
  pub coefficients : (k : ℕ) → number k c.coefficients ≡ by *ℤ number k a.coefficients
  pub constant : c.constant ≡ by *ℤ a.constant

-- The width of the first form, 0 where there is none.
abbrev pub forms_width : List Form → ℕ
forms_width [] = 0
forms_width (f ∷ fs) = length f.coefficients

-- In `new`, column k of `old` is replaced by the k-th form, and the constants have gone to the bound.
pub record IsSubstituted (old : Row) (forms : List Form) (new : Row) : Type 0 where
  pub width : length new.coefficients ≡ forms_width forms
  pub coefficients : (k : ℕ) → number k new.coefficients ≡ dot old.coefficients (map (λ f. number k f.coefficients) forms)
  pub bound : new.bound ≡ old.bound -ℤ dot old.coefficients (map (λ f. f.constant) forms)

-- The sums of the two forms, one for each column and one of the constants, stay below 2^110.
pub record CanAdd (a b : Form) : Type 0 where
  pub coefficients : (k : ℕ) → unsigned_abs (number k a.coefficients +ℤ number k b.coefficients) < 2 ^ 110
  pub constant : unsigned_abs (a.constant +ℤ b.constant) < 2 ^ 110

-- The multiples of the form's numbers stay below 2^110.
pub record CanScale (by : ℤ) (a : Form) : Type 0 where
  pub coefficients : (k : ℕ) → unsigned_abs (by *ℤ number k a.coefficients) < 2 ^ 110
  pub constant : unsigned_abs (by *ℤ a.constant) < 2 ^ 110

-- The sum of the first n products stays below 2^110, for every n.
abbrev pub SumsStay : List ℤ → List ℤ → Type 0
SumsStay cs xs = (n : ℕ) → unsigned_abs (dot (take n cs) xs) < 2 ^ 110

-- There is one form for each column of the row, all forms have one width, and the sums stay below 2^110.
pub record CanSubstitute (old : Row) (forms : List Form) : Type 0 where
  pub columns : length old.coefficients ≡ length forms
  pub widths : All (λ f. length f.coefficients ≡ forms_width forms) forms
  pub sides : (k : ℕ) → SumsStay old.coefficients (map (λ f. number k f.coefficients) forms)
  pub constants : SumsStay old.coefficients (map (λ f. f.constant) forms)
  pub bound : unsigned_abs old.bound < 2 ^ 110

-- No number of the form, its constant included, has a magnitude above n.
abbrev pub FormWithin : ℕ → Form → Type 0
FormWithin n f = All (λ c. unsigned_abs c ≤ n) f.coefficients × (unsigned_abs f.constant ≤ n)
