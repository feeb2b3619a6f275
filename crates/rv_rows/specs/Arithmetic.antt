-- Forms of constants and of columns, sums and multiples of forms, and the row that the truth of a test gives.
use Rattle.std.specs.Prelude.{ℕ, zero, suc, ℤ, pos, negsuc, ◌+ℤ◌, ◌-ℤ◌, ◌*ℤ◌, Bool, true, false, List, [], ◌∷◌, map}
use Rattle.rv_rows.specs.{declared.linear.Row.Row, declared.linear.Form.Form}

-- so many zeros
abbrev pub zeros : ℕ → List ℤ
zeros zero = []
zeros (suc n) = pos 0 ∷ zeros n

-- 1 at a column, 0 at the others
abbrev pub unit : ℕ → ℕ → List ℤ
unit k zero = []
unit zero (suc n) = pos 1 ∷ zeros n
unit (suc k) (suc n) = pos 0 ∷ unit k n

-- the sums, column by column
abbrev pub plus : List ℤ → List ℤ → List ℤ
plus [] bs = bs
plus (a ∷ rest) [] = a ∷ rest
plus (a ∷ rest) (b ∷ bs) = (a +ℤ b) ∷ plus rest bs

-- the multiples, column by column
abbrev pub times : ℤ → List ℤ → List ℤ
times n cs = map (λ c. n *ℤ c) cs

-- The form of so many columns that is a constant.
abbrev pub constant_form : ℕ → ℤ → Form
constant_form width z = record { coefficients = zeros width; constant = z }

-- The form of so many columns that is one of them.
abbrev pub column_form : ℕ → ℕ → Form
column_form width k = record { coefficients = unit k width; constant = pos 0 }

-- The sum, the multiple and the difference of forms, column by column.
abbrev pub form_sum : Form → Form → Form
form_sum f g = record { coefficients = plus f.coefficients g.coefficients; constant = f.constant +ℤ g.constant }

abbrev pub form_times : ℤ → Form → Form
form_times n f = record { coefficients = times n f.coefficients; constant = n *ℤ f.constant }

abbrev pub form_difference : Form → Form → Form
form_difference f g = form_sum f (form_times (negsuc 0) g)

-- The row of a test `f <= 0`: `f <= 0` where the test is true, `-f <= -1` where it is false.
abbrev pub test_row : Bool → Form → Row
test_row true f = record { coefficients = f.coefficients; bound = pos 0 -ℤ f.constant }
test_row false f = record { coefficients = times (negsuc 0) f.coefficients; bound = f.constant -ℤ pos 1 }
