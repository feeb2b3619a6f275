-- The lesser of two bounds of a form.
use Rattle.std.proofs.Common.{◌≡◌, ℤ, ◌+ℤ◌, ◌-ℤ◌, ◌≤ℤ◌, List, Option, None, Some, IfSome, IsSomeAnd, All, arith, ◌⊎◌, inl, inr}
use Rattle.std.proofs.lemmas.Int.{ints}
use Rattle.rv_rows.specs.{declared.linear.Row.Row, declared.linear.Form.Form, Rows.dot, Rows.Holds, Multipliers.Proves, Forms.value}
use Rattle.rv_rows.proofs.RowLemmas.{proves_sound}
use Rattle.rv_seek.specs.{declared.seek.Bounded.Bounded, Least.at_most}

pub lower_bound : (p r : Option Bounded) (bound : ℤ) → IfSome p (λ x. IsSomeAnd r (λ b. b.bound ≤ℤ x.bound)) → IsSomeAnd p (λ b. b.bound ≤ℤ bound)
    → IsSomeAnd r (λ b. b.bound ≤ℤ bound)
lower_bound None r bound h k = absurd k
lower_bound (Some p) None bound h k = absurd h
lower_bound (Some p) (Some r) bound h k = omega (arith, ints)

pub one_of : (P : Bounded → Type 0) (p o r : Option Bounded) → (r ≡ p) ⊎ (r ≡ o) → IfSome p P → IfSome o P → IfSome r P
one_of P p o r (inl e) h k = rw e h
one_of P p o r (inr e) h k = rw e k

-- the form is at most its bound at each whole point of the premises
pub all_hold : (rows : List Row) (form : Form) (o : Option Bounded) → IfSome o (λ b. Proves rows (at_most form b.bound) b.by)
    → IfSome o (λ b. (point : List ℤ) → All (λ r. Holds r point) rows → value form point ≤ℤ b.bound)
all_hold rows form None h = tt
all_hold rows form (Some b) h = λ point all. up (dot form.coefficients point) form.constant b.bound (proves_sound rows (at_most form b.bound) b.by h point all)
  where
    up : (d k b : ℤ) → d ≤ℤ (b -ℤ k) → (d +ℤ k) ≤ℤ b
    up d k b h = omega (arith, ints)
