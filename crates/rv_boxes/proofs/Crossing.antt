-- Columns whose ends exclude each other.
use Rattle.std.proofs.Common.{◌≡◌, ℕ, ◌<ℤ◌, ◌+ℤ◌, pos, List, sym, ◌∙◌, subst, Some}
use Rattle.std.proofs.lemmas.Option.{same_Some}
use Rattle.rv_rows.specs.{declared.linear.Row.Row, Rows.row_at}
use Rattle.rv_boxes.specs.{declared.ends.End.End, Boxed.IsCrossed}

pub crossed_at : (rows : List Row) (e : End) (low high : ℕ) → IsCrossed rows e → e.low ≡ Some low → e.high ≡ Some high
    → ((row_at rows low).bound +ℤ (row_at rows high).bound) <ℤ pos 0
crossed_at rows e low high x l h =
    let a : x.low ≡ low = same_Some x.low low (sym x.is_low ∙ l) in
    let b : x.high ≡ high = same_Some x.high high (sym x.is_high ∙ h) in
    subst (λ (n : ℕ). ((row_at rows low).bound +ℤ (row_at rows n).bound) <ℤ pos 0) b
    (subst (λ (n : ℕ). ((row_at rows n).bound +ℤ (row_at rows x.high).bound) <ℤ pos 0) a x.crossed)
