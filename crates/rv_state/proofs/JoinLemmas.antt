-- Joins over the same columns, and rows that no row shows.
use Rattle.std.proofs.Common.{◌≡◌, ℕ, ℤ, pos, List, [], ◌∷◌, ◌++◌, length, All, arith, refl, sym, ◌∙◌}
use Rattle.std.proofs.lemmas.List.Elements.{All-head, All-append}
use Rattle.rv_rows.specs.{declared.linear.Row.Row, Rows.dot, Rows.Holds, Multipliers.ShowsAtOnce, Multipliers.by_none, Multipliers.by_one, Multipliers.by_two}
use Rattle.rv_rows.proofs.RowLemmas.{dot-none}
use Rattle.rv_poly.specs.Polys.{HaveOneWidth, rows_width}
use Rattle.rv_proofs.proofs.Moved.{dot-read}

-- a row that no row shows at once holds everywhere
pub shown-by-none : (r : Row) (point : List ℤ) → ShowsAtOnce [] r → Holds r point
shown-by-none r point (by_none zeros below) =
    let e : dot r.coefficients point ≡ pos 0 = dot-read r.coefficients point [] (λ k n. absurd (n (zeros k))) ∙ dot-none r.coefficients in
    rw e below
shown-by-none r point (by_one i l same below) = absurd (omega arith)
shown-by-none r point (by_two i j less l same below) = absurd (omega arith)

-- the width of the first row is that of all
pub first-width : (a b : List Row) (w : ℕ) → ¬ (a ≡ []) → All (λ r. length r.coefficients ≡ w) a → rows_width (a ++ b) ≡ w
first-width [] b w some h = absurd (some refl)
first-width (r ∷ rs) b w some h = All-head (λ q. length q.coefficients ≡ w) r rs h

pub same-width : (p a b : List Row) (w : ℕ) → ¬ (a ≡ []) → All (λ r. length r.coefficients ≡ rows_width (a ++ b)) p → All (λ r. length r.coefficients ≡ w) a
    → All (λ r. length r.coefficients ≡ w) p
same-width p a b w some h widths i d l = h i d l ∙ first-width a b w some widths

-- rows of one width have one width
pub one-width : (rows : List Row) (w : ℕ) → All (λ r. length r.coefficients ≡ w) rows → HaveOneWidth rows
one-width [] w h i d l = absurd (omega arith)
one-width (r ∷ rs) w h i d l = h i d l ∙ sym (All-head (λ q. length q.coefficients ≡ w) r rs h)

pub both-one-width : (a b : List Row) (w : ℕ) → All (λ r. length r.coefficients ≡ w) a → All (λ r. length r.coefficients ≡ w) b → HaveOneWidth (a ++ b)
both-one-width a b w h k = one-width (a ++ b) w (All-append (λ r. length r.coefficients ≡ w) a b h k)
