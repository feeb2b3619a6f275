-- What holds of each element of a list.
use Rattle.std.proofs.Common.{ℕ, ◌<◌, ◌^◌, ◌-◌, ℤ, pos, List, All, length, get_or, subst, sym, ⊎_elim}
use Rattle.std.proofs.{lemmas.Bool.cases_lt, lemmas.List.get_or_past}
use Rattle.rv_rows.specs.{Forms.number, declared.linear.Row.Row, Rows.RowWithin, Tight.Fits}
use Rattle.rv_poly.specs.Whole.{IsInReplay}
use Rattle.rv_paths.specs.Joining.{AreJoined}
use Rattle.rv_poly.proofs.WholeLemmas.{replay-zero}

pub number_replay : (point : List ℤ) (k : ℕ) → All IsInReplay point → IsInReplay (number k point)
number_replay point k all =
    ⊎_elim (λ (lt : k < length point). all k (pos 0) lt) (λ ge. subst IsInReplay (sym (get_or_past point k (pos 0) ge)) replay-zero)
    (cases_lt k (length point))

pub joined_within : (rows : List Row) → ((r : Row) → Fits r → RowWithin (2 ^ 60) r) → AreJoined rows → All (RowWithin (2 ^ 60)) rows
joined_within rows kept joined k d low = let row = joined.each k d low in kept (get_or rows k d) row.fits
