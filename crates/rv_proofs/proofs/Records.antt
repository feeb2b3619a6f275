-- Multipliers and rows of a document are within the limits of the checker of multipliers.
use Rattle.std.proofs.Common.{◌≡◌, ℕ, ◌≤◌, ◌^◌, ℤ, pos, ◌≤ℤ◌, List, length, All, arith}
use Rattle.std.proofs.{lemmas.Int.ints, lemmas.List.Elements.All-weaker}
use Rattle.std.specs.Int.RustNames.{unsigned_abs}
use Rattle.rv_rows.specs.{declared.linear.Row.Row, declared.farkas.Multipliers.Multipliers, Rows.RowWithin, Tight.Fits, Multipliers.WeightsWithin}
use Rattle.rv_proofs.specs.{Systems.System, Ranges.IsRecord, Ranges.AreKept}

small : (z : ℤ) (n : ℕ) → pos 1 ≤ℤ z → z ≤ℤ pos n → unsigned_abs z ≤ n
small z n h k = omega (arith, ints)

pub weights_within : (n : ℕ) (m : Multipliers) → IsRecord n m → WeightsWithin (2 ^ 41) 256 m.weights
weights_within n m r = (
  All-weaker (λ w. pos 1 ≤ℤ w.by × (w.by ≤ℤ pos (2 ^ 41))) (λ w. unsigned_abs w.by ≤ 2 ^ 41) (λ w h. small w.by (2 ^ 41) h.0 h.1)
      m.weights r.weighted,
  r.few,
)

pub divisor_within : (n : ℕ) (m : Multipliers) → IsRecord n m → unsigned_abs m.divisor ≤ 2 ^ 30
divisor_within n m r = small m.divisor (2 ^ 30) r.positive r.divisor

wider : (r : Row) (a b : ℕ) → a ≤ b → RowWithin a r → RowWithin b r
wider r a b l h = (All-weaker (λ c. unsigned_abs c ≤ a) (λ c. unsigned_abs c ≤ b) (λ c k. omega arith) r.coefficients h.0, let x = h.1 in omega arith)

pub wanted_within : (r : Row) → RowWithin (2 ^ 60) r → RowWithin (2 ^ 78) r
wanted_within r h = wider r (2 ^ 60) (2 ^ 78) (omega arith) h

-- kept rows may be premises
pub kept_within : (s : System) (rows : List Row) → AreKept s rows → All (RowWithin (2 ^ 60)) rows
kept_within s rows h = All-weaker (λ r. (length r.coefficients ≡ s.memories) × Fits r) (RowWithin (2 ^ 60))
    (λ r k. (All-weaker (λ c. unsigned_abs c ≤ 2 ^ 30) (λ c. unsigned_abs c ≤ 2 ^ 60) (λ c j. omega arith) r.coefficients k.1.coefficients, k.1.bound)) rows h.0
