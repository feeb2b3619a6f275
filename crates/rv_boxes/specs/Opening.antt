-- What is the same throughout a pass, and the premises of a case.
use Rattle.std.specs.Prelude.{◌≡◌, ℕ, ◌<◌, ◌≤◌, ◌^◌, ℤ, negsuc, ◌*ℤ◌, List, ◌++◌, length, All, Some, slice_get}
use Rattle.std.specs.Int.RustNames.{unsigned_abs}
use Rattle.rv_rows.specs.{declared.linear.Row.Row, Rows.row_at, Forms.number}
use Rattle.rv_proofs.specs.{Systems.System, declared.report.Case.Case}
use Rattle.rv_boxes.specs.{declared.frame.Frame.Frame, Built.nothing}

-- The numbers are those of the other list, each with the other sign.
pub record AreOpposite (numbers opposites : List ℤ) : Type 0 where
  pub size : length opposites ≡ length numbers
  pub each : (k : ℕ) → number k opposites ≡ negsuc 0 *ℤ number k numbers

-- The frame is that of a system: its columns and tests, and thresholds of a magnitude of at most 2^41, with their opposites.
pub record IsFrameOf (s : System) (f : Frame) : Type 0 where
  pub columns : f.columns ≡ s.columns
  pub tests : f.tests ≡ s.tests
  pub small : All (λ t. unsigned_abs t ≤ 2 ^ 41) f.thresholds
  pub turned : AreOpposite f.thresholds f.opposites
  pub turned_small : All (λ t. unsigned_abs t ≤ 2 ^ 41) f.opposites

-- Of as many tests as there are, each of the first n that are named has the row in the same position, and the others have `0 <= 0`.
pub record IsTold (many n : ℕ) (tests : List ℕ) (rows told : List Row) : Type 0 where
  pub size : length told ≡ many
  pub present : (i t : ℕ) (r : Row) → i < n → slice_get tests i ≡ Some t → slice_get rows i ≡ Some r → row_at told t ≡ r
  pub absent : (t : ℕ) → ((i : ℕ) → i < n → slice_get tests i ≡ Some t → ⊥) → row_at told t ≡ nothing

-- The tests of a case by number, in rising order, and their rows.
pub record HasTests (many : ℕ) (tests : List ℕ) (rows : List Row) : Type 0 where
  pub known : (i t : ℕ) → slice_get tests i ≡ Some t → t < many
  pub rising : (i j t u : ℕ) → i < j → slice_get tests i ≡ Some t → slice_get tests j ≡ Some u → t < u
  pub counts : length rows ≡ length tests

-- Premises: the given rows, and then one for each test.
pub record ArePremisesOf (many : ℕ) (given : List Row) (c : Case) (premises : List Row) : Type 0 where
  pub told : List Row
  pub is_told : IsTold many (length c.tests) c.tests c.rows told
  pub are : premises ≡ given ++ told
