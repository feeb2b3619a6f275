-- The sums of a kept row after the updates stay small.
use Rattle.std.proofs.Common.{◌≡◌, ℕ, ◌*◌, ◌<◌, ◌≤◌, ◌^◌, min, ℤ, pos, ◌-ℤ◌, ◌*ℤ◌, List, [], ◌∷◌, All, map, length, take, arith, sym, ◌∙◌, ◌⊎◌, inl, inr}
use Rattle.std.proofs.Math.Nat.{suc-mul, mul-le-mul, mul-le-mul_right}
use Rattle.std.proofs.lemmas.List.Elements.{All-head, All-tail, All-map, All-take, All-weaker, All-get_or, All-from_get_or}
use Rattle.std.proofs.{lemmas.Int.ints, lemmas.Int.unsigned_abs-mul, lemmas.Bool.cases_lt, lemmas.List.get_or_past, lemmas.List.length-take}
use Rattle.std.specs.Int.RustNames.{unsigned_abs}
use Rattle.rv_rows.specs.Forms.{number, forms_width, IsSubstituted, SumsStay, CanSubstitute}
use Rattle.rv_rows.specs.{declared.linear.Row.Row, declared.linear.Form.Form, Rows.dot, Rows.RowWithin, Tight.Fits}
use Rattle.rv_rows.proofs.IntLemmas.{abs-add}
use Rattle.rv_proofs.specs.Systems.{System, IsSystem, HasLimits, IsUpdate, IsTestRow}

-- a sum of products of numbers within a and b
dot_within : (a b : ℕ) (cs xs : List ℤ) → All (λ c. unsigned_abs c ≤ a) cs → All (λ x. unsigned_abs x ≤ b) xs → unsigned_abs (dot cs xs) ≤ length cs * (a * b)
dot_within a b [] xs h k = omega arith
dot_within a b (c ∷ cs) [] h k = omega arith
dot_within a b (c ∷ cs) (x ∷ xs) h k =
    let rest = dot_within a b cs xs (All-tail (λ c. unsigned_abs c ≤ a) c cs h) (All-tail (λ x. unsigned_abs x ≤ b) x xs k) in
    let both = mul-le-mul (All-head (λ c. unsigned_abs c ≤ a) c cs h) (All-head (λ x. unsigned_abs x ≤ b) x xs k) in
    let product = unsigned_abs-mul c x in
    let sum = abs-add (c *ℤ x) (dot cs xs) in
    let more = suc-mul (length cs) (a * b) in
    omega arith

-- of at most 64 coefficients of a kept row and the numbers of updates
sum_within : (cs xs : List ℤ) → length cs ≤ 64 → All (λ c. unsigned_abs c ≤ 2 ^ 30) cs → All (λ x. unsigned_abs x ≤ 2 ^ 40) xs
    → unsigned_abs (dot cs xs) ≤ 2 ^ 76
sum_within cs xs few h k =
    let within = dot_within (2 ^ 30) (2 ^ 40) cs xs h k in
    let most = mul-le-mul_right (2 ^ 30 * 2 ^ 40) few in
    omega arith

sums_stay : (cs xs : List ℤ) → length cs ≤ 64 → All (λ c. unsigned_abs c ≤ 2 ^ 30) cs → All (λ x. unsigned_abs x ≤ 2 ^ 40) xs → SumsStay cs xs
sums_stay cs xs few h k n =
    let shorter : length (take n cs) ≤ 64 = fewer (length-take n cs) in
    let within = sum_within (take n cs) xs shorter (All-take (λ c. unsigned_abs c ≤ 2 ^ 30) n cs h) k in
    omega arith
  where
    fewer : length (take n cs) ≡ min n (length cs) → length (take n cs) ≤ 64
    fewer e = omega arith

pub number_within : (b k : ℕ) (cs : List ℤ) → All (λ c. unsigned_abs c ≤ b) cs → unsigned_abs (number k cs) ≤ b
number_within b k cs h = go (cases_lt k (length cs))
  where
    go : (k < length cs) ⊎ (length cs ≤ k) → unsigned_abs (number k cs) ≤ b
    go (inl l) = All-get_or (λ c. unsigned_abs c ≤ b) cs k (pos 0) l h
    go (inr l) = rw (get_or_past cs k (pos 0) l) (none b)
      where
        none : (n : ℕ) → unsigned_abs (pos 0) ≤ n
        none n = omega arith

module _ (s : System) (is : IsSystem s) (r : Row) (forms : List Form) (size : length r.coefficients ≡ s.memories) (fits : Fits r)
    (count : length forms ≡ s.memories) (updates : All (IsUpdate s) forms) where
  few : length r.coefficients ≤ 64
  few = let limits : HasLimits s = is.limits in let most = limits.memories in omega arith

  side_within : (k : ℕ) → All (λ x. unsigned_abs x ≤ 2 ^ 40) (map (λ f. number k f.coefficients) forms)
  side_within k = All-map (λ x. unsigned_abs x ≤ 2 ^ 40) (λ f. number k f.coefficients) forms
      (All-weaker (IsUpdate s) (λ (f : Form). unsigned_abs (number k f.coefficients) ≤ 2 ^ 40) (λ f u. number_within (2 ^ 40) k f.coefficients (u.small.0))
      forms updates)

  constants_within : All (λ x. unsigned_abs x ≤ 2 ^ 40) (map (λ f. f.constant) forms)
  constants_within = All-map (λ x. unsigned_abs x ≤ 2 ^ 40) (λ (f : Form). f.constant) forms
      (All-weaker (IsUpdate s) (λ (f : Form). unsigned_abs f.constant ≤ 2 ^ 40) (λ f u. u.small.1) forms updates)

  pub has_room : CanSubstitute r forms
  has_room = record {
    columns = size ∙ sym count;
    widths = one_width forms updates;
    sides = λ k. sums_stay r.coefficients (map (λ f. number k f.coefficients) forms) few fits.coefficients (side_within k);
    constants = sums_stay r.coefficients (map (λ f. f.constant) forms) few fits.coefficients constants_within;
    bound = let b = fits.bound in omega arith;
  }
    where
      one_width : (fs : List Form) → All (IsUpdate s) fs → All (λ f. length f.coefficients ≡ forms_width fs) fs
      one_width [] h = λ i d l. absurd (omega arith)
      one_width (f ∷ fs) h =
          let first = All-head (IsUpdate s) f fs h in
          All-weaker (IsUpdate s) (λ (g : Form). length g.coefficients ≡ length f.coefficients) (λ g u. u.wide ∙ sym first.wide) (f ∷ fs) h

  pub stays_small : (new : Row) → IsSubstituted r forms new → RowWithin (2 ^ 78) new
  stays_small new sub = (
    All-from_get_or (λ c. unsigned_abs c ≤ 2 ^ 78) new.coefficients (pos 0) (λ k l. side k),
    below r.bound (dot r.coefficients (map (λ f. f.constant) forms)) new.bound sub.bound fits.bound
        (sum_within r.coefficients (map (λ f. f.constant) forms) few fits.coefficients constants_within),
  )
    where
      side : (k : ℕ) → unsigned_abs (number k new.coefficients) ≤ 2 ^ 78
      side k =
          let within = sum_within r.coefficients (map (λ f. number k f.coefficients) forms) few fits.coefficients (side_within k) in
          rw (sub.coefficients k) (wider (unsigned_abs (dot r.coefficients (map (λ f. number k f.coefficients) forms))) within)
        where
          wider : (n : ℕ) → n ≤ 2 ^ 76 → n ≤ 2 ^ 78
          wider n l = omega arith

      below : (a b z : ℤ) → z ≡ a -ℤ b → unsigned_abs a ≤ 2 ^ 60 → unsigned_abs b ≤ 2 ^ 76 → unsigned_abs z ≤ 2 ^ 78
      below a b z e h k = omega (arith, ints)

-- a kept row and a row of a test are premises within the limits of the sums
pub premise_of_kept : (r : Row) → Fits r → RowWithin (2 ^ 60) r
premise_of_kept r fits = (
  All-weaker (λ c. unsigned_abs c ≤ 2 ^ 30) (λ c. unsigned_abs c ≤ 2 ^ 60) (λ c l. omega arith) r.coefficients fits.coefficients,
  fits.bound,
)

pub premise_of_test : (s : System) (r : Row) → IsTestRow s r → RowWithin (2 ^ 60) r
premise_of_test s r row = (
  All-weaker (λ c. unsigned_abs c ≤ 2 ^ 41) (λ c. unsigned_abs c ≤ 2 ^ 60) (λ c l. omega arith) r.coefficients row.coefficients,
  row.bound,
)
