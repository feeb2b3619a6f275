use Rattle.std.proofs.Common.{◌≡◌, ℕ, ◌<◌, pos, length, ◌∙◌, sym, ap, rules, arith, FitsSigned, ◌≤ℤ◌, ◌<ℤ◌, ◌-ℤ◌, ◌^◌, ℤ, false}
use Rattle.std.proofs.lemmas.Int.{ints, to_z-of_z}
use Rattle.std.specs.{Int.w128, Prelude.int_lt}
use Rattle.rv_rows.specs.{Rows.row_at}
use Rattle.rv_rows.proofs.IntLemmas.{fits_difference}
use Rattle.rv_seek.specs.Pairs.{WeightInRange, HasRanges}
use Rattle.rv_accel.specs.Pairs.{gain, IsLevelled}
use Rattle.rv_accel.specs.Shown.{IsPairOf}
use Rattle.rv_accel.specs.Around.{IsAround, HasSum, IsSmallPair}
use Rattle.rv_accel.proofs.TakenLemmas.{taken-one}
use Rattle.rv_accel.proofs.AroundLemmas.{sum-around}
use Rattle.rv_accel.proofs.around.add_sum.Goals as goal

not_above : (z : ℤ) → int_lt (pos 2199023255552) z ≡ false → z ≤ℤ pos (2 ^ 41)
not_above z e = grind (arith, ints)

in_range : (n place : ℕ) (z : ℤ) → place < n → pos 0 <ℤ z → z ≤ℤ pos (2 ^ 41) → WeightInRange n (record { premise = place; by = z })
in_range n place z l h k = record { positive = omega (arith, ints); most = k; premise = l }

loses : (z : ℤ) → z <ℤ pos 0 → pos 0 <ℤ (pos 0 -ℤ z)
loses z h = omega (arith, ints)

clash : (a b : ℤ) → a ≡ b → pos 0 <ℤ a → b <ℤ pos 0 → ⊥
clash a b e h k = omega (arith, ints)

pub returns : goal.returns
returns c given lu lv eu ev =
    let g_fits : FitsSigned w128 c.gain_of-by.result = search rules in
    let w_fits : FitsSigned w128 c.gain_of-with.result = search rules in
    let o_fits : FitsSigned w128 (pos 0 -ℤ c.gain_of-by.result) = fits_difference (pos 0) c.gain_of-by.result (omega arith)
    (let x = c.gain_of-by.ensures.small in omega arith) in
    let by_top : int_lt (pos 2199023255552) (pos 0 -ℤ c.gain_of-by.result) ≡ false = simp to_z-of_z at c.if-by-gt-MOST_WEIGHT.false in
    let with_top : int_lt (pos 2199023255552) c.gain_of-with.result ≡ false = simp to_z-of_z at c.if-with-gt-MOST_WEIGHT.false in
    let falls : c.gain_of-by.result <ℤ pos 0 = rw c.gain_of-by.ensures.value c.requires.falls in
    let rises : pos 0 <ℤ c.gain_of-with.result = rw c.gain_of-with.ensures.value c.requires.rises in
    let level : IsLevelled c.args.course.steps.now c.args.up.row.now c.args.down.row.now c.in_ok-row.row = c.in_ok-row.ensures.level in
    let pair : IsPairOf (record { premise = c.args.up.place; by = pos 0 -ℤ c.gain_of-by.result })
    (record { premise = c.args.down.place; by = c.gain_of-with.result }) c.in_ok-proof.proof = simp to_z-of_z at c.in_ok-proof.ensures.sums in
    let apart : c.args.up.place ≡ c.args.down.place → ⊥ = λ e. clash (gain c.args.course.steps.now c.args.up.row.now)
    (gain c.args.course.steps.now c.args.down.row.now)
    (ap (gain c.args.course.steps.now) (sym eu ∙ ap (λ i. row_at given i) e ∙ ev)) c.requires.rises c.requires.falls in
    let every : (n : ℕ) → (c.args.up.place ≡ c.args.down.place → ⊥) → WeightInRange n (record { premise = c.args.up.place; by = pos 0 -ℤ c.gain_of-by.result })
    → WeightInRange n (record { premise = c.args.down.place; by = c.gain_of-with.result }) → HasRanges n c.in_ok-proof.proof =
    simp to_z-of_z at c.in_ok-proof.ensures.ranges in
    let ranges : HasRanges (length given) c.in_ok-proof.proof = every (length given) apart
    (in_range (length given) c.args.up.place (pos 0 -ℤ c.gain_of-by.result) lu (loses c.gain_of-by.result falls)
    (not_above (pos 0 -ℤ c.gain_of-by.result) by_top))
    (in_range (length given) c.args.down.place c.gain_of-with.result lv rises (not_above c.gain_of-with.result with_top)) in
    taken-one (IsAround given c.args.course.updates.now c.args.course.steps.now) (HasSum c.args.course.steps.now c.args.up.row.now c.args.down.row.now)
    (IsSmallPair c.args.course.steps.now c.args.up.row.now c.args.down.row.now) c.in_ok-row.row c.in_ok-proof.proof c.args.list.now c.keep.new.list
    c.in_ok-keep.ensures
    (sum-around given c.args.course.updates.now c.args.course.steps.now c.requires.course c.args.up.row.now c.args.down.row.now c.in_ok-row.row
    (record { premise = c.args.up.place; by = pos 0 -ℤ c.gain_of-by.result }) (record { premise = c.args.down.place; by = c.gain_of-with.result })
    c.in_ok-proof.proof c.requires.up c.requires.down c.requires.rises c.requires.falls lu lv eu ev
    (ap (λ z. pos 0 -ℤ z) c.gain_of-by.ensures.value) c.gain_of-with.ensures.value c.in_ok-row.ensures.width level pair ranges)
    (λ rows h. (c.in_ok-row.row, level, h)) (λ s. s.fits c.in_ok-row.row level)
