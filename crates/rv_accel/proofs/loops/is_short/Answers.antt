use Rattle.std.proofs.Common.{◌≡◌, ◌+◌, ◌<◌, ◌≤◌, pos, FitsSigned, rules, arith, length, take}
use Rattle.std.proofs.{lemmas.Int.to_z-of_z, lemmas.Option.get_or_from_slice_get, lemmas.Option.slice_get_within}
use Rattle.std.specs.{Int.w128, Int.RustNames.unsigned_abs}
use Rattle.rv_rows.specs.Forms.{number}
use Rattle.rv_accel.specs.Turns.{magnitude}
use Rattle.rv_accel.proofs.LevelLemmas.{magnitude-at, magnitude-next, magnitude-take}
use Rattle.rv_accel.proofs.loops.is_short.Goals as goal

pub returns-then-size-gt-MOST_TOTAL : goal.returns-then-size-gt-MOST_TOTAL
returns-then-size-gt-MOST_TOTAL c h =
    let fits : FitsSigned w128 c.at.result.now = search rules in
    let size : c.unsigned_abs-size.result ≡ unsigned_abs c.at.result.now = simp to_z-of_z at c.unsigned_abs-size.ensures.value in
    let inside : c.loop-column.column < length c.args.steps.now = slice_get_within c.args.steps.now c.loop-column.column c.at.result.now c.at.ensures.value in
    let is : number c.loop-column.column c.args.steps.now ≡ c.at.result.now = get_or_from_slice_get c.args.steps.now c.loop-column.column
    c.at.result.now (pos 0)
    c.at.ensures.value in
    let here : unsigned_abs c.at.result.now ≤ magnitude c.args.steps.now = rw is at (magnitude-at c.args.steps.now c.loop-column.column inside) in
    let above = c.if-size-gt-MOST_TOTAL.true in
    omega arith

pub returns-then-total-gt-MOST_TOTAL : goal.returns-then-total-gt-MOST_TOTAL
returns-then-total-gt-MOST_TOTAL c h =
    let fits : FitsSigned w128 c.at.result.now = search rules in
    let size : c.unsigned_abs-size.result ≡ unsigned_abs c.at.result.now = simp to_z-of_z at c.unsigned_abs-size.ensures.value in
    let inside : c.loop-column.column < length c.args.steps.now = slice_get_within c.args.steps.now c.loop-column.column c.at.result.now c.at.ensures.value in
    let is : number c.loop-column.column c.args.steps.now ≡ c.at.result.now = get_or_from_slice_get c.args.steps.now c.loop-column.column
    c.at.result.now (pos 0)
    c.at.ensures.value in
    let more : magnitude (take (c.loop-column.column + 1) c.args.steps.now) ≡ magnitude
    (take c.loop-column.column c.args.steps.now) + unsigned_abs c.at.result.now =
    rw is at (magnitude-next c.args.steps.now c.loop-column.column inside) in
    let part = magnitude-take c.args.steps.now (c.loop-column.column + 1) in
    let so_far = c.loop-column.invariant.sum in
    let above = c.if-total-gt-MOST_TOTAL.true in
    omega arith

pub loop-column-preserved : goal.loop-column-preserved
loop-column-preserved c =
    let fits : FitsSigned w128 c.at.result.now = search rules in
    let size : c.unsigned_abs-size.result ≡ unsigned_abs c.at.result.now = simp to_z-of_z at c.unsigned_abs-size.ensures.value in
    let inside : c.loop-column.column < length c.args.steps.now = slice_get_within c.args.steps.now c.loop-column.column c.at.result.now c.at.ensures.value in
    let is : number c.loop-column.column c.args.steps.now ≡ c.at.result.now = get_or_from_slice_get c.args.steps.now c.loop-column.column
    c.at.result.now (pos 0)
    c.at.ensures.value in
    let more : magnitude (take (c.loop-column.column + 1) c.args.steps.now) ≡ magnitude
    (take c.loop-column.column c.args.steps.now) + unsigned_abs c.at.result.now =
    rw is at (magnitude-next c.args.steps.now c.loop-column.column inside) in
    let so_far = c.loop-column.invariant.sum in
    let below = c.if-total-gt-MOST_TOTAL.false in
    record { sum = omega arith; most = omega arith }
