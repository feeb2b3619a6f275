use Rattle.std.proofs.{Common.◌≡◌, Common.ℕ, Common.◌<◌, Common.FitsSigned, Common.rules, Common.◌++◌, Common.◌∷◌, Common.[], lemmas.Int.to_z-of_z}
use Rattle.std.specs.Int.{w128}
use Rattle.rv_rows.specs.Forms.{number}
use Rattle.rv_rows.proofs.FormLemmas.{pushed, length-pushed}
use Rattle.rv_poly.specs.Closing.{unit_number}
use Rattle.rv_poly.proofs.units.unit_side.Goals as goal

pub loop-column-preserved : goal.loop-column-preserved
loop-column-preserved c =
    let by_fits = c.ranges.by in
    let other_fits = c.ranges.other in
    let n_fits : FitsSigned w128 c.pick-number.result = search rules in
    let number_is : c.pick-number.result ≡ unit_number c.args.first c.args.by c.args.second c.args.other c.loop-column.column = simp to_z-of_z at
    c.pick-number.ensures in
    let new_is : c.push.new.self ≡ c.loop-column.side ++ c.pick-number.result ∷ [] = simp to_z-of_z at c.in_ok-push.ensures.ok in
    let so_far : (k : ℕ) → k < c.loop-column.column → number k c.loop-column.side ≡ unit_number c.args.first c.args.by c.args.second c.args.other k =
    simp to_z-of_z at c.loop-column.invariant.numbers in
    simp to_z-of_z (rw new_is (record {
      size = length-pushed c.loop-column.side c.pick-number.result c.loop-column.column c.loop-column.invariant.size;
      numbers = pushed (λ k. unit_number c.args.first c.args.by c.args.second c.args.other k) c.loop-column.side c.pick-number.result
          c.loop-column.column c.loop-column.invariant.size so_far number_is;
    }))
