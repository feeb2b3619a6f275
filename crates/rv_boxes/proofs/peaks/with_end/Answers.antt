use Rattle.std.proofs.{Common.rules, Common.sym, Common.ap, Common.◌∙◌, Common.◌+ℤ◌, Common.◌*ℤ◌, Common.FitsSigned, lemmas.Int.to_z-of_z}
use Rattle.std.specs.Int.{w128}
use Rattle.rv_rows.specs.declared.linear.Row.{Row}
use Rattle.rv_boxes.proofs.Numbers.{product_room, row_read}
use Rattle.rv_boxes.proofs.peaks.with_end.Goals as goal

pub plus_product-bound-requires : goal.plus_product-bound-requires
plus_product-bound-requires c =
    let by_fits : FitsSigned w128 c.args.by = search rules in
    let number_fits : FitsSigned w128 c.at.result.now.bound = search rules in
    let sum_fits : FitsSigned w128 c.args.sum.now.bound = search rules in
    simp to_z-of_z (product_room c.args.premises.now c.args.premise c.at.result.now c.args.sum.now.bound c.args.by c.requires.within
    c.at.ensures.value c.requires.room c.requires.by)

pub returns-clause-bound : goal.returns-clause-bound
returns-clause-bound c =
    let by_fits : FitsSigned w128 c.args.by = search rules in
    let number_fits : FitsSigned w128 c.at.result.now.bound = search rules in
    let sum_fits : FitsSigned w128 c.args.sum.now.bound = search rules in
    let all_fits : FitsSigned w128 c.plus_product-bound.result = search rules in
    let is = simp to_z-of_z at c.plus_product-bound.ensures in
    simp to_z-of_z (is ∙ ap (λ (r : Row). c.args.sum.now.bound +ℤ (c.args.by *ℤ r.bound))
    (sym (row_read c.args.premises.now c.args.premise c.at.result.now c.at.ensures.value)))
