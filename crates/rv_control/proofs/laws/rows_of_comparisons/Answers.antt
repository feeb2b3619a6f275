use Rattle.std.proofs.Common.{◌∙◌, ap, sym}
use Rattle.rv_types.specs.Lists.{AtLeast, AtMost, Test}
use Rattle.rv_rows.specs.Arithmetic.{test_row}
use Rattle.rv_agreement.specs.Valuations.{all_comparisons, side_form}
use Rattle.rv_flat.specs.FlatInstants.{system_of}
use Rattle.rv_control.specs.{Control.row_of, Named.named, Symbolic.symbolic, Tests.test_variable, Tightening.tightened}
use Rattle.rv_control.proofs.{Places.row_told, Points.row_is, Points.test_of, Tightened.tightened_is}
use Rattle.rv_agreement.proofs.LinearLemmas.{side_told}
use Rattle.rv_control.proofs.laws.rows_of_comparisons.Goals as goal

pub returns-clause-row : goal.returns-clause-row
returns-clause-row c = λ program main f v j x side flat at there present.
    let s = system_of f in
    let w = named f v in
    ap (row_of s w (symbolic s w)) at ∙ row_is c.tightened_rows.ensures.one s w (symbolic s w) flat.system.well x side there present

pub returns-clause-present : goal.returns-clause-present
returns-clause-present c = λ f v j r e.
    let s = system_of f in
    let w = named f v in
    let at = test_of s w (symbolic s w) (test_variable f j) r e in
    let told = row_told s w (symbolic s w) (all_comparisons s) at.0 at.1 r at.2 in
    (told.comparison, at.1, at.3 ∙ ap (λ p. Test p at.1) (sym told.place), told.there, told.is.0)

pub returns-clause-at_most : goal.returns-clause-at_most
returns-clause-at_most c = λ truth a b x.
    let form = side_form AtMost a b in
    let same = c.tightened_rows.ensures.same_points (test_row truth form) (tightened (test_row truth form)) (tightened_is (test_row truth form)) x in
    let held = c.rows_of_tests.ensures truth form x in
    let is = side_told x AtMost a b in
    (λ h. held.0 (same.0 h) ∙ is, λ e. same.1 (held.1 (e ∙ sym is)))

pub returns-clause-at_least : goal.returns-clause-at_least
returns-clause-at_least c = λ truth a b x.
    let form = side_form AtLeast a b in
    let same = c.tightened_rows.ensures.same_points (test_row truth form) (tightened (test_row truth form)) (tightened_is (test_row truth form)) x in
    let held = c.rows_of_tests.ensures truth form x in
    let is = side_told x AtLeast a b in
    (λ h. held.0 (same.0 h) ∙ is, λ e. same.1 (held.1 (e ∙ sym is)))
