use Rattle.std.proofs.Common.{◌≡◌, ap, negsuc}
use Rattle.rv_rows.specs.{declared.linear.Form.Form, Arithmetic.form_times}
use Rattle.rv_terms.proofs.Sums.{multiple_is}
use Rattle.rv_tested.proofs.rows.negated.Goals as goal

pub returns : goal.returns
returns c =
    let is : c.in_ok-coefficients.field-0 ≡ form_times (negsuc 0) c.args.form.now =
    multiple_is (negsuc 0) c.args.form.now c.in_ok-coefficients.field-0 c.in_ok-coefficients.ensures.exact in
    ap (λ (f : Form). f.coefficients) is
