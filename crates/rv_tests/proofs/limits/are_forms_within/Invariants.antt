use Rattle.std.proofs.Common.{◌≡◌, length}
use Rattle.std.specs.List.{AllWithin}
use Rattle.rv_rows.specs.Forms.{FormWithin}
use Rattle.rv_tests.proofs.limits.are_forms_within.Given as goal

abbrev pub invariant-loop-form : goal.invariant-loop-form
invariant-loop-form l = record {
  small : AllWithin (FormWithin l.most) l.forms 0 l.form-index;
  widths : AllWithin (λ f. length f.coefficients ≡ l.width) l.forms 0 l.form-index;
}
