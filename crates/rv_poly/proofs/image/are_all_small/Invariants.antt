use Rattle.std.proofs.Common.{◌^◌}
use Rattle.std.specs.List.{AllWithin}
use Rattle.rv_rows.specs.Forms.{FormWithin}
use Rattle.rv_poly.proofs.image.are_all_small.Given as goal

abbrev pub invariant-loop-form : goal.invariant-loop-form
invariant-loop-form l = AllWithin (FormWithin (2 ^ 41)) l.forms 0 l.form-index
