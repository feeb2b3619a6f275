use Rattle.std.proofs.Common.{◌^◌, negsuc}
use Rattle.rv_rows.specs.Forms.{FormWithin, IsMultiple}
use Rattle.rv_boxes.proofs.Limiting.{multiple_within}
use Rattle.rv_symbolic.proofs.Extending.{map_ok}
use Rattle.rv_boxes.proofs.limits.opposite_form.Goals as goal

pub returns-clause-within : goal.returns-clause-within
returns-clause-within c =
    map_ok c.scale.result (IsMultiple (negsuc 0) c.args.form.now) (FormWithin (2 ^ 41)) (λ g m. multiple_within c.args.form.now g m c.requires)
    c.scale.ensures.exact
