use Rattle.std.proofs.Common.{◌^◌, pos}
use Rattle.rv_rows.specs.Forms.{FormWithin, IsMultiple}
use Rattle.rv_symbolic.proofs.Extending.{map_ok}
use Rattle.rv_least.proofs.Turning.{once_within}
use Rattle.rv_least.proofs.turned.same_form.Goals as goal

pub returns-clause-within : goal.returns-clause-within
returns-clause-within c =
    map_ok c.scale.result (IsMultiple (pos 1) c.args.form.now) (FormWithin (2 ^ 41)) (λ g m. once_within c.args.form.now g m c.requires)
    c.scale.ensures.exact
