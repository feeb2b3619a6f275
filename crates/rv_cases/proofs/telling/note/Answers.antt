use Rattle.std.proofs.Common.{◌-◌, ◌∙◌, ap, inr, arith, [], ◌∷◌, ◌++◌}
use Rattle.rv_rows.specs.declared.linear.Row.{Row}
use Rattle.rv_cases.proofs.telling.note.Goals as goal

pub returns : goal.returns
returns c = inr (
  c.args.place - 1,
  c.at.result.now,
  omega arith,
  c.at.ensures.value,
  c.in_ok-push.ensures.ok,
  c.in_ok-push-2.ensures.ok ∙ ap (λ (r : Row). c.args.rows.now ++ r ∷ []) c.in_ok-row.ensures,
)
