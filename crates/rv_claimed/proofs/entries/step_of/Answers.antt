use Rattle.std.proofs.Common.{List, refl, subst, sym}
use Rattle.rv_rows.specs.{declared.linear.Row.Row, Multipliers.AreShutAtOnce}
use Rattle.rv_claimed.proofs.entries.step_of.Goals as goal

pub returns : goal.returns
returns c = (
  refl,
  c.if-not-case.false,
  λ shut. c.requires.opened (subst (λ (ps : List Row). AreShutAtOnce ps) (sym c.requires.are) shut),
  c.in_ok-reach.ensures,
)
