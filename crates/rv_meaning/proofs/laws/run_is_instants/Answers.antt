use Rattle.std.proofs.Common.{false}
use Rattle.rv_base.specs.declared.value.Value.TheVariants.{Flag}
use Rattle.rv_meaning.proofs.Following.{instant_of_run, assertion_alike, allowed_alike}
use Rattle.rv_meaning.proofs.laws.run_is_instants.Goals as goal

pub returns-clause-instant : goal.returns-clause-instant
returns-clause-instant c program main starts inputs n h t state run lt
    at = (instant_of_run program main starts inputs h t state at n run lt, allowed_alike program main starts inputs h t state at)

pub returns-clause-assertions : goal.returns-clause-assertions
returns-clause-assertions c program main starts h t state i a at inst w = assertion_alike program main starts (λ s j. Flag false) h t state at i a inst w
