use Rattle.std.proofs.Common.{◌∙◌, subst, ℕ}
use Rattle.rv_diagram.specs.Nodes.{IsOrderedOver}
use Rattle.rv_accept.proofs.words.led_frozen.Goals as goal

pub returns-clause-ordered : goal.returns-clause-ordered
returns-clause-ordered c = subst (λ (m : ℕ). IsOrderedOver m c.in_ok-freeze.field-0) c.led_into.ensures.extends.variables c.in_ok-freeze.ensures.ordered

pub returns-clause-means : goal.returns-clause-means
returns-clause-means c = λ v. c.in_ok-freeze.ensures.means v ∙ c.in_ok-led.ensures.means v
