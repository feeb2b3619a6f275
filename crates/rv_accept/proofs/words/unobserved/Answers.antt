use Rattle.std.proofs.Common.{◌∙◌}
use Rattle.rv_diagram.specs.Nodes.{value_of}
use Rattle.rv_accept.proofs.Failing.{unseen}
use Rattle.rv_accept.proofs.words.unobserved.Goals as goal

pub returns-clause-exact : goal.returns-clause-exact
returns-clause-exact c = λ s l e fits variables control condition scope is.
    unseen s l e c.args.store.now c.without.new.store c.args.scope c.in_ok-rest.rest c.in_ok-pick.field-0 fits (c.without.ensures.extends.variables
    ∙ variables) control condition scope c.in_ok-rest.ensures.found c.in_ok-pick.ensures
    (value_of c.args.store.now.nodes c.args.observer) is c.in_ok-rest.ensures.means
