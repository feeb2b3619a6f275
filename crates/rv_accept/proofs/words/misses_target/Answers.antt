use Rattle.std.proofs.Common.{◌∙◌}
use Rattle.rv_diagram.specs.Nodes.{value_of}
use Rattle.rv_accept.proofs.Failing.{elsewhere}
use Rattle.rv_accept.proofs.words.misses_target.Goals as goal

pub returns-clause-exact : goal.returns-clause-exact
returns-clause-exact c = λ s l e target fits variables control condition set scope is.
    elsewhere s l e c.args.store.now c.without.new.store c.args.scope c.in_ok-rest.rest c.in_ok-pick.field-0 fits (c.without.ensures.extends.variables
    ∙ variables) control condition scope c.in_ok-rest.ensures.found c.in_ok-pick.ensures
    target (value_of c.args.store.now.nodes c.args.led) set is c.in_ok-rest.ensures.means
