use Rattle.std.proofs.Common.{◌∙◌, ap, ◌&&◌, not}
use Rattle.rv_diagram.specs.Nodes.{value_of}
use Rattle.rv_accept.proofs.Failing.{without_cover}
use Rattle.rv_accept.proofs.words.uncovered.Goals as goal

pub returns-clause-exact : goal.returns-clause-exact
returns-clause-exact c = λ s fits variables control conditions within.
    without_cover s c.args.location.now c.args.store.now c.conditions.new.store c.without.new.store c.args.within c.in_ok-met.met c.in_ok-rest.rest
    c.in_ok-pick.field-0 fits
    (c.without.ensures.extends.variables ∙ c.conditions.ensures.extends.variables
    ∙ variables) control conditions within c.in_ok-met.ensures.ok c.in_ok-rest.ensures.found
    (λ v. c.in_ok-rest.ensures.means v ∙ ap (λ b. b && not (value_of c.conditions.new.store.nodes c.in_ok-met.met v))
    (c.conditions.ensures.extends.kept c.args.within c.requires.within v)) c.in_ok-pick.ensures
