use Rattle.std.proofs.Common.{◌∙◌}
use Rattle.rv_accept.proofs.Failing.{without_start}
use Rattle.rv_accept.proofs.words.lacks_initial.Goals as goal

pub returns-clause-exact : goal.returns-clause-exact
returns-clause-exact c = λ s read range.
    without_start s c.args.certificate.now c.args.parts.now c.args.store.now c.entered.new.store c.without.new.store c.in_ok-entered.entered
    c.in_ok-rest.rest c.in_ok-pick.field-0 read range
    (c.without.ensures.extends.variables ∙ c.entered.ensures.extends.variables ∙ read.means.variables) c.in_ok-entered.ensures.ok c.in_ok-rest.ensures.found
    c.in_ok-rest.ensures.means (c.entered.ensures.extends.kept c.args.parts.now.initial c.requires.initial) c.in_ok-pick.ensures
