use Rattle.rv_accept.proofs.Firsts.{no_target}
use Rattle.rv_accept.proofs.judging.is_led.Goals as goal

pub returns-in-Some-clause-exact : goal.returns-in-Some-clause-exact
returns-in-Some-clause-exact c = λ s is variables range li sc leads. no_target s c.args.certificate.now c.args.location.now c.args.entry.now c.in-Some.field-0
    leads
    (rw c.in-Some.is at (c.in_ok-word.ensures.exact s is variables range li sc)).is_so

pub returns-clause-exact : goal.returns-clause-exact
returns-clause-exact c = λ s is variables range li sc. rw c.in_default.is at (c.in_ok-word.ensures.exact s is variables range li sc)
