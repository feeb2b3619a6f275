use Rattle.std.proofs.Common.{sym, ap, ◌∙◌}
use Rattle.rv_invfile.specs.Texts as texts
use Rattle.rv_invfile.proofs.Signed.{no-labels}
use Rattle.rv_invfile.proofs.values.value_of.Goals as goal

pub returns-in-None-get : goal.returns-in-None-get
returns-in-None-get c = sym (ap (λ k. texts.value_of c.args.labels.now k c.args.text.now) c.in-Labels.is
    ∙ no-labels c.args.labels.now c.in-Labels.number c.args.text.now (sym c.in-None-get.ensures.value))
