use Rattle.std.proofs.Common.{sym, ◌∙◌}
use Rattle.rv_invfile.proofs.Adding.{no-label, no-name}
use Rattle.rv_invfile.proofs.trace_writing.label_text.Goals as goal

pub returns-in-None-get : goal.returns-in-None-get
returns-in-None-get c = c.new.ensures.bytes ∙ no-name c.args.labels.now c.args.number c.args.label c.in-Some.names.now (sym c.in-Some.ensures.value)
    (sym c.in-None-get.ensures.value)

pub returns-in-None : goal.returns-in-None
returns-in-None c = c.new-in-None.ensures.bytes ∙ no-label c.args.labels.now c.args.number c.args.label (sym c.in-None.ensures.value)
