use Rattle.std.proofs.Common.{length, map, sym, ap, ◌∙◌, nat_lt}
use Rattle.rv_probe.specs.Probes.{has_value}
use Rattle.rv_probe.proofs.Labelled.{no_labels}
use Rattle.rv_probe.proofs.traces.has_value.Goals as goal

pub returns-in-None : goal.returns-in-None
returns-in-None c =
    let labels = c.args.labels.now in
    sym (ap (has_value (map (λ ls. length ls) labels)) c.in-Labels.is ∙ ap (nat_lt 0) (no_labels labels c.in-Labels.number (sym c.in-None.ensures.value)))
